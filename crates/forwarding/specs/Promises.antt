-- What each public function promises of what it hands back and of what it was lent, refusals included. A name with ' is the value after the call.
-- A function that is lent the record promises the same of its answer and the record it leaves.
use Rattle.std.specs.Prelude.{ℕ, ◌≡◌, List, length}
use Rattle.answers.specs.declared.Answer.{Answer}
use Rattle.forwarding.specs.declared.Running.{Running}
use Rattle.forwarding.specs.Outcome.{Outcome}
use Rattle.forwarding.specs.Forwarding.{offer_answer}
use Rattle.forwarding.specs.Histories.{state_of, a_fresh_start, an_offer, a_slot, step, outcome_of, sent_after}

-- a fresh start at frame M and ports N
pub record FreshStarted (r : Running) (M N : ℕ) (W : List ℕ) (o : Outcome) (W' : List ℕ) : Type 0 where
  pub handed_back : o ≡ outcome_of (state_of r W) (a_fresh_start M N)
  pub counts : W' ≡ (step (state_of r W) (a_fresh_start M N)).waiting

-- an offer of n cells to flow k; the record is not looked at and stays
pub record Offered (W : List ℕ) (k n : ℕ) (a : Answer) (W' : List ℕ) : Type 0 where
  pub answered : a ≡ offer_answer W k n
  pub counts : (r : Running) → state_of r W' ≡ step (state_of r W) (an_offer k n)

-- a slot that was lent the table T and the sent buffer S
pub record SlotServed (r : Running) (T W S : List ℕ) (o : Outcome) (W' S' : List ℕ) : Type 0 where
  pub handed_back : o ≡ outcome_of (state_of r W) (a_slot T (length S))
  pub counts : W' ≡ (step (state_of r W) (a_slot T (length S))).waiting
  pub sent : S' ≡ sent_after (state_of r W) T S

-- no call has two different outcomes under its promise
abbrev pub OneFreshStart : Type 0
OneFreshStart =
    (r : Running) (M N : ℕ) (W : List ℕ) (o p : Outcome) (X Y : List ℕ)
    → FreshStarted r M N W o X → FreshStarted r M N W p Y → (o ≡ p) × (X ≡ Y)

abbrev pub OneOffer : Type 0
OneOffer =
    (W : List ℕ) (k n : ℕ) (a b : Answer) (X Y : List ℕ)
    → Offered W k n a X → Offered W k n b Y → (a ≡ b) × (X ≡ Y)

abbrev pub OneSlot : Type 0
OneSlot =
    (r : Running) (T W S : List ℕ) (o p : Outcome) (X Y A B : List ℕ)
    → SlotServed r T W S o X A → SlotServed r T W S p Y B → (o ≡ p) × ((X ≡ Y) × (A ≡ B))
