-- What a flow sees does not depend on what is offered to the others.
use Rattle.std.specs.Prelude.{ℕ, ◌≡◌, Bool, true, cond, List, [], ◌∷◌, length, eqb}
use Rattle.answers.specs.declared.Answer.{Answer}
use Rattle.answers.specs.Limits.{Within}
use Rattle.forwarding.specs.Histories.{State, Call, a_fresh_start, an_offer, a_slot, step, answer_of, done, sent_by}

-- the same calls in the same order, but for the offers to other flows than k, which may be added and dropped; a changed one is dropped and added
pub data SameBut (k : ℕ) : List Call → List Call → Type 0 where
  none_left : SameBut k [] []
  in_both : {h h' : List Call} (c : Call) → SameBut k h h' → SameBut k (c ∷ h) (c ∷ h')
  in_first : {h h' : List Call} (j n : ℕ) → (j ≡ k → ⊥) → SameBut k h h' → SameBut k (an_offer j n ∷ h) h'
  in_second : {h h' : List Call} (j n : ℕ) → (j ≡ k → ⊥) → SameBut k h h' → SameBut k h (an_offer j n ∷ h')

-- what flow k sees of a call: the answer, and the cells of its own that the call sends
pub record Seen : Type 0 where
  pub answered : Answer
  pub cells : ℕ

-- flow k sees each call but the offers to other flows
abbrev pub sees : ℕ → Call → Bool
sees k (a_fresh_start M N) = true
sees k (an_offer j n) = eqb j k
sees k (a_slot T sentLength) = true

-- what flow k sees of a history
unfoldable pub trace : ℕ → State → List Call → List Seen
trace k st [] = []
trace k st (c ∷ h) =
    let rest = trace k (step st c) h in
    cond (sees k c) (record { answered = answer_of st c; cells = sent_by k st c } ∷ rest) rest

-- two runs from a fresh start that differ in the offers to other flows alone give flow k the same answers to its offers,
-- and it sends in the same slots; this holds under any tables, accepted or not
abbrev pub Isolation : Type 0
Isolation =
    (k M N : ℕ) (st st' : State) (h h' : List Call)
    → length st.waiting ≡ length st'.waiting → Within 1 (length st.waiting) k
    → done st (a_fresh_start M N) ≡ true
    → SameBut k h h'
    → trace k (step st (a_fresh_start M N)) h ≡ trace k (step st' (a_fresh_start M N)) h'
