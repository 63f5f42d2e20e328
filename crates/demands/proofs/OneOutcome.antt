-- Each promise is an equation, or several, so it leaves a call one outcome.
use Prim.Native.Nat.{ℕ}
use mathlib.Core.Path.{◌≡◌, sym, ◌∙◌, ap}
use mathlib.Core.List.{List}
use Rattle.answers.specs.declared.Answer.{Answer}
use Rattle.answers.proofs.Outcomes.{one_plain, one_signed, one_counted}
use Rattle.cycles.specs.Promises.{after_call}
use Rattle.demands.proofs.Handed.{one_plan}
use Rattle.demands.specs.OneOutcome.{OneMargin, OneRoom, OneFit, OneCells, OneCycle, OneRun, OneTrd, OneCheck, OneRowAnswer, OneRow, OneRead, OneWrite}

pub one_margin : OneMargin
one_margin κ x a b l m p q = one_signed a b (p ∙ sym q)

pub one_room : OneRoom
one_room κ x a b l m p q = one_signed a b (p ∙ sym q)

pub one_fit : OneFit
one_fit κ x a b l m p q = one_counted a b (p ∙ sym q)

pub one_cells : OneCells
one_cells κ x a b l m p q = one_counted a b (p ∙ sym q)

-- a buffer after calls that were answered alike
alike : {a b c : Answer} (n : ℕ) (f : ℕ → ℕ) (B : List ℕ) {X Y : List ℕ} → a ≡ c → b ≡ c → X ≡ after_call a n f B → Y ≡ after_call b n f B → X ≡ Y
alike n f B p q x y = x ∙ ap (λ (e : Answer). after_call e n f B) (p ∙ sym q) ∙ sym y

pub one_cycle : OneCycle
one_cycle κ x a b l m p q =
    (one_plain a b (p.answered ∙ sym q.answered), (alike _ _ _ p.answered q.answered p.messages_taken q.messages_taken, alike _ _ _ p.answered q.answered p.loads q.loads))

pub one_run : OneRun
one_run κ x a b l m p q = (one_plain a b (p.answered ∙ sym q.answered), alike _ _ _ p.answered q.answered p.responses q.responses)

pub one_trd : OneTrd
one_trd κ x a b l m p q = one_signed a b (p ∙ sym q)

pub one_check : OneCheck
one_check κ x a b l m p q = one_plain a b (p ∙ sym q)

pub one_row_answer : OneRowAnswer
one_row_answer κ x a b l m p q = one_plain a b (p ∙ sym q)

pub one_row : OneRow
one_row κ x a b l m p q = (p.0 ∙ sym q.0, (p.1.0 ∙ sym q.1.0, p.1.1 ∙ sym q.1.1))

pub one_read : OneRead
one_read κ x a b l m p q = (one_plan a b (p.0 ∙ sym q.0), p.1 ∙ sym q.1)

pub one_write : OneWrite
one_write κ x a b l m p q = (one_counted a b (p.0 ∙ sym q.0), p.1 ∙ sym q.1)
