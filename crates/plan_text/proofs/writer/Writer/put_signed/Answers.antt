-- The sign where the number is below zero, and then its size.
use Rattle.std.proofs.Common.{ℕ, ◌≡◌, ◌∷◌, ◌∙◌, ap}
use mir.Syntax.{w32}
use mir.ValLaws.{to_z-of_z}
use lib.IntN.{nat_abs}
use Rattle.plan_text.specs.Digits.{digits}
use Rattle.plan_text.specs.Lines.{minus}
use Rattle.plan_text.specs.Plans.{Puts}
use Rattle.plan_text.proofs.Putting.{puts_then, puts_as}
use Rattle.plan_text.proofs.RowLines.{below_zero, not_below}
use Rattle.plan_text.proofs.writer.Writer.put_signed.Goals as goal
use Rattle.plan_text.proofs.writer.Writer.put_signed.Goals.{then-n-lt0, else-n-lt0}

pub returns : goal.returns
returns c =
    let size : c.from.result ≡ nat_abs c.args.n = c.from.ensures ∙ c.unsigned_abs-size.ensures.value ∙ ap nat_abs (to_z-of_z w32 c.args.n c.ranges.n) in
    let last : Puts c.if-n-lt0.self (digits c.from.result) c.put_number.new.self = c.put_number.ensures in
    elim c.if-n-lt0.branch [
      | then-n-lt0 w ↦ puts_as (puts_then w.put_byte.ensures (rw w.self-is at last)) (ap (λ (k : ℕ). minus ∷ digits k) size ∙ below_zero c.args.n c.ranges.n w.if-n-lt0.true)
      | else-n-lt0 w ↦ puts_as (rw w.self-is at last) (ap digits size ∙ not_below c.args.n c.ranges.n w.if-n-lt0.false)
    ]
