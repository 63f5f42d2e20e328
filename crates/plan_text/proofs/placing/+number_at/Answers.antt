-- A number's last digit is put behind those of a tenth of it.
use Rattle.std.proofs.Common.{ℕ, ap, ◌∙◌, [], ◌∷◌, ◌++◌, ◌/◌, length, arith}
use Rattle.plan_text.specs.Digits.{digits}
use Rattle.plan_text.proofs.Putting.{put_then, put_as, one_digit, more_digits, digits_longer}
use Rattle.plan_text.proofs.placing.+number_at.Goals as goal

pub byte_at-requires : goal.byte_at-requires
byte_at-requires t c = omega (arith, ap length (one_digit c.args.n c.if-n-lt10.true), c.requires)

pub returns-then-n-lt10 : goal.returns-then-n-lt10
returns-then-n-lt10 t c = put_as c.byte_at.ensures (ap (λ (k : ℕ). k ∷ []) c.last_digit.ensures ∙ one_digit c.args.n c.if-n-lt10.true)

pub number_at-last-requires : goal.number_at-last-requires
number_at-last-requires t c = (omega (arith, c.if-n-lt10.false, c.decreases), omega (arith, digits_longer c.args.n c.if-n-lt10.false c.ranges.n.fits, c.requires))

pub byte_at-requires-2 : goal.byte_at-requires-2
byte_at-requires-2 t c =
    omega (arith, c.number_at-last.ensures.next_is, c.number_at-last.auto.out, digits_longer c.args.n c.if-n-lt10.false c.ranges.n.fits, c.requires)

pub returns : goal.returns
returns t c =
    put_as (put_then c.number_at-last.ensures c.byte_at-2.ensures)
    (ap (λ (k : ℕ). digits (c.args.n / 10) ++ k ∷ []) c.last_digit-2.ensures ∙ more_digits c.args.n c.if-n-lt10.false c.ranges.n.fits)
