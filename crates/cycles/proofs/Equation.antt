-- Equation 1: that the TRD answered is the least whole number above its right side.
use Prim.Native.Nat.{ℕ}
use mathlib.Core.Path.{◌≡◌, sym, ◌∙◌, ap}
use mathlib.Core.Bool.{false, ◌||◌}
use native.Mathlib.Omega.{arith}
use lib.Signed.{mag}
use lib.IntN.{pos}
use Rattle.answers.specs.declared.Answer.{Answer}
use Rattle.answers.specs.Numbers.{DONE}
use Rattle.answers.specs.Limits.{max_depth, max_nodes, max_time, outside}
use Rattle.answers.specs.Answers.{done_with}
use Rattle.answers.proofs.First.{NoneHolds, first_none, lacked}
use Rattle.answers.proofs.Ranges.{inside, within_test, either_false}
use Rattle.cycles.specs.Trd.{trd_of, TrdAsked, trd_out_of_range, trd_rules, trd_answer, TrdGiven, TrdIsLeast}

module _ (depth nodes sig tm sld : ℕ) where
  pub in_range : trd_out_of_range depth nodes sig tm sld ≡ false → TrdAsked depth nodes sig tm sld
  in_range e =
      let a = either_false (outside 1 max_depth depth) _ e in
      let b = either_false (outside 1 max_nodes nodes) _ a.1 in
      let d = either_false (outside 0 max_time sig) _ b.1 in
      let f = either_false (outside 0 max_time tm) (outside 0 max_time sld) d.1 in
      record { depth_in_range = inside a.0; nodes_in_range = inside b.0; sig_in_range = inside d.0; tm_in_range = inside f.0; sld_in_range = inside f.1 }

  range_in : TrdAsked depth nodes sig tm sld → trd_out_of_range depth nodes sig tm sld ≡ false
  range_in r = λ k. within_test r.depth_in_range k || (within_test r.nodes_in_range k || (within_test r.sig_in_range k || (within_test r.tm_in_range k || within_test r.sld_in_range k)))

  done_asked : {n : ℕ} → trd_answer depth nodes sig tm sld ≡ done_with (pos n) → NoneHolds (trd_rules depth nodes sig tm sld)
  unfolding trd_answer
  done_asked e = (lacked DONE (trd_rules depth nodes sig tm sld) _ tt (ap (λ (a : Answer). a.number) e)).0

  given : NoneHolds (trd_rules depth nodes sig tm sld) → trd_answer depth nodes sig tm sld ≡ done_with (pos (trd_of depth nodes sig tm sld))
  unfolding trd_answer
  given h = first_none (trd_rules depth nodes sig tm sld) _ h

pub trd_given : TrdGiven
trd_given depth nodes sig tm sld =
    (λ e. in_range depth nodes sig tm sld (done_asked depth nodes sig tm sld e).0, λ r. given depth nodes sig tm sld (range_in depth nodes sig tm sld r, tt))

pub trd_is_least : TrdIsLeast
trd_is_least depth nodes sig tm sld trd x e =
    let same : trd_of depth nodes sig tm sld ≡ trd = ap (λ (a : Answer). mag a.detail) (sym (given depth nodes sig tm sld (done_asked depth nodes sig tm sld e)) ∙ e) in
    (λ l. omega (arith, same), λ l. omega (arith, same))
