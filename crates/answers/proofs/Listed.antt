-- What a call answers with is the number of one of its refusals, or of the answer given last.
use Prim.Native.Nat.{ℕ}
use mathlib.Core.Path.{◌≡◌, refl, sym, subst}
use mathlib.Core.Logic.{◌⊎◌, inl, inr}
use mathlib.Core.Bool.{Bool, true, false, cond, ◌&&◌, ◌||◌}
use mathlib.Core.List.{List, [], ◌∷◌}
use borrow.Author.Tests.{eqb-true}
use lib.Dec.{eqb, T}
use Rattle.answers.specs.declared.Answer.{Answer}
use Rattle.answers.specs.Listed.{OneOf}
use Rattle.answers.specs.Answers.{Rule, first}

-- of two tests that both hold, each does
pub both_hold : (a b : Bool) → T (a && b) → T a × T b
both_hold true b t = (tt, t)
both_hold false b t = absurd t

-- the test that a number is on a list
abbrev pub on_list : List ℕ → ℕ → Bool
on_list [] n = false
on_list (m ∷ ms) n = eqb n m || on_list ms n

-- the numbers of these refusals are
abbrev pub all_on : List ℕ → List Rule → Bool
all_on ns [] = true
all_on ns (r ∷ rs) = on_list ns r.refused.number && all_on ns rs

pub one_of : (ns : List ℕ) (n : ℕ) → T (on_list ns n) → OneOf ns n
one_of [] n t = absurd t
one_of (m ∷ ms) n t = go (eqb n m) refl t (λ x. one_of ms n x)
  where
    go : (b : Bool) → eqb n m ≡ b → T (b || on_list ms n) → (T (on_list ms n) → OneOf ms n) → (n ≡ m) ⊎ OneOf ms n
    go true e t later = inl (eqb-true n m e)
    go false e t later = inr (later t)

pub first_one_of : (ns : List ℕ) (rs : List Rule) (d : Answer) → T (all_on ns rs) → T (on_list ns d.number) → OneOf ns (first rs d).number
first_one_of ns [] d t u = one_of ns d.number u
first_one_of ns (r ∷ rs) d t u = go r.holds (first_one_of ns rs d parts.1 u)
  where
    parts : T (on_list ns r.refused.number) × T (all_on ns rs)
    parts = both_hold (on_list ns r.refused.number) (all_on ns rs) t

    go : (b : Bool) → OneOf ns (first rs d).number → OneOf ns (cond b r.refused (first rs d)).number
    go true later = one_of ns r.refused.number parts.0
    go false later = later

-- the same of an answer that is known to be that
pub answer_one_of : (ns : List ℕ) (rs : List Rule) (d a : Answer) → T (all_on ns rs) → T (on_list ns d.number) → a ≡ first rs d → OneOf ns a.number
answer_one_of ns rs d a t u e = subst (λ (x : Answer). OneOf ns x.number) (sym e) (first_one_of ns rs d t u)
