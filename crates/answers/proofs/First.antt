-- The laws of `first`: a refusal is given exactly when its condition holds and no earlier one does.
use Prim.Native.Nat.{ℕ, ◌+◌, ◌≤◌, ◌<◌}
use mathlib.Core.Path.{◌≡◌, refl, sym, ◌∙◌, ap, subst}
use mathlib.Core.Logic.{◌↔◌}
use mathlib.Core.Bool.{Bool, true, false, cond, not, ◌&&◌, true≢false}
use mathlib.Core.List.{List, [], ◌∷◌, ◌++◌}
use native.Mathlib.Omega.{arith}
use borrow.Author.Tests.{eq-eqb, lt-ltb, ltb-true}
use lib.Signed.{mag}
use lib.IntN.{pos}
use lib.Dec.{eqb, T}
use Rattle.answers.specs.declared.Answer.{Answer}
use Rattle.answers.specs.Answers.{Rule, answer, done_with, telling_of_lowest, naming_lowest, first}
use Rattle.answers.specs.Numbers.{DONE}
use Rattle.answers.specs.Lowest.{lowest, holds_somewhere, IsLowest}
use Rattle.answers.proofs.Lowest.{lowest_is, lowest_found, past_range, somewhere_false, nowhere_test}

-- none of the conditions holds
abbrev pub NoneHolds : List Rule → Type 0
NoneHolds [] = Unit {0}
NoneHolds (r ∷ rs) = (r.holds ≡ false) × NoneHolds rs

-- no refusal of the list has the number
abbrev pub lacks : ℕ → List Rule → Bool
lacks n [] = true
lacks n (r ∷ rs) = not (eqb r.refused.number n) && lacks n rs

pub first_none : (rs : List Rule) (d : Answer) → NoneHolds rs → first rs d ≡ d
first_none [] d h = refl
first_none (r ∷ rs) d h = rw h.0 (first_none rs d h.1)

pub first_given : (earlier : List Rule) (r : Rule) (later : List Rule) (d : Answer)
    → NoneHolds earlier → r.holds ≡ true → first (earlier ++ r ∷ later) d ≡ r.refused
first_given [] r later d h e = rw e
first_given (s ∷ earlier) r later d h e = rw h.0 (first_given earlier r later d h.1 e)

-- a number that no refusal of a list has is not answered from it
head_lacks : (a b : Bool) → T (a && b) → T a × T b
head_lacks true b t = (tt, t)
head_lacks false b t = absurd t

not_number : (m n : ℕ) → T (not (eqb m n)) → m ≡ n → ⊥
not_number m n t e = subst T (ap not (eq-eqb m n e)) t

pub lacked : (n : ℕ) (rs : List Rule) (d : Answer) → T (lacks n rs) → (first rs d).number ≡ n → NoneHolds rs × (d.number ≡ n)
lacked n [] d t e = (tt, e)
lacked n (r ∷ rs) d t e = go r.holds refl (λ x. lacked n rs d parts.1 x)
  where
    parts : T (not (eqb r.refused.number n)) × T (lacks n rs)
    parts = head_lacks (not (eqb r.refused.number n)) (lacks n rs) t

    go : (b : Bool) → r.holds ≡ b → ((first rs d).number ≡ n → NoneHolds rs × (d.number ≡ n))
        → NoneHolds (r ∷ rs) × (d.number ≡ n)
    go true h later = absurd (not_number r.refused.number n parts.0 (sym (ap (λ (b : Bool). (cond b r.refused (first rs d)).number) h) ∙ e))
    go false h later =
        let rest = later (sym (ap (λ (b : Bool). (cond b r.refused (first rs d)).number) h) ∙ e) in
        ((h, rest.0), rest.1)

-- a number that one refusal alone has is answered exactly when its condition holds and none before it does
pub given_exactly : (n : ℕ) (earlier : List Rule) (r : Rule) (later : List Rule) (d : Answer)
    → r.refused.number ≡ n → T (lacks n earlier) → T (lacks n later) → T (not (eqb d.number n))
    → ((first (earlier ++ r ∷ later) d).number ≡ n) ↔ (NoneHolds earlier × (r.holds ≡ true))
given_exactly n earlier r later d e before after last = (back earlier before, λ h. ap (λ (a : Answer). a.number) (first_given earlier r later d h.0 h.1) ∙ e)
  where
    here : (b : Bool) → r.holds ≡ b → (first (r ∷ later) d).number ≡ n → b ≡ true
    here true h x = refl
    here false h x = absurd (not_number d.number n last (lacked n later d after (sym (ap (λ (b : Bool). (cond b r.refused (first later d)).number) h) ∙ x)).1)

    back : (rs : List Rule) → T (lacks n rs) → (first (rs ++ r ∷ later) d).number ≡ n → NoneHolds rs × (r.holds ≡ true)
    back [] t x = (tt, here r.holds refl x)
    back (s ∷ rs) t x = at s.holds refl (λ y. back rs parts.1 y)
      where
        parts : T (not (eqb s.refused.number n)) × T (lacks n rs)
        parts = head_lacks (not (eqb s.refused.number n)) (lacks n rs) t

        rest : Answer
        rest = first (rs ++ r ∷ later) d

        at : (b : Bool) → s.holds ≡ b → (rest.number ≡ n → NoneHolds rs × (r.holds ≡ true)) → NoneHolds (s ∷ rs) × (r.holds ≡ true)
        at true h further =
            absurd (not_number s.refused.number n parts.0 (sym (ap (λ (b : Bool). (cond b s.refused rest).number) h) ∙ x))
        at false h further =
            let more = further (sym (ap (λ (b : Bool). (cond b s.refused rest).number) h) ∙ x) in
            ((h, more.0), more.1)

-- a call is done exactly when no condition holds
pub done_exactly : (n : ℕ) (rs : List Rule) (d : Answer) → d.number ≡ n → T (lacks n rs) → ((first rs d).number ≡ n) ↔ NoneHolds rs
done_exactly n rs d e t = (λ x. (lacked n rs d t x).0, λ h. ap (λ (a : Answer). a.number) (first_none rs d h) ∙ e)

-- a search that found k tells whether a refusal that names the lowest is given, which number it names, and what is told of it
module _ (from count : ℕ) (test : ℕ → Bool) (k : ℕ) (e : k ≡ lowest from count test) where
  pub lowest_told : (n : ℕ) (told : ℕ → ℕ) (rest : Answer) → k < from + count
      → answer n (pos (told k)) ≡ cond (holds_somewhere from count test) (answer n (pos (told (lowest from count test)))) rest
  lowest_told n told rest u =
      ap (λ (x : ℕ). answer n (pos (told x))) e
      ∙ sym (ap (λ (b : Bool). cond b (answer n (pos (told (lowest from count test)))) rest) (lt-ltb (lowest from count test) (from + count) (omega arith)))

  pub lowest_named : (n : ℕ) (rest : Answer) → k < from + count → answer n (pos k) ≡ cond (holds_somewhere from count test) (answer n (pos (lowest from count test))) rest
  lowest_named n rest u = lowest_told n (λ x. x) rest u

  pub lowest_passed : (x rest : Answer) → from + count ≤ k → rest ≡ cond (holds_somewhere from count test) x rest
  lowest_passed x rest u = sym (ap (λ (b : Bool). cond b x rest) (past_range from count test k e u))

-- a call whose order begins with that of another function asks that function first, and passes its refusal on or goes on with the rest
first_on : (rs : List Rule) (more : List Rule) (d : Answer) → NoneHolds rs → first (rs ++ more) d ≡ first more d
first_on [] more d h = refl
first_on (r ∷ rs) more d h = rw h.0 (first_on rs more d h.1)

first_off : (rs : List Rule) (more : List Rule) (d e : Answer) → ((first rs e).number ≡ e.number → ⊥) → first (rs ++ more) d ≡ first rs e
first_off [] more d e h = absurd (h refl)
first_off (r ∷ rs) more d e h = go r.holds h (λ x. first_off rs more d e x)
  where
    go : (b : Bool) → ((cond b r.refused (first rs e)).number ≡ e.number → ⊥) → (((first rs e).number ≡ e.number → ⊥) → first (rs ++ more) d ≡ first rs e)
        → cond b r.refused (first (rs ++ more) d) ≡ cond b r.refused (first rs e)
    go true x later = refl
    go false x later = later x

module _ (rs more : List Rule) (d : Answer) (a : Answer) (e : a ≡ first rs (done_with (pos 0))) where
  pub refusal_passed_on : (a.number ≡ DONE → ⊥) → a ≡ first (rs ++ more) d
  refusal_passed_on h = e ∙ sym (first_off rs more d (done_with (pos 0)) (λ x. h (ap (λ (y : Answer). y.number) e ∙ x)))

  pub goes_on : T (lacks DONE rs) → a.number ≡ DONE → first (rs ++ more) d ≡ first more d
  goes_on t h = first_on rs more d (lacked DONE rs (done_with (pos 0)) t (sym (ap (λ (y : Answer). y.number) e) ∙ h)).0

  pub none_of_them : T (lacks DONE rs) → a.number ≡ DONE → NoneHolds rs
  none_of_them t h = (lacked DONE rs (done_with (pos 0)) t (sym (ap (λ (y : Answer). y.number) e) ∙ h)).0

-- a refusal that names the lowest, by a test that says of each number of the range whether P is true of it
module _
    (n from count : ℕ) (test : ℕ → Bool) (P : ℕ → Type 0)
    (says : (k : ℕ) → from ≤ k → k < from + count → test k ≡ true → P k)
    (means : (k : ℕ) → from ≤ k → k < from + count → P k → test k ≡ true)
  where
    lowest_test : (k : ℕ) → IsLowest from count P k → lowest from count test ≡ k
    lowest_test k l =
        lowest_is from count test k l.low l.high (means k l.low l.high l.there) (λ j a u. below j (omega (arith, l.high)) a u (test j) refl)
      where
        below : (j : ℕ) → j < from + count → from ≤ j → j < k → (b : Bool) → test j ≡ b → b ≡ false
        below j w a u true e = absurd (l.none_lower j a u (says j a w e))
        below j w a u false e = refl

    test_lowest : holds_somewhere from count test ≡ true → IsLowest from count P (lowest from count test)
    test_lowest e =
        let f = lowest_found from count test in
        let u : lowest from count test < from + count = ltb-true _ _ e in
        record {
          low = f.low;
          high = u;
          there = says _ f.low u (f.there u);
          none_lower = λ j a l p. true≢false (sym (means j a (omega arith) p) ∙ f.none_lower j a l);
        }

    -- is given with the detail v exactly when no earlier condition holds and v is what is told of the lowest
    pub told_exactly : (told : ℕ → ℕ) (earlier later : List Rule) (d : Answer) (v : ℕ) → T (lacks n earlier) → T (lacks n later) → T (not (eqb d.number n))
        → (first (earlier ++ telling_of_lowest n told from count test ∷ later) d ≡ answer n (pos v)) ↔ (NoneHolds earlier × ((k : ℕ) × IsLowest from count P k × (told k ≡ v)))
    told_exactly told earlier later d v before after last = (out, back)
      where
        rule : Rule
        rule = telling_of_lowest n told from count test

        out : first (earlier ++ rule ∷ later) d ≡ answer n (pos v) → NoneHolds earlier × ((k : ℕ) × IsLowest from count P k × (told k ≡ v))
        out e =
            let h = (given_exactly n earlier rule later d refl before after last).0 (ap (λ (a : Answer). a.number) e) in
            let same : told (lowest from count test) ≡ v =
            ap (λ (a : Answer). mag a.detail) (sym (first_given earlier rule later d h.0 h.1) ∙ e) in
            (h.0, (lowest from count test, test_lowest h.1, same))

        back : NoneHolds earlier × ((k : ℕ) × IsLowest from count P k × (told k ≡ v)) → first (earlier ++ rule ∷ later) d ≡ answer n (pos v)
        back h =
            let same = lowest_test h.1.0 h.1.1 in
            first_given earlier rule later d h.0 (lt-ltb (lowest from count test) (from + count) (omega (arith, h.1.1.high)))
            ∙ ap (λ (x : ℕ). answer n (pos x)) (ap told same ∙ h.1.2)

    -- is given, naming k, exactly when no earlier condition holds and k is the lowest
    pub named_exactly : (earlier later : List Rule) (d : Answer) (k : ℕ) → T (lacks n earlier) → T (lacks n later) → T (not (eqb d.number n))
        → (first (earlier ++ naming_lowest n from count test ∷ later) d ≡ answer n (pos k)) ↔ (NoneHolds earlier × IsLowest from count P k)
    named_exactly earlier later d k before after last =
        let law = told_exactly (λ x. x) earlier later d k before after last in
        (λ e. let h = law.0 e in (h.0, subst (λ (x : ℕ). IsLowest from count P x) h.1.2 h.1.1), λ h. law.1 (h.0, (k, h.1, refl)))

    -- is not due exactly when P is true of no number of the range
    pub not_named : holds_somewhere from count test ≡ false → (k : ℕ) → from ≤ k → k < from + count → P k → ⊥
    not_named e k a u p = true≢false (sym (means k a u p) ∙ somewhere_false from count test e k a u)

    pub none_named : ((k : ℕ) → from ≤ k → k < from + count → P k → ⊥) → holds_somewhere from count test ≡ false
    none_named h = nowhere_test from count test (λ k a u. off k a u (test k) refl)
      where
        off : (k : ℕ) → from ≤ k → k < from + count → (b : Bool) → test k ≡ b → b ≡ false
        off k a u true e = absurd (h k a u (says k a u e))
        off k a u false e = refl

-- conditions of two lists, one after the other
pub none_first : (rs more : List Rule) → NoneHolds (rs ++ more) → NoneHolds rs
none_first [] more h = tt
none_first (r ∷ rs) more h = (h.0, none_first rs more h.1)

pub none_later : (rs more : List Rule) → NoneHolds (rs ++ more) → NoneHolds more
none_later [] more h = h
none_later (r ∷ rs) more h = none_later rs more h.1

pub none_both : (rs more : List Rule) → NoneHolds rs → NoneHolds more → NoneHolds (rs ++ more)
none_both [] more h k = k
none_both (r ∷ rs) more h k = (h.0, none_both rs more h.1 k)
