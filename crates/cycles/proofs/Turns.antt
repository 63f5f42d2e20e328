-- When a run takes a message: not before its release, and once. So its response, cycle by cycle, is a mark until a cycle takes it.
use Prim.Native.Nat.{ℕ, zero, suc, ◌+◌, ◌≤◌, ◌<◌}
use mathlib.Core.Path.{◌≡◌, refl, sym, ◌∙◌, ap}
use mathlib.Core.Bool.{Bool, true, false, not, cond, ◌||◌, true≢false}
use mathlib.Core.List.{List}
use native.Mathlib.Omega.{arith}
use native.Mathlib.Decide.{ℕ_discrete, dec_lt}
use borrow.Author.Tests.{leb-true, not-true}
use lib.Dec.{leb}
use lib.ListN.{replicate}
use Rattle.std.proofs.Common.{Option, Some, None}
use Rattle.std.proofs.lemmas.List.{get_or-replicate}
use Rattle.std.specs.Option.{option_or}
use Rattle.std.specs.Bool.{then_some}
use Rattle.answers.specs.Lowest.{lowest, holds_somewhere, found}
use Rattle.answers.proofs.Lowest.{Nowhere, lowest_is, lowest_found, nowhere_more, somewhere_false, somewhere_test, nowhere_test, some_found, none_found, found_some, found_none}
use Rattle.answers.proofs.Ranges.{both_true, either_false}
use Rattle.cycles.specs.Cycle.{Network, messages}
use Rattle.cycles.specs.Run.{release_of, taken_before, ready_in, taken_in, mark_for, cycles_through, response_by}
use Rattle.cycles.specs.Steps.{TookBefore}
use Rattle.cycles.specs.Responses.{TakenFromRelease, TakenOnce}
use Rattle.cycles.proofs.Loads.{was_ready}

-- what a search finds over one number more
pub found_more : (n : ℕ) (test : ℕ → Bool) → found 0 (n + 1) test ≡ option_or (found 0 n test) (then_some (test n) n)
found_more n test = go (found 0 n test) refl (test n) refl
  where
    none : None ≡ found 0 n test → Nowhere 0 n test
    none e k a u = somewhere_false 0 n test (found_none 0 n test e) k a (omega arith)

    go : (o : Option ℕ) → o ≡ found 0 n test → (b : Bool) → test n ≡ b → found 0 (n + 1) test ≡ option_or o (then_some b n)
    go (Some k) e b t =
        let at = found_some 0 n test k e in
        sym (some_found 0 (n + 1) test k at.low (omega (arith, at.high)) at.there (λ j a u. (lowest_found 0 n test).none_lower j a (omega (arith, at.is))))
    go None e true t = sym (some_found 0 (n + 1) test n (omega arith) (omega arith) t (none e))
    go None e false t = sym (none_found 0 (n + 1) test (λ k a u. nowhere_more 0 n test (none e) t k a (omega arith)))

module _ (w : Network) (R : List ℕ) (i : ℕ) where
  pub before_none : taken_before w R 0 i ≡ false
  unfolding taken_before
  before_none = refl

  pub before_step : (t : ℕ) → taken_before w R (suc t) i ≡ (taken_before w R t i || taken_in w R t i)
  unfolding taken_before
  before_step t = refl

  -- what a cycle takes waited for it: released by then, and not taken before
  pub waited : (t : ℕ) → taken_in w R t i ≡ true → (release_of R i ≤ t) × (taken_before w R t i ≡ false)
  waited t e =
      let parts = both_true (leb (release_of R i) t) (not (taken_before w R t i)) (was_ready w (ready_in w R t) _ i e).0 in
      (leb-true (release_of R i) t parts.0, not-true _ parts.1)

  -- no cycle before t took it, or one did
  pub none_before : (t : ℕ) → taken_before w R t i ≡ false → Nowhere 0 t (λ u. taken_in w R u i)
  none_before zero e u a l = absurd (omega arith)
  none_before (suc t) e u a l = go (ℕ_discrete u t) (λ f b. none_before t f u a b)
    where
      parts : (taken_before w R t i ≡ false) × (taken_in w R t i ≡ false)
      parts = either_false (taken_before w R t i) (taken_in w R t i) (sym (before_step t) ∙ e)

      go : Dec (u ≡ t) → (taken_before w R t i ≡ false → u < t → taken_in w R u i ≡ false) → taken_in w R u i ≡ false
      go (yes p) earlier = ap (λ (x : ℕ). taken_in w R x i) p ∙ parts.1
      go (no d) earlier = earlier parts.0 (omega arith)

  pub not_before : (t : ℕ) → Nowhere 0 t (λ u. taken_in w R u i) → taken_before w R t i ≡ false
  not_before zero h = before_none
  not_before (suc t) h =
      before_step t
      ∙ ap (λ (b : Bool). b || taken_in w R t i) (not_before t (λ u a l. h u a (omega arith)))
      ∙ h t (omega arith) (omega arith)

  pub some_before : (u t : ℕ) → u < t → taken_in w R u i ≡ true → taken_before w R t i ≡ true
  some_before u t l e = go (taken_before w R t i) refl
    where
      go : (b : Bool) → taken_before w R t i ≡ b → b ≡ true
      go true h = refl
      go false h = absurd (true≢false (sym e ∙ none_before t h u (omega arith) l))

  -- the cycle that took it, where one did
  pub which_before : (t : ℕ) → taken_before w R t i ≡ true → (u : ℕ) × (u < t) × (taken_in w R u i ≡ true)
  which_before zero e = absurd (true≢false (sym e ∙ before_none))
  which_before (suc t) e = go (taken_in w R t i) refl (taken_before w R t i) refl (λ b. which_before t b)
    where
      go : (a : Bool) → taken_in w R t i ≡ a → (b : Bool) → taken_before w R t i ≡ b
          → (taken_before w R t i ≡ true → (u : ℕ) × (u < t) × (taken_in w R u i ≡ true)) → (u : ℕ) × (u < suc t) × (taken_in w R u i ≡ true)
      go true h b g later = (t, omega arith, h)
      go false h true g later =
          let found = later g in
          (found.0, omega (arith, found.1), found.2)
      go false h false g later = absurd (true≢false (sym e ∙ before_step t ∙ ap (λ (x : Bool). x || taken_in w R t i) g ∙ h))

  -- two cycles that take it are one
  pub not_later : (t u : ℕ) → t < u → taken_in w R t i ≡ true → taken_in w R u i ≡ true → ⊥
  not_later t u l e f = true≢false (sym (some_before t u l e) ∙ (waited u f).1)

  -- the cycle that takes it is the one that is found
  pub found_at : (u t : ℕ) → u < t → taken_in w R u i ≡ true → lowest 0 t (λ x. taken_in w R x i) ≡ u
  found_at u t l e =
      lowest_is 0 t (λ x. taken_in w R x i) u (omega arith) (omega arith) e (none_before u (waited u e).1)

  -- what is known of the response once it is taken, and as long as it is not
  pub response_taken : (cycles u t : ℕ) → u < t → taken_in w R u i ≡ true → response_by w R cycles t i ≡ cycles_through (release_of R i) u
  response_taken cycles u t l e =
      ap (λ (b : Bool). cond b (cycles_through (release_of R i) (lowest 0 t (λ x. taken_in w R x i))) (mark_for (release_of R i) cycles)) (some_before u t l e)
      ∙ ap (λ (x : ℕ). cycles_through (release_of R i) x) (found_at u t l e)

  pub response_not : (cycles t : ℕ) → taken_before w R t i ≡ false → response_by w R cycles t i ≡ mark_for (release_of R i) cycles
  response_not cycles t e =
      ap (λ (b : Bool). cond b (cycles_through (release_of R i) (lowest 0 t (λ x. taken_in w R x i))) (mark_for (release_of R i) cycles)) e

  -- that one of them took it is what a search over them finds
  pub before_found : (t : ℕ) → taken_before w R t i ≡ holds_somewhere 0 t (λ u. taken_in w R u i)
  before_found t = go (taken_before w R t i) refl
    where
      go : (b : Bool) → taken_before w R t i ≡ b → b ≡ holds_somewhere 0 t (λ u. taken_in w R u i)
      go true e =
          let which = which_before t e in
          sym (somewhere_test 0 t (λ u. taken_in w R u i) which.0 (omega arith) (omega (arith, which.1)) which.2)
      go false e = sym (nowhere_test 0 t (λ u. taken_in w R u i) (λ u a l. none_before t e u a (omega arith)))

  -- over one cycle more it finds that cycle where it takes the message, since none before did, and else what it found before
  pub found_through : (t : ℕ) → found 0 (t + 1) (λ u. taken_in w R u i) ≡ cond (taken_in w R t i) (Some t) (found 0 t (λ u. taken_in w R u i))
  found_through t = found_more t test ∙ go (test t) refl (found 0 t test) refl
    where
      test : ℕ → Bool
      test u = taken_in w R u i

      go : (b : Bool) → test t ≡ b → (o : Option ℕ) → o ≡ found 0 t test → option_or o (then_some b t) ≡ cond b (Some t) o
      go true e (Some k) p = absurd (not_later k t (omega (arith, (found_some 0 t test k p).high)) (found_some 0 t test k p).there e)
      go true e None p = refl
      go false e (Some k) p = refl
      go false e None p = refl

  -- what it finds comes at or after the release
  pub found_released : (t u : ℕ) → Some u ≡ found 0 t (λ x. taken_in w R x i) → release_of R i ≤ u
  found_released t u e = (waited u (found_some 0 t (λ x. taken_in w R x i) u e).there).0

-- before the first cycle none took any message
pub none_took : (w : Network) (R : List ℕ) (n : ℕ) → messages w ≤ n → TookBefore w R 0 (replicate n None)
none_took w R n few i u = get_or-replicate n i None None (omega arith) ∙ none_found 0 0 (λ t. taken_in w R t i) (λ k a b. absurd (omega arith))

pub taken_from_release : TakenFromRelease
taken_from_release w R t i e = (waited w R i t e).0

pub taken_once : TakenOnce
taken_once w R t u i e f = go (dec_lt t u) (dec_lt u t)
  where
    go : Dec (t < u) → Dec (u < t) → t ≡ u
    go (yes l) other = absurd (not_later w R i t u l e f)
    go (no d) (yes l) = absurd (not_later w R i u t l f e)
    go (no d) (no d') = omega arith
