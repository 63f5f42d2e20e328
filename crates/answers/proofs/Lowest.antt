-- The laws of `lowest`: it lies in its range, the test holds there and at no lower number of the range, and those facts fix it.
use Prim.Native.Nat.{ℕ, zero, suc, ◌+◌, ◌≤◌, ◌<◌}
use mathlib.Core.Path.{◌≡◌, refl, sym, ◌∙◌, ap}
use mathlib.Core.Bool.{Bool, true, false, cond, true≢false}
use native.Mathlib.Omega.{arith}
use native.Mathlib.Decide.{ℕ_discrete}
use borrow.Author.Tests.{ltb-false, ltb-true, le-ltb}
use Rattle.std.proofs.Common.{Some, None}
use Rattle.answers.specs.Lowest.{lowest, holds_somewhere, found}

-- the test holds at none of from, from + 1, .. below to
abbrev pub Nowhere : ℕ → ℕ → (ℕ → Bool) → Type 0
Nowhere from to test = (k : ℕ) → from ≤ k → k < to → test k ≡ false

pub nowhere_more : (from to : ℕ) (test : ℕ → Bool) → Nowhere from to test → test to ≡ false → Nowhere from (suc to) test
nowhere_more from to test h e k l u = go (ℕ_discrete k to)
  where
    go : Dec (k ≡ to) → test k ≡ false
    go (yes p) = ap test p ∙ e
    go (no n) = h k l (omega arith)

-- where the test fails at every number of the range, none is found
pub lowest_none : (from count : ℕ) (test : ℕ → Bool) → Nowhere from (from + count) test → lowest from count test ≡ from + count
unfolding lowest
lowest_none from zero test h = omega arith
lowest_none from (suc count) test h =
    rw (h from (omega arith) (omega arith))
    (omega (arith, lowest_none (suc from) count test (λ k l u. h k (omega arith) (omega arith))))

-- the one number of the range at which the test holds, with none lower, is found
pub lowest_is : (from count : ℕ) (test : ℕ → Bool) (k : ℕ) → from ≤ k → k < from + count → test k ≡ true → Nowhere from k test → lowest from count test ≡ k
unfolding lowest
lowest_is from zero test k l u t h = absurd (omega arith)
lowest_is from (suc count) test k l u t h =
    go (ℕ_discrete k from) (λ n. lowest_is (suc from) count test k (omega arith) (omega arith) t (λ j a b. h j (omega arith) b))
  where
    go : Dec (k ≡ from) → ((k ≡ from → ⊥) → lowest (suc from) count test ≡ k) → cond (test from) from (lowest (suc from) count test) ≡ k
    go (yes p) later = rw (sym (ap test p) ∙ t) (sym p)
    go (no n) later = rw (h from (omega arith) (omega arith)) (later n)

-- what is found lies in the range or just past it, the test holds at none lower, and at what is found if that lies in the range
pub record Found (from count : ℕ) (test : ℕ → Bool) (k : ℕ) : Type 0 where
  pub low : from ≤ k
  pub high : k ≤ from + count
  pub none_lower : Nowhere from k test
  pub there : k < from + count → test k ≡ true

pub lowest_found : (from count : ℕ) (test : ℕ → Bool) → Found from count test (lowest from count test)
unfolding lowest
lowest_found from zero test =
    record { low = omega arith; high = omega arith; none_lower = λ k l u. absurd (omega arith); there = λ u. absurd (omega arith) }
lowest_found from (suc count) test = go (test from) refl (lowest_found (suc from) count test)
  where
    first_or : (m : ℕ) → test from ≡ false → Nowhere (suc from) m test → Nowhere from m test
    first_or m e h k l u = at (ℕ_discrete k from)
      where
        at : Dec (k ≡ from) → test k ≡ false
        at (yes p) = ap test p ∙ e
        at (no n) = h k (omega arith) u

    go : (t : Bool) → test from ≡ t → Found (suc from) count test (lowest (suc from) count test)
        → Found from (suc count) test (cond t from (lowest (suc from) count test))
    go true e f = record { low = omega arith; high = omega arith; none_lower = λ k l u. absurd (omega arith); there = λ u. e }
    go false e f =
        record { low = omega arith; high = omega arith; none_lower = first_or _ e f.none_lower; there = λ u. f.there (omega arith) }

-- the test holds somewhere in the range, or nowhere
pub somewhere_false : (from count : ℕ) (test : ℕ → Bool) → holds_somewhere from count test ≡ false → Nowhere from (from + count) test
somewhere_false from count test e k l u =
    (lowest_found from count test).none_lower k l (omega (arith, ltb-false (lowest from count test) (from + count) e))

-- what is found past the range says that the test holds nowhere in it
pub past_range : (from count : ℕ) (test : ℕ → Bool) (k : ℕ) → k ≡ lowest from count test → from + count ≤ k → holds_somewhere from count test ≡ false
past_range from count test k e u = le-ltb (lowest from count test) (from + count) (omega arith)

pub nowhere_test : (from count : ℕ) (test : ℕ → Bool) → Nowhere from (from + count) test → holds_somewhere from count test ≡ false
nowhere_test from count test h = past_range from count test (from + count) (sym (lowest_none from count test h)) (omega arith)

pub somewhere_test : (from count : ℕ) (test : ℕ → Bool) (k : ℕ) → from ≤ k → k < from + count → test k ≡ true → holds_somewhere from count test ≡ true
somewhere_test from count test k l u t = go (holds_somewhere from count test) refl
  where
    go : (b : Bool) → holds_somewhere from count test ≡ b → b ≡ true
    go true e = refl
    go false e = absurd (true≢false (sym t ∙ somewhere_false from count test e k l u))

-- tests that agree over the range find the same number
pub lowest_agree : (from count : ℕ) (f g : ℕ → Bool) → ((k : ℕ) → from ≤ k → k < from + count → f k ≡ g k) → lowest from count f ≡ lowest from count g
unfolding lowest
lowest_agree from zero f g h = refl
lowest_agree from (suc count) f g h =
    ap (λ (b : Bool). cond b from (lowest (suc from) count f)) (h from (omega arith) (omega arith))
    ∙ ap (λ (n : ℕ). cond (g from) from n) (lowest_agree (suc from) count f g (λ k l u. h k (omega arith) (omega arith)))

-- what a search hands back: the lowest number, where it lies in the range, and else none
pub some_found : (from count : ℕ) (test : ℕ → Bool) (k : ℕ) → from ≤ k → k < from + count → test k ≡ true → Nowhere from k test → Some k ≡ found from count test
some_found from count test k l u t h =
    let e = lowest_is from count test k l u t h in
    ap Some (sym e)
    ∙ sym (ap (λ (b : Bool). cond b (Some (lowest from count test)) None) (somewhere_test from count test k l u t))

pub none_found : (from count : ℕ) (test : ℕ → Bool) → Nowhere from (from + count) test → None ≡ found from count test
none_found from count test h = sym (ap (λ (b : Bool). cond b (Some (lowest from count test)) None) (nowhere_test from count test h))

-- and what it says of the numbers passed: the one found lies in the range, and is the lowest
pub record FoundAt (from count : ℕ) (test : ℕ → Bool) (k : ℕ) : Type 0 where
  pub low : from ≤ k
  pub high : k < from + count
  pub is : k ≡ lowest from count test
  pub there : test k ≡ true

pub found_some : (from count : ℕ) (test : ℕ → Bool) (k : ℕ) → Some k ≡ found from count test → FoundAt from count test k
found_some from count test k e = go (holds_somewhere from count test) refl e
  where
    go : (b : Bool) → holds_somewhere from count test ≡ b → Some k ≡ cond b (Some (lowest from count test)) None → FoundAt from count test k
    go true h p =
        let f = lowest_found from count test in
        let same : k ≡ lowest from count test = cc in
        let u : lowest from count test < from + count = ltb-true _ _ h in
        record { low = omega (arith, f.low); high = omega arith; is = same; there = ap test same ∙ f.there u }
    go false h p = cc

pub found_none : (from count : ℕ) (test : ℕ → Bool) → None ≡ found from count test → holds_somewhere from count test ≡ false
found_none from count test e = go (holds_somewhere from count test) refl e
  where
    go : (b : Bool) → holds_somewhere from count test ≡ b → None ≡ cond b (Some (lowest from count test)) None → b ≡ false
    go true h p = cc
    go false h p = refl

-- a search that has passed from, from + 1, .. below k without finding the test to hold
pub record Searched (from count : ℕ) (test : ℕ → Bool) (k : ℕ) : Type 0 where
  pub low : from ≤ k
  pub high : k ≤ from + count
  pub none_lower : Nowhere from k test

pub search_start : (from count : ℕ) (test : ℕ → Bool) → Searched from count test from
search_start from count test = record { low = omega arith; high = omega arith; none_lower = λ k l u. absurd (omega arith) }

pub search_more : {from count : ℕ} {test : ℕ → Bool} {k : ℕ} → Searched from count test k → k < from + count → test k ≡ false → Searched from count test (k + 1)
search_more {from} {count} {test} {k} s u e =
    record { low = omega arith; high = omega arith; none_lower = λ j l w. nowhere_more from k test s.none_lower e j l (omega arith) }

pub search_hit : {from count : ℕ} {test : ℕ → Bool} {k : ℕ} → Searched from count test k → k < from + count → test k ≡ true → k ≡ lowest from count test
search_hit {from} {count} {test} {k} s u e = sym (lowest_is from count test k s.low u e s.none_lower)

pub search_end : {from count : ℕ} {test : ℕ → Bool} {k : ℕ} → Searched from count test k → from + count ≤ k → k ≡ lowest from count test
search_end {from} {count} {test} {k} s u =
    omega (arith, lowest_none from count test (λ j l w. s.none_lower j l (omega arith)))

-- the same searches, where the function only says whether it found one
pub search_found : {from count : ℕ} {test : ℕ → Bool} {k : ℕ} → Searched from count test k → k < from + count → test k ≡ true → true ≡ holds_somewhere from count test
search_found {from} {count} {test} {k} s u e = sym (somewhere_test from count test k s.low u e)

pub search_failed : {from count : ℕ} {test : ℕ → Bool} {k : ℕ} → Searched from count test k → from + count ≤ k → false ≡ holds_somewhere from count test
search_failed {from} {count} {test} {k} s u = sym (nowhere_test from count test (λ j l w. s.none_lower j l (omega arith)))
