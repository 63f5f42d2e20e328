-- The check's conditions and the definition of accepted say the same of a table.
use Prim.Native.Nat.{ℕ, suc, ◌+◌, ◌*◌, ◌/◌, ◌%◌, ◌≤◌, ◌<◌}
use mathlib.Core.Path.{◌≡◌, sym, ◌∙◌, subst}
use mathlib.Core.Logic.{◌⊎◌}
use mathlib.Core.Bool.{true, false, not, ◌&&◌, true≢false}
use mathlib.Core.List.{List}
use native.Mathlib.Omega.{arith}
use native.Mathlib.Nat.{div-add-mod', mod-lt, div-lt_iff_lt-mul, mul-zero}
use borrow.Author.Tests.{ltb-true}
use lib.Dec.{eqb}
use Rattle.std.proofs.lemmas.Bool.Decides.{nat_tests}
use lib.ListN.{get_or}
use lib.Arith.{digits_lt, digits_div}
use Rattle.answers.specs.Lowest.{lowest, holds_somewhere}
use Rattle.answers.proofs.Lowest.{Nowhere, lowest_found, somewhere_false, nowhere_test, somewhere_test}
use Rattle.answers.proofs.First.{NoneHolds}
use Rattle.flows.specs.Flows.{flow_count, input_of, goes_to}
use Rattle.tables.specs.Accepted.{entry, FlowOf, Accepted, NotOfRow, InputTwice, CountWrong}
use Rattle.tables.specs.Check.{no_flow_of, not_of_row, share_input, input_twice, count_wrong, entry_rules}

-- a flow of the list with that output, of its three facts
entry_flow : (L : List ℕ) (j e : ℕ) → 1 ≤ e → e ≤ flow_count L → goes_to L e j ≡ true → FlowOf L j e
entry_flow L j e u v w = record { is_flow = record { at_least = u; at_most = v }; its_output = w }

-- an entry that refusal 8 does not name is 0 or a flow of its row, and the other way round
entry_right : (L : List ℕ) (j e : ℕ) → (not (eqb e 0) && no_flow_of L j e) ≡ false → (e ≡ 0) ⊎ FlowOf L j e
entry_right L j e h = grind (arith, nat_tests, entry_flow)

right_entry : (L : List ℕ) (j e : ℕ) → (e ≡ 0) ⊎ FlowOf L j e → (not (eqb e 0) && no_flow_of L j e) ≡ false
right_entry L j e x = grind (arith, nat_tests)

-- a table with a place has a slot
some_slot : (p N M : ℕ) → p < N * M → 0 < M
some_slot p N M u = grind (arith, mul-zero N)

module _ (M N : ℕ) (L T : List ℕ) where
  rows_right : Nowhere 0 (N * M) (not_of_row M L T) → (r s : ℕ) → r < N → s < M → (entry M T r s ≡ 0) ⊎ FlowOf L (suc r) (entry M T r s)
  rows_right h r s lr ls =
      subst (λ (x : ℕ). (entry M T r s ≡ 0) ⊎ FlowOf L (suc x) (entry M T r s)) (digits_div r ls)
      (entry_right L (suc ((r * M + s) / M)) (entry M T r s) (h (r * M + s) (omega arith) (digits_lt {q = r} {m = N} {r = s} {c = M} lr ls)))

  right_rows : ((r s : ℕ) → r < N → s < M → (entry M T r s ≡ 0) ⊎ FlowOf L (suc r) (entry M T r s)) → Nowhere 0 (N * M) (not_of_row M L T)
  right_rows h p a u =
      right_entry L (suc (p / M)) (get_or T p 0)
      (subst (λ (x : ℕ). (get_or T x 0 ≡ 0) ⊎ FlowOf L (suc (p / M)) (get_or T x 0)) (div-add-mod' p M)
      (h (p / M) (p % M) ((div-lt_iff_lt-mul (some_slot p N M u)).1 u) (mod-lt p (some_slot p N M u))))

  shares : (s a b : ℕ) → (entry M T a s ≡ 0 → ⊥) → (entry M T b s ≡ 0 → ⊥) → input_of L (entry M T a s) ≡ input_of L (entry M T b s) → share_input M L T s a b ≡ true
  shares s a b da db e = grind (arith, nat_tests)

  once_below : Nowhere 0 M (input_twice M N L T) → (s a b : ℕ) → s < M → b < N → a < b → (entry M T a s ≡ 0 → ⊥) → (entry M T b s ≡ 0 → ⊥)
      → input_of L (entry M T a s) ≡ input_of L (entry M T b s) → ⊥
  once_below h s a b ls lb l da db e =
      let none = somewhere_false 0 N (λ y. holds_somewhere 0 y (λ x. share_input M L T s x y)) (h s (omega arith) ls) b (omega arith) (omega arith) in
      true≢false (sym (shares s a b da db e) ∙ somewhere_false 0 b (λ x. share_input M L T s x b) none a (omega arith) (omega arith))

  inputs_right : Nowhere 0 M (input_twice M N L T) → (s a b : ℕ) → s < M → a < N → b < N → (a ≡ b → ⊥) → (entry M T a s ≡ 0 → ⊥) → (entry M T b s ≡ 0 → ⊥)
      → input_of L (entry M T a s) ≡ input_of L (entry M T b s) → ⊥
  inputs_right h s a b ls la lb d da db e = grind (arith, once_below h s a b ls lb, once_below h s b a ls la)

  shared : (s a b : ℕ) → share_input M L T s a b ≡ true
      → (entry M T a s ≡ 0 → ⊥) × (entry M T b s ≡ 0 → ⊥) × (input_of L (entry M T a s) ≡ input_of L (entry M T b s))
  shared s a b e = grind (arith, nat_tests)

  -- refusal 9's test at a slot says that two rows hold flows of one input there
  pub twice_says : (s : ℕ) → input_twice M N L T s ≡ true → InputTwice M N L T s
  twice_says s e =
      let outer = lowest_found 0 N (λ b. holds_somewhere 0 b (λ a. share_input M L T s a b)) in
      let b = lowest 0 N (λ b. holds_somewhere 0 b (λ a. share_input M L T s a b)) in
      let lb : b < 0 + N = ltb-true _ _ e in
      let inner = lowest_found 0 b (λ a. share_input M L T s a b) in
      let a = lowest 0 b (λ a. share_input M L T s a b) in
      let la : a < 0 + b = ltb-true _ _ (outer.there lb) in
      let facts = shared s a b (inner.there la) in
      record {
        one_row = a;
        other_row = b;
        one_there = omega arith;
        other_there = omega arith;
        apart = λ x. omega arith;
        one_filled = facts.0;
        other_filled = facts.1;
        one_input = facts.2;
      }

  pub twice_means : (s : ℕ) → s < M → InputTwice M N L T s → input_twice M N L T s ≡ true
  twice_means s ls t =
      grind (
        arith,
        found t.one_row t.other_row,
        found t.other_row t.one_row,
        shares s t.one_row t.other_row t.one_filled t.other_filled,
        shares s t.other_row t.one_row t.other_filled t.one_filled,
        t.apart,
      )
    where
      found : (a b : ℕ) → a < b → b < N → share_input M L T s a b ≡ true → input_twice M N L T s ≡ true
      found a b l lb e =
          somewhere_test 0 N (λ y. holds_somewhere 0 y (λ x. share_input M L T s x y)) b (omega arith) (omega arith)
          (somewhere_test 0 b (λ x. share_input M L T s x b) a (omega arith) (omega arith) e)

  right_inputs : ((s a b : ℕ) → s < M → a < N → b < N → (a ≡ b → ⊥) → (entry M T a s ≡ 0 → ⊥) → (entry M T b s ≡ 0 → ⊥)
      → input_of L (entry M T a s) ≡ input_of L (entry M T b s) → ⊥) → Nowhere 0 M (input_twice M N L T)
  right_inputs h s a u = grind (arith, twice_says s, h s)

  -- refusal 8's test at a place says that the entry is neither 0 nor a flow of its row
  pub not_of_row_says : (p : ℕ) → not_of_row M L T p ≡ true → NotOfRow M L T p
  not_of_row_says p e x = grind (arith, right_entry L (suc (p / M)) (get_or T p 0) x)

  pub not_of_row_means : (p : ℕ) → NotOfRow M L T p → not_of_row M L T p ≡ true
  not_of_row_means p h = grind (arith, nat_tests, h, entry_right L (suc (p / M)) (get_or T p 0))

  pub count_wrong_says : (k : ℕ) → count_wrong M N L T k ≡ true → CountWrong M N L T k
  count_wrong_says k e = grind (arith, nat_tests)

  pub count_wrong_means : (k : ℕ) → CountWrong M N L T k → count_wrong M N L T k ≡ true
  count_wrong_means k d = grind (arith, nat_tests)

  -- none of refusals 8, 9 and 10 is due exactly if the table is accepted
  pub nothing_due : Accepted M N L T → NoneHolds (entry_rules M N L T)
  nothing_due acc = (
    nowhere_test 0 (N * M) (not_of_row M L T) (λ k l u. right_rows acc.of_its_row k l (omega arith)),
    (
      nowhere_test 0 M (input_twice M N L T) (λ k l u. right_inputs acc.input_once k l (omega arith)),
      (
        nowhere_test 1 (flow_count L) (count_wrong M N L T)
            (λ k l u. grind (arith, nat_tests, acc.exact_counts k (record { at_least = l; at_most = omega arith }))),
        tt,
      ),
    ),
  )

  pub accepted_then : NoneHolds (entry_rules M N L T) → Accepted M N L T
  accepted_then h =
      record {
        of_its_row = rows_right (λ k l u. somewhere_false 0 (N * M) (not_of_row M L T) h.0 k l (omega arith));
        input_once = inputs_right (λ k l u. somewhere_false 0 M (input_twice M N L T) h.1.0 k l (omega arith));
        exact_counts = λ k w. grind (arith, nat_tests, somewhere_false 1 (flow_count L) (count_wrong M N L T) h.1.1.0 k w.at_least);
      }
