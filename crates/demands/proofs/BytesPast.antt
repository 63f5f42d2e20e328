-- The check looks at no byte past N·M: tables that are long enough and agree up to there are answered alike.
use Prim.Native.Nat.{ℕ, suc, ◌+◌, ◌*◌, ◌/◌, ◌≤◌, ◌<◌}
use mathlib.Core.Path.{◌≡◌, sym, ◌∙◌, ap}
use mathlib.Core.Bool.{not, ◌&&◌}
use mathlib.Core.List.{List, [], ◌∷◌, ◌++◌}
use native.Mathlib.Omega.{arith}
use native.Mathlib.Nat.{mul-le-mul_right, suc-mul}
use borrow.Author.Tests.{le-ltb}
use lib.ListN.{length, get_or, take}
use lib.Seq.{get_or-take}
use lib.IntN.{pos}
use lib.Dec.{eqb, ltb}
use Rattle.answers.specs.Numbers.{TABLE_TOO_SHORT, ENTRY_NOT_OF_ROW, INPUT_TWICE_IN_SLOT, COUNT_WRONG}
use Rattle.answers.specs.Lowest.{lowest, holds_somewhere}
use Rattle.answers.specs.Answers.{answer, refusal, done_with, ◌when◌, first}
use Rattle.answers.specs.Sums.{sum, one}
use Rattle.answers.proofs.Lowest.{lowest_agree}
use Rattle.answers.proofs.Sums.{sum_agree}
use Rattle.flows.specs.Flows.{flow_count, input_of, cells_of, list_rules}
use Rattle.tables.specs.Accepted.{entry, times}
use Rattle.tables.specs.Check.{no_flow_of, not_of_row, share_input, input_twice, count_wrong, check_answer}

module _ (M N : ℕ) (L T U : List ℕ) (same : take (N * M) T ≡ take (N * M) U) where
  byte : (p : ℕ) → p < N * M → get_or T p 0 ≡ get_or U p 0
  byte p u = sym (get_or-take (N * M) T p 0 u) ∙ ap (λ (t : List ℕ). get_or t p 0) same ∙ get_or-take (N * M) U p 0 u

  entries : (r s : ℕ) → r < N → s < M → entry M T r s ≡ entry M U r s
  entries r s a u = byte (r * M + s) (omega (arith, mul-le-mul_right {m = suc r} {n = N} M a, suc-mul r M))

  places : lowest 0 (N * M) (not_of_row M L T) ≡ lowest 0 (N * M) (not_of_row M L U)
  places =
      lowest_agree 0 (N * M) (not_of_row M L T) (not_of_row M L U)
      (λ p a u. ap (λ (e : ℕ). not (eqb e 0) && no_flow_of L (suc (p / M)) e) (byte p (omega arith)))

  shares : (s a b : ℕ) → s < M → a < N → b < N → share_input M L T s a b ≡ share_input M L U s a b
  shares s a b u v w = λ i. let x = entries a s v u i in let y = entries b s w u i in not (eqb x 0) && (not (eqb y 0) && eqb (input_of L x) (input_of L y))

  meets : (s b : ℕ) → s < M → b < N → holds_somewhere 0 b (λ a. share_input M L T s a b) ≡ holds_somewhere 0 b (λ a. share_input M L U s a b)
  meets s b u w =
      ap (λ (n : ℕ). ltb n (0 + b))
      (lowest_agree 0 b (λ a. share_input M L T s a b) (λ a. share_input M L U s a b) (λ a l v. shares s a b u (omega arith) w))

  slots : lowest 0 M (input_twice M N L T) ≡ lowest 0 M (input_twice M N L U)
  slots = lowest_agree 0 M (input_twice M N L T) (input_twice M N L U) (λ s a u. at s (omega arith))
    where
      at : (s : ℕ) → s < M → input_twice M N L T s ≡ input_twice M N L U s
      at s u =
          ap (λ (n : ℕ). ltb n (0 + N))
          (lowest_agree 0 N (λ b. holds_somewhere 0 b (λ a. share_input M L T s a b)) (λ b. holds_somewhere 0 b (λ a. share_input M L U s a b))
          (λ b l v. meets s b u (omega arith)))

  counts : (k : ℕ) → times M N T k ≡ times M N U k
  unfolding times
  counts k =
      sum_agree N (λ r. sum M (λ s. one (eqb (entry M T r s) k))) (λ r. sum M (λ s. one (eqb (entry M U r s) k)))
      (λ r a. sum_agree M (λ s. one (eqb (entry M T r s) k)) (λ s. one (eqb (entry M U r s) k)) (λ s u. ap (λ (e : ℕ). one (eqb e k)) (entries r s a u)))

  flows : lowest 1 (flow_count L) (count_wrong M N L T) ≡ lowest 1 (flow_count L) (count_wrong M N L U)
  flows =
      lowest_agree 1 (flow_count L) (count_wrong M N L T) (count_wrong M N L U)
      (λ k a u. ap (λ (n : ℕ). not (eqb n (cells_of L k))) (counts k))

  pub answered_alike : N * M ≤ length T → N * M ≤ length U → check_answer M N L T ≡ check_answer M N L U
  unfolding check_answer
  answered_alike t u =
      let short : ltb (length T) (N * M) ≡ ltb (length U) (N * M) = le-ltb (length T) (N * M) t ∙ sym (le-ltb (length U) (N * M) u) in
      λ i.
      first
      (list_rules M N L
      ++ (refusal TABLE_TOO_SHORT when short i)
      ∷ (answer ENTRY_NOT_OF_ROW (pos (places i)) when ltb (places i) (0 + N * M))
      ∷ (answer INPUT_TWICE_IN_SLOT (pos (slots i)) when ltb (slots i) (0 + M))
      ∷ (answer COUNT_WRONG (pos (flows i)) when ltb (flows i) (1 + flow_count L))
      ∷ [])
      (done_with (pos 0))
