-- What the refusals of a list leave known of it.
use Prim.Native.Nat.{ℕ, suc, ◌+◌, ◌*◌, ◌%◌, ◌≤◌}
use mathlib.Core.Path.{◌≡◌}
use mathlib.Core.Bool.{false, not, ◌||◌}
use mathlib.Core.List.{List, []}
use native.Mathlib.Omega.{arith}
use borrow.Author.Tests.{eqb-true, ltb-false, not-false, eq-eqb, le-ltb}
use lib.IntN.{pos}
use lib.ListN.{length}
use lib.Dec.{eqb, ltb}
use Rattle.answers.specs.declared.Answer.{Answer}
use Rattle.answers.specs.Numbers.{DONE}
use Rattle.answers.specs.Limits.{max_flows, outside, Within}
use Rattle.answers.specs.Answers.{done_with}
use Rattle.answers.proofs.Ranges.{either_false, inside, within_test}
use Rattle.answers.proofs.Lowest.{Nowhere, somewhere_false, nowhere_test}
use Rattle.answers.proofs.First.{NoneHolds, none_of_them}
use Rattle.flows.specs.Flows.{per_flow, flow_count, IsFlow, input_of, output_of, cells_of, misshapen, outputs_out_of_range, flow_out_of_range, GoodList, InRange, list_rules, list_answer}

-- a list that is not misshapen is of threes, and not too long
pub of_threes : (L : List ℕ) → misshapen L ≡ false → length L ≡ per_flow * flow_count L
of_threes L e =
    let both = either_false (not (eqb (length L % per_flow) 0)) (ltb (per_flow * max_flows) (length L)) e in
    omega (arith, eqb-true (length L % per_flow) 0 (not-false (eqb (length L % per_flow) 0) both.0))

pub not_too_many : (L : List ℕ) → misshapen L ≡ false → flow_count L ≤ max_flows
not_too_many L e =
    let both = either_false (not (eqb (length L % per_flow) 0)) (ltb (per_flow * max_flows) (length L)) e in
    omega (arith, ltb-false (per_flow * max_flows) (length L) both.1)

outside_flow : (M N : ℕ) (L : List ℕ) (k : ℕ) → flow_out_of_range M N L k ≡ false
    → Within 1 N (input_of L k) × Within 1 N (output_of L k) × Within 1 M (cells_of L k)
outside_flow M N L k e =
    let first = either_false (outside 1 N (input_of L k)) (outputs_out_of_range N L k || outside 1 M (cells_of L k)) e in
    let second = either_false (outputs_out_of_range N L k) (outside 1 M (cells_of L k)) first.1 in
    (inside first.0, inside second.0, inside second.1)

-- a list of which no flow is out of range, and which is not misshapen, is good
pub good_list : (M N : ℕ) (L : List ℕ) → misshapen L ≡ false → Nowhere 1 (suc (flow_count L)) (flow_out_of_range M N L) → GoodList M N L
good_list M N L shape range =
    record {
      of_threes = of_threes L shape;
      not_too_many = not_too_many L shape;
      inputs = λ k w. (flow k w).0;
      outputs = λ k w. (flow k w).1;
      cells = λ k w. (flow k w).2;
    }
  where
    flow : (k : ℕ) → IsFlow L k → Within 1 N (input_of L k) × Within 1 N (output_of L k) × Within 1 M (cells_of L k)
    flow k w = outside_flow M N L k (range k w.at_least (omega arith))

-- refusals 1 to 4 are not due exactly where frame, ports and list are in range
pub in_range : (M N : ℕ) (L : List ℕ) → NoneHolds (list_rules M N L) → InRange M N L
in_range M N L h =
    record {
      frame_in_range = inside h.0;
      ports_in_range = inside h.1.0;
      good_list =
          good_list M N L h.1.1.0
          (λ k a z. somewhere_false 1 (flow_count L) (flow_out_of_range M N L) h.1.1.1.0 k a (omega arith));
    }

right_shape : (M N : ℕ) (L : List ℕ) → GoodList M N L → misshapen L ≡ false
right_shape M N L g =
    simp (eq-eqb (length L % per_flow) 0 (omega (arith, g.of_threes)), le-ltb (per_flow * max_flows) (length L) (omega (arith, g.of_threes, g.not_too_many)))

pub not_due : (M N : ℕ) (L : List ℕ) → InRange M N L → NoneHolds (list_rules M N L)
not_due M N L r = (
  within_test r.frame_in_range,
  (
    within_test r.ports_in_range,
    (
      right_shape M N L r.good_list,
      (nowhere_test 1 (flow_count L) (flow_out_of_range M N L) flow, tt),
    ),
  ),
)
  where
    flow : Nowhere 1 (1 + flow_count L) (flow_out_of_range M N L)
    flow k a z =
        let w : IsFlow L k = record { at_least = a; at_most = omega arith } in
        simp (within_test (r.good_list.inputs k w), within_test (r.good_list.outputs k w), within_test (r.good_list.cells k w))

-- what an answer that is done tells
pub listed : (M N : ℕ) (L : List ℕ) (a : Answer) → a ≡ list_answer M N L → a.number ≡ DONE → InRange M N L
unfolding list_answer
listed M N L a e d = in_range M N L (none_of_them (list_rules M N L) [] (done_with (pos 0)) a e tt d)
