-- The builder: the proofs of what `specs/Builder.antt` states.
use Prim.Native.Nat.{ℕ, ◌*◌, ◌≤◌, ◌<◌}
use mathlib.Core.Path.{◌≡◌, refl, sym, ◌∙◌, ap}
use mathlib.Core.Logic.{◌↔◌, ◌⊎◌, inl, inr}
use mathlib.Core.Bool.{true≢false}
use mathlib.Core.List.{List, [], ◌∷◌, ◌++◌}
use native.Mathlib.Omega.{arith}
use borrow.Author.Tests.{ltb-true, ltb-false, lt-ltb, le-ltb}
use lib.IntN.{pos}
use lib.Dec.{ltb}
use Rattle.answers.specs.declared.Answer.{Answer}
use Rattle.answers.specs.Numbers.{DONE, INPUT_OVERLOADED, OUTPUT_OVERLOADED, TABLE_TOO_SHORT}
use Rattle.answers.specs.Limits.{Within}
use Rattle.answers.specs.Lowest.{IsLowest}
use Rattle.answers.specs.Answers.{Rule, answer, refusal, done_with, ◌when◌, naming_lowest}
use Rattle.answers.proofs.First.{NoneHolds, none_first, none_later, none_both, done_exactly, first_none, given_exactly, named_exactly, not_named, none_named}
use Rattle.flows.specs.Flows.{input_overloaded, output_overloaded, input_load, output_load, InRange, Fitting, list_rules}
use Rattle.flows.proofs.Shape.{in_range, not_due}
use Rattle.tables.proofs.Counting.{accepted_fits}
use Rattle.builder.specs.AddCell.{PortsInRange}
use Rattle.builder.specs.Build.{load_rules, build_rules, build_answer}
use Rattle.builder.proofs.Existence.{table_exists_exactly_if_fitting}
use Rattle.demands.specs.Builder.{TableExistsExactlyIfFitting, Exists, BuildsIfOneExists, RefusesLoadIfNoneExists, InputOver, OutputOver, NamesInput, NamesOutput, OneBuild}

pub exists_exactly_if_fitting : TableExistsExactlyIfFitting
exists_exactly_if_fitting = table_exists_exactly_if_fitting

ports_in_range : (M N : ℕ) (L : List ℕ) → InRange M N L → PortsInRange N L
ports_in_range M N L r = record { inputs = r.good_list.inputs; outputs = r.good_list.outputs }

-- the refusals of the loads, each behind those before it
module _ (M N : ℕ) (L : List ℕ) where
  inputs : Rule
  inputs = naming_lowest INPUT_OVERLOADED 1 N (input_overloaded M L)

  outputs : Rule
  outputs = naming_lowest OUTPUT_OVERLOADED 1 N (output_overloaded M L)

  short : ℕ → Rule
  short length = refusal TABLE_TOO_SHORT when ltb length (N * M)

  no_input : NoneHolds (inputs ∷ []) → (i : ℕ) → Within 1 N i → InputOver M L i → ⊥
  unfolding inputs
  no_input h i w =
      not_named INPUT_OVERLOADED 1 N (input_overloaded M L) (InputOver M L) (λ k a u. ltb-true M (input_load L k)) (λ k a u. lt-ltb M (input_load L k)) h.0 i
      w.at_least (omega (arith, w.at_most))

  input_none : ((i : ℕ) → Within 1 N i → InputOver M L i → ⊥) → NoneHolds (inputs ∷ [])
  unfolding inputs
  input_none h = (
    none_named INPUT_OVERLOADED 1 N (input_overloaded M L) (InputOver M L) (λ k a u. ltb-true M (input_load L k)) (λ k a u. lt-ltb M (input_load L k))
        (λ k a u. h k (record { at_least = a; at_most = omega arith })),
    tt,
  )

  no_output : NoneHolds (outputs ∷ []) → (j : ℕ) → Within 1 N j → OutputOver M L j → ⊥
  unfolding outputs
  no_output h j w =
      not_named OUTPUT_OVERLOADED 1 N (output_overloaded M L) (OutputOver M L) (λ k a u. ltb-true M (output_load L k)) (λ k a u. lt-ltb M (output_load L k)) h.0 j
      w.at_least (omega (arith, w.at_most))

  output_none : ((j : ℕ) → Within 1 N j → OutputOver M L j → ⊥) → NoneHolds (outputs ∷ [])
  unfolding outputs
  output_none h = (
    none_named OUTPUT_OVERLOADED 1 N (output_overloaded M L) (OutputOver M L) (λ k a u. ltb-true M (output_load L k)) (λ k a u. lt-ltb M (output_load L k))
        (λ k a u. h k (record { at_least = a; at_most = omega arith })),
    tt,
  )

  -- a load that is not over M fits, and the other way round
  fits : NoneHolds (inputs ∷ []) → NoneHolds (outputs ∷ []) → Fitting M N L
  fits h k = record { inputs_fit = λ i w. under (no_input h i w); outputs_fit = λ j w. under (no_output k j w) }
    where
      under : {load : ℕ} → (M < load → ⊥) → load ≤ M
      under f = omega arith

  not_over : {load : ℕ} → load ≤ M → M < load → ⊥
  not_over l u = omega arith

pub builds_if_one_exists : BuildsIfOneExists
unfolding build_answer inputs outputs short
builds_if_one_exists M N L length = (out, back)
  where
    out : build_answer M N L length ≡ done_with (pos 0) → InRange M N L × Exists M N L × (N * M ≤ length)
    out e =
        let none = (done_exactly DONE (build_rules M N L length) (done_with (pos 0)) refl tt).0 (ap (λ (a : Answer). a.number) e) in
        let r = in_range M N L (none_first (list_rules M N L) (load_rules M N L length) none) in
        let loads = none_later (list_rules M N L) (load_rules M N L length) none in
        (r, (table_exists_exactly_if_fitting M N L (ports_in_range M N L r)).1 (fits M N L (loads.0, tt) (loads.1.0, tt)), ltb-false _ _ loads.1.1.0)

    back : InRange M N L × Exists M N L × (N * M ≤ length) → build_answer M N L length ≡ done_with (pos 0)
    back h =
        let fit = accepted_fits M N L h.1.0 h.1.2 in
        first_none (build_rules M N L length) (done_with (pos 0))
        (none_both (list_rules M N L) (load_rules M N L length) (not_due M N L h.0) (
          (input_none M N L (λ i w. not_over M N L (fit.inputs_fit i w))).0,
          ((output_none M N L (λ j w. not_over M N L (fit.outputs_fit j w))).0, (le-ltb _ _ h.2, tt)),
        ))

pub names_input : NamesInput
unfolding build_answer inputs outputs short
names_input M N L length i = (λ e. let h = law.0 e in (in_range M N L h.0, h.1), λ h. law.1 (not_due M N L h.0, h.1))
  where
    law : (build_answer M N L length ≡ answer INPUT_OVERLOADED (pos i)) ↔ (NoneHolds (list_rules M N L) × IsLowest 1 N (InputOver M L) i)
    law =
        named_exactly INPUT_OVERLOADED 1 N (input_overloaded M L) (InputOver M L) (λ k a u. ltb-true M (input_load L k)) (λ k a u. lt-ltb M (input_load L k))
        (list_rules M N L) (outputs M N L ∷ short M N L length ∷ []) (done_with (pos 0)) i tt tt tt

pub names_output : NamesOutput
unfolding build_answer inputs outputs short
names_output M N L length j = (
  λ e. let h = law.0 e in (in_range M N L (none_first (list_rules M N L) (inputs M N L ∷ []) h.0), no_input M N L (none_later (list_rules M N L) (inputs M N L ∷ []) h.0), h.1),
  λ h. law.1 (none_both (list_rules M N L) (inputs M N L ∷ []) (not_due M N L h.0) (input_none M N L h.1), h.2),
)
  where
    law : (build_answer M N L length ≡ answer OUTPUT_OVERLOADED (pos j)) ↔ (NoneHolds (list_rules M N L ++ inputs M N L ∷ []) × IsLowest 1 N (OutputOver M L) j)
    law =
        named_exactly OUTPUT_OVERLOADED 1 N (output_overloaded M L) (OutputOver M L) (λ k a u. ltb-true M (output_load L k)) (λ k a u. lt-ltb M (output_load L k))
        (list_rules M N L ++ inputs M N L ∷ []) (short M N L length ∷ []) (done_with (pos 0)) j tt tt tt

pub refuses_load_if_none_exists : RefusesLoadIfNoneExists
unfolding build_answer inputs outputs short
refuses_load_if_none_exists M N L length over table = go over
  where
    fit : Fitting M N L
    fit = accepted_fits M N L table.0 table.2

    go : ((build_answer M N L length).number ≡ INPUT_OVERLOADED) ⊎ ((build_answer M N L length).number ≡ OUTPUT_OVERLOADED) → ⊥
    go (inl e) =
        let h = (given_exactly INPUT_OVERLOADED (list_rules M N L) (inputs M N L) (outputs M N L ∷ short M N L length ∷ []) (done_with (pos 0)) refl tt tt tt).0 e in
        true≢false (sym h.1 ∙ (input_none M N L (λ i w. not_over M N L (fit.inputs_fit i w))).0)
    go (inr e) =
        let h = (given_exactly OUTPUT_OVERLOADED (list_rules M N L ++ inputs M N L ∷ []) (outputs M N L) (short M N L length ∷ []) (done_with (pos 0)) refl tt tt tt).0 e in
        true≢false (sym h.1 ∙ (output_none M N L (λ j w. not_over M N L (fit.outputs_fit j w))).0)

pub one_build : OneBuild
one_build M N L before a b T U p q = (
  p.answered ∙ sym q.answered,
  (
    (λ h. p.refused_leaves h ∙ sym (q.refused_leaves (λ x. h (ap (λ (y : Answer). y.number) (p.answered ∙ sym q.answered) ∙ x)))),
    p.beyond ∙ sym q.beyond,
  ),
)
