-- How the build comes to its answer: the list's refusals first, then the loads, then the table's length; and what is known where none is due.
use Prim.Native.Nat.{ℕ, suc, ◌+◌, ◌*◌, ◌≤◌}
use mathlib.Core.Path.{◌≡◌, refl, sym, ◌∙◌, ap, subst}
use mathlib.Core.Bool.{Bool}
use mathlib.Core.List.{List, [], ◌++◌}
use native.Mathlib.Omega.{arith}
use borrow.Author.Tests.{ltb-false}
use lib.ListN.{length, take, drop, replicate, length-replicate, length-append, length-drop}
use Rattle.std.proofs.lemmas.List.{length-take-le}
use lib.IntN.{pos}
use Rattle.std.proofs.Common.{Result, Ok, Err, IsErr}
use Rattle.answers.specs.declared.Answer.{Answer}
use Rattle.answers.specs.declared.Refusal.{Refusal}
use Rattle.answers.specs.Limits.{max_frame, max_ports}
use Rattle.answers.proofs.Outcomes.{not_done}
use Rattle.answers.specs.Answers.{refused, done_with, plain_answer}
use Rattle.answers.proofs.Lowest.{somewhere_false}
use Rattle.answers.proofs.First.{NoneHolds, refusal_passed_on, goes_on, none_of_them}
use Rattle.flows.specs.Flows.{flow_count, list_rules, list_answer, input_overloaded, output_overloaded, Fitting, InRange}
use Rattle.flows.proofs.Shape.{listed as in_range_where}
use Rattle.tables.specs.Accepted.{Accepted}
use Rattle.tables.proofs.Places.{size_of}
use Rattle.builder.specs.InputMarks.{Marked}
use Rattle.builder.specs.Build.{load_rules, load_answer, build_answer, Built}
use Rattle.builder.specs.Filling.{emptied, SoFar, MayFill, FilledTo}
use Rattle.builder.specs.Exchange.{none_seen}
use Rattle.builder.proofs.Placing.{none_seen_at}
use Rattle.builder.proofs.Remarking.{marked_empty}
use Rattle.builder.proofs.Progress.{may_fill_same, empty_so_far, emptied_entries, emptied_beyond, whole_so_far}

-- no load is refused and the table is not too short exactly where every load fits and the table is long enough
none_due : (M N : ℕ) (L : List ℕ) (len : ℕ) → NoneHolds (load_rules M N L len) → Fitting M N L × (N * M ≤ len)
none_due M N L len none = (
  record {
    inputs_fit = λ i w. ltb-false _ _ (somewhere_false 1 N (input_overloaded M L) none.0 i w.at_least (omega (arith, w.at_most)));
    outputs_fit = λ j w. ltb-false _ _ (somewhere_false 1 N (output_overloaded M L) none.1.0 j w.at_least (omega (arith, w.at_most)));
  },
  ltb-false len (N * M) none.1.1.0,
)

-- what the list that passed leaves known
pub listed : (M N : ℕ) (L : List ℕ) → done_with (pos 0) ≡ list_answer M N L → InRange M N L
listed M N L e = in_range_where M N L (done_with (pos 0)) e refl

-- and the loads that passed
pub loaded : (M N : ℕ) (L : List ℕ) (len : ℕ) → done_with (pos 0) ≡ load_answer M N L len → Fitting M N L × (N * M ≤ len)
unfolding load_answer
loaded M N L len e = none_due M N L len (none_of_them (load_rules M N L len) [] (done_with (pos 0)) (done_with (pos 0)) e tt refl)

-- what is built where the list is refused
pub refused_by_list : (M N : ℕ) (L T : List ℕ) (r : Result (Unit {0}) Refusal) → IsErr r → plain_answer r ≡ list_answer M N L → Built M N L T T (plain_answer r)
unfolding list_answer build_answer
refused_by_list M N L T (Ok x) h e = cc
refused_by_list M N L T (Err r) h e =
    record {
      answered = refusal_passed_on (list_rules M N L) (load_rules M N L (length T)) (done_with (pos 0)) (refused r) e (not_done r);
      refused_leaves = λ _. refl;
      accepted = λ d. absurd (not_done r d);
      beyond = refl;
    }

-- the list passed
module _ (M N : ℕ) (L T : List ℕ) (pass : done_with (pos 0) ≡ list_answer M N L) where
  on : (b : Answer) → b ≡ load_answer M N L (length T) → b ≡ build_answer M N L (length T)
  unfolding list_answer build_answer load_answer
  on b f = f ∙ sym (goes_on (list_rules M N L) (load_rules M N L (length T)) (done_with (pos 0)) (done_with (pos 0)) pass tt refl)

  pub refused_by_loads : (r : Result (Unit {0}) Refusal) → IsErr r → plain_answer r ≡ load_answer M N L (length T) → Built M N L T T (plain_answer r)
  refused_by_loads (Ok x) h f = cc
  refused_by_loads (Err r) h f =
      record { answered = on (refused r) f; refused_leaves = λ _. refl; accepted = λ d. absurd (not_done r d); beyond = refl }

  -- the loads passed too
  module _ (fit : done_with (pos 0) ≡ load_answer M N L (length T)) where
    pub may_fill : MayFill M N L T
    may_fill =
        let r = listed M N L pass in
        let w = loaded M N L (length T) fit in
        record {
          table = record { frame_in_range = r.frame_in_range; ports_in_range = r.ports_in_range; long_enough = w.1 };
          good = r.good_list;
          fitting = w.0;
        }

    -- the emptied table is where the filling starts, and the filled table is what is built
    module _ (S : List ℕ) (cleared : S ≡ replicate {A = ℕ} (length (take (N * M) T)) 0) where
      is_emptied : S ++ drop (N * M) T ≡ emptied T (N * M)
      is_emptied =
          ap (λ (front : List ℕ). front ++ drop (N * M) T)
          (cleared ∙ ap (λ (n : ℕ). replicate {A = ℕ} n 0) (length-take-le (N * M) T may_fill.table.long_enough))

      same_length : length (S ++ drop (N * M) T) ≡ length T
      same_length =
          let long = may_fill.table.long_enough in
          ap length is_emptied ∙ grind (arith, length-append, length-drop, length-replicate)

      pub start : MayFill M N L (S ++ drop (N * M) T) × SoFar M N L 1 0 (S ++ drop (N * M) T) × Marked M N L (S ++ drop (N * M) T) (none_seen (max_ports * max_frame))
      start = (
        may_fill_same may_fill same_length,
        subst (λ (t : List ℕ). SoFar M N L 1 0 t) (sym is_emptied) (empty_so_far M N L (emptied T (N * M)) (emptied_entries M N T)),
        subst (λ (t : List ℕ). Marked M N L t (none_seen (max_ports * max_frame))) (sym is_emptied)
            (marked_empty M N L (emptied T (N * M)) (none_seen (max_ports * max_frame)) (emptied_entries M N T)
            (λ r s. none_seen_at (max_ports * max_frame) (r * M + s))),
      )

      pub built : (T' T'' : List ℕ) (U : List Bool) → T'' ≡ T' → FilledTo M N L (suc (flow_count L)) 0 (S ++ drop (N * M) T) T' U → Built M N L T T'' (done_with (pos 0))
      built T' T'' U same z =
          record {
            answered = on (done_with (pos 0)) fit;
            refused_leaves = λ h. absurd (h refl);
            accepted = λ _. subst (λ (t : List ℕ). Accepted M N L t) (sym same) (whole_so_far M N L T' (suc (flow_count L)) 0 (omega arith) z.so_far);
            beyond = ap (λ (t : List ℕ). drop (N * M) t) same ∙ z.beyond ∙ ap (λ (t : List ℕ). drop (N * M) t) is_emptied ∙ emptied_beyond T (N * M);
          }

-- the lemmas by which the build's refusals are told, and what is known where none is due
pub ruleset outcomes = (listed, size_of, loaded, length-take-le, refused_by_list, refused_by_loads)
