-- Tables: the proofs of what `specs/Tables.antt` states.
use Prim.Native.Nat.{ℕ, ◌-◌, ◌*◌, ◌<◌}
use mathlib.Core.Path.{◌≡◌, refl, ap}
use mathlib.Core.Logic.{◌↔◌}
use mathlib.Core.Bool.{Bool, true, false, cond}
use mathlib.Core.List.{List, [], ◌∷◌, ◌++◌}
use native.Mathlib.Omega.{arith}
use borrow.Author.Tests.{ltb-false, le-ltb, eqb-true}
use lib.ListN.{length, take, drop}
use lib.IntN.{pos}
use lib.Dec.{ltb}
use Rattle.answers.specs.declared.Answer.{Answer}
use Rattle.answers.specs.Numbers.{DONE, TABLE_TOO_SHORT, ENTRY_NOT_OF_ROW, INPUT_TWICE_IN_SLOT, COUNT_WRONG}
use Rattle.answers.specs.Lowest.{IsLowest}
use Rattle.answers.specs.Answers.{Rule, answer, refusal, done_with, ◌when◌, naming_lowest}
use Rattle.answers.proofs.First.{NoneHolds, none_first, none_later, none_both, done_exactly, first_none, named_exactly, not_named, none_named}
use Rattle.flows.specs.Flows.{flow_count, list_rules}
use Rattle.flows.proofs.Shape.{in_range, not_due}
use Rattle.tables.specs.Accepted.{Accepted, NotOfRow, InputTwice, CountWrong}
use Rattle.tables.specs.Check.{not_of_row, input_twice, count_wrong, entry_rules, check_rules, check_answer}
use Rattle.tables.specs.Row.{row_answer, row_there, row_part}
use Rattle.tables.proofs.Judgement
use Rattle.tables.proofs.Rows.{some_bytes}
use Rattle.tables.proofs.Counting.{accepted_fits}
use Rattle.demands.specs.Tables.{Judged, DoneIffAccepted, NamesPlace, NamesSlot, NamesFlow, AcceptedFits, RowThereIffDone}

module _ (M N : ℕ) (L T : List ℕ) where
  short : Rule
  short = refusal TABLE_TOO_SHORT when ltb (length T) (N * M)

  judged : NoneHolds (list_rules M N L ++ short ∷ []) → Judged M N L T
  unfolding short
  judged h =
      record {
        in_range = in_range M N L (none_first (list_rules M N L) (short ∷ []) h);
        long_enough = ltb-false _ _ (none_later (list_rules M N L) (short ∷ []) h).0;
      }

  not_refused : Judged M N L T → NoneHolds (list_rules M N L ++ short ∷ [])
  unfolding short
  not_refused j = none_both (list_rules M N L) (short ∷ []) (not_due M N L j.in_range) (le-ltb _ _ j.long_enough, tt)

pub done_iff_accepted : DoneIffAccepted
unfolding check_answer short
done_iff_accepted M N L T = (out, back)
  where
    start : List Rule
    start = list_rules M N L ++ short M N L T ∷ []

    out : check_answer M N L T ≡ done_with (pos 0) → Judged M N L T × Accepted M N L T
    out e =
        let none = (done_exactly DONE (check_rules M N L T) (done_with (pos 0)) refl tt).0 (ap (λ (a : Answer). a.number) e) in
        let j = judged M N L T (none_first start (entry_rules M N L T) none) in
        (j, Judgement.accepted_then M N L T (none_later start (entry_rules M N L T) none))

    back : Judged M N L T × Accepted M N L T → check_answer M N L T ≡ done_with (pos 0)
    back h =
        first_none (check_rules M N L T) (done_with (pos 0))
        (none_both start (entry_rules M N L T) (not_refused M N L T h.0) (Judgement.nothing_due M N L T h.1))

-- the three refusals of entries, each behind those before it
module _ (M N : ℕ) (L T : List ℕ) where
  places : Rule
  places = naming_lowest ENTRY_NOT_OF_ROW 0 (N * M) (not_of_row M L T)

  slots : Rule
  slots = naming_lowest INPUT_TWICE_IN_SLOT 0 M (input_twice M N L T)

  flows : Rule
  flows = naming_lowest COUNT_WRONG 1 (flow_count L) (count_wrong M N L T)

  no_place : NoneHolds (places ∷ []) → (p : ℕ) → p < N * M → NotOfRow M L T p → ⊥
  unfolding places
  no_place h p u =
      not_named ENTRY_NOT_OF_ROW 0 (N * M) (not_of_row M L T) (NotOfRow M L T) (λ k a w. Judgement.not_of_row_says M N L T k)
      (λ k a w. Judgement.not_of_row_means M N L T k) h.0 p (omega arith) (omega arith)

  place_none : ((p : ℕ) → p < N * M → NotOfRow M L T p → ⊥) → NoneHolds (places ∷ [])
  unfolding places
  place_none h = (
    none_named ENTRY_NOT_OF_ROW 0 (N * M) (not_of_row M L T) (NotOfRow M L T) (λ k a w. Judgement.not_of_row_says M N L T k)
        (λ k a w. Judgement.not_of_row_means M N L T k) (λ k a u. h k (omega arith)),
    tt,
  )

  no_slot : NoneHolds (slots ∷ []) → (s : ℕ) → s < M → InputTwice M N L T s → ⊥
  unfolding slots
  no_slot h s u =
      not_named INPUT_TWICE_IN_SLOT 0 M (input_twice M N L T) (InputTwice M N L T) (λ k a w. Judgement.twice_says M N L T k)
      (λ k a w. Judgement.twice_means M N L T k (omega arith)) h.0 s (omega arith) (omega arith)

  slot_none : ((s : ℕ) → s < M → InputTwice M N L T s → ⊥) → NoneHolds (slots ∷ [])
  unfolding slots
  slot_none h = (
    none_named INPUT_TWICE_IN_SLOT 0 M (input_twice M N L T) (InputTwice M N L T) (λ k a w. Judgement.twice_says M N L T k)
        (λ k a w. Judgement.twice_means M N L T k (omega arith)) (λ k a u. h k (omega arith)),
    tt,
  )

pub names_place : NamesPlace
unfolding check_answer short places slots flows
names_place M N L T p = (λ e. let h = law.0 e in (judged M N L T h.0, h.1), λ h. law.1 (not_refused M N L T h.0, h.1))
  where
    law : (check_answer M N L T ≡ answer ENTRY_NOT_OF_ROW (pos p)) ↔ (NoneHolds (list_rules M N L ++ short M N L T ∷ []) × IsLowest 0 (N * M) (NotOfRow M L T) p)
    law =
        named_exactly ENTRY_NOT_OF_ROW 0 (N * M) (not_of_row M L T) (NotOfRow M L T) (λ k a w. Judgement.not_of_row_says M N L T k)
        (λ k a w. Judgement.not_of_row_means M N L T k) (list_rules M N L ++ short M N L T ∷ []) (slots M N L T ∷ flows M N L T ∷ [])
        (done_with (pos 0)) p tt tt tt

pub names_slot : NamesSlot
unfolding check_answer short places slots flows
names_slot M N L T s = (out, λ h. law.1 (none_both start (places M N L T ∷ []) (not_refused M N L T h.0) (place_none M N L T h.1), h.2))
  where
    start : List Rule
    start = list_rules M N L ++ short M N L T ∷ []

    law : (check_answer M N L T ≡ answer INPUT_TWICE_IN_SLOT (pos s)) ↔ (NoneHolds (start ++ places M N L T ∷ []) × IsLowest 0 M (InputTwice M N L T) s)
    law =
        named_exactly INPUT_TWICE_IN_SLOT 0 M (input_twice M N L T) (InputTwice M N L T) (λ k a w. Judgement.twice_says M N L T k)
        (λ k a w. Judgement.twice_means M N L T k (omega arith)) (start ++ places M N L T ∷ []) (flows M N L T ∷ []) (done_with (pos 0)) s tt tt tt

    out : check_answer M N L T ≡ answer INPUT_TWICE_IN_SLOT (pos s) → Judged M N L T × ((p : ℕ) → p < N * M → NotOfRow M L T p → ⊥) × IsLowest 0 M (InputTwice M N L T) s
    out e =
        let h = law.0 e in
        (judged M N L T (none_first start (places M N L T ∷ []) h.0), no_place M N L T (none_later start (places M N L T ∷ []) h.0), h.1)

pub names_flow : NamesFlow
unfolding check_answer short places slots flows
names_flow M N L T k = (
  out,
  λ h.
      law.1 (
        none_both start (places M N L T ∷ slots M N L T ∷ []) (not_refused M N L T h.0)
            ((place_none M N L T h.1).0, ((slot_none M N L T h.2).0, tt)),
        h.3,
      ),
)
  where
    start : List Rule
    start = list_rules M N L ++ short M N L T ∷ []

    before : List Rule
    before = places M N L T ∷ slots M N L T ∷ []

    law : (check_answer M N L T ≡ answer COUNT_WRONG (pos k)) ↔ (NoneHolds (start ++ before) × IsLowest 1 (flow_count L) (CountWrong M N L T) k)
    law =
        named_exactly COUNT_WRONG 1 (flow_count L) (count_wrong M N L T) (CountWrong M N L T) (λ k a w. Judgement.count_wrong_says M N L T k)
        (λ k a w. Judgement.count_wrong_means M N L T k) (start ++ before) [] (done_with (pos 0)) k tt tt tt

    out : check_answer M N L T ≡ answer COUNT_WRONG (pos k)
        → Judged M N L T × ((p : ℕ) → p < N * M → NotOfRow M L T p → ⊥) × ((s : ℕ) → s < M → InputTwice M N L T s → ⊥) × IsLowest 1 (flow_count L) (CountWrong M N L T) k
    out e =
        let h = law.0 e in
        let wrong = none_later start before h.0 in
        (judged M N L T (none_first start before h.0), no_place M N L T (wrong.0, tt), no_slot M N L T (wrong.1.0, tt), h.1)

pub row_there_iff_done : RowThereIffDone
row_there_iff_done M N T j = (λ d. some_bytes M N T j (row_answer M N (length T) j) refl d, back)
  where
    back : (row_part M N T j ≡ [] → ⊥) → (row_answer M N (length T) j).number ≡ DONE
    back h = go (row_there M N (length T) j) refl
      where
        go : (b : Bool) → row_there M N (length T) j ≡ b → (row_answer M N (length T) j).number ≡ DONE
        go true e = eqb-true _ _ e
        go false e = absurd (h (ap (λ (b : Bool). cond b (take M (drop ((j - 1) * M) T)) []) e))

pub accepted_asks_no_more : AcceptedFits
accepted_asks_no_more M N L T acc = accepted_fits M N L T acc
