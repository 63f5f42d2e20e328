-- The cases: one test that is computed over the table, and one law that turns it into the claim of each row.
use Prim.Native.Nat.{ℕ, ◌*◌}
use mathlib.Core.Path.{◌≡◌, refl, ap, ◌∙◌}
use mathlib.Core.Bool.{Bool, true, false, ◌&&◌}
use mathlib.Core.List.{List, [], ◌∷◌}
use lib.Dec.{T, eqb, eqb→eq}
use lib.ListN.{length}
use lib.IntN.{ℤ, pos, negsuc}
use Rattle.answers.specs.declared.Answer.{Answer}
use Rattle.answers.specs.Lowest.{lowest}
use Rattle.answers.specs.Answers.{answer}
use Rattle.answers.specs.Sums.{sum}
use Rattle.answers.specs.Sums as Sums
use Rattle.answers.specs.Buffers.{written}
use Rattle.flows.specs.Flows.{input_load, output_load}
use Rattle.margins.specs.Margins.{least_times, margin_answer, room_answer, fit_answer, cells_answer}
use Rattle.cycles.specs.Cycle.{links, messages, taken, load_of, load_after, marked}
use Rattle.cycles.specs.Judging.{cycle_answer, run_answer, network_answer}
use Rattle.cycles.specs.Run.{taken_before, response_of}
use Rattle.cycles.specs.Trd.{trd_answer}
use Rattle.cycles.specs.Promises.{after_call}
use Rattle.tables.specs.Accepted.{times}
use Rattle.tables.specs.Check.{check_answer}
use Rattle.builder.specs.Build.{build_answer}
use Rattle.forwarding.specs.Forwarding.{slot_answer}
use Rattle.forwarding.specs.Histories.{running_at}
use Rattle.demands.specs.Cases.{Case, check, build, fit, margin, room, cells, slot, cycle, run, trd, Claim, AllHold, cases, CasesHold}

abbrev same_z : ℤ → ℤ → Bool
same_z (pos a) (pos b) = eqb a b
same_z (pos a) (negsuc b) = false
same_z (negsuc a) (pos b) = false
same_z (negsuc a) (negsuc b) = eqb a b

same_z_lem : (x y : ℤ) → T (same_z x y) → x ≡ y
same_z_lem (pos a) (pos b) t = ap pos (eqb→eq a b t)
same_z_lem (pos a) (negsuc b) t = absurd t
same_z_lem (negsuc a) (pos b) t = absurd t
same_z_lem (negsuc a) (negsuc b) t = ap negsuc (eqb→eq a b t)

abbrev same : Answer → Answer → Bool
same a b = eqb a.number b.number && same_z a.detail b.detail

first : (a b : Bool) → T (a && b) → T a
first true b t = tt
first false b t = t

second : (a b : Bool) → T (a && b) → T b
second true b t = t
second false b t = absurd t

same_answer : (a b : Answer) → T (same a b) → a ≡ b
same_answer a b t =
    ap (λ (n : ℕ). answer n a.detail) (eqb→eq a.number b.number (first (eqb a.number b.number) (same_z a.detail b.detail) t))
    ∙ ap (λ (z : ℤ). answer b.number z) (same_z_lem a.detail b.detail (second (eqb a.number b.number) (same_z a.detail b.detail) t))

abbrev same_list : List ℕ → List ℕ → Bool
same_list [] [] = true
same_list [] (y ∷ ys) = false
same_list (x ∷ xs) [] = false
same_list (x ∷ xs) (y ∷ ys) = eqb x y && same_list xs ys

same_list_lem : (xs ys : List ℕ) → T (same_list xs ys) → xs ≡ ys
same_list_lem [] [] t = refl
same_list_lem [] (y ∷ ys) t = absurd t
same_list_lem (x ∷ xs) [] t = absurd t
same_list_lem (x ∷ xs) (y ∷ ys) t =
    let e = eqb→eq x y (first (eqb x y) (same_list xs ys) t) in
    let es = same_list_lem xs ys (second (eqb x y) (same_list xs ys) t) in
    λ k. e k ∷ es k

abbrev holds : Case → Bool
holds (check M N L X a) = same (check_answer M N L X) a
holds (build M N L a) = same (build_answer M N L (N * M)) a
holds (fit M P C a) = same (fit_answer M P C) a
holds (margin M D H a) = same (margin_answer M D H) a
holds (room M d H a) = same (room_answer M d H) a
holds (cells bits a) = same (cells_answer bits) a
holds (slot M N p X W a) = same (slot_answer (running_at M N p) X W N) a
holds (cycle w ready B X a B' X') =
    same a (cycle_answer w ready (length B) (length X))
    && (same_list B' (after_call a (messages w) (λ i. Sums.one (taken w (marked ready) i)) B) && same_list X' (after_call a (links w) (load_of w (marked ready)) X))
holds (run w R cycles X a X') = same a (run_answer w R cycles (length X)) && same_list X' (after_call a (messages w) (response_of w R cycles) X)
holds (trd depth nodes sig tm sld a) = same (trd_answer depth nodes sig tm sld) a

one : (c : Case) → T (holds c) → Claim c
one (check M N L X a) t = same_answer (check_answer M N L X) a t
one (build M N L a) t = same_answer (build_answer M N L (N * M)) a t
one (fit M P C a) t = same_answer (fit_answer M P C) a t
one (margin M D H a) t = same_answer (margin_answer M D H) a t
one (room M d H a) t = same_answer (room_answer M d H) a t
one (cells bits a) t = same_answer (cells_answer bits) a t
one (slot M N p X W a) t = same_answer (slot_answer (running_at M N p) X W N) a t
one (cycle w ready B X a B' X') t =
    let bytes = after_call a (messages w) (λ i. Sums.one (taken w (marked ready) i)) B in
    let loads = after_call a (links w) (load_of w (marked ready)) X in
    let rest = second (same a (cycle_answer w ready (length B) (length X))) (same_list B' bytes && same_list X' loads) t in
    record {
      answered = same_answer a (cycle_answer w ready (length B) (length X)) (first (same a (cycle_answer w ready (length B) (length X))) (same_list B' bytes && same_list X' loads) t);
      messages_taken = same_list_lem B' bytes (first (same_list B' bytes) (same_list X' loads) rest);
      loads = same_list_lem X' loads (second (same_list B' bytes) (same_list X' loads) rest);
    }
one (run w R cycles X a X') t =
    let after = after_call a (messages w) (response_of w R cycles) X in
    record {
      answered = same_answer a (run_answer w R cycles (length X)) (first (same a (run_answer w R cycles (length X))) (same_list X' after) t);
      responses = same_list_lem X' after (second (same a (run_answer w R cycles (length X))) (same_list X' after) t);
    }
one (trd depth nodes sig tm sld a) t = same_answer (trd_answer depth nodes sig tm sld) a t

abbrev all : List Case → Bool
all [] = true
all (c ∷ cs) = holds c && all cs

each : (cs : List Case) → T (all cs) → AllHold cs
each [] t = tt
each (c ∷ cs) t = (one c (first (holds c) (all cs) t), each cs (second (holds c) (all cs) t))

pub cases_hold : CasesHold
unfolding check_answer build_answer margin_answer room_answer fit_answer cells_answer slot_answer network_answer trd_answer written load_after taken_before least_times lowest sum times input_load output_load
cases_hold = each cases tt
