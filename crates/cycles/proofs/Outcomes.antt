-- What a run's being done tells of the lists that it was lent.
use Prim.Native.Nat.{ℕ, ◌≤◌}
use mathlib.Core.Path.{◌≡◌, sym, ◌∙◌, ap}
use mathlib.Core.Bool.{not}
use mathlib.Core.List.{List}
use borrow.Author.Tests.{eqb-true, ltb-false, not-false}
use lib.ListN.{length}
use lib.Dec.{eqb}
use Rattle.answers.specs.declared.Answer.{Answer}
use Rattle.answers.specs.Numbers.{DONE}
use Rattle.answers.specs.Limits.{max_cycles, outside}
use Rattle.answers.proofs.Ranges.{inside, either_false}
use Rattle.cycles.specs.Cycle.{Network, messages}
use Rattle.cycles.specs.Judging.{run_answer}
use Rattle.cycles.specs.Steps.{RunSized}
use Rattle.cycles.proofs.Judged.{done_sized, done_room}

module _ (w : Network) (R : List ℕ) (cycles : ℕ) (X : List ℕ) {a : Answer} (e : a ≡ run_answer w R cycles (length X)) where
  pub run_sized : a.number ≡ DONE → RunSized w.windows w.sizes w.paths R X × (cycles ≤ max_cycles)
  run_sized z =
      let done = sym (ap (λ (x : Answer). x.number) e) ∙ z in
      let s = done_sized w _ _ done in
      let r = either_false (outside 1 max_cycles cycles) (not (eqb (length R) (messages w))) s.others_sized in (
        record {
          few_links = s.few_links;
          few_messages = s.few_messages;
          as_many_sets = s.as_many_sets;
          as_many_releases = eqb-true (length R) (messages w) (not-false _ r.1);
          room = ltb-false (length X) (messages w) (done_room w _ _ done);
        },
        (inside {low = 1} {high = max_cycles} {x = cycles} r.0).at_most,
      )
