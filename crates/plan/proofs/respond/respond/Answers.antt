-- `plan::respond::respond` meets its contract: what was read is what is built.
use Rattle.std.specs.Result.{MatchResult, IsOkAnd}
use Rattle.std.proofs.Common.{ℕ, ◌*◌, ◌≡◌, arith, sym, Ok, Err}
use lib.Seq.{length-take-le}
use lib.ListN.{replicate, length-replicate}
use Rattle.plan.specs.Responding.{list_room}
use Rattle.plan.proofs.TextRead.{HandedBack, refuses, room_for, list_is, planned, counts}
use Rattle.plan.proofs.respond.respond.Goals as goal

pub returns-clause-planned : goal.returns-clause-planned
returns-clause-planned c =
    let heading = c.in_ok-heading.heading in
    let is : HandedBack c.args.text.now (Ok heading) = grind (arith, c.read.ensures.handed) in
    let outcome : MatchResult c.build.result (λ x. IsOkAnd c.map.result (λ y. y ≡ heading)) (λ e. c.map.result ≡ Err e) = grind arith in
    planned c.args.text.now (replicate {A = ℕ} list_room 0) (length-replicate {A = ℕ} list_room 0) heading is c.args.table.now c.build.new.table _
    (rw c.from-numbers.ensures (list_is c.args.text.now (replicate {A = ℕ} list_room 0) (length-replicate {A = ℕ} list_room 0) heading is c.read.new.list c.read.ensures.left))
    c.build.result c.map.result outcome c.build.ensures

pub returns-clause-flows : goal.returns-clause-flows
returns-clause-flows c =
    let heading = c.in_ok-heading.heading in
    let is : HandedBack c.args.text.now (Ok heading) = grind (arith, c.read.ensures.handed) in
    let outcome : MatchResult c.build.result (λ x. IsOkAnd c.map.result (λ y. y ≡ heading)) (λ e. c.map.result ≡ Err e) = grind arith in
    counts c.args.text.now (replicate {A = ℕ} list_room 0) (length-replicate {A = ℕ} list_room 0) heading is c.build.result c.map.result outcome

pub returns-in_err-heading-clause-planned : goal.returns-in_err-heading-clause-planned
returns-in_err-heading-clause-planned c =
    let why = c.in_err-heading.field-0.0 in
    let is : HandedBack c.args.text.now (Err why) = grind (arith, c.read.ensures.handed) in
    let same : c.from_residual.result ≡ Err why = grind arith in
    rw same (refuses c.args.text.now (replicate {A = ℕ} list_room 0) (length-replicate {A = ℕ} list_room 0) why is c.args.table.now)

pub slice_bounds-list-end : goal.slice_bounds-list-end
slice_bounds-list-end c =
    let heading = c.in_ok-heading.heading in
    let is : HandedBack c.args.text.now (Ok heading) = grind (arith, c.read.ensures.handed) in
    omega (arith, c.from-numbers.ensures, c.read.auto.list, room_for c.args.text.now (replicate {A = ℕ} list_room 0) (length-replicate {A = ℕ} list_room 0) heading is)

pub slice_bounds-plan-end : goal.slice_bounds-plan-end
slice_bounds-plan-end c =
    let heading = c.in_ok-heading.heading in
    let is : HandedBack c.args.text.now (Ok heading) = grind (arith, c.read.ensures.handed) in
    let room = room_for c.args.text.now (replicate {A = ℕ} list_room 0) (length-replicate {A = ℕ} list_room 0) heading is in
    sym (length-take-le (3 * c.from-numbers.result) c.read.new.list (omega (arith, c.from-numbers.ensures, c.read.auto.list, room)))
