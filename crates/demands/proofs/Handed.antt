-- What a call hands back is told by an answer with what stands beside it, and told alike it is one.
use mathlib.Core.Path.{◌≡◌, sym, ap}
use lib.Signed.{mag}
use Rattle.std.proofs.Common.{Result, Ok, Err}
use Rattle.answers.specs.declared.Refusal.{Refusal}
use Rattle.answers.proofs.Outcomes.{not_done, one_refusal}
use Rattle.forwarding.specs.declared.Running.{Running}
use Rattle.forwarding.specs.Outcome.{Outcome, handed}
use Rattle.plan_text.specs.declared.reading.Heading.{Heading}
use Rattle.plan_text.specs.Plans.{Plan, handed as plan_handed}

pub one_handed : (r : Running) (a b : Result Running Refusal) → handed r a ≡ handed r b → a ≡ b
one_handed r (Ok s) (Ok t) e = ap (λ (o : Outcome). Ok o.running) e
one_handed r (Ok s) (Err f) e = absurd (not_done f (ap (λ (o : Outcome). o.answer.number) (sym e)))
one_handed r (Err e) (Ok t) h = absurd (not_done e (ap (λ (o : Outcome). o.answer.number) h))
one_handed r (Err e) (Err f) h = ap Err (one_refusal e f (ap (λ (o : Outcome). o.answer) h))

pub one_plan : (a b : Result Heading Refusal) → plan_handed a ≡ plan_handed b → a ≡ b
one_plan (Ok h) (Ok k) e = ap (λ (p : Plan). Ok (record { frame = p.frame; ports = p.ports; flows = mag p.answer.detail })) e
one_plan (Ok h) (Err f) e = absurd (not_done f (ap (λ (p : Plan). p.answer.number) (sym e)))
one_plan (Err e) (Ok k) h = absurd (not_done e (ap (λ (p : Plan). p.answer.number) h))
one_plan (Err e) (Err f) h = ap Err (one_refusal e f (ap (λ (p : Plan). p.answer) h))
