-- Each promise is an equation, or several, so it leaves a call of the builder and of the forwarding core one outcome.
use mathlib.Core.Path.{sym, ◌∙◌, ap}
use Rattle.answers.specs.declared.Answer.{Answer}
use Rattle.answers.proofs.Outcomes.{one_plain}
use Rattle.forwarding.specs.Outcome.{Outcome}
use Rattle.demands.proofs.Handed.{one_handed}
use Rattle.forwarding.specs.Histories.{State, running_at}
use Rattle.demands.specs.OutcomeCalls.{OneBuildOfContract, OneFreshStartOfContract, OneFreshStartInOfContract, OneOfferOfContract}
use Rattle.demands.specs.OutcomeCalls.{OneSlotOfContract, OneSlotInOfContract}

pub one_build_of_contract : OneBuildOfContract
one_build_of_contract κ x a b l m p q =
    let same = p.answered ∙ sym q.answered in
    (one_plain a b same, ((λ h. p.refused_leaves h ∙ sym (q.refused_leaves (λ z. h (ap (λ (y : Answer). y.number) same ∙ z)))), p.beyond ∙ sym q.beyond))

pub one_fresh_start_of_contract : OneFreshStartOfContract
one_fresh_start_of_contract κ x a b l m p q = (one_handed x.0 a b (p.handed_back ∙ sym q.handed_back), p.counts ∙ sym q.counts)

pub one_fresh_start_in_of_contract : OneFreshStartInOfContract
one_fresh_start_in_of_contract κ x a b l m p q =
    let same = p.handed_back ∙ sym q.handed_back in
    (one_plain a b (ap (λ (o : Outcome). o.answer) same), (ap (λ (o : Outcome). o.running) same, p.counts ∙ sym q.counts))

pub one_offer_of_contract : OneOfferOfContract
one_offer_of_contract κ x a b l m p q =
    let any = running_at 0 0 0 in
    (one_plain a b (p.answered ∙ sym q.answered), ap (λ (s : State). s.waiting) (p.counts any ∙ sym (q.counts any)))

pub one_slot_of_contract : OneSlotOfContract
one_slot_of_contract κ x a b l m p q = (one_handed x.0 a b (p.handed_back ∙ sym q.handed_back), (p.counts ∙ sym q.counts, p.sent ∙ sym q.sent))

pub one_slot_in_of_contract : OneSlotInOfContract
one_slot_in_of_contract κ x a b l m p q =
    let same = p.handed_back ∙ sym q.handed_back in
    (one_plain a b (ap (λ (o : Outcome). o.answer) same), (ap (λ (o : Outcome). o.running) same, (p.counts ∙ sym q.counts, p.sent ∙ sym q.sent)))
