-- Each promise is made of equations, so it leaves a call one outcome.
use mathlib.Core.Path.{sym, ◌∙◌, ap}
use Rattle.forwarding.specs.Histories.{State, running_at}
use Rattle.forwarding.specs.Promises.{OneFreshStart, OneOffer, OneSlot}

pub one_fresh_start : OneFreshStart
one_fresh_start r M N W o p X Y a b = (a.handed_back ∙ sym b.handed_back, a.counts ∙ sym b.counts)

pub one_offer : OneOffer
one_offer W k n a b X Y x y =
    let any = running_at 0 0 0 in
    (x.answered ∙ sym y.answered, ap (λ (s : State). s.waiting) (x.counts any ∙ sym (y.counts any)))

pub one_slot : OneSlot
one_slot r T W S o p X Y A B a b = (a.handed_back ∙ sym b.handed_back, (a.counts ∙ sym b.counts, a.sent ∙ sym b.sent))
