-- What stands in the sent buffer after a slot: each served output's byte at its place, and past them what stood there.
use Prim.Native.Nat.{ℕ}
use mathlib.Core.Path.{ap}
use native.Mathlib.Omega.{arith}
use borrow.Author.Tests.{eqb-true}
use lib.ListN.{length, get_or}
use lib.Dec.{eqb}
use Rattle.answers.specs.Numbers.{DONE}
use Rattle.answers.specs.Sums.{one}
use Rattle.answers.specs.Buffers.{written}
use Rattle.answers.proofs.Sums.{sum_agree}
use Rattle.answers.proofs.Buffers.{written_at, written_past}
use Rattle.forwarding.specs.Forwarding.{entries_now, output_byte}
use Rattle.forwarding.specs.Histories.{a_slot, answer_of, sent_after}
use Rattle.forwarding.specs.SentBuffer.{CellsShown, BytesPastStay}
use Rattle.forwarding.proofs.Done.{slot_done}

pub cells_shown : CellsShown
unfolding sent_after
cells_shown k st T S e =
    let f : ℕ → ℕ = entries_now st.running T in
    let room = (slot_done st.running T st.waiting (length S) (eqb-true (answer_of st (a_slot T (length S))).number DONE e)).asked.sent_room in
    simp e
    (sum_agree st.running.ports (λ r. one (eqb (get_or (written st.running.ports (output_byte f st.waiting) S) r 0) k)) (λ r. one (eqb (output_byte f st.waiting r) k))
    (λ r l. ap (λ (b : ℕ). one (eqb b k)) (written_at (output_byte f st.waiting) S st.running.ports r l room)))

pub bytes_past_stay : BytesPastStay
unfolding sent_after
bytes_past_stay st T S r l = grind (arith, written_past)
