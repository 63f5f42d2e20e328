-- An answer is a number of the list and a detail. What a call answers is the first refusal, in that call's order, whose condition holds.
use Rattle.std.specs.Prelude.{ℕ, Bool, cond, List, [], ◌∷◌, ℤ, pos, eqb, Result, Ok, Err}
use Rattle.answers.specs.declared.Answer.{Answer}
use Rattle.answers.specs.declared.Refusal.{Refusal}
use Rattle.answers.specs.declared.Refusal.TheVariants.{FrameOutOfRange, PortsOutOfRange, ListMisshapen, FlowOutOfRange, InputOverloaded, OutputOverloaded, TableTooShort}
use Rattle.answers.specs.declared.Refusal.TheVariants.{EntryNotOfRow, InputTwiceInSlot, CountWrong, PositionPastFrame, CountsOrSentMissized, FlowUnknown, WaitingFull}
use Rattle.answers.specs.declared.Refusal.TheVariants.{LinksOutOfRange, DeadlineOutOfRange, PeriodOutOfRange, PeriodDoesNotFit, TextTooLong, TextNotOfForm, BufferTooSmall}
use Rattle.answers.specs.declared.Refusal.TheVariants.{OutputOutOfRange, BitsOutOfRange, DelayOutOfRange, EntryAboveCounts, MessageMisshapen, MessageAboveWindow}
use Rattle.answers.specs.declared.Refusal.TheVariants.{TrdAskedOutOfRange, CyclesMissized}
use Rattle.answers.specs.Numbers.{DONE, FRAME_OUT_OF_RANGE, PORTS_OUT_OF_RANGE, LIST_MISSHAPEN, FLOW_OUT_OF_RANGE, INPUT_OVERLOADED, OUTPUT_OVERLOADED}
use Rattle.answers.specs.Numbers.{TABLE_TOO_SHORT, ENTRY_NOT_OF_ROW, INPUT_TWICE_IN_SLOT, COUNT_WRONG, POSITION_PAST_FRAME, COUNTS_OR_SENT_MISSIZED}
use Rattle.answers.specs.Numbers.{FLOW_UNKNOWN, WAITING_FULL, LINKS_OUT_OF_RANGE, DEADLINE_OUT_OF_RANGE, PERIOD_OUT_OF_RANGE, PERIOD_DOES_NOT_FIT}
use Rattle.answers.specs.Numbers.{TEXT_TOO_LONG, TEXT_NOT_OF_FORM, BUFFER_TOO_SMALL, OUTPUT_OUT_OF_RANGE, BITS_OUT_OF_RANGE, DELAY_OUT_OF_RANGE}
use Rattle.answers.specs.Numbers.{ENTRY_ABOVE_COUNTS, MESSAGE_MISSHAPEN, MESSAGE_ABOVE_WINDOW, TRD_ASKED_OUT_OF_RANGE, CYCLES_MISSIZED}
use Rattle.answers.specs.Lowest.{lowest, holds_somewhere}

-- the number, with its detail
abbrev pub answer : ℕ → ℤ → Answer
answer n d = record { number = n; detail = d }

-- the number, where the list names no detail
abbrev pub refusal : ℕ → Answer
refusal n = answer n (pos 0)

-- done, with the value that the call gives
abbrev pub done_with : ℤ → Answer
done_with d = answer DONE d

-- the call is done
abbrev pub is_done : Answer → Bool
is_done a = eqb a.number DONE

-- what each refusal is in the list
abbrev pub refused : Refusal → Answer
refused FrameOutOfRange = refusal FRAME_OUT_OF_RANGE
refused PortsOutOfRange = refusal PORTS_OUT_OF_RANGE
refused ListMisshapen = refusal LIST_MISSHAPEN
refused (FlowOutOfRange k) = answer FLOW_OUT_OF_RANGE (pos k)
refused (InputOverloaded k) = answer INPUT_OVERLOADED (pos k)
refused (OutputOverloaded k) = answer OUTPUT_OVERLOADED (pos k)
refused TableTooShort = refusal TABLE_TOO_SHORT
refused (EntryNotOfRow k) = answer ENTRY_NOT_OF_ROW (pos k)
refused (InputTwiceInSlot k) = answer INPUT_TWICE_IN_SLOT (pos k)
refused (CountWrong k) = answer COUNT_WRONG (pos k)
refused PositionPastFrame = refusal POSITION_PAST_FRAME
refused CountsOrSentMissized = refusal COUNTS_OR_SENT_MISSIZED
refused FlowUnknown = refusal FLOW_UNKNOWN
refused WaitingFull = refusal WAITING_FULL
refused LinksOutOfRange = refusal LINKS_OUT_OF_RANGE
refused DeadlineOutOfRange = refusal DEADLINE_OUT_OF_RANGE
refused PeriodOutOfRange = refusal PERIOD_OUT_OF_RANGE
refused PeriodDoesNotFit = refusal PERIOD_DOES_NOT_FIT
refused TextTooLong = refusal TEXT_TOO_LONG
refused (TextNotOfForm k) = answer TEXT_NOT_OF_FORM (pos k)
refused BufferTooSmall = refusal BUFFER_TOO_SMALL
refused OutputOutOfRange = refusal OUTPUT_OUT_OF_RANGE
refused BitsOutOfRange = refusal BITS_OUT_OF_RANGE
refused (DelayOutOfRange k) = answer DELAY_OUT_OF_RANGE (pos k)
refused (EntryAboveCounts k) = answer ENTRY_ABOVE_COUNTS (pos k)
refused (MessageMisshapen k) = answer MESSAGE_MISSHAPEN (pos k)
refused (MessageAboveWindow k) = answer MESSAGE_ABOVE_WINDOW (pos k)
refused TrdAskedOutOfRange = refusal TRD_ASKED_OUT_OF_RANGE
refused CyclesMissized = refusal CYCLES_MISSIZED

-- what a call answers: done with the value that it gives, as a detail, or why it refuses
abbrev pub answer_of : {A : Type 0} → (A → ℤ) → Result A Refusal → Answer
answer_of value (Ok x) = done_with (value x)
answer_of value (Err r) = refused r

-- the answer of a call that gives no value
abbrev pub plain_answer : Result (Unit {0}) Refusal → Answer
plain_answer r = answer_of (λ _. pos 0) r

-- of one that gives a signed value
abbrev pub signed_answer : Result ℤ Refusal → Answer
signed_answer r = answer_of (λ z. z) r

-- of one that gives a count
abbrev pub counted_answer : Result ℕ Refusal → Answer
counted_answer r = answer_of (λ n. pos n) r

-- a refusal, and whether its condition holds
pub record Rule : Type 0 where
  pub refused : Answer
  pub holds : Bool

infix 20 ◌when◌
abbrev pub ◌when◌ : Answer → Bool → Rule
a when t = record { refused = a; holds = t }

-- the refusal that tells something, say a place, of the lowest of from, from + 1, .. (count of them) at which the test holds
abbrev pub telling_of_lowest : ℕ → (ℕ → ℕ) → ℕ → ℕ → (ℕ → Bool) → Rule
telling_of_lowest n told from count test = answer n (pos (told (lowest from count test))) when holds_somewhere from count test

-- the refusal that names it
abbrev pub naming_lowest : ℕ → ℕ → ℕ → (ℕ → Bool) → Rule
naming_lowest n from count test = telling_of_lowest n (λ k. k) from count test

-- the first refusal whose condition holds, in the list's order; where none does, the answer given last
abbrev pub first : List Rule → Answer → Answer
first [] otherwise = otherwise
first (r ∷ rs) otherwise = cond r.holds r.refused (first rs otherwise)
