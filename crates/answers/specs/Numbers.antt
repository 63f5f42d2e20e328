-- The fixed list of numbers, each under its name.
use Rattle.std.specs.Prelude.{ℕ}

abbrev pub DONE : ℕ
DONE = 0

-- the frame M is not 1 to its limit
abbrev pub FRAME_OUT_OF_RANGE : ℕ
FRAME_OUT_OF_RANGE = 1

-- the ports N are not 1 to their limit
abbrev pub PORTS_OUT_OF_RANGE : ℕ
PORTS_OUT_OF_RANGE = 2

-- the list is not of threes, or has too many flows
abbrev pub LIST_MISSHAPEN : ℕ
LIST_MISSHAPEN = 3

-- a flow's input, output or cells are out of range; detail: the lowest such flow
abbrev pub FLOW_OUT_OF_RANGE : ℕ
FLOW_OUT_OF_RANGE = 4

-- an input is asked for more than M cells; detail: the lowest such input
abbrev pub INPUT_OVERLOADED : ℕ
INPUT_OVERLOADED = 5

-- an output is asked for more than M cells; detail: the lowest such output
abbrev pub OUTPUT_OVERLOADED : ℕ
OUTPUT_OVERLOADED = 6

-- the table is shorter than N·M
abbrev pub TABLE_TOO_SHORT : ℕ
TABLE_TOO_SHORT = 7

-- an entry is not 0 and no flow of its row; detail: the lowest such place, from 0
abbrev pub ENTRY_NOT_OF_ROW : ℕ
ENTRY_NOT_OF_ROW = 8

-- an input stands twice in a slot; detail: the lowest such slot
abbrev pub INPUT_TWICE_IN_SLOT : ℕ
INPUT_TWICE_IN_SLOT = 9

-- a flow's count in the table is wrong; detail: the lowest such flow
abbrev pub COUNT_WRONG : ℕ
COUNT_WRONG = 10

-- the record's position is not below M
abbrev pub POSITION_PAST_FRAME : ℕ
POSITION_PAST_FRAME = 11

-- too many waiting counts, or a sent buffer shorter than N
abbrev pub COUNTS_OR_SENT_MISSIZED : ℕ
COUNTS_OR_SENT_MISSIZED = 12

-- a flow that is 0 or above the number of waiting counts
abbrev pub FLOW_UNKNOWN : ℕ
FLOW_UNKNOWN = 13

-- waiting and offered cells together pass the limit
abbrev pub WAITING_FULL : ℕ
WAITING_FULL = 14

-- the links h are over their limit
abbrev pub LINKS_OUT_OF_RANGE : ℕ
LINKS_OUT_OF_RANGE = 15

-- the deadline H is over its limit
abbrev pub DEADLINE_OUT_OF_RANGE : ℕ
DEADLINE_OUT_OF_RANGE = 16

-- the period P is below M or over its limit
abbrev pub PERIOD_OUT_OF_RANGE : ℕ
PERIOD_OUT_OF_RANGE = 17

-- the cells C of a period are 0, or the cells per frame they need are above M
abbrev pub PERIOD_DOES_NOT_FIT : ℕ
PERIOD_DOES_NOT_FIT = 18

-- the text is over its limit
abbrev pub TEXT_TOO_LONG : ℕ
TEXT_TOO_LONG = 19

-- the text is not of the form; detail: the length of its longest prefix that begins some text of the form
abbrev pub TEXT_NOT_OF_FORM : ℕ
TEXT_NOT_OF_FORM = 20

-- a lent buffer is too small for the answer
abbrev pub BUFFER_TOO_SMALL : ℕ
BUFFER_TOO_SMALL = 21

-- the output is not 1 to N
abbrev pub OUTPUT_OUT_OF_RANGE : ℕ
OUTPUT_OUT_OF_RANGE = 22

-- a message's bits are not 1 to their limit
abbrev pub BITS_OUT_OF_RANGE : ℕ
BITS_OUT_OF_RANGE = 23

-- a link's delay is not 1 to its limit; detail: the place, from 0, of the lowest such in a list of delays, and 0 for one that stands for all links
abbrev pub DELAY_OUT_OF_RANGE : ℕ
DELAY_OUT_OF_RANGE = 25

-- an entry at the record's position is above the number of waiting counts; detail: the place in the table, from 0, of the lowest output's such entry
abbrev pub ENTRY_ABOVE_COUNTS : ℕ
ENTRY_ABOVE_COUNTS = 28

-- a message's set of links is empty or has a link that is not there, or its size is 0; detail: the lowest such message, from 0
abbrev pub MESSAGE_MISSHAPEN : ℕ
MESSAGE_MISSHAPEN = 30

-- a message's size is above the window of a link on its path; detail: the lowest such message, from 0
abbrev pub MESSAGE_ABOVE_WINDOW : ℕ
MESSAGE_ABOVE_WINDOW = 31

-- depth, nodes or a time of equation 1 are out of range
abbrev pub TRD_ASKED_OUT_OF_RANGE : ℕ
TRD_ASKED_OUT_OF_RANGE = 32

-- too many links or messages, cycles of a run that are not 1 to their limit, or lists whose lengths do not belong together
abbrev pub CYCLES_MISSIZED : ℕ
CYCLES_MISSIZED = 34
