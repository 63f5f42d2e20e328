-- The starred cases of document 01, and the cases of the frame's limit, of links that take longer, of the cells of a message, of entries without a count and of the shore network, in one table.
use Rattle.std.specs.Prelude.{ℕ, ◌*◌, ◌≡◌, List, [], ◌∷◌, pos, negsuc, replicate}
use Rattle.answers.specs.declared.Answer.{Answer}
use Rattle.answers.specs.Numbers.{FRAME_OUT_OF_RANGE, INPUT_OVERLOADED, OUTPUT_OVERLOADED, ENTRY_NOT_OF_ROW, INPUT_TWICE_IN_SLOT, COUNT_WRONG, LINKS_OUT_OF_RANGE, DEADLINE_OUT_OF_RANGE, PERIOD_OUT_OF_RANGE, PERIOD_DOES_NOT_FIT, DELAY_OUT_OF_RANGE, POSITION_PAST_FRAME, ENTRY_ABOVE_COUNTS, BUFFER_TOO_SMALL, MESSAGE_MISSHAPEN, MESSAGE_ABOVE_WINDOW, TRD_ASKED_OUT_OF_RANGE, CYCLES_MISSIZED}
use Rattle.answers.specs.Answers.{answer, refusal, done_with}
use Rattle.margins.specs.Margins.{margin_answer, room_answer, fit_answer, cells_answer}
use Rattle.cycles.specs.Cycle.{Network, network}
use Rattle.cycles.specs.Run.{STILL_WAITING, RELEASED_PAST_RUN}
use Rattle.cycles.specs.Trd.{trd_answer}
use Rattle.cycles.specs.Promises.{Cycled, RunOver}
use Rattle.tables.specs.Check.{check_answer}
use Rattle.builder.specs.Build.{build_answer}
use Rattle.forwarding.specs.Forwarding.{slot_answer}
use Rattle.forwarding.specs.Histories.{running_at}

-- a call and the answer that the documents give for it; of a cycle and of a run also the lent buffers, before and after
pub data Case : Type 0 where
  check : ℕ → ℕ → List ℕ → List ℕ → Answer → Case
  build : ℕ → ℕ → List ℕ → Answer → Case
  fit : ℕ → ℕ → ℕ → Answer → Case
  margin : ℕ → List ℕ → ℕ → Answer → Case
  room : ℕ → ℕ → ℕ → Answer → Case
  cells : ℕ → Answer → Case
  slot : ℕ → ℕ → ℕ → List ℕ → List ℕ → Answer → Case
  cycle : Network → List ℕ → List ℕ → List ℕ → Answer → List ℕ → List ℕ → Case
  run : Network → List ℕ → ℕ → List ℕ → Answer → List ℕ → Case
  trd : ℕ → ℕ → ℕ → ℕ → ℕ → Answer → Case

-- what a case claims: the call is answered so (a build is lent the N·M bytes of its table, a slot a sent buffer of N)
abbrev pub Claim : Case → Type 0
Claim (check M N L T a) = check_answer M N L T ≡ a
Claim (build M N L a) = build_answer M N L (N * M) ≡ a
Claim (fit M P C a) = fit_answer M P C ≡ a
Claim (margin M D H a) = margin_answer M D H ≡ a
Claim (room M d H a) = room_answer M d H ≡ a
Claim (cells bits a) = cells_answer bits ≡ a
Claim (slot M N p T W a) = slot_answer (running_at M N p) T W N ≡ a
Claim (cycle w ready B X a B' X') = Cycled w ready B X a B' X'
Claim (run w R cycles X a X') = RunOver w R cycles X a X'
Claim (trd depth nodes sig tm sld a) = trd_answer depth nodes sig tm sld ≡ a

-- every case of a list holds
abbrev pub AllHold : List Case → Type 0
AllHold [] = Unit {0}
AllHold (c ∷ cs) = Claim c × AllHold cs

-- plan A: frame 5, ports 4, flows (1,1,3), (1,2,2), (2,1,2)
abbrev pub plan_a : List ℕ
plan_a = 1 ∷ 1 ∷ 3 ∷ 1 ∷ 2 ∷ 2 ∷ 2 ∷ 1 ∷ 2 ∷ []

-- rows 2, 3 and 4 of plan A's tables: 0 0 0 2 2, then zeros
abbrev pub other_rows : List ℕ
other_rows = 0 ∷ 0 ∷ 0 ∷ 2 ∷ 2 ∷ 0 ∷ 0 ∷ 0 ∷ 0 ∷ 0 ∷ 0 ∷ 0 ∷ 0 ∷ 0 ∷ 0 ∷ []

-- frame 2, ports 3: the entries are 1, 9 and 200 at position 0, and 2, 3 and 0 at position 1
abbrev pub strange_table : List ℕ
strange_table = 1 ∷ 2 ∷ 9 ∷ 3 ∷ 200 ∷ 0 ∷ []

-- two links with windows of 8 and 5 slots; message 0 goes over both, 1 and 2 over link 0, 3 and 4 over link 1
abbrev pub shore : Network
shore = network (8 ∷ 5 ∷ []) (5 ∷ 4 ∷ 3 ∷ 1 ∷ 5 ∷ []) (3 ∷ 1 ∷ 1 ∷ 2 ∷ 2 ∷ [])

abbrev pub cases : List Case
cases =
    -- plan A, row 1 as 1 1 1 3 3: accepted
    check 5 4 plan_a (1 ∷ 1 ∷ 1 ∷ 3 ∷ 3 ∷ other_rows) (done_with (pos 0))
    -- as 3 3 1 1 1: input 1 twice in slot 3
    ∷ check 5 4 plan_a (3 ∷ 3 ∷ 1 ∷ 1 ∷ 1 ∷ other_rows) (answer INPUT_TWICE_IN_SLOT (pos 3))
    -- as 1 1 1 3 0: flow 3 stands once
    ∷ check 5 4 plan_a (1 ∷ 1 ∷ 1 ∷ 3 ∷ 0 ∷ other_rows) (answer COUNT_WRONG (pos 3))
    -- first byte 2: no flow of that row at place 0
    ∷ check 5 4 plan_a (2 ∷ 1 ∷ 1 ∷ 3 ∷ 3 ∷ other_rows) (answer ENTRY_NOT_OF_ROW (pos 0))
    -- plan A with flow 3 at 3 cells
    ∷ build 5 4 (1 ∷ 1 ∷ 3 ∷ 1 ∷ 2 ∷ 2 ∷ 2 ∷ 1 ∷ 3 ∷ []) (answer OUTPUT_OVERLOADED (pos 1))
    -- frame 1
    ∷ build 1 2 (1 ∷ 1 ∷ 1 ∷ 1 ∷ 2 ∷ 1 ∷ []) (answer INPUT_OVERLOADED (pos 1))
    ∷ build 1 2 (1 ∷ 1 ∷ 1 ∷ 2 ∷ 1 ∷ 1 ∷ []) (answer OUTPUT_OVERLOADED (pos 1))
    -- frame 5
    ∷ fit 5 11 3 (done_with (pos 2))
    ∷ fit 5 4 3 (refusal PERIOD_OUT_OF_RANGE)
    ∷ fit 5 5 6 (refusal PERIOD_DOES_NOT_FIT)
    -- frame 2000, every delay 1: the lost minus
    ∷ margin 2000 [] 1999 (done_with (negsuc 0))
    ∷ room 2000 1 1999 (done_with (negsuc 0))
    ∷ margin 2000 (1 ∷ []) 4001 (done_with (pos 0))
    ∷ room 2000 1 4001 (done_with (pos 1))
    ∷ margin 2000 (1 ∷ []) 4000 (done_with (negsuc 0))
    ∷ room 2000 1 4000 (done_with (pos 0))
    -- the same with a radio hop of 40 slots
    ∷ margin 2000 (40 ∷ []) 4040 (done_with (pos 0))
    ∷ room 2000 40 4040 (done_with (pos 1))
    ∷ margin 2000 (40 ∷ []) 4039 (done_with (negsuc 0))
    ∷ room 2000 40 4039 (done_with (pos 0))
    -- frame 5, three links of different delays: four switches take 20 slots, the links 43
    ∷ margin 5 (1 ∷ 40 ∷ 2 ∷ []) 63 (done_with (pos 0))
    ∷ margin 5 (1 ∷ 40 ∷ 2 ∷ []) 62 (done_with (negsuc 0))
    -- delays outside 1 to 40: the lowest is named, after 15 and 16
    ∷ margin 5 (0 ∷ 41 ∷ []) 63 (answer DELAY_OUT_OF_RANGE (pos 0))
    ∷ margin 5 (1 ∷ 40 ∷ 41 ∷ 0 ∷ []) 63 (answer DELAY_OUT_OF_RANGE (pos 2))
    ∷ margin 5 (0 ∷ []) 1000001 (refusal DEADLINE_OUT_OF_RANGE)
    ∷ margin 5 (replicate 256 0) 1000001 (refusal LINKS_OUT_OF_RANGE)
    ∷ room 5 0 63 (refusal DELAY_OUT_OF_RANGE)
    ∷ room 5 41 63 (refusal DELAY_OUT_OF_RANGE)
    ∷ room 5 0 1000001 (refusal DEADLINE_OUT_OF_RANGE)
    -- frame 2,048: done
    ∷ margin 2048 [] 2047 (done_with (negsuc 0))
    ∷ room 2048 1 2048 (done_with (pos 0))
    ∷ fit 2048 2048 2048 (done_with (pos 2048))
    ∷ build 2048 32 (1 ∷ 32 ∷ 2048 ∷ []) (done_with (pos 0))
    -- frame 2,049: refused
    ∷ margin 2049 [] 2047 (refusal FRAME_OUT_OF_RANGE)
    ∷ room 2049 1 2048 (refusal FRAME_OUT_OF_RANGE)
    ∷ fit 2049 2049 2048 (refusal FRAME_OUT_OF_RANGE)
    ∷ build 2049 32 (1 ∷ 32 ∷ 2048 ∷ []) (refusal FRAME_OUT_OF_RANGE)
    ∷ check 2049 1 [] [] (refusal FRAME_OUT_OF_RANGE)
    -- cells of 500 bits, 20 of them the label's
    ∷ cells 480 (done_with (pos 1))
    ∷ cells 481 (done_with (pos 2))
    ∷ cells 1000 (done_with (pos 3))
    -- plan A's table: flow 3 is the last of three counts, and with two its entries have none; they are not at position 0
    ∷ slot 5 4 3 (1 ∷ 1 ∷ 1 ∷ 3 ∷ 3 ∷ other_rows) (0 ∷ 0 ∷ 0 ∷ []) (done_with (pos 0))
    ∷ slot 5 4 3 (1 ∷ 1 ∷ 1 ∷ 3 ∷ 3 ∷ other_rows) (0 ∷ 0 ∷ []) (answer ENTRY_ABOVE_COUNTS (pos 3))
    ∷ slot 5 4 0 (1 ∷ 1 ∷ 1 ∷ 3 ∷ 3 ∷ other_rows) (0 ∷ 0 ∷ []) (done_with (pos 0))
    -- two outputs with an entry above the number of counts: the lower one's place; then the other's alone
    ∷ slot 2 3 0 strange_table (replicate 2 0) (answer ENTRY_ABOVE_COUNTS (pos 2))
    ∷ slot 2 3 0 strange_table (replicate 9 0) (answer ENTRY_ABOVE_COUNTS (pos 4))
    -- an entry that is equal to the number of counts has one
    ∷ slot 2 3 1 strange_table (replicate 2 0) (answer ENTRY_ABOVE_COUNTS (pos 3))
    ∷ slot 2 3 1 strange_table (replicate 3 0) (done_with (pos 0))
    -- 28 comes after 11
    ∷ slot 2 3 2 strange_table [] (refusal POSITION_PAST_FRAME)
    -- a cycle with all but the last ready: 0 takes 5 slots of both links, 1 would make 9 of link 0's 8 and is held, 2 makes 8, 3 would make 6 of link 1's 5;
    -- what lies past the messages and the links stays
    ∷ cycle shore (1 ∷ 1 ∷ 255 ∷ 1 ∷ 0 ∷ []) (replicate 6 9) (replicate 3 7) (done_with (pos 0)) (1 ∷ 0 ∷ 1 ∷ 0 ∷ 0 ∷ 9 ∷ []) (8 ∷ 5 ∷ 7 ∷ [])
    -- without message 0 there is room for 1 and 2 together and for 3, and 4 would make 6 of link 1's 5
    ∷ cycle shore (0 ∷ 1 ∷ 1 ∷ 1 ∷ 1 ∷ []) (replicate 5 9) (replicate 2 7) (done_with (pos 0)) (0 ∷ 1 ∷ 1 ∷ 1 ∷ 0 ∷ []) (7 ∷ 1 ∷ [])
    -- no links and no messages
    ∷ cycle (network [] [] []) [] [] [] (done_with (pos 0)) [] []
    -- 30 for a link that is not there, for an empty set and for size 0, the lowest message named; and before 31, though that message is higher
    ∷ cycle (network (8 ∷ []) (1 ∷ 1 ∷ 0 ∷ []) (1 ∷ 2 ∷ 1 ∷ [])) (1 ∷ 1 ∷ 1 ∷ []) (replicate 3 9) (7 ∷ []) (answer MESSAGE_MISSHAPEN (pos 1)) (replicate 3 9) (7 ∷ [])
    ∷ cycle (network (8 ∷ []) (1 ∷ 1 ∷ 0 ∷ []) (1 ∷ 1 ∷ 1 ∷ [])) (1 ∷ 1 ∷ 1 ∷ []) (replicate 3 9) (7 ∷ []) (answer MESSAGE_MISSHAPEN (pos 2)) (replicate 3 9) (7 ∷ [])
    ∷ cycle (network (8 ∷ []) (9 ∷ 1 ∷ []) (1 ∷ 0 ∷ [])) (1 ∷ 1 ∷ []) (replicate 2 9) (7 ∷ []) (answer MESSAGE_MISSHAPEN (pos 1)) (replicate 2 9) (7 ∷ [])
    -- 31: 8 slots fill the window, 9 do not fit; a message that is not ready is refused too
    ∷ cycle (network (8 ∷ []) (8 ∷ []) (1 ∷ [])) (1 ∷ []) (9 ∷ []) (7 ∷ []) (done_with (pos 0)) (1 ∷ []) (8 ∷ [])
    ∷ cycle (network (8 ∷ []) (8 ∷ 9 ∷ []) (1 ∷ 1 ∷ [])) (1 ∷ 0 ∷ []) (replicate 2 9) (7 ∷ []) (answer MESSAGE_ABOVE_WINDOW (pos 1)) (replicate 2 9) (7 ∷ [])
    -- lists of other lengths: 34, before 30; a buffer that is too short: 21, after 31
    ∷ cycle (network (8 ∷ []) (0 ∷ []) (1 ∷ [])) (1 ∷ 1 ∷ []) (9 ∷ []) (7 ∷ []) (refusal CYCLES_MISSIZED) (9 ∷ []) (7 ∷ [])
    ∷ cycle (network (8 ∷ []) (0 ∷ []) []) (1 ∷ []) (9 ∷ []) (7 ∷ []) (refusal CYCLES_MISSIZED) (9 ∷ []) (7 ∷ [])
    ∷ cycle (network (8 ∷ []) (9 ∷ []) (1 ∷ [])) (1 ∷ []) [] (7 ∷ []) (answer MESSAGE_ABOVE_WINDOW (pos 0)) [] (7 ∷ [])
    ∷ cycle (network (8 ∷ []) (8 ∷ []) (1 ∷ [])) (1 ∷ []) [] (7 ∷ []) (refusal BUFFER_TOO_SMALL) [] (7 ∷ [])
    ∷ cycle (network (8 ∷ []) (8 ∷ []) (1 ∷ [])) (1 ∷ []) (9 ∷ []) [] (refusal BUFFER_TOO_SMALL) (9 ∷ []) []
    -- a run: 0, 1 and 2 are released in cycle 0, 3 and 4 in cycle 1. Cycle 0 takes 0 and 2 as above, cycle 1 takes 1 and 3, cycle 2 takes 4
    ∷ run shore (0 ∷ 0 ∷ 0 ∷ 1 ∷ 1 ∷ []) 3 (replicate 6 7) (done_with (pos 0)) (1 ∷ 2 ∷ 1 ∷ 1 ∷ 2 ∷ 7 ∷ [])
    -- the same, ended after two cycles and after one
    ∷ run shore (0 ∷ 0 ∷ 0 ∷ 1 ∷ 1 ∷ []) 2 (replicate 5 7) (done_with (pos 0)) (1 ∷ 2 ∷ 1 ∷ 1 ∷ STILL_WAITING ∷ [])
    ∷ run shore (0 ∷ 0 ∷ 0 ∷ 1 ∷ 1 ∷ []) 1 (replicate 5 7) (done_with (pos 0)) (1 ∷ STILL_WAITING ∷ 1 ∷ RELEASED_PAST_RUN ∷ RELEASED_PAST_RUN ∷ [])
    -- cycles outside 1 to 1,024 and a release list of another length: 34, before 30
    ∷ run (network (8 ∷ []) (0 ∷ []) (1 ∷ [])) (0 ∷ []) 0 (7 ∷ []) (refusal CYCLES_MISSIZED) (7 ∷ [])
    ∷ run (network (8 ∷ []) (0 ∷ []) (1 ∷ [])) (0 ∷ []) 1025 (7 ∷ []) (refusal CYCLES_MISSIZED) (7 ∷ [])
    ∷ run (network (8 ∷ []) (0 ∷ []) (1 ∷ [])) [] 1 (7 ∷ []) (refusal CYCLES_MISSIZED) (7 ∷ [])
    ∷ run (network (8 ∷ []) (0 ∷ []) (1 ∷ [])) (0 ∷ []) 1024 (7 ∷ []) (answer MESSAGE_MISSHAPEN (pos 0)) (7 ∷ [])
    ∷ run (network (8 ∷ []) (8 ∷ []) (1 ∷ [])) (0 ∷ []) 1 [] (refusal BUFFER_TOO_SMALL) []
    -- document 004's network has six nodes, SIG 2, TM 5 and SLD 17; its TRD of 200 is enough down to depth 5
    ∷ trd 1 6 2 5 17 (done_with (pos 32))
    ∷ trd 2 6 2 5 17 (done_with (pos 73))
    ∷ trd 3 6 2 5 17 (done_with (pos 114))
    ∷ trd 5 6 2 5 17 (done_with (pos 196))
    ∷ trd 6 6 2 5 17 (done_with (pos 237))
    -- the limits
    ∷ trd 1 1 0 0 0 (done_with (pos 1))
    ∷ trd 64 64 10000 10000 10000 (done_with (pos 3180001))
    ∷ trd 0 6 2 5 17 (refusal TRD_ASKED_OUT_OF_RANGE)
    ∷ trd 65 6 2 5 17 (refusal TRD_ASKED_OUT_OF_RANGE)
    ∷ trd 3 0 2 5 17 (refusal TRD_ASKED_OUT_OF_RANGE)
    ∷ trd 3 65 2 5 17 (refusal TRD_ASKED_OUT_OF_RANGE)
    ∷ trd 3 6 10001 5 17 (refusal TRD_ASKED_OUT_OF_RANGE)
    ∷ trd 3 6 2 10001 17 (refusal TRD_ASKED_OUT_OF_RANGE)
    ∷ trd 3 6 2 5 10001 (refusal TRD_ASKED_OUT_OF_RANGE)
    ∷ []

-- "one proof over that table shows them of the definitions"
abbrev pub CasesHold : Type 0
CasesHold = AllHold cases
