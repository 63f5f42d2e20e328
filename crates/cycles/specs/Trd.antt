-- The least whole TRD that document 004's equation 1 allows.
use Rattle.std.specs.Prelude.{ℕ, ◌+◌, ◌-◌, ◌*◌, ◌≤◌, ◌<◌, ◌≡◌, ◌↔◌, Bool, ◌||◌, List, [], ◌∷◌, pos}
use Rattle.answers.specs.declared.Answer.{Answer}
use Rattle.answers.specs.Numbers.{TRD_ASKED_OUT_OF_RANGE}
use Rattle.answers.specs.Limits.{max_depth, max_nodes, max_time, outside, Within}
use Rattle.answers.specs.Answers.{Rule, refusal, done_with, ◌when◌, first}

-- equation 1's right side: SIG and TM are the transmission times of a signalling message and of the trigger message, SLD is a switch's latency
abbrev pub right_side : ℕ → ℕ → ℕ → ℕ → ℕ → ℕ
right_side depth nodes sig tm sld = (depth - 1) * (tm + sld) + nodes * sig + depth * (sig + sld)

-- "TRD > .. (1)": one more is the least whole number above it
abbrev pub trd_of : ℕ → ℕ → ℕ → ℕ → ℕ → ℕ
trd_of depth nodes sig tm sld = right_side depth nodes sig tm sld + 1

-- "for depth and nodes from 1 to 64 and times up to 10,000"
pub record TrdAsked (depth nodes sig tm sld : ℕ) : Type 0 where
  pub depth_in_range : Within 1 max_depth depth
  pub nodes_in_range : Within 1 max_nodes nodes
  pub sig_in_range : Within 0 max_time sig
  pub tm_in_range : Within 0 max_time tm
  pub sld_in_range : Within 0 max_time sld

-- "others refused with 32"
abbrev pub trd_out_of_range : ℕ → ℕ → ℕ → ℕ → ℕ → Bool
trd_out_of_range depth nodes sig tm sld =
    outside 1 max_depth depth || (outside 1 max_nodes nodes || (outside 0 max_time sig || (outside 0 max_time tm || outside 0 max_time sld)))

abbrev pub trd_rules : ℕ → ℕ → ℕ → ℕ → ℕ → List Rule
trd_rules depth nodes sig tm sld = (refusal TRD_ASKED_OUT_OF_RANGE when trd_out_of_range depth nodes sig tm sld) ∷ []

unfoldable pub trd_answer : ℕ → ℕ → ℕ → ℕ → ℕ → Answer
trd_answer depth nodes sig tm sld = first (trd_rules depth nodes sig tm sld) (done_with (pos (trd_of depth nodes sig tm sld)))

-- done exactly if all five are in range
abbrev pub TrdGiven : Type 0
TrdGiven = (depth nodes sig tm sld : ℕ) → (trd_answer depth nodes sig tm sld ≡ done_with (pos (trd_of depth nodes sig tm sld))) ↔ TrdAsked depth nodes sig tm sld

-- the TRD answered is greater than equation 1's right side, and one less is not: the whole numbers that the equation allows are those from it on
abbrev pub TrdIsLeast : Type 0
TrdIsLeast =
    (depth nodes sig tm sld trd x : ℕ) → trd_answer depth nodes sig tm sld ≡ done_with (pos trd)
    → (right_side depth nodes sig tm sld < x) ↔ (trd ≤ x)
