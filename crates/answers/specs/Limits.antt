-- The limits of the range table, each named once, and the test that a number keeps to one.
use Rattle.std.specs.Prelude.{ℕ, ◌≤◌, Bool, ◌||◌, ltb}

-- frame M, in slots: 1 to this
abbrev pub max_frame : ℕ
max_frame = 2048

-- ports N: 1 to this
abbrev pub max_ports : ℕ
max_ports = 32

-- flows K: 0 to this
abbrev pub max_flows : ℕ
max_flows = 255

-- cells waiting per flow: 0 to this
abbrev pub max_waiting : ℕ
max_waiting = 4000

-- links h between switches: 0 to this
abbrev pub max_links : ℕ
max_links = 255

-- a link's delay, in slots: 1 to this
abbrev pub max_delay : ℕ
max_delay = 40

-- deadline H, in slots: 0 to this
abbrev pub max_deadline : ℕ
max_deadline = 1000000

-- period P, in slots: up to this
abbrev pub max_period : ℕ
max_period = 1000000

-- message bits: 1 to this
abbrev pub max_bits : ℕ
max_bits = 10000000

-- plan text, in bytes: up to this
abbrev pub max_text : ℕ
max_text = 8192

-- links of the shore network: 0 to this; a message's set of links has a bit for each
abbrev pub max_cycle_links : ℕ
max_cycle_links = 32

-- messages of the shore network: 0 to this
abbrev pub max_messages : ℕ
max_messages = 64

-- cycles of a run: 1 to this
abbrev pub max_cycles : ℕ
max_cycles = 1024

-- depth of the shore network, in switches: 1 to this
abbrev pub max_depth : ℕ
max_depth = 64

-- nodes of the shore network: 1 to this
abbrev pub max_nodes : ℕ
max_nodes = 64

-- a transmission time or a switch's latency there: 0 to this
abbrev pub max_time : ℕ
max_time = 10000

-- a detail that is no signed value is below this, so that it fits 32 bits with a sign
abbrev pub max_detail : ℕ
max_detail = 2147483648

-- x is not one of low, low + 1, .. high
abbrev pub outside : ℕ → ℕ → ℕ → Bool
outside low high x = ltb x low || ltb high x

-- x is one of low, low + 1, .. high
pub record Within (low high x : ℕ) : Type 0 where
  pub at_least : low ≤ x
  pub at_most : x ≤ high
