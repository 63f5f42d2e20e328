-- The lines of a plan's flows, one after the other.
use Rattle.std.proofs.Common.{ℕ, ◌+◌, ◌-◌, ◌*◌, ◌≤◌, ◌<◌, ◌≡◌, ◌∙◌, ap, List, [], ◌∷◌, ◌++◌, length, get_or, drop, arith}
use Rattle.std.proofs.lemmas.List.{drop_more}
use lib.ListN.{drop_of_length-le}
use Rattle.flows.specs.Flows.{per_flow, flow_count}
use Rattle.plan_text.specs.Form.{flow_lines, line_of}
use Rattle.plan_text.proofs.Putting.{Pieces}

-- three numbers from a place on
three_from : (L : List ℕ) (q : ℕ) → q + 3 ≤ length L → drop q L ≡ get_or L q 0 ∷ get_or L (q + 1) 0 ∷ get_or L (q + 2) 0 ∷ drop (q + 3) L
three_from L q u = grind (arith, drop_more L q 0, drop_more L (q + 1) 0, drop_more L (q + 2) 0)

-- the lines from a flow on: its own, and those of the flows after it
pub lines_from : (L : List ℕ) (flow : ℕ) → length L ≡ per_flow * flow_count L → 1 ≤ flow → flow ≤ flow_count L
    → Pieces (flow_lines (drop (per_flow * (flow - 1)) L)) (line_of L flow) (flow_lines (drop (per_flow * (flow + 1 - 1)) L))
unfolding flow_lines
lines_from L flow t s u =
    record {
      are =
          ap flow_lines (three_from L (per_flow * (flow - 1)) (omega arith))
          ∙ ap (λ (k : ℕ). line_of L flow ++ flow_lines (drop k L)) (omega arith);
    }

-- behind the last flow there is none
pub no_lines : (L : List ℕ) (flow : ℕ) → length L ≡ per_flow * flow_count L → flow_count L < flow → flow_lines (drop (per_flow * (flow - 1)) L) ≡ []
unfolding flow_lines
no_lines L flow t u = ap flow_lines (drop_of_length-le L {i = per_flow * (flow - 1)} (omega arith))
