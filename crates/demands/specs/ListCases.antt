-- Cases of a list that is refused, beside those of `Cases.antt`.
use Rattle.std.specs.Prelude.{List, [], ◌∷◌, pos}
use Rattle.answers.specs.Numbers.{LIST_MISSHAPEN, FLOW_OUT_OF_RANGE}
use Rattle.answers.specs.Answers.{answer, refusal}
use Rattle.demands.specs.Cases.{Case, check, build, AllHold}

-- refusal 4 names the lowest flow that is out of range, by its input, its output or its cells; a list that is not of threes has no flow to name,
-- and is refused first
abbrev pub list_cases : List Case
list_cases =
    check 5 4 (1 ∷ 1 ∷ 3 ∷ 5 ∷ 2 ∷ 2 ∷ 2 ∷ 0 ∷ 2 ∷ []) [] (answer FLOW_OUT_OF_RANGE (pos 2))
    ∷ check 5 4 (1 ∷ 1 ∷ 3 ∷ 1 ∷ 2 ∷ 2 ∷ 2 ∷ 5 ∷ 2 ∷ []) [] (answer FLOW_OUT_OF_RANGE (pos 3))
    ∷ build 5 4 (1 ∷ 1 ∷ 6 ∷ 0 ∷ 2 ∷ 2 ∷ []) (answer FLOW_OUT_OF_RANGE (pos 1))
    ∷ build 5 4 (1 ∷ 1 ∷ 5 ∷ 1 ∷ 2 ∷ 0 ∷ []) (answer FLOW_OUT_OF_RANGE (pos 2))
    ∷ check 5 4 (0 ∷ 0 ∷ []) [] (refusal LIST_MISSHAPEN)
    ∷ []

abbrev pub ListCasesHold : Type 0
ListCasesHold = AllHold list_cases
