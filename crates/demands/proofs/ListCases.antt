-- Each of these cases is computed.
use mathlib.Core.Path.{refl}
use Rattle.answers.specs.Lowest.{lowest}
use Rattle.flows.specs.Flows.{input_load, output_load}
use Rattle.answers.specs.Sums.{sum}
use Rattle.tables.specs.Check.{check_answer}
use Rattle.builder.specs.Build.{build_answer}
use Rattle.demands.specs.ListCases.{ListCasesHold}

pub list_cases_hold : ListCasesHold
unfolding check_answer build_answer lowest sum input_load output_load
list_cases_hold = (refl, (refl, (refl, (refl, (refl, tt)))))
