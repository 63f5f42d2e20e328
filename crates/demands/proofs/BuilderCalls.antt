-- The builder, of the function: the proofs of what `specs/BuilderCalls.antt` states.
use Prim.Native.Nat.{ℕ}
use mathlib.Core.Path.{◌≡◌, sym, ◌∙◌, ap}
use mathlib.Core.Logic.{◌⊎◌, inl, inr}
use lib.ListN.{length}
use Rattle.answers.specs.declared.Answer.{Answer}
use Rattle.answers.specs.Numbers.{INPUT_OVERLOADED, OUTPUT_OVERLOADED}
use Rattle.answers.specs.Answers.{plain_answer}
use Rattle.builder.specs.Build.{build_answer}
use Rattle.demands.specs.BuilderCalls.{BuildsIfOneExistsOfContract, DoneLeavesAccepted, RefusesLoadIfNoneExistsOfContract}
use Rattle.demands.specs.BuilderCalls.{NamesInputOfContract, NamesOutputOfContract}
use Rattle.demands.proofs.Carrying.{exactly}
use Rattle.demands.proofs.Builder as Builder

pub builds_if_one_exists_of_contract : BuildsIfOneExistsOfContract
builds_if_one_exists_of_contract κ x a l c = exactly c.answered (Builder.builds_if_one_exists _ _ _ _)

pub done_leaves_accepted : DoneLeavesAccepted
done_leaves_accepted κ x a l c e = c.accepted (ap (λ (b : Answer). b.number) e)

pub names_input_of_contract : NamesInputOfContract
names_input_of_contract κ x a l c i = exactly c.answered (Builder.names_input _ _ _ _ i)

pub names_output_of_contract : NamesOutputOfContract
names_output_of_contract κ x a l c j = exactly c.answered (Builder.names_output _ _ _ _ j)

pub refuses_load_if_none_exists_of_contract : RefusesLoadIfNoneExistsOfContract
refuses_load_if_none_exists_of_contract κ x a l c over table = Builder.refuses_load_if_none_exists _ _ _ _ (carried over) table
  where
    built : Answer
    built = build_answer x.0.now.frame x.0.now.ports x.0.now.list.now (length x.1.0.now)

    same : (n : ℕ) → (plain_answer a).number ≡ n → built.number ≡ n
    same n e = sym (ap (λ (b : Answer). b.number) c.answered) ∙ e

    carried : ((plain_answer a).number ≡ INPUT_OVERLOADED) ⊎ ((plain_answer a).number ≡ OUTPUT_OVERLOADED)
        → (built.number ≡ INPUT_OVERLOADED) ⊎ (built.number ≡ OUTPUT_OVERLOADED)
    carried (inl e) = inl (same INPUT_OVERLOADED e)
    carried (inr e) = inr (same OUTPUT_OVERLOADED e)
