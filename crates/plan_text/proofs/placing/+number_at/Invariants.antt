-- A number's last digit is put behind those of a tenth of it.
use Rattle.plan_text.proofs.placing.+number_at.Given as goal

abbrev pub decreases-number_at : goal.decreases-number_at
decreases-number_at l = l.n
