-- The number and the score of each outcome, and the number of each refusal.
use Rattle.std.specs.Prelude.{ℕ, Some, None, Option}
use Rattle.plans.specs.declared.answer.Outcome.{Outcome}
use Rattle.plans.specs.declared.answer.Outcome.TheVariants.{Best, NoPlan, UnfinishedWith, UnfinishedWithout}
use Rattle.plans.specs.declared.answer.PlanFault.{PlanFault}
use Rattle.plans.specs.declared.answer.PlanFault.TheVariants.{BudgetTooLarge, RowsTooShort}

abbrev pub number_of : {S : Type 0} → Outcome S → ℕ
number_of (Best s) = 1
number_of NoPlan = 2
number_of (UnfinishedWith s) = 3
number_of UnfinishedWithout = 4

abbrev pub score_in : {S : Type 0} → Outcome S → Option S
score_in (Best s) = Some s
score_in NoPlan = None
score_in (UnfinishedWith s) = Some s
score_in UnfinishedWithout = None

abbrev pub refusal_of : PlanFault → ℕ
refusal_of BudgetTooLarge = 30
refusal_of RowsTooShort = 31
