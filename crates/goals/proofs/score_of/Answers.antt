use Rattle.goals.specs.ScoresLemmas.{latest_finish, greatest_lateness}
use Rattle.goals.proofs.score_of.Goals as goal

pub returns-clause-latest : goal.returns-clause-latest
returns-clause-latest g c = latest_finish

pub returns-clause-lateness : goal.returns-clause-lateness
returns-clause-lateness g c = greatest_lateness
