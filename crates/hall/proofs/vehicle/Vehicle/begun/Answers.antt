use Rattle.std.proofs.Common.{arith}
use Rattle.std.proofs.lemmas.Grind.{common_steps}
use Rattle.std.proofs.lemmas.List.Sums.{prefix_len-le-length}
use Rattle.hall.specs.Log.{begun}
use Rattle.hall.specs.View.{steps_of}
use Rattle.hall.proofs.vehicle.Vehicle.begun.Goals as goal

pub returns : goal.returns
returns c =
    let most = prefix_len-le-length begun (steps_of c.args.self.now) in
    grind (arith, common_steps)
