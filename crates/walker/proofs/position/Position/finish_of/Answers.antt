use Rattle.std.proofs.lemmas.List.{take_rest}
use Rattle.walker.proofs.Sums.{left_few}
use Rattle.walker.proofs.position.Position.finish_of.Goals as goal

pub total_length-requires : goal.total_length-requires
total_length-requires c = simp (take_rest, c.as_slice-steps.ensures.items) (left_few c.args.vehicle.now _ c.requires.record)
