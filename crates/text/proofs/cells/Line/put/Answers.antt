use Rattle.std.proofs.Common.{refl, arith}
use Rattle.text.proofs.Puts.{put_at_one}
use Rattle.text.proofs.cells.Line.put.Goals as goal

pub returns : goal.returns
returns c = record { same_reference = refl; written = put_at_one c.args.self.now.place.now c.args.self.now.end c.args.byte (omega arith); end = refl }
