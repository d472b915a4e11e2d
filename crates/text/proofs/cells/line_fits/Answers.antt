use Rattle.std.proofs.Common.{arith}
use Rattle.std.proofs.lemmas.Bool.Decides.{nat_tests}
use Rattle.text.proofs.Texts.{length-line_text}
use Rattle.text.proofs.cells.line_fits.Goals as goal

pub returns-then-wide-room : goal.returns-then-wide-room
returns-then-wide-room c = let all = length-line_text c.args.first c.args.rest.now in grind (arith, nat_tests)

pub returns-else-wide-room : goal.returns-else-wide-room
returns-else-wide-room c = let all = length-line_text c.args.first c.args.rest.now in grind (arith, nat_tests)
