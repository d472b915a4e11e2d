use Rattle.sheet.proofs.Spotted.{numbers_spotted}
use Rattle.sheet.proofs.line.run.Goals as goal

pub returns-in_err-request-clause-spots : goal.returns-in_err-request-clause-spots
returns-in_err-request-clause-spots c = numbers_spotted c.args.bytes.now
