use Rattle.std.proofs.Common.{sym, ◌∙◌}
use Rattle.hours.proofs.Fitting.{limited_none, limited}
use Rattle.hours.proofs.windows.WindowsHours.earliest.Goals as goal

pub returns-in_err-begin : goal.returns-in_err-begin
returns-in_err-begin c = record {
  least =
      rw c.from_residual.ensures
      (limited_none c.args.station c.args.length c.args.from c.args.self.now.records.now (sym c.begin_from.ensures ∙ c.in_err-begin.was));
}

pub returns : goal.returns
returns c = record {
  least =
      limited c.args.station c.args.length c.args.from c.args.self.now.records.now c.in_ok-begin.begin _
      (sym c.begin_from.ensures ∙ c.in_ok-begin.was) c.earliest.ensures.least;
}
