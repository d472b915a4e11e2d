use Rattle.std.proofs.Common.{slice_set, ap, ◌∙◌, arith}
use Rattle.std.proofs.Math.Seq.{take-set-lt}
use Rattle.short.proofs.Short.set.Goals as goal

pub returns : goal.returns
returns g c = record {
  items = take-set-lt _ _ _ _ (omega (arith, c.if-prove.false)) ∙ ap (λ v. slice_set v.items c.args.at c.args.item) c.self.view_is;
}
