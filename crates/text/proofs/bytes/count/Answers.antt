use Rattle.std.proofs.Common.{◌^◌, arith}
use Rattle.std.proofs.lemmas.Iterator.{YieldsList-from_slice}
use Rattle.std.proofs.lemmas.Iterator.Adapters.{fits_from_length, at_most_from_yields_List}
use Rattle.std.proofs.lemmas.Iterator.Consumers.{YieldsList-at}
use Rattle.text.proofs.bytes.count.Goals as goal

pub sum-requires-clause-fits : goal.sum-requires-clause-fits
sum-requires-clause-fits c =
    fits_from_length _ _ (2 ^ 63) _ (at_most_from_yields_List (YieldsList-at c.map.ensures.source (YieldsList-from_slice c.args.s.now cc)) (omega (arith, c.iter.ensures.len, c.iter.ensures.bound)))
    c.map.ensures.closure (omega arith) (λ x r q k. grind arith)
