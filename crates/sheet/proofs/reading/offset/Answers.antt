use Rattle.std.proofs.Common.{length, take, min, ap, ◌∙◌, arith, rules}
use borrow.Author.Tests.{tests}
use Rattle.std.proofs.lemmas.Iterator.Consumers.{sum_by_from_yields_List, fits_by_from_yields_list}
use Rattle.text.specs.Split.{parted}
use Rattle.sheet.proofs.Fields.{wides_given, wide, offset_is, offset_fits}
use Rattle.sheet.proofs.reading.offset.Goals as goal

pub sum-before-requires-clause-fits : goal.sum-before-requires-clause-fits
sum-before-requires-clause-fits c =
    fits_by_from_yields_list wide (take c.args.field (parted 9 c.args.line.now)) c.map.result _
    (wides_given _ c.args.line.now c.split.ensures.rest c.split.ensures.done c.split.ensures.closure c.args.field c.take.ensures.source c.take.ensures.count
    _ c.map.ensures.source c.map.ensures.closure (λ x r q k. search (rules, tests)) (λ x r q k. search rules))
    (omega (arith, offset_fits c.args.line.now c.args.field))

pub returns : goal.returns
returns c =
    c.min.ensures ∙ ap (λ n. min n (length c.args.line.now))
    (sum_by_from_yields_List wide (take c.args.field (parted 9 c.args.line.now)) c.map.result _ c.sum-before.ensures.ran
    (wides_given _ c.args.line.now c.split.ensures.rest c.split.ensures.done c.split.ensures.closure c.args.field c.take.ensures.source c.take.ensures.count
    _ c.map.ensures.source c.map.ensures.closure (λ x r q k. search (rules, tests)) (λ x r q k. search rules)))
    ∙ offset_is c.args.line.now c.args.field
