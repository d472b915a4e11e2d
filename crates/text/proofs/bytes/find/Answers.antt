use Rattle.std.proofs.Common.{◌+◌, length, drop, eqb, ap, ◌∙◌, rules, tests}
use Rattle.std.proofs.lemmas.Iterator.{YieldsList-from_slice}
use Rattle.std.proofs.lemmas.Iterator.Search.{position_from_yields_List}
use Rattle.std.proofs.lemmas.List.{take_rest, drop_min}
use Rattle.text.specs.Split.{before}
use Rattle.text.proofs.Pieces.{parts, ends}
use Rattle.text.proofs.Splits.{first_place}
use Rattle.text.proofs.bytes.find.Goals as goal

pub returns-clause-is : goal.returns-clause-is
returns-clause-is c =
    let s = c.args.s.now in
    let rest = take_rest s c.min.result ∙ ap (λ i. drop i s) c.min.ensures ∙ drop_min c.args.from s in
    let first = position_from_yields_List (λ x. eqb x c.args.b) _ _ c.position.result c.position.ensures.ran (YieldsList-from_slice _ cc) (λ x r q k. search (rules, tests)) in
    ap (λ n. c.args.from + n) (c.unwrap_or.ensures ∙ first_place c.args.b _ c.position.result first ∙ ap (λ l. length (before c.args.b l)) rest)

pub returns-clause-parts : goal.returns-clause-parts
returns-clause-parts c = parts c.args.b c.args.s.now

pub returns-clause-ends : goal.returns-clause-ends
returns-clause-ends c = ends c.args.b c.args.s.now
