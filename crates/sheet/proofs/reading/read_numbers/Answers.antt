use Rattle.std.proofs.Common.{◌+◌, length, Err, ap, ◌∙◌, arith, rules}
use borrow.Author.Tests.{tests}
use Rattle.std.proofs.lemmas.List.{length_push}
use Rattle.std.proofs.lemmas.Result.{err_from_is_err_and}
use Rattle.text.specs.Split.{parted}
use Rattle.text.proofs.Splits.{length-parted}
use Rattle.sheet.specs.Reading.{on_ok}
use Rattle.sheet.proofs.Fields.{fields_counted, turn_is, end_is, values_first, on_ok_id, values_end, values_left, turn_within, turn_stop, turn_more}
use Rattle.sheet.proofs.reading.read_numbers.Goals as goal

pub loop-k-init : goal.loop-k-init
loop-k-init c = record {
  count = ap length c.requires.empty;
  values = ap (λ ns. values_left c.args.kind (parted 9 c.args.line.now) ns 0) c.requires.empty ∙ on_ok_id _ ∙ values_first c.args.kind c.args.line.now (omega arith);
}

pub push-requires : goal.push-requires
push-requires c =
    let turn = turn_is c.args.line.now c.loop-k.yielded _ c.loop-k.yielded_by _ _ c.next.ensures.steps (c.in-Some.k, c.in-Some.bytes) c.in-Some.is
    (fields_counted c.args.line.now c.requires.kind c.requires.some _ c.split.ensures.rest c.split.ensures.done c.split.ensures.closure
    c.enumerate-k-items.ensures.source c.enumerate-k-items.ensures.count c.into_iter-k-iterator.ensures.into_iter_gives (λ x r q k. search (rules, tests))) in
    let within = turn_within (parted 9 c.args.line.now) (length c.loop-k.yielded) (c.in-Some.k, c.in-Some.bytes.now) turn in
    (omega arith, omega (arith, within, length-parted 9 c.args.line.now, c.loop-k.invariant.count))

pub returns-in_err-value_at-clause-value : goal.returns-in_err-value_at-clause-value
returns-in_err-value_at-clause-value c =
    let turn = turn_is c.args.line.now c.loop-k.yielded _ c.loop-k.yielded_by _ _ c.next.ensures.steps (c.in-Some.k, c.in-Some.bytes) c.in-Some.is
    (fields_counted c.args.line.now c.requires.kind c.requires.some _ c.split.ensures.rest c.split.ensures.done c.split.ensures.closure
    c.enumerate-k-items.ensures.source c.enumerate-k-items.ensures.count c.into_iter-k-iterator.ensures.into_iter_gives (λ x r q k. search (rules, tests))) in
    let fs = parted 9 c.args.line.now in
    let p = err_from_is_err_and c.from_residual.result c.from_residual.ensures.1 in
    ap (on_ok (λ _. c.loop-k.numbers.items)) (p.1 ∙ ap Err p.2)
    ∙ turn_stop fs (length c.loop-k.yielded) (c.in-Some.k, c.in-Some.bytes.now) turn c.args.kind c.loop-k.numbers.items c.in_err-value_at.field-0.0 c.in_err-value_at.ensures
    ∙ c.loop-k.invariant.values

pub loop-k-preserved : goal.loop-k-preserved
loop-k-preserved c =
    let turn = turn_is c.args.line.now c.loop-k.yielded _ c.loop-k.yielded_by _ _ c.next.ensures.steps (c.in-Some.k, c.in-Some.bytes) c.in-Some.is
    (fields_counted c.args.line.now c.requires.kind c.requires.some _ c.split.ensures.rest c.split.ensures.done c.split.ensures.closure
    c.enumerate-k-items.ensures.source c.enumerate-k-items.ensures.count c.into_iter-k-iterator.ensures.into_iter_gives (λ x r q k. search (rules, tests))) in
    let fs = parted 9 c.args.line.now in
    let n = c.in_ok-value_at.field-0 in
    let more = length_push c.loop-k.yielded (c.in-Some.k, c.in-Some.bytes) in
    record {
      count = omega (arith, more, ap length c.push.ensures.items, length_push c.loop-k.numbers.items n, c.loop-k.invariant.count);
      values = ap (values_left c.args.kind fs c.push.new.self.items) more
          ∙ ap (λ ns. values_left c.args.kind fs ns (length c.loop-k.yielded + 1)) c.push.ensures.items
          ∙ turn_more fs (length c.loop-k.yielded) (c.in-Some.k, c.in-Some.bytes.now) turn c.args.kind c.loop-k.numbers.items n c.in_ok-value_at.ensures
          ∙ c.loop-k.invariant.values;
    }

pub returns : goal.returns
returns c =
    let seen = end_is c.args.line.now c.loop-k.yielded _ c.loop-k.yielded_by _ _ c.next.ensures.steps c.in-None.is
    (fields_counted c.args.line.now c.requires.kind c.requires.some _ c.split.ensures.rest c.split.ensures.done c.split.ensures.closure
    c.enumerate-k-items.ensures.source c.enumerate-k-items.ensures.count c.into_iter-k-iterator.ensures.into_iter_gives (λ x r q k. search (rules, tests))) in
    record {
      value = values_end c.args.kind c.args.line.now c.loop-k.numbers.items (length c.loop-k.yielded) seen ∙ c.loop-k.invariant.values;
      len = c.loop-k.invariant.count ∙ seen;
    }
