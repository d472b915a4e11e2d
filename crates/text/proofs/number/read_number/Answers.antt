use Rattle.std.proofs.Common.{slice_index_or, sym, arith}
use Rattle.text.proofs.Numbers.{digit_below, fits, shape_short, pow_top}
use Rattle.text.proofs.number.read_number.Goals as goal

pub overflow_mul-n : goal.overflow_mul-n
overflow_mul-n c =
    let short = shape_short c.args.field.now c.loop-b.invariant.shape in
    omega (arith, fits c.loop-b.b-index c.loop-b.n 0 (omega arith) c.loop-b.invariant.below (omega arith))

pub overflow_add-n : goal.overflow_add-n
overflow_add-n c =
    let short = shape_short c.args.field.now c.loop-b.invariant.shape in
    let d = digit_below (slice_index_or c.args.field.now c.loop-b.b-index 0) _ (sym c.in_ok-n.ensures) in
    omega (arith, fits c.loop-b.b-index c.loop-b.n c.in_ok-n.field-0 (omega arith) c.loop-b.invariant.below d)

pub returns-clause-small : goal.returns-clause-small
returns-clause-small c =
    let short = shape_short c.args.field.now c.loop-b.invariant.shape in
    pow_top c.loop-b.b-index c.loop-b.n (omega arith) c.loop-b.invariant.below
