use Rattle.std.proofs.Common.{◌≤◌, arith, rules}
use Rattle.replay.proofs.Adding.{counted, not_refused, front, added}
use Rattle.replay.proofs.replaying.add.Goals as goal

pub unreachable-requires : goal.unreachable-requires
unreachable-requires g c = not_refused _ _ _ c.in_default.ensures.answer (omega (arith, c.print.ensures.short, c.requires))

pub slice_bounds-place-end : goal.slice_bounds-place-end
slice_bounds-place-end g c =
    let n = counted _ _ c.in-Ok.n c.in-Ok.ensures.answer (omega (arith, c.print.ensures.short, c.requires)) in
    let le : c.in-Ok.n ≤ 128 = omega (arith, c.print.ensures.short, c.requires) in
    search rules

pub slice_bounds-extend_from_slice-end : goal.slice_bounds-extend_from_slice-end
slice_bounds-extend_from_slice-end g c =
    let n = counted _ _ c.in-Ok.n c.in-Ok.ensures.answer (omega (arith, c.print.ensures.short, c.requires)) in
    let le : c.in-Ok.n ≤ 128 = omega (arith, c.print.ensures.short, c.requires) in
    search rules

pub returns : goal.returns
returns g c = added _ _ _ _ _ c.extend_from_slice.ensures.items
    (front _ _ c.in-Ok.n c.print.new.place c.in-Ok.ensures.answer c.print.ensures.after (omega (arith, c.print.ensures.short, c.requires)))
