use Rattle.std.proofs.Common.{◌≡◌, refl, ◌++◌, [], ◌∷◌, length, ap, ◌∙◌, sym, arith, below_more}
use Rattle.std.proofs.lemmas.List.FromFn.{map-range_with_len_more, length-map-range_with_len, get_or-map-range_with_len}
use Rattle.std.proofs.lemmas.List.{get_or_read_under}
use Rattle.walker.specs.Moves.{no_vehicle}
use Rattle.walker.specs.Bounds.{finish_by, finish_in}
use Rattle.walker.proofs.position.Position.bound.Goals as goal

pub push-requires : goal.push-requires
push-requires g c =
    let few = c.args.by.now.ok.few in
    omega (arith, ap length c.loop-v.invariant.0, length-map-range_with_len (finish_in c.args.by.now.fleet.now c.args.self.now) 0 c.loop-v.v)

pub loop-v-preserved : goal.loop-v-preserved
loop-v-preserved g c =
    let f = finish_in c.args.by.now.fleet.now c.args.self.now in
    let v = c.loop-v.v in
    let at = get_or_read_under c.args.by.now.fleet.now v _ c.vehicle-item.result no_vehicle c.vehicle-item.is c.loop-v-test.true refl in
    let e : c.finish_of.result ≡ f v = c.finish_of.ensures.value ∙ ap (λ w. finish_by w c.args.self.now v) at in (
      c.push.ensures.items
          ∙ ap (λ xs. xs ++ c.finish_of.result ∷ []) c.loop-v.invariant.0
          ∙ rw e (sym (map-range_with_len_more f 0 v v (omega arith))),
      below_more _ _ c.loop-v.invariant.1 (rw (← e) c.finish_of.ensures.small),
    )

pub score_of-requires : goal.score_of-requires
score_of-requires g c =
    let f = finish_in c.args.by.now.fleet.now c.args.self.now in
    let n = c.loop-v.v in
    let few = c.args.by.now.ok.few in
    let items = c.as_slice.ensures.items ∙ c.loop-v.invariant.0 in
    let size = ap length items ∙ length-map-range_with_len f 0 n in
    record {
      few = omega arith;
      small = λ k h. rw items (rw (get_or-map-range_with_len f 0 n k k 0 (omega arith) (omega arith)) (c.loop-v.invariant.1 k (omega arith)));
    }
