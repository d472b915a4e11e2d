-- What every board keeps, for the code of the walk.
use Rattle.std.proofs.Common.{get_or, ◌≡◌, ℕ, ◌+◌, ◌<◌, ◌≤◌, List, [], length, sym, refl, ap, ◌∙◌, inl, inr, add-one, arith}
use Rattle.std.proofs.lemmas.Bool.{cases_lt}
use Rattle.std.proofs.lemmas.List.{get_or_past, get_or_read}
use Rattle.std.proofs.lemmas.List.Sums.{prefix_len-le-length}
use Rattle.hall.specs.declared.step.StepRecord.{StepRecord}
use Rattle.hall.specs.Log.{Log, begun, next_step, vehicle_at, begin_of}
use Rattle.hall.specs.Hall.{hall_log, fleet_of}
use Rattle.hall.specs.declared.board.Board.{Board}
use Rattle.hall.specs.View.{steps_of}
use Rattle.hall.specs.declared.vehicle.Vehicle.{Vehicle}
use Rattle.hall.proofs.Kept.{kept}
use Rattle.plans.specs.Steps.{fleet, IsStep, begun_of}
use Rattle.plans.specs.Position.{Position as Place, root, free_after}
use Rattle.plans.proofs.Logs.{LogOk, log_ok}
use Rattle.plans.proofs.Limits.{root_small}
use Rattle.plans.proofs.Root.{root_within}
use Rattle.walker.specs.declared.position.Position.{Position}
use Rattle.walker.specs.Moves.{no_vehicle, vehicle_in, RecordOk, FleetOk, Sane, BegunWithin}
use Rattle.walker.specs.Roots.{Past, stood, stood_upto}
use Rattle.walker.specs.View.{Tells, RootOf}
use Rattle.walker.proofs.Views.{steps_told, tells}

-- the laws of a board's log
pub laws : (b : Board) → LogOk (hall_log b)
laws b = log_ok (hall_log b) (kept b)

fleet_within : (L : Log) (J : List Vehicle) → LogOk L → Tells L J → FleetOk J
fleet_within L J ok t = record { few = let a = t.all in let b = ok.few in omega arith; each = each }
  where
    step : (v k : ℕ) → v < length J → k < length (steps_of (vehicle_in J v)) → IsStep L v k
    step v k h l = record { known = let a = t.all in omega arith; within = let c = t.counts v h in omega arith }

    each : (v : ℕ) → v < length J → RecordOk (vehicle_in J v)
    each v h = record {
      few = let a = t.all in let c = t.counts v h in let s = ok.short v (omega arith) in omega arith;
      stations = λ k l. let e = t.stations v k h l in let b = ok.placed v k (step v k h l) in omega arith;
      lengths = λ k l. let e = t.lengths v k h l in let b = (ok.limits v k (step v k h l)).1 in omega arith;
    }

pub fleet_ok : (b : Board) → FleetOk (fleet_of b)
fleet_ok b = fleet_within (hall_log b) (fleet_of b) (laws b) (tells b)

pub begun_past : (L : Log) (v : ℕ) → fleet L ≤ v → begun_of L v ≡ 0
unfolding begun_of fleet
begun_past L v h = ap next_step (get_or_past L.vehicles v [] h)

pub free_past : (L : Log) (v : ℕ) → fleet L ≤ v → free_after L v (begun_of L v) ≡ 0
unfolding free_after
free_past L v h = ap (free_after L v) (begun_past L v h)

root_free : (L : Log) (v : ℕ) → fleet L ≤ v → (root L).free_vehicle v ≡ 0
unfolding root
root_free L v h = free_past L v h

pub root_sane : (b : Board) (p : Position) → RootOf (hall_log b) p → Sane p
root_sane b p ro =
    let L = hall_log b in
    let small = root_small L (laws b) in
    record {
      clock = let e = ap (λ (P : Place). P.clock) ro.is in let c = small.clock in omega arith;
      free = λ v.
          let e = ap (λ (P : Place). P.free_vehicle v) ro.is in
          elim (cases_lt v (fleet L)) [ inl l ↦ (let c = small.free v l in omega arith) | inr l ↦ (let c = root_free L v l in omega arith) ];
      sized = ro.fits.vehicles;
    }

begun_root : (L : Log) (v : ℕ) → (root L).begun v ≡ begun_of L v
unfolding root
begun_root L v = refl

pub root_begun_within : (b : Board) (p : Position) → RootOf (hall_log b) p → BegunWithin (fleet_of b) p
root_begun_within b p ro = record {
  each = λ v h.
      let L = hall_log b in
      let e = ap (λ (P : Place). P.begun v) ro.is in
      let r = begun_root L v in
      let w = root_within L v in
      let c = (tells b).counts v h in
      omega arith;
  sized = ro.fits.vehicles;
}

-- no more steps are begun than there are
pub begun_fits : (rs : List StepRecord) → next_step rs ≤ length rs
begun_fits rs = prefix_len-le-length begun rs

-- what is recorded of a vehicle is past
all_past : (b : Board) (v : ℕ) → v < length (fleet_of b) → Past (hall_log b).minute (vehicle_in (fleet_of b) v)
all_past b v h =
    let t = tells b in
    let ok = laws b in
    record {
      low = ok.now_small;
      ok = (fleet_ok b).each v h;
      begins = λ k l.
          let e = ap begin_of (t.progress v k h l) in
          let c = t.counts v h in
          let a = t.all in
          let p = ok.past v k (record { known = omega arith; within = omega arith }) in
          let n = ok.now_small in
          omega arith;
    }

-- one vehicle more, as the code reads its record from the vehicles, and the minute
module _ (b : Board) (J : List Vehicle) (w : Vehicle) (minute v : ℕ) (all : J ≡ fleet_of b) (known : v < length J) (read : w ≡ get_or J v w)
    (now : minute ≡ (hall_log b).minute) where
  here : v < length (fleet_of b)
  here = omega (arith, ap length all, known)

  is : w ≡ vehicle_in (fleet_of b) v
  is = get_or_read J v w known read no_vehicle ∙ ap (λ xs. vehicle_in xs v) all

  pub stands_past : Past minute w
  stands_past = rw now (rw is (all_past b v here))

  pub stands_more : (p q : Position) → p ≡ stood_upto (hall_log b) (fleet_of b) v → q ≡ stood minute w v (next_step (steps_of w)) p → q ≡ stood_upto (hall_log b) (fleet_of b) (v + 1)
  unfolding begun_of
  stands_more p q e f =
      f ∙ ap (λ m. stood m w v (next_step (steps_of w)) p) now
      ∙ ap (λ x. stood (hall_log b).minute x v (next_step (steps_of x)) p) is
      ∙ ap (λ r. stood (hall_log b).minute (vehicle_in (fleet_of b) v) v (next_step r) p) (sym (steps_told b v here))
      ∙ ap (stood (hall_log b).minute (vehicle_in (fleet_of b) v) v (next_step (vehicle_at (hall_log b) v))) e
      ∙ ap (stood_upto (hall_log b) (fleet_of b)) (sym (add-one v))
