-- One vehicle more to move, and what a move needs.
use Rattle.std.proofs.Common.{◌≡◌, ℕ, suc, ◌+◌, ◌-◌, ◌<◌, ◌≤◌, Bool, true, false, cond, List, ◌++◌, length, Some, None, Option, refl, ap, arith, ltb-true}
use Rattle.hall.specs.declared.vehicle.Vehicle.{Vehicle}
use Rattle.walker.specs.declared.position.Position.{Position}
use Rattle.plans.specs.declared.row.Row.{Row}
use Rattle.walker.specs.Moves.{Query, begin_in, has_step, next_in, from_minute, CanMove, FleetOk}
use Rattle.walker.specs.Trail.{child_by, children, children_from}

-- one vehicle more
pub children_more : (E : Query) (J : List Vehicle) (p : Position) (rs : List Row) (v : ℕ) → v < length J →
    children_from E J p rs v ≡ child_by J p rs v (begin_in E J p v) ++ children_from E J p rs (v + 1)
children_more E J p rs v lt =
    let e : length J - v ≡ suc (length J - (v + 1)) = omega arith in
    ap (children E J p rs v) e

some_of_cond : (b : Bool) (x : Option ℕ) (r : ℕ) → cond b x None ≡ Some r → (b ≡ true) × (x ≡ Some r)
some_of_cond true x r e = (refl, e)
some_of_cond false x r e = let z : ◌≡◌ {A = ℕ} 0 1 = cc in let no : ⊥ = omega arith in absurd no

pub can_move : (E : Query) (J : List Vehicle) (p : Position) (v b : ℕ) →
    ((s m l b : ℕ) → E s m l ≡ Some b → b + l ≤ 2000000) →
    FleetOk J → v < length J → begin_in E J p v ≡ Some b → CanMove J p v b
can_move E J p v b ends ok lt e =
    let st = next_in J p v in
    let both = some_of_cond (has_step J p v) (E st.station (from_minute J p v) st.length) b e in
    record { fleet = ok; known = lt; left = ltb-true _ _ both.0; ends = ends _ _ _ _ both.1 }
