-- A move keeps a position sane, and leaves one step fewer.
use Rattle.std.proofs.Common.{◌≡◌, ℕ, zero, suc, ◌+◌, ◌*◌, ◌<◌, ◌≤◌, ◌≢◌, List, length, get_or, set, refl, ap, ◌∙◌, inl, inr, arith, length-set, get_or-set_other, get_or-set_same}
use Rattle.std.proofs.lemmas.Bool.{cases_eq, cases_lt}
use Rattle.std.proofs.lemmas.List.{set_past}
use Rattle.hall.specs.View.{steps_of}
use Rattle.hall.specs.declared.vehicle.Vehicle.{Vehicle}
use Rattle.walker.specs.declared.position.Position.{Position}
use Rattle.walker.specs.declared.position.Standing.{Standing}
use Rattle.walker.specs.Moves.{no_standing, advanced, begun_in, vehicle_in, next_in, CanMove, FleetOk, Sane, steps_left}

-- what holds wherever one reads a list stays if the new element keeps it
holds_set : {X : Type 0} (P : X → Type 0) (xs : List X) (i j : ℕ) (x d : X) → ((k : ℕ) → P (get_or xs k d)) → P x → P (get_or (set xs i x) j d)
holds_set P xs i j x d all here =
    elim (cases_eq j i) [
      | inr ne ↦ rw (get_or-set_other xs i j x d ne) (all j)
      | inl e ↦ elim (cases_lt i (length xs)) [
        | inl lt ↦ rw e (rw (get_or-set_same xs i x d lt) here)
        | inr past ↦ rw (set_past xs i x past) (all j)
      ]
    ]

pub moved_sane : (J : List Vehicle) (p : Position) (v b : ℕ) → CanMove J p v b → Sane p → Sane (advanced J p v b)
moved_sane J p v b m s = record {
  clock = omega (arith, m.ends);
  free = λ w. holds_set (λ (s : Standing). s.free ≤ 2000000) p.vehicles v w (record { begun = begun_in p v + 1; free = b + (next_in J p v).length }) no_standing s.free m.ends;
  sized = length-set p.vehicles v _ ∙ s.sized;
}

steps_same : (J : List Vehicle) (p : Position) (v b n : ℕ) → n ≤ v → steps_left J (advanced J p v b) n ≡ steps_left J p n
steps_same J p v b zero h = refl
steps_same J p v b (suc n) h =
    let ih = steps_same J p v b n (omega arith) in
    let ne : n ≢ v = omega arith in
    let same = ap (λ (s : Standing). s.begun) (get_or-set_other p.vehicles v n (record { begun = begun_in p v + 1; free = b + (next_in J p v).length }) no_standing ne) in
    omega arith

steps_fewer : (J : List Vehicle) (p : Position) (v b n : ℕ) → v < length p.vehicles → begun_in p v < length (steps_of (vehicle_in J v)) → v < n →
    steps_left J (advanced J p v b) n + 1 ≡ steps_left J p n
steps_fewer J p v b zero within left h = let no : ⊥ = omega arith in absurd no
steps_fewer J p v b (suc n) within left h =
    elim (cases_eq n v) [
      | inl e ↦
          let same = steps_same J p v b n (omega arith) in
          let here : begun_in (advanced J p v b) n ≡ begun_in p v + 1 = rw e (ap (λ (s : Standing). s.begun) (get_or-set_same p.vehicles v (record { begun = begun_in p v + 1; free = b + (next_in J p v).length }) no_standing within)) in
          let cnt : length (steps_of (vehicle_in J n)) ≡ length (steps_of (vehicle_in J v)) = ap (λ k. length (steps_of (vehicle_in J k))) e in
          let bg : begun_in p n ≡ begun_in p v = ap (begun_in p) e in
          omega arith
      | inr ne ↦
          let ih = steps_fewer J p v b n within left (omega arith) in
          let same = ap (λ (s : Standing). s.begun) (get_or-set_other p.vehicles v n (record { begun = begun_in p v + 1; free = b + (next_in J p v).length }) no_standing ne) in
          omega arith
    ]

pub moved_fewer : (J : List Vehicle) (p : Position) (v b : ℕ) → CanMove J p v b → Sane p →
    steps_left J (advanced J p v b) (length J) + 1 ≡ steps_left J p (length J)
moved_fewer J p v b m s =
    let known = m.known in
    let few = m.fleet.few in
    let sized = s.sized in
    steps_fewer J p v b (length J) (omega arith) m.left known

-- vehicles within the limits have at most 8 steps to a vehicle left
steps_le : (J : List Vehicle) (p : Position) (n : ℕ) → FleetOk J → n ≤ length J → steps_left J p n ≤ 8 * n
steps_le J p zero ok h = omega arith
steps_le J p (suc n) ok h =
    let ih = steps_le J p n ok (omega arith) in
    let few = (ok.each n (omega arith)).few in
    omega arith

pub steps_few : (J : List Vehicle) (p : Position) → FleetOk J → steps_left J p (length J) ≤ 192
steps_few J p ok = let le = steps_le J p (length J) ok (omega arith) in let few = ok.few in omega arith
