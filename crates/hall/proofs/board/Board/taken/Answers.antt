use Rattle.std.proofs.Common.{◌≡◌, ◌||◌, Bool, List, [], ◌∷◌, map, rules, tests, refl, sym, ap, ◌∙◌}
use Rattle.std.specs.List.{list_any}
use Rattle.std.proofs.lemmas.Iterator.{YieldsList-from_slice}
use Rattle.std.proofs.lemmas.Iterator.Search.{any_from_yields_List}
use Rattle.hall.specs.declared.vehicle.Vehicle.{Vehicle}
use Rattle.hall.specs.Log.{occupies}
use Rattle.hall.specs.View.{steps_of}
use Rattle.hall.specs.Hall.{fleet_of}
use Rattle.hall.proofs.board.Board.taken.Goals as goal

-- whether some element's image passes
list_any-map : {X Y : Type 0} (p : Y → Bool) (f : X → Y) (xs : List X) → list_any p (map f xs) ≡ list_any (λ x. p (f x)) xs
list_any-map p f [] = refl
list_any-map p f (x ∷ xs) = ap (λ b. p (f x) || b) (list_any-map p f xs)

pub returns : goal.returns
returns c =
    any_from_yields_List (λ (w : Vehicle). occupies c.args.station (steps_of w)) _ _ c.any.result c.any.ensures.ran
    (YieldsList-from_slice (fleet_of c.args.self.now) cc) (λ x b q k. search (rules, tests))
    ∙ sym (list_any-map (occupies c.args.station) steps_of (fleet_of c.args.self.now))
