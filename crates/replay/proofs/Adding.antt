-- A text that is printed into a place with room for it, and then added to what is shown.
use Rattle.std.proofs.Common.{◌≡◌, ℕ, ◌≤◌, cond, leb, List, ◌++◌, length, take, is_ok, IfOk, Ok, Err, Result, refl, ap, ◌∙◌}
use Rattle.std.proofs.lemmas.List.{take_at}
use Rattle.std.proofs.lemmas.Bool.{cond-true, le-leb}
use Rattle.sheet.specs.Texts.{sheet_answer}
use Rattle.sheet.specs.declared.fault.SheetFault.{SheetFault}
use Rattle.text.specs.Print.{put_at, printed_into}

printed : (xs t : List ℕ) → length t ≤ length xs → printed_into t xs ≡ (Ok (length t), put_at xs 0 t)
unfolding printed_into
printed xs t room = cond-true (leb (length t) (length xs)) _ _ (le-leb _ _ room)

pub counted : (xs t : List ℕ) (n : ℕ) → Ok n ≡ sheet_answer (printed_into t xs).0 → length t ≤ length xs → n ≡ length t
counted xs t n e room =
    let same : Ok n ≡ Ok (length t) = e ∙ ap (λ d. sheet_answer d.0) (printed xs t room) in
    cc

pub not_refused : (xs t : List ℕ) (f : SheetFault) → Err f ≡ sheet_answer (printed_into t xs).0 → length t ≤ length xs → ⊥
not_refused xs t f e room =
    let same : Err f ≡ Ok (length t) = e ∙ ap (λ d. sheet_answer d.0) (printed xs t room) in
    cc

-- the place's front is the text
pub front : (xs t : List ℕ) (n : ℕ) (place : List ℕ) → Ok n ≡ sheet_answer (printed_into t xs).0 → place ≡ (printed_into t xs).1
    → length t ≤ length xs → take n place ≡ t
unfolding put_at
front xs t n place e q room =
    ap (λ k. take k place) (counted xs t n e room) ∙ (ap (take (length t)) (q ∙ ap (λ d. d.1) (printed xs t room)) ∙ take_at t _ (length t) refl)

-- where there was memory, what was added stands at the end
pub added : {T E : Type 0} (r : Result T E) (old new more t : List ℕ) → new ≡ cond (is_ok r) (old ++ more) old → more ≡ t
    → IfOk r (λ _. new ≡ old ++ t)
added (Ok u) old new more t e q = e ∙ ap (λ l. old ++ l) q
added (Err f) old new more t e q = tt
