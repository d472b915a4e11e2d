-- The scores of the two goals. Less is better.
use Rattle.std.specs.Prelude.{ℕ, max, Bool, true, false, List, ℤ, pos, ◌-ℤ◌, Some, None, Option, int_le, slice_index}
use Rattle.std.specs.Int.{int_max}

-- the latest finish, with one vehicle more
abbrev pub with_finish : ℕ → ℕ → ℕ → ℕ
with_finish score vehicle finish = max score finish

-- the lateness of a vehicle, by the due minutes of all: finish minus due minute, negative where it is early
abbrev pub lateness_of : List ℕ → ℕ → ℕ → ℤ
lateness_of due vehicle finish = pos finish -ℤ pos (slice_index due vehicle)

-- the greater of a score, which may be absent, and a lateness
abbrev pub greater : Option ℤ → ℤ → ℤ
greater None z = z
greater (Some y) z = int_max y z

-- the greatest lateness, with one vehicle more
abbrev pub with_lateness : List ℕ → Option ℤ → ℕ → ℕ → Option ℤ
with_lateness due score vehicle finish = Some (greater score (lateness_of due vehicle finish))

-- whether the first lateness is no worse: absent is no worse than every number
abbrev pub no_later : Option ℤ → Option ℤ → Bool
no_later None b = true
no_later (Some x) None = false
no_later (Some x) (Some y) = int_le x y
