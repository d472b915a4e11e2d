-- Windows of time: the minutes of a station from a minute up to, but not with, a minute.
use Rattle.std.specs.Prelude.{ℕ, ◌+◌, max, Bool, if◌then◌else◌, Some, None, Option, false, ◌&&◌, ◌||◌, List, [], ◌∷◌, ◌==◌, nat_le, nat_lt}
use Rattle.hours.specs.declared.window.Window.{Window}

-- the station and the minutes are within their limits
abbrev pub lawful : Window → Bool
lawful w = nat_le w.station 15 && (nat_lt w.from w.to && nat_le w.to 2000000)

-- a step of length n on station s that begins at minute b fits inside the window
abbrev pub fits : Window → ℕ → ℕ → ℕ → Bool
fits w s b n = s == w.station && (nat_le w.from b && nat_le (b + n) w.to)

-- the least begin at `from` or later with which it fits inside the window, if there is one
abbrev pub begin_from : Window → ℕ → ℕ → ℕ → Option ℕ
begin_from w s from n =
    let begin = max from w.from in
    if s == w.station && nat_le (begin + n) w.to then Some begin else None

-- it fits inside a single one of the windows
abbrev pub fits_one : List Window → ℕ → ℕ → ℕ → Bool
fits_one [] s b n = false
fits_one (w ∷ ws) s b n = fits w s b n || fits_one ws s b n

-- a step on station s that takes the minutes from b up to, but not with, e overlaps the window
abbrev pub meets : Window → ℕ → ℕ → ℕ → Bool
meets w s b e = s == w.station && (nat_lt b w.to && nat_lt w.from e)

-- a step of length n on station s that begins at minute b overlaps the window
abbrev pub overlaps : Window → ℕ → ℕ → ℕ → Bool
overlaps w s b n = meets w s b (b + n)
