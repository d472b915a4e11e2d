-- What fitting inside a window and overlapping it mean, minute by minute.
use Rattle.std.specs.Prelude.{◌≡◌, ℕ, ◌+◌, ◌<◌, ◌≤◌, true}
use Rattle.hours.specs.Window.{fits, overlaps}
use Rattle.hours.specs.declared.window.Window.{Window}

-- minute m is one of those from a up to, but not with, z
abbrev pub Among : ℕ → ℕ → ℕ → Type 0
Among a z m = (a ≤ m) × (m < z)

-- a step of length n on station s that begins at minute b is on the window's station, and has no minute but the window's
abbrev pub Inside : Window → ℕ → ℕ → ℕ → Type 0
Inside w s b n = (s ≡ w.station) × ((m : ℕ) → Among b (b + n) m → Among w.from w.to m)

-- it is on the window's station, and has a minute of the window's
abbrev pub Sharing : Window → ℕ → ℕ → ℕ → Type 0
Sharing w s b n = (s ≡ w.station) × ((m : ℕ) × Among b (b + n) m × Among w.from w.to m)

-- the tests tell these, of every step that has a minute
pub record MinuteByMinute (w : Window) : Type 0 where
  pub inside : (s b n : ℕ) → 1 ≤ n → (fits w s b n ≡ true → Inside w s b n) × (Inside w s b n → fits w s b n ≡ true)
  pub sharing : (s b n : ℕ) → 1 ≤ n → (overlaps w s b n ≡ true → Sharing w s b n) × (Sharing w s b n → overlaps w s b n ≡ true)
