-- The limits of what controllers are configured with. Assumes nothing.
use Rattle.std.specs.Prelude.{ℕ, ◌≤◌}

-- An initial window, in bytes: 6,000, which is four datagrams of 1,500, to 16,777,216, up to which every whole number is an f32.
abbrev pub InWindow : ℕ → Type 0
InWindow n = (6000 ≤ n) × (n ≤ 16777216)
