-- A token bucket for datagrams, and what holds of it after any calls. Assumes nothing.
use Rattle.std.specs.Prelude.{ℕ, ◌*◌, ◌≤◌}

pub record Bucket : Type 0 where
  -- the largest burst for the window and the MTU that were last seen
  pub capacity : ℕ
  pub last_window : ℕ
  pub last_mtu : ℕ
  -- the bytes that may leave at once, and when they were last counted
  pub tokens : ℕ
  pub prev : ℕ

-- the bucket never holds more than its capacity, which is from 10 to 256 datagrams
abbrev pub Bounded : Bucket → Type 0
Bounded b = (b.tokens ≤ b.capacity) × (10 * b.last_mtu ≤ b.capacity) × (b.capacity ≤ 256 * b.last_mtu)
