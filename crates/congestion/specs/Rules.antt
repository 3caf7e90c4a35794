-- What a controller is and does, as functions on M, the plain data of its whole state. Assumes nothing.
use Rattle.std.specs.Prelude.{ℕ, Bool, Option}
use Rattle.rtt.specs.Estimates.{Estimate}
use Rattle.congestion.specs.Meaning.{Meaning}
use Rattle.congestion.specs.declared.metrics.ControllerMetrics.{ControllerMetrics}

pub record Rules (M : Type 0) : Type 0 where
  -- its five numbers, what it says of itself, and the window that it was configured to start from
  pub meaning : M → Meaning
  pub metrics : M → ControllerMetrics
  pub initial : M → ℕ
  -- The state after each call, from the state before and what the call was told.
  -- `on_sent`: time, bytes, packet number
  pub sends : M → ℕ → ℕ → ℕ → M
  -- `on_ack`: time, time of sending, bytes, whether the application was the limit, estimate of the round-trip time
  pub acks : M → ℕ → ℕ → ℕ → Bool → Estimate → M
  -- `on_end_acks`: time, bytes in flight, whether the application was the limit, largest packet number acknowledged
  pub ends : M → ℕ → ℕ → Bool → Option ℕ → M
  -- `on_congestion_event`: time, time of sending, whether congestion is persistent, bytes
  pub loses : M → ℕ → ℕ → Bool → ℕ → M
  -- `on_mtu_update`: MTU
  pub resizes : M → ℕ → M
