-- The window that a gain aims at. Assumes nothing.
--
-- The bandwidth-delay product is the minimum RTT in whole microseconds times the bandwidth. The window is the gain times that, divided by
-- 1,000,000, cut to bytes, each operation on f64s and rounded once, but no less than the smallest window; where it is 0, as before the
-- first sample of the bandwidth, it is the initial one.
use Rattle.std.specs.Prelude.{ℕ, ◌/◌, max, cond, ◌==◌, Float}
use Rattle.std.specs.Float.{binary64}
use Rattle.std.specs.Float.Ieee.{mul, div, to_unsigned}
use Rattle.values.specs.Saturating.{product}
use Rattle.bandwidth.specs.Bandwidth.{estimate}
use Rattle.bbr_state.specs.Gains.{real, million, reduced_gain}
use Rattle.bbr_state.specs.declared.state.BbrState.{BbrState}

abbrev pub bandwidth : BbrState → ℕ
bandwidth s = estimate s.max_bandwidth

abbrev pub scaled : BbrState → Float → ℕ
scaled s gain =
    to_unsigned 64 (div binary64 (mul binary64 gain (real (product (s.flow.min_rtt / 1000) (bandwidth s)))) million)

abbrev pub target : BbrState → Float → ℕ
target s gain = cond (scaled s gain == 0) s.limits.init_cwnd (max (scaled s gain) s.limits.min_cwnd)

-- while the minimum RTT is measured, 0.75 of the product
abbrev pub probe_target : BbrState → ℕ
probe_target s = target s reduced_gain
