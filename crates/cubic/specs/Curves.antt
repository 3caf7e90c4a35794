-- The curves of CUBIC (RFC 8312, section 4): seconds and bytes as f64s, each operation rounded once, in this order. Assumes nothing.
--
-- W_max is the window before the last loss, C is 0.4 and beta_cubic 0.7. A curve counts datagrams, so W_max is divided by the datagram's size
-- first, and the curve's value multiplied by it last.
--
--   K = cbrt(W_max * (1 - beta_cubic) / C)                                               equation 2
--   W_cubic(t) = C * (t - K)^3 + W_max                                                   equation 1
--   W_est(t) = W_max * beta_cubic + 3 * (1 - beta_cubic) / (1 + beta_cubic) * (t / RTT)  equation 4
--
-- The cube root is cut to a multiple of 2^-14 (the `numbers` crate says how), the cube is (d * d) * d, and in W_est the quotient is multiplied
-- by t before it is divided by the round-trip time.
use Rattle.std.specs.Prelude.{ℕ, max, cond, pos, from_bits, nat_lt, Float}
use Rattle.std.specs.Float.{binary64}
use Rattle.std.specs.Float.Ieee.{of_int, add, sub, mul, div, lt, to_unsigned}
use Rattle.values.specs.Saturating.{sum}
use Rattle.numbers.specs.Root.{cubed, cube_root}
use Rattle.numbers.specs.Seconds.{in_seconds}
use Rattle.cubic.specs.declared.cubic.State.{State}

-- the f64 nearest to a whole number
abbrev pub real : ℕ → Float
real n = of_int binary64 (pos n)

-- 0.7, 0.4, 0.0, 1.0, 2.0 and 3.0 as f64s, by their bits
abbrev pub beta : Float
beta = from_bits binary64 0x3fe6_6666_6666_6666

abbrev pub scale : Float
scale = from_bits binary64 0x3fd9_9999_9999_999a

abbrev pub naught : Float
naught = from_bits binary64 0

abbrev pub single : Float
single = from_bits binary64 0x3ff0_0000_0000_0000

abbrev pub double : Float
double = from_bits binary64 0x4000_0000_0000_0000

abbrev pub triple : Float
triple = from_bits binary64 0x4008_0000_0000_0000

-- W_max in datagrams
abbrev pub peak : State → ℕ → Float
peak s mtu = div binary64 s.w_max (real mtu)

-- equation 2
abbrev pub epoch_length : State → ℕ → Float
epoch_length s mtu = cube_root (div binary64 (mul binary64 (peak s mtu) (sub binary64 single beta)) scale)

-- equation 1, t nanoseconds after the epoch began
abbrev pub w_cubic : State → ℕ → ℕ → Float
w_cubic s t mtu =
    mul binary64 (add binary64 (mul binary64 scale (cubed (sub binary64 (in_seconds t) s.k))) (peak s mtu)) (real mtu)

-- equation 4
abbrev pub w_est : State → ℕ → ℕ → ℕ → Float
w_est s t rtt mtu =
    mul binary64
    (add binary64 (mul binary64 (peak s mtu) beta)
    (div binary64 (mul binary64 (div binary64 (mul binary64 triple (sub binary64 single beta)) (add binary64 single beta)) (in_seconds t)) (in_seconds rtt)))
    (real mtu)

-- What the curves make of a window w: where W_cubic is below W_est (the TCP-friendly region) the larger of w and W_est; elsewhere, where
-- W_cubic is above w, w and (W_cubic - w) / w of a datagram (sections 4.2 to 4.4).
abbrev pub followed : ℕ → ℕ → Float → Float → ℕ
followed w mtu cubic est =
    cond (lt cubic est) (max w (to_unsigned 64 est))
    (cond (nat_lt w (to_unsigned 64 cubic)) (sum w (to_unsigned 64 (mul binary64 (div binary64 (sub binary64 cubic (real w)) (real w)) (real mtu)))) w)

-- Where a window w goes, t nanoseconds after the epoch began: W_cubic is taken a round-trip time later, W_est is not.
abbrev pub target : State → ℕ → ℕ → ℕ → ℕ → ℕ
target s w t rtt mtu = followed w mtu (w_cubic s (sum t rtt) mtu) (w_est s t rtt mtu)

-- 0.7 of a number, cut (section 4.5)
abbrev pub scaled_down : ℕ → ℕ
scaled_down n = to_unsigned 64 (mul binary64 (real n) beta)

-- W_max at a loss: the window, and 0.85 of it where it had not come back to the W_max before (fast convergence, section 4.6)
abbrev pub converged : Float → Float → Float
converged before w = cond (lt w before) (div binary64 (mul binary64 w (add binary64 single beta)) double) w
