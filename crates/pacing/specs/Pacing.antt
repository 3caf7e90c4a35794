-- A token bucket for datagrams. Assumes nothing.
--
-- Its capacity is what the window lets out in 2 ms at one window a round trip, but from 10 to 256 datagrams; it changes
-- with the window and the MTU, and not with the round-trip time alone. Tokens come at 5/4 of a window for each round trip
-- (RFC 9002, section 7.7, with N = 1.25), in floats and cut to whole bytes, up to the capacity. A sender that lacks
-- tokens is told when the bucket will be full, or will have what it is about to send. Pacing stands still where the
-- window is above 32 bits or the round-trip time is 0. A time that goes back earns nothing.
use Rattle.std.specs.Prelude.{ℕ, ◌-◌, ◌*◌, ◌/◌, min, max, Bool, cond, ◌&&◌, ◌||◌, pos, Some, None, Ok, Err, Option, Result, ◌==◌, from_bits, nat_le, nat_lt, Float}
use Rattle.std.specs.Float.{binary64}
use Rattle.std.specs.Float.Ieee.{of_int, mul, div, to_unsigned}
use Rattle.numbers.specs.Seconds.{in_seconds}
use Rattle.refusals.specs.declared.Layer.TheVariants.{Pacer}
use Rattle.std.specs.declared.convert.Infallible.{Infallible as NoPermit}
use Rattle.refusals.specs.declared.Refusal.{Refusal}
use Rattle.refusals.specs.declared.Refusal.TheVariants.{OutsideLimit}
use Rattle.values.specs.Saturating.{sum, product}
use Rattle.pacing.specs.Buckets.{Bucket}

-- the capacity
abbrev pub burst : ℕ → ℕ → ℕ → ℕ
burst rtt window mtu = max (10 * mtu) (min (product window 2000000 / max rtt 1) (256 * mtu))

abbrev pub opened : ℕ → ℕ → ℕ → ℕ → Bucket
opened rtt window mtu time =
    record { capacity = burst rtt window mtu; last_window = window; last_mtu = mtu; tokens = burst rtt window mtu; prev = time }

abbrev pub with_tokens : Bucket → ℕ → ℕ → Bucket
with_tokens p n time = record p { tokens = n; prev = time }

-- a datagram takes its size, or what is there
abbrev pub sent : Bucket → ℕ → Bucket
sent p n = with_tokens p (p.tokens - n) p.prev

-- a new window or MTU brings a new capacity, which the tokens do not pass
abbrev pub resized : Bucket → ℕ → ℕ → ℕ → Bucket
resized p rtt window mtu =
    cond (window == p.last_window && mtu == p.last_mtu) p
    (record p {
      capacity = burst rtt window mtu;
      last_window = window;
      last_mtu = mtu;
      tokens = min (burst rtt window mtu) p.tokens;
    })

-- 1.25
abbrev pub five_quarters : Float
five_quarters = from_bits binary64 0x3ff4_0000_0000_0000

-- window × 1.25 × (elapsed / round trip), from the left
abbrev pub earned : ℕ → ℕ → ℕ → ℕ
earned rtt window elapsed =
    to_unsigned 64 (mul binary64 (mul binary64 (of_int binary64 (pos window)) five_quarters) (div binary64 (in_seconds elapsed) (in_seconds rtt)))

abbrev pub refilled : Bucket → ℕ → ℕ → ℕ → Bucket
refilled p rtt window time = with_tokens p (min (sum p.tokens (earned rtt window (time - p.prev))) p.capacity) time

-- when the missing tokens will be there: the divisions come before the product
abbrev pub ready : Bucket → ℕ → ℕ → ℕ → ℕ
ready p rtt window size = sum p.prev (product rtt (max size p.capacity - p.tokens) / window / 5 * 4)

-- a window of 0, a round-trip time above ten seconds, or a size above 65,535
abbrev pub refuses : ℕ → ℕ → ℕ → Bool
refuses rtt size window = (window == 0 || nat_lt 10000000000 rtt) || nat_lt 65535 size

-- nothing is counted: there are tokens enough, or pacing stands still
abbrev pub free : Bucket → ℕ → ℕ → ℕ → Bool
free p rtt size window = (nat_le size p.tokens || nat_lt 4294967295 window) || rtt == 0

abbrev pub counted : Bucket → ℕ → ℕ → ℕ → ℕ → Bucket
counted p rtt size window time = cond (free p rtt size window) p (refilled p rtt window time)

abbrev pub wait : Bucket → ℕ → ℕ → ℕ → ℕ → Option ℕ
wait p rtt size window time =
    cond (free p rtt size window) None
    (cond (nat_le size (refilled p rtt window time).tokens) None (Some (ready (refilled p rtt window time) rtt window size)))

-- the pacer after `delay`; a refusal changes nothing
abbrev pub delayed : Bucket → ℕ → ℕ → ℕ → ℕ → ℕ → Bucket
delayed p rtt size mtu window time =
    cond (refuses rtt size window) p (counted (resized p rtt window mtu) rtt size window time)

-- its answer; a refusal is a 1, layer pacer
abbrev pub told : Bucket → ℕ → ℕ → ℕ → ℕ → ℕ → Result (Option ℕ) (Refusal NoPermit)
told p rtt size mtu window time =
    cond (refuses rtt size window) (Err (OutsideLimit Pacer)) (Ok (wait (resized p rtt window mtu) rtt size window time))
