-- NewReno on its whole state, as plain data, call by call. Assumes nothing.
--
-- Below the threshold the window grows by the bytes acknowledged (slow start), from it on by a datagram for each window of bytes
-- acknowledged (`specs/ByteCounting.antt`). An acknowledgement of what was sent no later than the last loss was found, or while the
-- application was the limit, changes nothing but its total. A loss of what was sent later multiplies the window by the factor, down to two
-- datagrams, and makes that the threshold; persistent congestion takes the window to two datagrams.
use Rattle.std.specs.Prelude.{◌≡◌, ℕ, ◌+◌, ◌-◌, ◌*◌, ◌^◌, ◌<◌, ◌≤◌, max, Bool, false, cond, ◌||◌, pos, Some, None, Option, nat_le, nat_lt, Float}
use Rattle.std.specs.Float.{binary32}
use Rattle.std.specs.Float.Ieee.{of_int, mul, to_unsigned}
use Rattle.values.specs.Saturating.{sum, most}
use Rattle.rtt.specs.Estimates.{Estimate}
use Rattle.congestion.specs.Makers.{nothing}
use Rattle.congestion.specs.Meaning.{Meaning, add_sent, add_acked, add_lost}
use Rattle.congestion.specs.Rules.{Rules}
use Rattle.congestion.specs.declared.metrics.ControllerMetrics.{ControllerMetrics}
use Rattle.congestion.specs.declared.totals.Totals.{Totals}
use Rattle.new_reno.specs.ByteCounting.{Counting, counted}
use Rattle.new_reno.specs.declared.new_reno.NewReno.{NewReno}

pub record RenoModel : Type 0 where
  pub initial : ℕ
  pub factor : Float
  pub mtu : ℕ
  pub window : ℕ
  pub ssthresh : ℕ
  pub start : ℕ
  pub bytes_acked : ℕ
  pub totals : Totals

abbrev pub reno_model : NewReno → RenoModel
reno_model x =
    record {
      initial = x.config.initial_window.bytes;
      factor = x.config.loss_reduction_factor;
      mtu = x.cwnd.current_mtu.value;
      window = x.cwnd.window;
      ssthresh = x.cwnd.ssthresh;
      start = x.recovery_start_time;
      bytes_acked = x.bytes_acked;
      totals = x.totals;
    }

abbrev pub reno_meaning : RenoModel → Meaning
reno_meaning x = record { mtu = x.mtu; window = x.window; totals = x.totals }

abbrev pub reno_metrics : RenoModel → ControllerMetrics
reno_metrics x = record { congestion_window = x.window; ssthresh = Some x.ssthresh; pacing_rate = None }

-- a new controller: initial window, factor, time, MTU
abbrev pub opened : ℕ → Float → ℕ → ℕ → RenoModel
opened w f t m =
    record { initial = w; factor = f; mtu = m; window = w; ssthresh = most; start = t; bytes_acked = 0; totals = nothing }

-- x with other totals
abbrev pub with_totals : RenoModel → Totals → RenoModel
with_totals x c = record x { totals = c }

-- x with another window and count of bytes
abbrev pub grown : RenoModel → ℕ → ℕ → RenoModel
grown x w k = record x { window = w; bytes_acked = k }

-- x with another window, threshold and time of the last loss
abbrev pub recovering : RenoModel → ℕ → ℕ → ℕ → RenoModel
recovering x w h t = record x { window = w; ssthresh = h; start = t }

abbrev pub reno_sent : RenoModel → ℕ → ℕ → ℕ → RenoModel
reno_sent x _ n _ = with_totals x (add_sent x.totals n)

-- Slow start: the bytes by which the window passes the threshold count for congestion avoidance.
abbrev pub slow : RenoModel → ℕ → RenoModel
slow x w = grown x w (cond (nat_le x.ssthresh w) (w - x.ssthresh) x.bytes_acked)

-- Congestion avoidance, where k bytes are counted now.
abbrev pub avoid : RenoModel → ℕ → RenoModel
avoid x k = cond (nat_le x.window k) (grown x (sum x.window x.mtu) (k - x.window)) (grown x x.window k)

abbrev pub increase : RenoModel → ℕ → RenoModel
increase x n = cond (nat_lt x.window x.ssthresh) (slow x (sum x.window n)) (avoid x (sum x.bytes_acked n))

abbrev pub reno_ack : RenoModel → ℕ → ℕ → ℕ → Bool → Estimate → RenoModel
reno_ack x _ s n limited _ =
    cond (limited || nat_le s x.start) (with_totals x (add_acked x.totals n)) (increase (with_totals x (add_acked x.totals n)) n)

abbrev pub reno_end : RenoModel → ℕ → ℕ → Bool → Option ℕ → RenoModel
reno_end x _ _ _ _ = x

-- A window times the factor, as the nearest f32s have it, but no less than two datagrams.
abbrev pub reduced : ℕ → Float → ℕ → ℕ
reduced w f m = max (to_unsigned 64 (mul binary32 (of_int binary32 (pos w)) f)) (2 * m)

abbrev pub recover : RenoModel → ℕ → Bool → ℕ → RenoModel
recover x t persistent h = recovering x (cond persistent (2 * x.mtu) h) h t

abbrev pub reno_loss : RenoModel → ℕ → ℕ → Bool → ℕ → RenoModel
reno_loss x t s persistent n =
    cond (nat_le s x.start) (with_totals x (add_lost x.totals n))
    (recover (with_totals x (add_lost x.totals n)) t persistent (reduced x.window x.factor x.mtu))

abbrev pub reno_mtu : RenoModel → ℕ → RenoModel
reno_mtu x m = record x { mtu = m; window = max x.window (2 * m) }

abbrev pub reno_rules : Rules RenoModel
reno_rules =
    record {
      meaning = reno_meaning;
      metrics = reno_metrics;
      initial = λ x. x.initial;
      sends = reno_sent;
      acks = reno_ack;
      ends = reno_end;
      loses = reno_loss;
      resizes = reno_mtu;
    }

-- ---- the increase past slow start

abbrev pub counting : RenoModel → Counting
counting x = record { cwnd = x.window; bytes_acked = x.bytes_acked }

-- Past slow start, an acknowledgement that counts moves window and count as RFC 3465, section 2.1, says, where neither sum passes 2^64 - 1.
abbrev pub CountsBytes : RenoModel → ℕ → ℕ → Bool → RenoModel → Type 0
CountsBytes x s n limited x' =
    limited ≡ false
    → x.start < s
    → x.ssthresh ≤ x.window
    → x.bytes_acked + n < 2 ^ 64
    → x.window + x.mtu < 2 ^ 64
    → counting x' ≡ counted x.mtu (counting x) n
