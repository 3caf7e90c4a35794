-- CUBIC on its whole state, as plain data, call by call. Assumes nothing.
--
-- Below the threshold the window grows by the bytes acknowledged (slow start). From it on the increments that the curves give
-- (`specs/Curves.antt`) are added up, and each time that they reach a datagram, the window grows by one and the sum starts again from 0.
-- The epoch begins with the last loss or, where there was none, with the first acknowledgement past slow start. An acknowledgement of what was
-- sent no later than the epoch began, or while the application was the limit, changes nothing but its total. A loss of what was sent later
-- takes the window to 0.7 of itself, down to two datagrams, and makes that the threshold; persistent congestion does so once more to the
-- threshold, takes the window to two datagrams, and ends the epoch.
use Rattle.std.specs.Prelude.{ℕ, ◌-◌, ◌*◌, max, Bool, false, cond, ◌||◌, Some, None, Option, nat_le, nat_lt, Float}
use Rattle.std.specs.Option.{unwrap_or}
use Rattle.values.specs.Saturating.{sum, most}
use Rattle.rtt.specs.Estimates.{Estimate, best}
use Rattle.congestion.specs.Makers.{nothing}
use Rattle.congestion.specs.Meaning.{Meaning, add_sent, add_acked, add_lost}
use Rattle.congestion.specs.Rules.{Rules}
use Rattle.congestion.specs.declared.metrics.ControllerMetrics.{ControllerMetrics}
use Rattle.congestion.specs.declared.totals.Totals.{Totals}
use Rattle.cubic.specs.Curves.{real, naught, epoch_length, target, scaled_down, converged}
use Rattle.cubic.specs.declared.cubic.Cubic.{Cubic}
use Rattle.cubic.specs.declared.cubic.State.{State}

pub record CubicModel : Type 0 where
  pub initial : ℕ
  pub mtu : ℕ
  pub window : ℕ
  pub ssthresh : ℕ
  pub start : Option ℕ
  pub state : State
  pub totals : Totals

abbrev pub cubic_model : Cubic → CubicModel
cubic_model x =
    record {
      initial = x.config.initial_window.bytes;
      mtu = x.cwnd.current_mtu.value;
      window = x.cwnd.window;
      ssthresh = x.cwnd.ssthresh;
      start = x.recovery_start_time;
      state = x.cubic_state;
      totals = x.totals;
    }

abbrev pub cubic_meaning : CubicModel → Meaning
cubic_meaning x = record { mtu = x.mtu; window = x.window; totals = x.totals }

abbrev pub cubic_metrics : CubicModel → ControllerMetrics
cubic_metrics x = record { congestion_window = x.window; ssthresh = Some x.ssthresh; pacing_rate = None }

abbrev pub curve : Float → Float → ℕ → State
curve k peak inc = record { k = k; w_max = peak; cwnd_inc = inc }

-- a new controller: initial window, MTU
abbrev pub opened : ℕ → ℕ → CubicModel
opened w m =
    record { initial = w; mtu = m; window = w; ssthresh = most; start = None; state = curve naught naught 0; totals = nothing }

-- x with other totals
abbrev pub with_totals : CubicModel → Totals → CubicModel
with_totals x c = record x { totals = c }

-- x with another window and state of the curves
abbrev pub grown : CubicModel → ℕ → State → CubicModel
grown x w s = record x { window = w; state = s }

-- x with another window, threshold, start of the epoch and state of the curves
abbrev pub turned : CubicModel → ℕ → ℕ → Option ℕ → State → CubicModel
turned x w h o s = record x { window = w; ssthresh = h; start = o; state = s }

abbrev pub cubic_sent : CubicModel → ℕ → ℕ → ℕ → CubicModel
cubic_sent x _ n _ = with_totals x (add_sent x.totals n)

-- sent no later than the epoch began
abbrev pub is_old : Option ℕ → ℕ → Bool
is_old (Some t) s = nat_le s t
is_old None s = false

-- An epoch that begins with an acknowledgement has its window as W_max, and is past K at once.
abbrev pub epoch_state : Option ℕ → State → ℕ → State
epoch_state (Some _) s w = s
epoch_state None s w = curve naught (real w) s.cwnd_inc

abbrev pub begun : CubicModel → ℕ → CubicModel
begun x t = turned x x.window x.ssthresh (Some (unwrap_or x.start t)) (epoch_state x.start x.state x.window)

-- the increments add up to inc now
abbrev pub advance : CubicModel → ℕ → CubicModel
advance x inc =
    cond (nat_le x.mtu inc) (grown x (sum x.window x.mtu) (curve x.state.k x.state.w_max 0))
    (grown x x.window (curve x.state.k x.state.w_max inc))

-- an acknowledgement past slow start, t after the epoch began
abbrev pub advanced : CubicModel → ℕ → ℕ → CubicModel
advanced x t rtt = advance x (sum x.state.cwnd_inc (target x.state x.window t rtt x.mtu - x.window))

abbrev pub increase : CubicModel → ℕ → ℕ → ℕ → CubicModel
increase x t n rtt =
    cond (nat_lt x.window x.ssthresh) (grown x (sum x.window n) x.state) (advanced (begun x t) (t - unwrap_or x.start t) rtt)

abbrev pub cubic_ack : CubicModel → ℕ → ℕ → ℕ → Bool → Estimate → CubicModel
cubic_ack x t s n limited e =
    cond (limited || is_old x.start s) (with_totals x (add_acked x.totals n))
    (increase (with_totals x (add_acked x.totals n)) t n (best e))

abbrev pub cubic_end : CubicModel → ℕ → ℕ → Bool → Option ℕ → CubicModel
cubic_end x _ _ _ _ = x

-- 0.7 of a window, but no less than two datagrams
abbrev pub cut : ℕ → ℕ → ℕ
cut w m = max (scaled_down w) (2 * m)

-- the state of the curves at a loss, where W_max is to be `peak`
abbrev pub loss_state : State → Float → ℕ → State
loss_state s peak mtu = curve (epoch_length (curve s.k peak s.cwnd_inc) mtu) peak (scaled_down s.cwnd_inc)

abbrev pub reduced : CubicModel → ℕ → CubicModel
reduced x t =
    turned x (cut x.window x.mtu) (cut x.window x.mtu) (Some t)
    (loss_state x.state (converged x.state.w_max (real x.window)) x.mtu)

abbrev pub collapsed : CubicModel → CubicModel
collapsed x = turned x (2 * x.mtu) (cut x.window x.mtu) None (curve x.state.k (real x.window) 0)

abbrev pub recover : CubicModel → ℕ → Bool → CubicModel
recover x t persistent = cond persistent (collapsed (reduced x t)) (reduced x t)

abbrev pub cubic_loss : CubicModel → ℕ → ℕ → Bool → ℕ → CubicModel
cubic_loss x t s persistent n =
    cond (is_old x.start s) (with_totals x (add_lost x.totals n)) (recover (with_totals x (add_lost x.totals n)) t persistent)

abbrev pub cubic_mtu : CubicModel → ℕ → CubicModel
cubic_mtu x m = record x { mtu = m; window = max x.window (2 * m) }

abbrev pub cubic_rules : Rules CubicModel
cubic_rules =
    record {
      meaning = cubic_meaning;
      metrics = cubic_metrics;
      initial = λ x. x.initial;
      sends = cubic_sent;
      acks = cubic_ack;
      ends = cubic_end;
      loses = cubic_loss;
      resizes = cubic_mtu;
    }
