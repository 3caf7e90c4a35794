-- BBR as a congestion controller. Assumes nothing.
--
-- The state, the source of draws and the totals, where each call changes the state as `bbr_state` says. Only the end of a batch of acks draws.
use Rattle.std.specs.Prelude.{ℕ, Bool, Some, None, Option}
use Rattle.values.specs.Saturating.{product}
use Rattle.rtt.specs.Estimates.{Estimate}
use Rattle.congestion.specs.Makers.{nothing}
use Rattle.congestion.specs.Meaning.{Meaning, add_sent, add_acked, add_lost}
use Rattle.congestion.specs.Rules.{Rules}
use Rattle.congestion.specs.declared.metrics.ControllerMetrics.{ControllerMetrics}
use Rattle.congestion.specs.declared.totals.Totals.{Totals}
use Rattle.bbr_calls.specs.Calls.{window_of, told_sent, told_ack, told_loss, told_mtu, ended, ended_draws}
use Rattle.bbr_state.specs.Makers.{opened}
use Rattle.bbr_state.specs.declared.state.BbrState.{BbrState}
use Rattle.bbr.specs.declared.bbr.Bbr.{Bbr}

pub record BbrModel (M : Type 0) : Type 0 where
  pub state : BbrState
  pub draws : M
  pub totals : Totals

-- `model` is that of the source
abbrev pub bbr_model : {D M : Type 0} → (D → M) → Bbr D → BbrModel M
bbr_model model x = record { state = x.state; draws = model x.draws; totals = x.totals }

abbrev pub bbr_meaning : {M : Type 0} → BbrModel M → Meaning
bbr_meaning x = record { mtu = x.state.limits.current_mtu; window = window_of x.state; totals = x.totals }

-- no threshold, and the rate in bits
abbrev pub bbr_metrics : {M : Type 0} → BbrModel M → ControllerMetrics
bbr_metrics x =
    record {
      congestion_window = window_of x.state;
      ssthresh = None;
      pacing_rate = Some (product x.state.flow.pacing_rate 8);
    }

-- a new controller: initial window, MTU, source
abbrev pub opened_with : {M : Type 0} → ℕ → ℕ → M → BbrModel M
opened_with w mtu m = record { state = opened w mtu; draws = m; totals = nothing }

abbrev pub bbr_sent : {M : Type 0} → BbrModel M → ℕ → ℕ → ℕ → BbrModel M
bbr_sent x time n last = record x { state = told_sent x.state time n last; totals = add_sent x.totals n }

abbrev pub bbr_ack : {M : Type 0} → BbrModel M → ℕ → ℕ → ℕ → Bool → Estimate → BbrModel M
bbr_ack x time _ n limited e =
    record x { state = told_ack x.state time n limited e.minimum; totals = add_acked x.totals n }

abbrev pub bbr_end : {M : Type 0} → (M → ℕ) → (M → M) → BbrModel M → ℕ → ℕ → Bool → Option ℕ → BbrModel M
bbr_end next after x time flight limited largest =
    record x {
      state = ended next after x.state x.draws time flight limited largest;
      draws = ended_draws next after x.state x.draws time flight limited largest;
    }

abbrev pub bbr_loss : {M : Type 0} → BbrModel M → ℕ → ℕ → Bool → ℕ → BbrModel M
bbr_loss x _ _ _ n = record x { state = told_loss x.state n; totals = add_lost x.totals n }

abbrev pub bbr_mtu : {M : Type 0} → BbrModel M → ℕ → BbrModel M
bbr_mtu x mtu = record x { state = told_mtu x.state mtu }

-- with a source's next draw and the source after it
abbrev pub bbr_rules : {M : Type 0} → (M → ℕ) → (M → M) → Rules (BbrModel M)
bbr_rules next after =
    record {
      meaning = bbr_meaning;
      metrics = bbr_metrics;
      initial = λ x. x.state.limits.initial_window;
      sends = bbr_sent;
      acks = bbr_ack;
      ends = bbr_end next after;
      loses = bbr_loss;
      resizes = bbr_mtu;
    }
