-- A congestion window as plain data, step by step: the path's MTU, the window, which no step leaves below two datagrams of that size, and the
-- slow start threshold. Assumes nothing.
use Rattle.std.specs.Prelude.{ℕ, ◌*◌, max, Some, None}
use Rattle.values.specs.Saturating.{sum, most}
use Rattle.congestion.specs.declared.congestion_window.CongestionWindow.{CongestionWindow}
use Rattle.congestion.specs.declared.metrics.ControllerMetrics.{ControllerMetrics}

pub record Cwnd : Type 0 where
  pub mtu : ℕ
  pub window : ℕ
  pub ssthresh : ℕ

abbrev pub cwnd_of : CongestionWindow → Cwnd
cwnd_of x = record { mtu = x.current_mtu.value; window = x.window; ssthresh = x.ssthresh }

-- a new one: initial window, MTU
abbrev pub opened : ℕ → ℕ → Cwnd
opened w m = record { mtu = m; window = w; ssthresh = most }

-- n bytes more
abbrev pub grown : Cwnd → ℕ → Cwnd
grown c n = record c { window = sum c.window n }

-- at a loss that leaves n bytes
abbrev pub reduced : Cwnd → ℕ → Cwnd
reduced c n = record c { window = max n (2 * c.mtu); ssthresh = max n (2 * c.mtu) }

-- at persistent congestion
abbrev pub collapsed : Cwnd → Cwnd
collapsed c = record c { window = 2 * c.mtu }

-- under another MTU
abbrev pub resized : Cwnd → ℕ → Cwnd
resized c m = record c { mtu = m; window = max c.window (2 * m) }

-- what a controller says of it
abbrev pub measured : Cwnd → ControllerMetrics
measured c = record { congestion_window = c.window; ssthresh = Some c.ssthresh; pacing_rate = None }
