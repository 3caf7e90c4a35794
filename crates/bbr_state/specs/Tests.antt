-- Which mode it is. Assumes nothing.
use Rattle.std.specs.Prelude.{Bool, true, false}
use Rattle.bbr_state.specs.declared.state.Mode.{Mode}
use Rattle.bbr_state.specs.declared.state.Mode.TheVariants.{Startup, Drain, ProbeBw, ProbeRtt}

abbrev pub is_startup : Mode → Bool
is_startup Startup = true
is_startup Drain = false
is_startup ProbeBw = false
is_startup ProbeRtt = false

abbrev pub is_drain : Mode → Bool
is_drain Startup = false
is_drain Drain = true
is_drain ProbeBw = false
is_drain ProbeRtt = false

abbrev pub is_probe_bw : Mode → Bool
is_probe_bw Startup = false
is_probe_bw Drain = false
is_probe_bw ProbeBw = true
is_probe_bw ProbeRtt = false

abbrev pub is_probe_rtt : Mode → Bool
is_probe_rtt Startup = false
is_probe_rtt Drain = false
is_probe_rtt ProbeBw = false
is_probe_rtt ProbeRtt = true
