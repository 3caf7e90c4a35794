use Rattle.std.proofs.Common.{ap, ◌∙◌}
use Rattle.bbr_state.specs.Gains.{unit_gain}
use Rattle.bbr_state.specs.Targets.{target}
use Rattle.bbr_state.specs.declared.state.BbrState.{BbrState}
use Rattle.bbr.proofs.Worked.{figures}
use Rattle.bbr.proofs.figures.compute.Goals as goal

pub returns-clause-stand : goal.returns-clause-stand
returns-clause-stand c = figures

pub returns-clause-target : goal.returns-clause-target
returns-clause-target c =
    c.get_target_cwnd.ensures ∙ ap (λ (s : BbrState). target s unit_gain) c.slow_path-slow.ensures ∙ figures.initial
