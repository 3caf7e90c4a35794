use Rattle.std.proofs.Common.{◌≤◌}
use Rattle.std.specs.Io.Iter.{lines_left}
use Rattle.replay_calls.proofs.replay_on.Given as goal

abbrev pub invariant-loop-subject : goal.invariant-loop-subject
invariant-loop-subject g l = lines_left l.recording.lines ≤ lines_left l.initial.recording.lines

abbrev pub decreases-loop-subject : goal.decreases-loop-subject
decreases-loop-subject g l = lines_left l.recording.lines
