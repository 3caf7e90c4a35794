use Rattle.std.proofs.Common.{◌≤◌}
use Rattle.std.specs.Io.Iter.{lines_left}
use Rattle.replay_calls.proofs.recording.Recording.next_call.Given as goal

abbrev pub invariant-loop-line : goal.invariant-loop-line
invariant-loop-line g l = lines_left l.self.lines ≤ lines_left l.initial.self.lines

abbrev pub decreases-loop-line : goal.decreases-loop-line
decreases-loop-line g l = lines_left l.self.lines
