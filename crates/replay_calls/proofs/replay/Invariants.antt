use Rattle.std.specs.Io.Iter.{lines_left}
use Rattle.replay_calls.proofs.replay.Given as goal

abbrev pub decreases-loop-recording : goal.decreases-loop-recording
decreases-loop-recording g l = lines_left l.recording.lines
