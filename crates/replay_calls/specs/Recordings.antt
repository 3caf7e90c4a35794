-- How far a recording is read. Assumes nothing.
use Rattle.std.specs.Prelude.{◌<◌, Option, Result, IfOk, OnSome}
use Rattle.std.specs.Io.Iter.{lines_left}
use Rattle.replay_calls.specs.declared.recording.Recording.{Recording}

-- where a call was read, fewer lines are left
abbrev pub ReadsCall : {C E : Type 0} → Recording → Recording → Result (Option C) E → Type 0
ReadsCall old new result = IfOk result (λ call. OnSome call (lines_left new.lines < lines_left old.lines))
