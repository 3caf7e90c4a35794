-- The text of measurements. Assumes nothing.
--
-- A newline ends a line; the last line may lack it. A carriage return at the end of a line is not part of it. A line
-- with nothing but spaces and tabs, and one that begins with `#`, is skipped. Any other line is `RTT DELAY`: two whole
-- numbers of nanoseconds, in decimal, with the first space of the line between them.
use Rattle.std.specs.Prelude.{ℕ, ◌+◌, ◌-◌, Bool, cond, ◌||◌, List, [], ◌∷◌, length, take, drop, Some, None, Ok, Err, Option, Result, ◌==◌, slice_index, option_map, position}
use Rattle.std.specs.List.{list_all}
use Rattle.measurements.specs.Numbers.{number_in}
use Rattle.measurements.specs.declared.line.LineFault.{LineFault}
use Rattle.measurements.specs.declared.line.LineFault.TheVariants as fault
use Rattle.measurements.specs.declared.line.Measurement.{Measurement}
use Rattle.measurements.specs.declared.number.NumberFault.{NumberFault}

-- the lines, each without its newline
abbrev pub put_first : ℕ → List (List ℕ) → List (List ℕ)
put_first b [] = (b ∷ []) ∷ []
put_first b (line ∷ lines) = (b ∷ line) ∷ lines

abbrev pub lines_in : List ℕ → List (List ℕ)
lines_in [] = []
lines_in (b ∷ bs) = cond (b == 10) ([] ∷ lines_in bs) (put_first b (lines_in bs))

-- what stands before and behind the first byte that equals stop, where there is one
abbrev pub split_once : ℕ → List ℕ → Option (List ℕ × List ℕ)
split_once stop bs = option_map (λ n. (take n bs, drop (n + 1) bs)) (position (λ b. b == stop) bs)

abbrev pub unreturned : List ℕ → List ℕ
unreturned bs = cond (slice_index bs (length bs - 1) == 13) (take (length bs - 1) bs) bs

-- a space or a tab
abbrev pub is_blank_byte : ℕ → Bool
is_blank_byte b = b == 32 || b == 9

abbrev pub all_blank : List ℕ → Bool
all_blank bs = list_all is_blank_byte bs

abbrev pub with_delay : ℕ → Result ℕ NumberFault → Result Measurement LineFault
with_delay rtt (Ok delay) = Ok (record { rtt = rtt; ack_delay = delay })
with_delay rtt (Err why) = Err (fault.Delay why)

abbrev pub with_rtt : Result ℕ NumberFault → List ℕ → Result Measurement LineFault
with_rtt (Ok rtt) rest = with_delay rtt (number_in rest)
with_rtt (Err why) rest = Err (fault.Rtt why)

abbrev pub with_parts : Option (List ℕ × List ℕ) → Result Measurement LineFault
with_parts None = Err fault.NoSpace
with_parts (Some p) = with_rtt (number_in p.0) p.1

abbrev pub measured : List ℕ → Result Measurement LineFault
measured bs = with_parts (split_once 32 bs)

abbrev pub is_skipped : List ℕ → Bool
is_skipped bs = all_blank bs || slice_index bs 0 == 35

-- a line that is not skipped has a measurement, or a fault
abbrev pub said : Result Measurement LineFault → Result (Option Measurement) LineFault
said (Ok m) = Ok (Some m)
said (Err why) = Err why

abbrev pub unreturned_line : List ℕ → Result (Option Measurement) LineFault
unreturned_line bs = cond (is_skipped bs) (Ok None) (said (measured bs))

abbrev pub line_in : List ℕ → Result (Option Measurement) LineFault
line_in bs = unreturned_line (unreturned bs)
