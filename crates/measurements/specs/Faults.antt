-- What is wrong with a line, in words. Assumes nothing.
use Rattle.std.specs.Prelude.{ℕ, List, ◌++◌, codes}
use Rattle.measurements.specs.declared.line.LineFault.{LineFault}
use Rattle.measurements.specs.declared.line.LineFault.TheVariants.{NoSpace, Rtt, Delay}
use Rattle.measurements.specs.declared.number.NumberFault.{NumberFault}
use Rattle.measurements.specs.declared.number.NumberFault.TheVariants.{Missing, NotDecimal, TooLarge}

abbrev pub number_fault_text : NumberFault → List ℕ
number_fault_text Missing = codes "is missing"
number_fault_text NotDecimal = codes "is not a decimal number"
number_fault_text TooLarge = codes "is above 18446744073709551615"

abbrev pub line_fault_text : LineFault → List ℕ
line_fault_text NoSpace = codes "no space between RTT and DELAY"
line_fault_text (Rtt why) = codes "RTT " ++ number_fault_text why
line_fault_text (Delay why) = codes "DELAY " ++ number_fault_text why
