use Rattle.std.proofs.Common.{◌≡◌, ◌^◌, ◌<◌, drop}
use Rattle.std.specs.Char.{is_ascii_digit}
use Rattle.std.specs.List.{list_all}
use Rattle.measurements.specs.Numbers.{value_after}
use Rattle.measurements.proofs.number.parse.Given as goal

-- the bytes so far are digits, and with those to come they have the text's value
abbrev pub invariant-loop-digit : goal.invariant-loop-digit
invariant-loop-digit l =
    (l.value < 2 ^ 64)
    × (list_all is_ascii_digit (drop l.digit-index l.text) ≡ list_all is_ascii_digit l.text)
    × (value_after l.value (drop l.digit-index l.text) ≡ value_after 0 l.text)
