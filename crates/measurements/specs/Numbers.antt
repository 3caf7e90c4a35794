-- Whole numbers in decimal: one digit or more, `0` to `9`, the most significant first. Assumes nothing.
use Rattle.std.specs.Prelude.{ℕ, ◌+◌, ◌-◌, ◌*◌, ◌^◌, cond, List, [], ◌∷◌, length, Ok, Err, Result, ◌==◌, nat_lt}
use Rattle.std.specs.Char.{is_ascii_digit}
use Rattle.std.specs.List.{list_all}
use Rattle.measurements.specs.declared.number.NumberFault.{NumberFault}
use Rattle.measurements.specs.declared.number.NumberFault.TheVariants.{Missing, NotDecimal, TooLarge}

-- the value of more digits after a number; the codes of the digits begin at 48
abbrev pub value_after : ℕ → List ℕ → ℕ
value_after n [] = n
value_after n (c ∷ cs) = value_after (n * 10 + (c - 48)) cs

-- a number fits 64 bits
abbrev pub fitted : ℕ → Result ℕ NumberFault
fitted n = cond (nat_lt n (2 ^ 64)) (Ok n) (Err TooLarge)

abbrev pub number_in : List ℕ → Result ℕ NumberFault
number_in bs =
    cond (length bs == 0) (Err Missing)
    (cond (list_all is_ascii_digit bs) (fitted (value_after 0 bs)) (Err NotDecimal))
