-- The value of a text of digits, as far as it fits. Assumes nothing.
use Rattle.std.proofs.Common.{◌≡◌, ℕ, ◌+◌, ◌-◌, ◌*◌, ◌^◌, ◌<◌, ◌≤◌, Bool, true, false, ◌&&◌, List, [], ◌∷◌, length, get_or, drop, Ok, Err, sym, ap, ◌∙◌, arith}
use Rattle.std.specs.Char.{is_ascii_digit}
use Rattle.std.specs.List.{list_all}
use Rattle.std.proofs.lemmas.Grind.{common_steps}
use Rattle.std.proofs.lemmas.List.{at_drop_more, at_drop_all}
use Rattle.measurements.specs.Numbers.{value_after, fitted}
use Rattle.measurements.specs.declared.number.NumberFault.{NumberFault}

-- more digits make no number smaller
value_after_grows : (n : ℕ) (cs : List ℕ) → n ≤ value_after n cs
value_after_grows n [] = omega arith
value_after_grows n (c ∷ cs) = let h = value_after_grows (n * 10 + (c - 48)) cs in omega arith

too_large : (n : ℕ) (cs : List ℕ) (why : NumberFault) → fitted n ≡ Err why → fitted (value_after n cs) ≡ Err why
too_large n cs why h = let more = value_after_grows n cs in grind (arith, common_steps)

module _ (bs : List ℕ) (i : ℕ) where
  pub not_digit : i < length bs → is_ascii_digit (get_or bs i 0) ≡ false → list_all is_ascii_digit (drop i bs) ≡ false
  not_digit lt other = at_drop_more (list_all is_ascii_digit) bs i 0 lt ∙ ap (λ (b : Bool). b && list_all is_ascii_digit (drop (i + 1) bs)) other

  pub one_digit : i < length bs → is_ascii_digit (get_or bs i 0) ≡ true → list_all is_ascii_digit (drop i bs) ≡ list_all is_ascii_digit (drop (i + 1) bs)
  one_digit lt same = at_drop_more (list_all is_ascii_digit) bs i 0 lt ∙ ap (λ (b : Bool). b && list_all is_ascii_digit (drop (i + 1) bs)) same

module _ (bs : List ℕ) (i value : ℕ) where
  pub digit_fails : (why : NumberFault) → i < length bs → fitted (value * 10 + (get_or bs i 0 - 48)) ≡ Err why → fitted (value_after value (drop i bs)) ≡ Err why
  digit_fails why lt h =
      ap fitted (at_drop_more (value_after value) bs i 0 lt) ∙ too_large _ (drop (i + 1) bs) why h

  pub digit_fits : (n : ℕ) → i < length bs → fitted (value * 10 + (get_or bs i 0 - 48)) ≡ Ok n → value_after value (drop i bs) ≡ value_after n (drop (i + 1) bs)
  digit_fits n lt h =
      let same : n ≡ value * 10 + (get_or bs i 0 - 48) = grind (arith, common_steps) in
      at_drop_more (value_after value) bs i 0 lt ∙ ap (λ (v : ℕ). value_after v (drop (i + 1) bs)) (sym same)

  pub digits_end : length bs ≤ i → value < 2 ^ 64 → fitted (value_after value (drop i bs)) ≡ Ok value
  digits_end le fits = ap fitted (at_drop_all (value_after value) bs i le) ∙ grind (arith, common_steps)
