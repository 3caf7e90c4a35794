-- Texts cut at a byte. Assumes nothing.
use Rattle.std.proofs.Common.{◌≡◌, ℕ, ◌<◌, List, [], ◌∷◌, length, unwrap_or, arith}
use Rattle.std.proofs.lemmas.Grind.{common_steps}
use Rattle.measurements.specs.Lines.{split_once, lines_in}

-- what stands before the first stop, and behind it: all and nothing where there is none
abbrev pub cut : ℕ → List ℕ → List ℕ × List ℕ
cut stop bs = unwrap_or (split_once stop bs) (bs, [])

-- a text has a first line, and those behind its newline
pub first_line : (bs : List ℕ) → 0 < length bs → lines_in bs ≡ (cut 10 bs).0 ∷ lines_in (cut 10 bs).1
first_line [] some = absurd (omega arith)
first_line (b ∷ []) some = grind (arith, common_steps)
first_line (b ∷ c ∷ cs) some = let h = first_line (c ∷ cs) (omega arith) in grind (arith, common_steps, h)
