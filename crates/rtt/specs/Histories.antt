-- What an estimate says of all the samples that it was made from, whatever the ack delays. Assumes nothing.
use Rattle.std.specs.Prelude.{◌≡◌, ℕ, ◌≤◌, min, max, List, [], ◌∷◌, None, Result, MatchOption, OnOk}
use Rattle.std.specs.declared.convert.Infallible.{Infallible as NoPermit}
use Rattle.refusals.specs.declared.Refusal.{Refusal}
use Rattle.rtt.specs.Estimates.{Estimate}

abbrev pub least : ℕ → List ℕ → ℕ
least x [] = x
least x (y ∷ ys) = min x (least y ys)

abbrev pub greatest : ℕ → List ℕ → ℕ
greatest x [] = x
greatest x (y ∷ ys) = max x (greatest y ys)

-- The estimate after some samples, the newest first: the latest is the newest, the minimum is the least of them all,
-- and the smoothed time lies between the least and the greatest. Before the first there is the initial time alone.
abbrev pub After : ℕ → List ℕ → Estimate → Type 0
After initial [] e = (e.latest ≡ initial) × (e.minimum ≡ initial) × (e.smoothed ≡ None)
After initial (r ∷ rs) e =
    (e.latest ≡ r) × (e.minimum ≡ least r rs) × MatchOption e.smoothed ⊥ (λ s. (least r rs ≤ s) × (s ≤ greatest r rs))

-- whatever the samples were, those and one more
abbrev pub Extends : Estimate → ℕ → Result Unit (Refusal NoPermit) → Estimate → Type 0
Extends e r answer e' = OnOk answer ((initial : ℕ) (samples : List ℕ) → After initial samples e → After initial (r ∷ samples) e')
