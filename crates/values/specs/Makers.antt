-- What the makers of values with limits answer. Assumes nothing.
use Rattle.std.specs.Prelude.{◌≡◌, ℕ, Ok, Err, Result}
use Rattle.values.specs.declared.mtu.Mtu.{Mtu}
use Rattle.values.specs.declared.opening.Opening.{Opening}
use Rattle.refusals.specs.declared.Layer.TheVariants.{Value}
use Rattle.std.specs.declared.convert.Infallible.{Infallible as NoPermit}
use Rattle.refusals.specs.declared.Refusal.{Refusal}
use Rattle.refusals.specs.declared.Refusal.TheVariants.{OutsideLimit}
use Rattle.values.specs.declared.rtt.Rtt.{Rtt}

-- A maker answers a value exactly within the limits, and the value holds what was given; outside them it refuses 1, layer value.
abbrev pub Made : {V : Type 0} → Type 0 → (V → Type 0) → Result V (Refusal NoPermit) → Type 0
Made Within Given (Ok v) = Within × Given v
Made Within Given (Err e) = (Within → ⊥) × (e ≡ OutsideLimit Value)

-- an opening with these four parts
abbrev pub Holds : ℕ → Mtu → Rtt → ℕ → Opening → Type 0
Holds number mtu rtt start o =
    (o.first_number ≡ number) × (o.mtu ≡ mtu) × (o.initial_rtt ≡ rtt) × (o.start ≡ start)
