-- What becomes of the five numbers over two calls about the same n bytes. Assumes nothing.
use Rattle.std.specs.Prelude.{◌≡◌, ℕ, ◌+◌, ◌^◌, ◌<◌, ◌≤◌}
use Rattle.congestion.specs.Meaning.{Meaning}

-- From `before` to `after` a total has grown by exactly n, where it was at most 2^63 and n is less than that: it does not stop there.
abbrev pub GrownBy : ℕ → ℕ → ℕ → Type 0
GrownBy n before after = before ≤ 2 ^ 63 → n < 2 ^ 63 → after ≡ before + n

-- sent and acknowledged: those two totals have grown, the third and the MTU are what they were
abbrev pub Delivered : ℕ → Meaning → Meaning → Type 0
Delivered n before after =
    GrownBy n before.totals.sent after.totals.sent
    × GrownBy n before.totals.acked after.totals.acked
    × (after.totals.lost ≡ before.totals.lost)
    × (after.mtu ≡ before.mtu)

-- sent and lost
abbrev pub Wasted : ℕ → Meaning → Meaning → Type 0
Wasted n before after =
    GrownBy n before.totals.sent after.totals.sent
    × (after.totals.acked ≡ before.totals.acked)
    × GrownBy n before.totals.lost after.totals.lost
    × (after.mtu ≡ before.mtu)
