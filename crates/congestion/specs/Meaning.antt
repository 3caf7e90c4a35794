-- What a congestion controller is to those who call it: five numbers, and how each call may change them. Assumes nothing.
--
-- The numbers are the MTU, the window, and three totals, at first 0, of the bytes that the controller was told as sent, acknowledged and lost.
-- A total that would pass 2^64 - 1 stops there.
--
--   on_sent              adds to the bytes sent, and changes nothing else
--   on_ack               adds to the bytes acknowledged, and may move the window
--   on_end_acks          may move the window
--   on_congestion_event  adds to the bytes lost, and may move the window
--   on_mtu_update        sets the MTU, and may move the window
use Rattle.std.specs.Prelude.{ℕ}
use Rattle.values.specs.Saturating.{sum}
use Rattle.congestion.specs.declared.totals.Totals.{Totals}

abbrev pub add_sent : Totals → ℕ → Totals
add_sent c n = record c { sent = sum c.sent n }

abbrev pub add_acked : Totals → ℕ → Totals
add_acked c n = record c { acked = sum c.acked n }

abbrev pub add_lost : Totals → ℕ → Totals
add_lost c n = record c { lost = sum c.lost n }

pub record Meaning : Type 0 where
  pub mtu : ℕ
  pub window : ℕ
  pub totals : Totals

-- The meaning after each call, where n is the call's bytes or MTU, and w the window then, which only `on_sent` fixes.
abbrev pub told_sent : Meaning → ℕ → Meaning
told_sent m n = record m { totals = add_sent m.totals n }

abbrev pub told_acked : Meaning → ℕ → ℕ → Meaning
told_acked m n w = record m { window = w; totals = add_acked m.totals n }

abbrev pub told_end : Meaning → ℕ → Meaning
told_end m w = record m { window = w }

abbrev pub told_lost : Meaning → ℕ → ℕ → Meaning
told_lost m n w = record m { window = w; totals = add_lost m.totals n }

abbrev pub told_mtu : Meaning → ℕ → ℕ → Meaning
told_mtu m n w = record m { mtu = n; window = w }
