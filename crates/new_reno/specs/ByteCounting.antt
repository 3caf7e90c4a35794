-- Congestion avoidance by counting bytes: RFC 3465 (Appropriate Byte Counting), section 2.1. Assumes nothing.
--
-- The rule of the RFC: the sender keeps a count of acknowledged bytes, bytes_acked. An acknowledgement of n new bytes adds n to it. When
-- bytes_acked becomes greater than or equal to the congestion window, it is reduced by the congestion window, and the window is then
-- increased by a full-sized segment, SMSS.
--
-- Not of this section are: which acknowledgements count (none while the application is the limit, and none of what was sent before the last
-- loss: RFC 9002, sections 7.8 and 7.3.2); what bytes_acked is when slow start ends (the bytes by which the window passed the threshold), and
-- that a loss leaves it as it is; that a segment is a datagram of the path's MTU; that the code's sums stop at 2^64 - 1.
use Rattle.std.specs.Prelude.{ℕ, ◌+◌, ◌-◌, cond, nat_le}

pub record Counting : Type 0 where
  pub cwnd : ℕ
  pub bytes_acked : ℕ

-- a segment more, for a window of bytes
abbrev pub increased : ℕ → ℕ → ℕ → Counting
increased smss cwnd acked = record { cwnd = cwnd + smss; bytes_acked = acked - cwnd }

abbrev pub unchanged : ℕ → ℕ → Counting
unchanged cwnd acked = record { cwnd = cwnd; bytes_acked = acked }

-- after an acknowledgement of n bytes
abbrev pub counted : ℕ → Counting → ℕ → Counting
counted smss c n =
    cond (nat_le c.cwnd (c.bytes_acked + n)) (increased smss c.cwnd (c.bytes_acked + n)) (unchanged c.cwnd (c.bytes_acked + n))
