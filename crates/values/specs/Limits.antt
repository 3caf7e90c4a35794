-- The limits of the values. Times and durations are whole nanoseconds, sizes whole bytes. Assumes nothing.
use Rattle.std.specs.Prelude.{ℕ, ◌^◌, ◌<◌, ◌≤◌, min, max}

-- An MTU, the largest datagram of a path: 1,200 bytes, which every QUIC path carries, to 1,500, an Ethernet frame.
abbrev pub InMtu : ℕ → Type 0
InMtu n = (1200 ≤ n) × (n ≤ 1500)

-- A round-trip time: a microsecond to ten seconds.
abbrev pub InRtt : ℕ → Type 0
InRtt n = (1000 ≤ n) × (n ≤ 10000000000)

-- The round-trip time nearest to n nanoseconds.
abbrev pub clamped : ℕ → ℕ
clamped n = max 1000 (min n 10000000000)

-- The first number of a path: below 2^48.
abbrev pub InNumber : ℕ → Type 0
InNumber n = n < 2 ^ 48

-- A time: below 2^62.
abbrev pub InTime : ℕ → Type 0
InTime n = n < 2 ^ 62
