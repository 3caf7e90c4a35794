-- The pacer, worked out by hand: 2 ms of 240,000 bytes in 100 ms are 4,800 bytes, so the bucket holds ten datagrams of
-- 1,200, the least that it may. The eleventh waits until the bucket is full again: 12,000 bytes at 5/4 of 240,000 in
-- 100 ms take 4 ms. Assumes nothing.
use Rattle.std.specs.Prelude.{◌≡◌, ℕ, zero, suc, Some, Ok, Option, Result}
use Rattle.std.specs.declared.convert.Infallible.{Infallible as NoPermit}
use Rattle.refusals.specs.declared.Refusal.{Refusal}
use Rattle.pacing.specs.Buckets.{Bucket}
use Rattle.pacing.specs.Pacing.{opened, sent, delayed, told}

-- one datagram is asked for, and sent
abbrev pub one_more : Bucket → Bucket
one_more p = sent (delayed p 100000000 1200 1200 240000 0) 1200

abbrev pub after_many : ℕ → Bucket
after_many zero = opened 100000000 240000 1200 0
after_many (suc n) = one_more (after_many n)

abbrev pub told_after : ℕ → Result (Option ℕ) (Refusal NoPermit)
told_after n = told (after_many n) 100000000 1200 1200 240000 0

-- the eleventh
abbrev pub PacerTable : Type 0
PacerTable = told_after 10 ≡ Ok (Some 4000000)
