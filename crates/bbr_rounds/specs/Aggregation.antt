-- The aggregation of acks: bytes acknowledged above what the bandwidth explains. Assumes nothing.
--
-- An epoch begins at a time and counts the bytes acknowledged since. At a bandwidth, its whole microseconds are expected to
-- bring bandwidth * microseconds / 1,000,000 bytes, cut. Where no more than that came before this batch, the epoch is over: a new one begins
-- here with this batch, and nothing is in excess. Otherwise the batch joins the epoch, and what the epoch then has above the expected
-- is in excess and enters a maximum over the last rounds.
use Rattle.std.specs.Prelude.{ℕ, ◌-◌, ◌/◌, Bool, cond, leb, Some, None, nat_le}
use Rattle.std.specs.Option.{unwrap_or}
use Rattle.filter.specs.Filter.{fresh, updated}
use Rattle.values.specs.Saturating.{sum, product}
use Rattle.bbr_rounds.specs.declared.ack_aggregation.AckAggregationState.{AckAggregationState}

abbrev pub unaggregated : AckAggregationState
unaggregated =
    record { max_ack_height = fresh 0; aggregation_epoch_start_time = None; aggregation_epoch_bytes = 0 }

-- before the first epoch no time has gone by
abbrev pub expected : AckAggregationState → ℕ → ℕ → ℕ
expected a time bandwidth =
    product bandwidth ((time - unwrap_or a.aggregation_epoch_start_time time) / 1000) / 1000000

abbrev pub is_over : AckAggregationState → ℕ → ℕ → Bool
is_over a time bandwidth = nat_le a.aggregation_epoch_bytes (expected a time bandwidth)

-- what the epoch has above the expected, n bytes of this batch among it
abbrev pub ahead : AckAggregationState → ℕ → ℕ → ℕ → ℕ
ahead a n time bandwidth = sum a.aggregation_epoch_bytes n - expected a time bandwidth

abbrev pub excess : AckAggregationState → ℕ → ℕ → ℕ → ℕ
excess a n time bandwidth = cond (is_over a time bandwidth) 0 (ahead a n time bandwidth)

abbrev pub aggregated : AckAggregationState → ℕ → ℕ → ℕ → ℕ → AckAggregationState
aggregated a n time round bandwidth =
    cond (is_over a time bandwidth)
    (record a { aggregation_epoch_start_time = Some time; aggregation_epoch_bytes = n })
    (record a {
      max_ack_height = updated leb 0 a.max_ack_height round (ahead a n time bandwidth);
      aggregation_epoch_bytes = sum a.aggregation_epoch_bytes n;
    })
