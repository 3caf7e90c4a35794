-- Rounds. Assumes nothing.
--
-- A round ends, and the next one begins, with a batch of acks that has bytes and brings the greatest number acknowledged above the round's
-- end. The new round's end is the greatest number sent by then, and the count of rounds, which stops at 2^64 - 1, goes up by one.
use Rattle.std.specs.Prelude.{ℕ, Bool, cond, ◌&&◌, Option, nat_lt}
use Rattle.std.specs.Option.{unwrap_or}
use Rattle.values.specs.Saturating.{sum}
use Rattle.bbr_rounds.specs.declared.rounds.Rounds.{Rounds}

abbrev pub unsent : Rounds
unsent =
    record { max_acked_packet_number = 0; max_sent_packet_number = 0; current_round_trip_end_packet_number = 0; round_count = 0 }

-- the number told last as sent
abbrev pub sent_up_to : Rounds → ℕ → Rounds
sent_up_to r n = record r { max_sent_packet_number = n }

-- a batch of n bytes, with the greatest number acknowledged, if there is one
abbrev pub begins : Rounds → ℕ → Option ℕ → Bool
begins r n largest =
    nat_lt 0 n && nat_lt r.current_round_trip_end_packet_number (unwrap_or largest r.max_acked_packet_number)

abbrev pub after_acks : Rounds → ℕ → Option ℕ → Rounds
after_acks r n largest =
    record r {
      max_acked_packet_number = unwrap_or largest r.max_acked_packet_number;
      current_round_trip_end_packet_number =
          cond (begins r n largest) r.max_sent_packet_number r.current_round_trip_end_packet_number;
      round_count = cond (begins r n largest) (sum r.round_count 1) r.round_count;
    }
