use Rattle.std.proofs.Common.{rules}
use Rattle.bbr_calls.proofs.Order.{first_by, follows_by}
use Rattle.bbr_calls.proofs.calls.on_end_acks.Goals as goal

pub returns-clause-first : goal.returns-clause-first
returns-clause-first g c =
    let d = g.D.DrawSource in
    let a = c.args in
    first_by d.next_draw d.after_draw a.state.now c.resize.new.state (d.model a.draws.now) a.time a.in_flight a.app_limited a.largest_packet_num_acked (search rules)

pub returns-clause-order : goal.returns-clause-order
returns-clause-order g c =
    let d = g.D.DrawSource in
    let a = c.args in
    follows_by d.next_draw d.after_draw a.state.now c.resize.new.state (d.model a.draws.now) a.time a.in_flight a.app_limited a.largest_packet_num_acked (search rules)
