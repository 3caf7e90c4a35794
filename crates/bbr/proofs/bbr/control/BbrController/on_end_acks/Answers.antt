use Rattle.std.proofs.Common.{sym, subst}
use Rattle.bbr.specs.Keeps.{Sound, end_keeps}
use Rattle.bbr.proofs.bbr.control.BbrController.on_end_acks.Goals as goal

pub invariant_of-self : goal.invariant_of-self
invariant_of-self g c =
    let x = c.args.self.now in
    let d = g.D.DrawSource in
    let kept =
    subst Sound (sym c.on_end_acks.ensures.state)
    (end_keeps d.next_draw d.after_draw x.state (d.model x.draws) _ _ _ c.args.largest_packet_num_acked x.limited x.wide) in
    record { limited = kept.0; wide = kept.1.0; held = kept.1.1.0 }
