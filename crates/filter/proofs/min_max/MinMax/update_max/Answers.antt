use Rattle.std.proofs.Common.{◌≡◌, sym, subst, rules}
use Rattle.filter.specs.Filter.{Falling, updated}
use Rattle.filter.proofs.Falls.{Kept, kept}
use Rattle.filter.specs.declared.min_max.MinMax.{MinMax}
use Rattle.filter.specs.declared.min_max.MinMaxSample.{MinMaxSample}
use Rattle.filter.proofs.min_max.MinMax.update_max.Goals as goal

pub returns : goal.returns
returns g c =
    let order = g.T.TotalOrder in
    let law = g.met.T.TotalOrder in
    let step : c.subwin_update.new.self ≡ updated order.at_most order.bottom c.args.self.now c.args.current_round c.args.measurement = search rules in
    let sample : MinMaxSample _ = record { time = c.args.current_round; value = c.args.measurement } in
    let keeps = λ (f : Falling order.at_most c.args.self.now). subst (λ (m : MinMax _). Kept order.at_most order.bottom law.reflexive law.transitive law.total sample m) (sym step) (kept order.at_most order.bottom law.reflexive law.transitive law.total c.args.self.now sample f) in
    record { step = step; falls = λ f. (keeps f).0; covers = λ f. (keeps f).1 }
