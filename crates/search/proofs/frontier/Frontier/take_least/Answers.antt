use Rattle.std.proofs.Common.{refl, sym, subst}
use Rattle.search.specs.Turns.{Taken}
use Rattle.search.proofs.Marking.{least_first, none_waiting}
use Rattle.search.proofs.frontier.Frontier.take_least.Goals as goal

pub returns-in_err-i : goal.returns-in_err-i
returns-in_err-i g c =
    let f = c.args.self.now in
    let none = none_waiting f.places.lists f.places.bag c.in_err-i.ensures in
    subst (λ r. Taken g.C.Charge.scale f f c.args.labels.now r) (sym c.from_residual.ensures) (refl, none)

pub returns : goal.returns
returns g c =
    let f = c.args.self.now in (
      least_first g.C.Charge.scale f c.args.labels.now c.in_ok-i.i c.take.result f.places.bag c.in_ok-i.ensures c.take.ensures.which,
      record { start = refl; steps = refl; marks = c.take.ensures.marked },
    )
