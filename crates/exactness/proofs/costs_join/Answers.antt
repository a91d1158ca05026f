use Rattle.exactness.specs.Steps.{CostsJoin}
use Rattle.exactness.proofs.Costs.{cost_append}
use Rattle.exactness.proofs.costs_join.Goals as goal

pub returns : goal.returns
unfolding CostsJoin
returns g c =
    let laws = g.met.C.Charge in
    λ G v w. cost_append (record { associative = laws.associative; unit = laws.unit; order = laws.order; monotone = laws.monotone; growing = laws.growing }) G v w
