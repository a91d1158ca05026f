use Rattle.exactness.specs.Steps.{Searched}
use Rattle.exactness.proofs.RoadsToSearch.{roads_to_search}
use Rattle.exactness.proofs.open_walks_are_searched.Goals as goal

pub returns : goal.returns
unfolding Searched
returns g c =
    let laws = g.met.C.Charge in
    λ w ok price survey sheet right start goal p k.
    roads_to_search (record { associative = laws.associative; unit = laws.unit; order = laws.order; monotone = laws.monotone; growing = laws.growing }) ok price survey sheet right start goal p k
