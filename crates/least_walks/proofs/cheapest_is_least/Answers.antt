use Rattle.least_walks.specs.Steps.{CheapestIsLeast}
use Rattle.least_walks.proofs.Leasts.{cheapest_least}
use Rattle.least_walks.proofs.cheapest_is_least.Goals as goal

pub returns : goal.returns
unfolding CheapestIsLeast
returns g c = λ G ws. cheapest_least g.met.C.Charge.order G ws
