use Rattle.least_walks.specs.Steps.{PartsAreCheap}
use Rattle.least_walks.proofs.Leasts.{sub_cost}
use Rattle.least_walks.proofs.parts_are_not_dearer.Goals as goal

pub returns : goal.returns
unfolding PartsAreCheap
returns g c = let laws = g.met.C.Charge in λ G v w h. sub_cost laws.order G laws.monotone laws.growing h
