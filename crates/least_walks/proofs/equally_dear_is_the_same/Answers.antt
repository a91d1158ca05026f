use Rattle.least_walks.specs.Steps.{EquallyDear}
use Rattle.least_walks.proofs.equally_dear_is_the_same.Goals as goal

pub returns : goal.returns
unfolding EquallyDear
returns g c = g.met.C.Charge.order.antisymmetric
