use Rattle.least_walks.proofs.Pigeons.{few}
use Rattle.least_walks.proofs.distinct_numbers_are_few.Goals as goal

pub returns : goal.returns
returns c = few
