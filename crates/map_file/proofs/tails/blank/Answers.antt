use Rattle.std.proofs.Common.{replicate, ap}
use Rattle.map_file.proofs.tails.blank.Goals as goal

pub returns : goal.returns
returns c = ap (replicate 4097) c.empty.ensures
