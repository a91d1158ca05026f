use Rattle.std.proofs.Common.{arith}
use Rattle.closings.proofs.Tallies.{tally_list}
use Rattle.closings.proofs.table.Table.count_roads.Goals as goal

pub returns : goal.returns
returns c = grind (arith, tally_list c.args.self.now c.args.m c.numbers.ensures.once)
