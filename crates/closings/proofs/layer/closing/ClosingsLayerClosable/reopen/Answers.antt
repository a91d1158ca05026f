use Rattle.std.proofs.Common.{ap}
use Rattle.closings.proofs.Layering.{layer_reopened}
use Rattle.closings.proofs.layer.closing.ClosingsLayerClosable.reopen.Goals as goal

pub returns-clause-moved : goal.returns-clause-moved
returns-clause-moved g c =
    layer_reopened (g.B.Roads.meaning c.args.self.now.below) c.args.self.now.table c.args.road (g.B.Roads.meaning c.remove.new.self.below) c.remove.new.self.table
    (ap g.B.Roads.meaning c.remove.ensures.below) c.remove.ensures.table
