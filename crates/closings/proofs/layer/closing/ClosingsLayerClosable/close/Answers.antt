use Rattle.std.proofs.Common.{ap}
use Rattle.closings.proofs.Layering.{layer_closed}
use Rattle.closings.proofs.layer.closing.ClosingsLayerClosable.close.Goals as goal

pub returns-clause-moved : goal.returns-clause-moved
returns-clause-moved g c =
    layer_closed (g.B.Roads.meaning c.args.self.now.below) c.args.self.now.table c.args.road (g.B.Roads.meaning c.add.new.self.below) c.add.new.self.table
    (ap g.B.Roads.meaning c.add.ensures.below) c.in_ok-check_close.ensures c.add.ensures.table
