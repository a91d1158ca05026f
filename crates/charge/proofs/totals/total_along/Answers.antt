use Rattle.std.proofs.Common.{◌∙◌}
use Rattle.charge.proofs.Along.{and_then_more}
use Rattle.charge.proofs.totals.total_along.Goals as goal

pub loop-road-preserved : goal.loop-road-preserved
loop-road-preserved g c =
    c.loop-road.invariant
    ∙ and_then_more _ _ _ g.met.F.Charge.Charge.associative _ _ _ _ c.loop-road-test.true c.in_ok-total.ensures
