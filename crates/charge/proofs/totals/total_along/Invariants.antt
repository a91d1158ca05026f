use Rattle.std.proofs.Common.{◌≡◌, drop}
use Rattle.charge.specs.Totals.{total_along}
use Rattle.charge.proofs.Along.{and_then}
use Rattle.charge.proofs.totals.total_along.Given as goal

abbrev pub invariant-loop-road : goal.invariant-loop-road
invariant-loop-road g l =
    let s = g.F.Charge.Charge.scale in
    let facts = (g.R.Roads.meaning l.roads).facts in
    let price = g.F.Tariff.meaning l.tariff in
    total_along s facts price l.list ≡ and_then s facts price l.total (drop l.road-index l.list)
