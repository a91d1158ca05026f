use Rattle.std.proofs.Common.{rules}
use Rattle.roads.proofs.Leaving.{from_road, next_stands}
use Rattle.roads.proofs.roads_from.RoadsFrom.pass.Goals as goal

pub invariant_of-self : goal.invariant_of-self
invariant_of-self g c =
    let roads = c.args.self.now.roads.now in
    record { here = next_stands (g.R.Roads.meaning roads) (g.met.R.Roads.sound roads) c.args.self.now.road _ c.after-self.ensures }

pub returns : goal.returns
returns g c = search (rules, from_road)
