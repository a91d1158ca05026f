use Rattle.std.proofs.Common.{ap, ◌∙◌}
use Rattle.roads.specs.Networks.{roads_from}
use Rattle.roads.proofs.Leaving.{from_first, first_stands}
use Rattle.roads.proofs.roads_from.RoadsFrom.new.Goals as goal

pub invariant_of-result : goal.invariant_of-result
invariant_of-result g c =
    let w = g.R.Roads.meaning c.args.roads.now in
    record { here = first_stands w (g.met.R.Roads.sound c.args.roads.now) c.args.junction _ c.first_of.ensures }

pub returns : goal.returns
returns g c =
    let w = g.R.Roads.meaning c.args.roads.now in
    ap (roads_from w) c.first_of.ensures ∙ from_first w (g.met.R.Roads.sound c.args.roads.now) c.args.junction
