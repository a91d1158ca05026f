use Rattle.std.proofs.Common.{◌≡◌, length}
use Rattle.road_graph.specs.Cursors.{arcs_from}
use Rattle.roads.specs.Networks.{roads_from}
use Rattle.road_graph.proofs.cursor.next_passing.Given as goal

abbrev pub invariant-loop-facts : goal.invariant-loop-facts
invariant-loop-facts g l =
    let w = g.R.Roads.meaning l.roads in
    let test = g.P.RoadTest.test l.test in
    arcs_from w test l.initial.at.road ≡ arcs_from w test l.at.road

abbrev pub decreases-loop-facts : goal.decreases-loop-facts
decreases-loop-facts g l = length (roads_from (g.R.Roads.meaning l.roads) l.at.road)
