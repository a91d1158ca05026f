use Rattle.roads.specs.Networks.{roads_from}
use Rattle.cells.specs.RoadGraphs.{arcs_of, road_charge}
use Rattle.road_graph.specs.Passing.{charged_arcs}
use Rattle.road_graph.proofs.Giving.{gives}
use Rattle.road_graph.proofs.graph.RoadsWhereGraph.leaving.Goals as goal

pub returns-clause-gives : goal.returns-clause-gives
returns-clause-gives g c =
    let scale = g.F.Charge.Charge.scale in
    let w = g.R.Roads.meaning c.args.self.now.roads.now in
    let price = g.F.Tariff.meaning c.args.self.now.tariff.now in
    let test = g.P.RoadTest.test c.args.self.now.test.now in
    gives (λ s. charged_arcs scale (g.R.Roads.meaning s.roads.now) (g.F.Tariff.meaning s.tariff.now) (g.P.RoadTest.test s.test.now) (roads_from (g.R.Roads.meaning s.roads.now) s.at.road))
    (λ a. road_charge scale w price a.road) _ (arcs_of w test (w.leaving c.args.place)) c.new.ensures
