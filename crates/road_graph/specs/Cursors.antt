-- What a cursor over the roads that leave a junction has yet to give.
use Rattle.std.specs.Prelude.{ℕ, Bool, List}
use Rattle.roads.specs.declared.facts.Facts.{Facts}
use Rattle.roads.specs.Networks.{Network, roads_from}
use Rattle.walks.specs.declared.arcs.Arc.{Arc}
use Rattle.cells.specs.RoadGraphs.{arcs_of}

-- the arcs of the roads from r on whose facts pass a test
abbrev pub arcs_from : Network → (Facts → Bool) → ℕ → List Arc
arcs_from w test r = arcs_of w test (roads_from w r)
