-- The roads of a network as a graph, all that are open or those inside a cell.
use Rattle.std.specs.Prelude.{ℕ, Bool, cond, ◌&&◌, List, [], ◌∷◌, Some, None, ◌==◌}
use Rattle.roads.specs.declared.facts.Facts.{Facts}
use Rattle.roads.specs.Networks.{Network}
use Rattle.charge.specs.Scales.{Scale}
use Rattle.walks.specs.declared.arcs.Arc.{Arc}
use Rattle.walks.specs.Digraphs.{Digraph}
use Rattle.cells.specs.Cells.{Survey, cell}

abbrev pub road_arc : ℕ → Facts → Arc
road_arc r f = record { tail = f.tail; head = f.head; road = r }

-- the arcs of those roads of a list whose facts pass a test
abbrev pub arcs_of : Network → (Facts → Bool) → List ℕ → List Arc
arcs_of w test [] = []
arcs_of w test (r ∷ rs) = elim (w.facts r) [ None ↦ arcs_of w test rs | Some f ↦ cond (test f) (road_arc r f ∷ arcs_of w test rs) (arcs_of w test rs) ]

-- what road r costs by a tariff; neutral where there is no such road
abbrev pub road_charge : {C : Type 0} → Scale C → Network → (ℕ → Facts → C) → ℕ → C
road_charge s w price r = elim (w.facts r) [ None ↦ s.neutral | Some f ↦ price r f ]

-- the roads whose facts pass a test
abbrev pub roads_where : {C : Type 0} → Scale C → Network → (ℕ → Facts → C) → (Facts → Bool) → Digraph C
roads_where s w price test = record {
  places = w.junctions;
  leaving = λ v. arcs_of w test (w.leaving v);
  charge = λ a. road_charge s w price a.road;
}

abbrev pub open_roads : {C : Type 0} → Scale C → Network → (ℕ → Facts → C) → Digraph C
open_roads s w price = roads_where s w price (λ f. f.open)

-- open, with both ends in cell k of level l
abbrev pub stays_inside : Survey → ℕ → ℕ → Facts → Bool
stays_inside c l k f = f.open && (cell c l f.tail == k && cell c l f.head == k)

abbrev pub inside : {C : Type 0} → Scale C → Network → (ℕ → Facts → C) → Survey → ℕ → ℕ → Digraph C
inside s w price c l k = roads_where s w price (stays_inside c l k)
