-- What the theorems rest on.
use Rattle.std.specs.Prelude.{◌≡◌, ℕ, ◌<◌, true, List, ◌++◌}
use Rattle.roads.specs.declared.facts.Facts.{Facts}
use Rattle.roads.specs.Networks.{Network, WellFormed}
use Rattle.charge.specs.Scales.{Scale}
use Rattle.walks.specs.declared.arcs.Arc.{Arc}
use Rattle.walks.specs.Digraphs.{Digraph, In, Walk, cost}
use Rattle.cells.specs.Cells.{Survey}
use Rattle.cells.specs.RoadGraphs.{open_roads}
use Rattle.cells.specs.Overlay.{Sheet, Right, overlay}

-- two lists of arcs, one after the other, cost what they cost joined
unfoldable pub CostsJoin : {C : Type 0} → Scale C → Type 0
CostsJoin {C} s = (g : Digraph C) (v w : List Arc) → cost s g (v ++ w) ≡ s.joined (cost s g v) (cost s g w)

-- with a right sheet, each open walk has a walk of the search graph that is not dearer
unfoldable pub Searched : {C : Type 0} → Scale C → Type 0
Searched {C} s = (w : Network) → WellFormed w → (price : ℕ → Facts → C) (c : Survey) (sheet : Sheet C) → Right s w price c sheet →
    (start goal : ℕ) (p : List Arc) → Walk (open_roads s w price) start p goal →
    (q : List Arc) × Walk (overlay s w price c sheet start goal) start q goal × (s.leq (cost s (overlay s w price c sheet start goal) q) (cost s (open_roads s w price) p) ≡ true)

-- what leaves a place in the search graph has it for its tail
unfoldable pub OverlayTails : {C : Type 0} → Scale C → Type 0
OverlayTails {C} s = (w : Network) → WellFormed w → (price : ℕ → Facts → C) (c : Survey) (sheet : Sheet C) (start goal : ℕ) (u : ℕ) (r : Arc) →
    In r ((overlay s w price c sheet start goal).leaving u) → r.tail ≡ u

-- and leads to a junction
unfoldable pub OverlayHeads : {C : Type 0} → Scale C → Type 0
OverlayHeads {C} s = (w : Network) → WellFormed w → (price : ℕ → Facts → C) (c : Survey) (sheet : Sheet C) (start goal : ℕ) (u : ℕ) (r : Arc) →
    In r ((overlay s w price c sheet start goal).leaving u) → r.head < (overlay s w price c sheet start goal).places
