-- With a right sheet the search graph is exact.
use Rattle.std.specs.Prelude.{◌≡◌, ℕ, ◌↔◌, List, Option}
use Rattle.roads.specs.declared.facts.Facts.{Facts}
use Rattle.roads.specs.Networks.{Network, WellFormed}
use Rattle.charge.specs.Scales.{Scale}
use Rattle.walks.specs.declared.arcs.Arc.{Arc}
use Rattle.walks.specs.Digraphs.{Walk, cost, Sound}
use Rattle.walks.specs.Least.{Least}
use Rattle.cells.specs.Cells.{Survey}
use Rattle.cells.specs.RoadGraphs.{open_roads}
use Rattle.cells.specs.Overlay.{Sheet, Right, overlay}

-- the least total over the search graph is the least total over all open walks, and one exists exactly when the other does
unfoldable pub Exact : {C : Type 0} → Scale C → Type 0
Exact {C} s = (w : Network) → WellFormed w → (price : ℕ → Facts → C) (c : Survey) (sheet : Sheet C) → Right s w price c sheet →
    (start goal : ℕ) (o : Option C) → Least s (overlay s w price c sheet start goal) start goal o ↔ Least s (open_roads s w price) start goal o

-- every walk of the search graph opens into an open walk of the same total
unfoldable pub Opens : {C : Type 0} → Scale C → Type 0
Opens {C} s = (w : Network) → WellFormed w → (price : ℕ → Facts → C) (c : Survey) (sheet : Sheet C) → Right s w price c sheet →
    (start goal : ℕ) (a b : ℕ) (p : List Arc) → Walk (overlay s w price c sheet start goal) a p b →
    (q : List Arc) × Walk (open_roads s w price) a q b × (cost s (open_roads s w price) q ≡ cost s (overlay s w price c sheet start goal) p)

-- on any sheet whatever, the search graph is a graph
unfoldable pub OverlaySound : {C : Type 0} → Scale C → Type 0
OverlaySound {C} s = (w : Network) → WellFormed w → (price : ℕ → Facts → C) (c : Survey) (sheet : Sheet C) (start goal : ℕ) → Sound (overlay s w price c sheet start goal)
