-- What the theorems rest on.
use Rattle.std.specs.Prelude.{◌≡◌, ℕ, ◌<◌, ◌≤◌, true, List, length, map}
use Rattle.std.specs.List.{AllByRecursion}
use Rattle.charge.specs.Scales.{Scale}
use Rattle.roads.specs.RoadLists.{distinct}
use Rattle.walks.specs.declared.arcs.Arc.{Arc}
use Rattle.walks.specs.Digraphs.{Digraph, In, Sound, Walk, cost}
use Rattle.walks.specs.Least.{LeastOf}
use Rattle.walks.specs.Cutting.{Sub}
use Rattle.walks.specs.Computing.{cheapest}

-- of the numbers below n no more than n differ
unfoldable pub DistinctAreFew : Type 0
DistinctAreFew = (n : ℕ) (xs : List ℕ) → AllByRecursion (λ x. x < n) xs → distinct xs ≡ true → length xs ≤ n

-- charges of which neither is dearer are the same
unfoldable pub EquallyDear : {C : Type 0} → Scale C → Type 0
EquallyDear {C} s = (a b : C) → s.leq a b ≡ true → s.leq b a ≡ true → a ≡ b

-- some of the arcs of a list, in their order, are not dearer than all
unfoldable pub PartsAreCheap : {C : Type 0} → Scale C → Type 0
PartsAreCheap {C} s = (g : Digraph C) (v w : List Arc) → Sub v w → s.leq (cost s g v) (cost s g w) ≡ true

-- the cheapest of a list of lists has their least total
unfoldable pub CheapestIsLeast : {C : Type 0} → Scale C → Type 0
CheapestIsLeast {C} s = (g : Digraph C) (ws : List (List Arc)) → LeastOf s g (λ w. In w ws) (cheapest s (map (cost s g) ws))

-- each walk has one between the same ends with fewer arcs than there are places that is not dearer
unfoldable pub ShortEnough : {C : Type 0} → Scale C → Type 0
ShortEnough {C} s = (g : Digraph C) → Sound g → (a b : ℕ) → a < g.places → (w : List Arc) → Walk g a w b →
    (v : List Arc) × (Walk g a v b × (length v < g.places)) × (s.leq (cost s g v) (cost s g w) ≡ true)
