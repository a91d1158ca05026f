-- What holds of walks under any lawful charge.
use Rattle.std.specs.Prelude.{◌≡◌, ℕ, ◌<◌, true, ◌↔◌, List, length, Option}
use Rattle.charge.specs.Scales.{Scale}
use Rattle.roads.specs.RoadLists.{distinct}
use Rattle.walks.specs.declared.arcs.Arc.{Arc}
use Rattle.walks.specs.Digraphs.{Digraph, Sound, Walk, cost, visits}
use Rattle.walks.specs.Least.{LeastOf, Least}
use Rattle.walks.specs.Cutting.{cut, Sub}
use Rattle.walks.specs.Computing.{least_total}

-- a walk without its loops is a walk between the same ends, made of some of its arcs in their order, that comes to no
-- place twice and is not dearer
unfoldable pub CutWalks : {C : Type 0} → Scale C → Type 0
CutWalks {C} s = (g : Digraph C) → Sound g → (a b : ℕ) (w : List Arc) → Walk g a w b →
    Walk g a (cut a b w) b × Sub (cut a b w) w × (distinct (visits a (cut a b w)) ≡ true) × (s.leq (cost s g (cut a b w)) (cost s g w) ≡ true)

-- a walk that comes to no place twice has fewer arcs than there are places
unfoldable pub SimpleWalks : {C : Type 0} → Scale C → Type 0
SimpleWalks {C} s = (g : Digraph C) → Sound g → (a b : ℕ) (w : List Arc) → a < g.places → Walk g a w b →
    distinct (visits a w) ≡ true → length w < g.places

-- the least over the walks with fewer arcs than there are places is the least over all walks
unfoldable pub ShortWalks : {C : Type 0} → Scale C → Type 0
ShortWalks {C} s = (g : Digraph C) → Sound g → (a b : ℕ) → a < g.places → (o : Option C) →
    LeastOf s g (λ w. Walk g a w b × (length w < g.places)) o ↔ Least s g a b o

-- there is at most one least total
unfoldable pub OneLeast : {C : Type 0} → Scale C → Type 0
OneLeast {C} s = (g : Digraph C) (a b : ℕ) (o p : Option C) → Least s g a b o → Least s g a b p → o ≡ p

-- and it is the one that is computed
unfoldable pub ComputedLeast : {C : Type 0} → Scale C → Type 0
ComputedLeast {C} s = (g : Digraph C) → Sound g → (a b : ℕ) → a < g.places → (o : Option C) →
    Least s g a b o ↔ (o ≡ least_total s g a b)
