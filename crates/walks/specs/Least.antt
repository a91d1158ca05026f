-- The least of the totals of some walks.
use Rattle.std.specs.Prelude.{◌≡◌, ℕ, true, List, Some, None, Option}
use Rattle.charge.specs.Scales.{Scale}
use Rattle.walks.specs.declared.arcs.Arc.{Arc}
use Rattle.walks.specs.Digraphs.{Digraph, Walk, cost}

-- over the lists of arcs of which P holds: none exactly when it holds of none, else the total of one of them, and not
-- dearer than any one's
abbrev pub LeastOf : {C : Type 0} → Scale C → Digraph C → (List Arc → Type 0) → Option C → Type 0
LeastOf s g P None = (w : List Arc) → P w → ⊥
LeastOf s g P (Some x) = ((w : List Arc) × P w × (cost s g w ≡ x)) × ((w : List Arc) → P w → s.leq x (cost s g w) ≡ true)

-- over the walks from a to b
abbrev pub Least : {C : Type 0} → Scale C → Digraph C → ℕ → ℕ → Option C → Type 0
Least s g a b o = LeastOf s g (λ w. Walk g a w b) o
