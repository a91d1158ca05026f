-- Graphs with charged arcs, and walks over them.
use Rattle.std.specs.Prelude.{◌≡◌, ℕ, ◌<◌, Bool, ◌&&◌, ◌⊎◌, List, [], ◌∷◌, map, filter, ◌==◌, nat_lt}
use Rattle.charge.specs.Scales.{Scale, total}
use Rattle.walks.specs.declared.arcs.Arc.{Arc}

-- places 0, 1, .., for each the arcs that leave it, and what an arc costs
pub record Digraph (C : Type 0) : Type 0 where
  pub places : ℕ
  pub leaving : ℕ → List Arc
  pub charge : Arc → C

-- x is one of a list
abbrev pub In : {X : Type 0} → X → List X → Type 0
In x [] = ⊥
In x (y ∷ ys) = (x ≡ y) ⊎ In x ys

-- what leaves a place has it for its tail, and leads to a place
pub record Sound {C : Type 0} (g : Digraph C) : Type 0 where
  pub tails : (u : ℕ) (r : Arc) → In r (g.leaving u) → r.tail ≡ u
  pub heads : (u : ℕ) (r : Arc) → In r (g.leaving u) → r.head < g.places

-- whether an arc has u for its tail and leads to one of n places
abbrev pub leads : ℕ → ℕ → Arc → Bool
leads n u r = r.tail == u && nat_lt r.head n

-- a graph without the arcs of a place that leave another or lead nowhere; a sound graph is as it was
abbrev pub proper : {C : Type 0} → Digraph C → Digraph C
proper g = record { places = g.places; leaving = λ u. filter (leads g.places u) (g.leaving u); charge = g.charge }

-- a list of arcs, each leaving where the one before ends, leads from a to b
abbrev pub Walk : {C : Type 0} → Digraph C → ℕ → List Arc → ℕ → Type 0
Walk g a [] b = a ≡ b
Walk g a (r ∷ w) b = In r (g.leaving a) × Walk g r.head w b

-- the arcs' charges joined in order, neutral if there are none
abbrev pub cost : {C : Type 0} → Scale C → Digraph C → List Arc → C
cost s g w = total s (map g.charge w)

-- the places of a walk from a
abbrev pub visits : ℕ → List Arc → List ℕ
visits a w = a ∷ map (λ r. r.head) w
