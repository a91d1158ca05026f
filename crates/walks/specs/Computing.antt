-- The least total as a function that computes: the cheapest of finitely many walks.
use Rattle.std.specs.Prelude.{ℕ, zero, suc, ◌-◌, cond, List, [], ◌∷◌, ◌++◌, map, Some, None, Option, ◌==◌}
use Rattle.std.specs.List.{flat_map}
use Rattle.charge.specs.Scales.{Scale}
use Rattle.walks.specs.declared.arcs.Arc.{Arc}
use Rattle.walks.specs.Digraphs.{Digraph, cost}

abbrev pub cheaper : {C : Type 0} → Scale C → C → Option C → Option C
cheaper s x None = Some x
cheaper s x (Some y) = Some (cond (s.leq x y) x y)

-- the cheapest of some charges; None where there are none
abbrev pub cheapest : {C : Type 0} → Scale C → List C → Option C
cheapest s [] = None
cheapest s (x ∷ xs) = cheaper s x (cheapest s xs)

-- the walks from a to b of at most k arcs
abbrev pub walks_within : {C : Type 0} → Digraph C → ℕ → ℕ → ℕ → List (List Arc)
walks_within g zero a b = cond (a == b) ([] ∷ []) []
walks_within g (suc k) a b = cond (a == b) ([] ∷ []) [] ++ flat_map (λ r. map (λ w. r ∷ w) (walks_within g k r.head b)) (g.leaving a)

-- the cheapest total of the walks with fewer arcs than there are places
abbrev pub least_total : {C : Type 0} → Scale C → Digraph C → ℕ → ℕ → Option C
least_total s g a b = cheapest s (map (cost s g) (walks_within g (g.places - 1) a b))
