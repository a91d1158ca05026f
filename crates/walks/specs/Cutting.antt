-- How loops are cut from a walk: from its start on, each place is left by the arc that leaves it last.
use Rattle.std.specs.Prelude.{ℕ, zero, suc, cond, List, [], ◌∷◌, length, Some, None, Option, ◌==◌}
use Rattle.walks.specs.declared.arcs.Arc.{Arc}

-- the last arc of a list that leaves u
abbrev pub last_exit : List Arc → ℕ → Option Arc
last_exit [] u = None
last_exit (r ∷ w) u = elim (last_exit w u) [ None ↦ cond (r.tail == u) (Some r) None | Some x ↦ Some x ]

-- from u by the exits to the goal, no more than so many arcs
abbrev pub follow : (ℕ → Option Arc) → ℕ → ℕ → ℕ → List Arc
follow exit goal zero u = []
follow exit goal (suc k) u = cond (u == goal) [] (elim (exit u) [ None ↦ [] | Some r ↦ r ∷ follow exit goal k r.head ])

-- a walk from a to b without its loops
abbrev pub cut : ℕ → ℕ → List Arc → List Arc
cut a b w = follow (last_exit w) b (length w) a

-- the first list is the second with some elements left out
pub data Sub {X : Type 0} : List X → List X → Type 0 where
  done : Sub [] []
  skip : {y : X} {xs ys : List X} → Sub xs ys → Sub xs (y ∷ ys)
  keep : {y : X} {xs ys : List X} → Sub xs ys → Sub (y ∷ xs) (y ∷ ys)
