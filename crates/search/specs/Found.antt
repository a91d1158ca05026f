-- What a search finds.
use Rattle.std.specs.Prelude.{◌≡◌, ℕ, zero, suc, ◌<◌, Bool, true, cond, ◌&&◌, List, [], ◌∷◌, ◌++◌, length, Some, None, Option, ◌==◌, nat_le, nat_lt, slice_index_or}
use Rattle.charge.specs.Scales.{Scale}
use Rattle.walks.specs.declared.arcs.Arc.{Arc}
use Rattle.walks.specs.Digraphs.{Digraph, Walk, cost}
use Rattle.walks.specs.Least.{Least}
use Rattle.search.specs.declared.frontier.lists.Mark.{Mark}
use Rattle.search.specs.declared.frontier.Step.{Step}
use Rattle.search.specs.declared.frontier.Frontier.{Frontier}
use Rattle.search.specs.Marks.{mark_at, is_settled}

-- a search of n places from a start, with so many labels lent, can be run
abbrev pub can_run : ℕ → ℕ → ℕ → Bool
can_run n start labels = nat_le n 2048 && (nat_lt start n && nat_le n labels)

abbrev pub mark_of : Frontier → ℕ → Mark
mark_of f v = mark_at f.places.lists v

-- whether the search came to v and is done with it
abbrev pub settled : Frontier → ℕ → Bool
settled f v = is_settled (mark_of f v)

-- the last step of the way to v; past the steps, from place 0 by no road
abbrev pub step_to : Frontier → ℕ → Step
step_to f v = slice_index_or f.steps v (record { tail = 0; road = 0 })

-- the arc by which v was reached
abbrev pub arc_into : Frontier → ℕ → Arc
arc_into f v = record { tail = (step_to f v).tail; head = v; road = (step_to f v).road }

-- the arcs from the start to v, by following the records back; no more than k
abbrev pub back : Frontier → ℕ → ℕ → ℕ → List Arc
back f start zero v = []
back f start (suc k) v = cond (v == start) [] (back f start k (arc_into f v).tail ++ (arc_into f v ∷ []))

-- the label of a settled place
abbrev pub found : {C : Type 0} → C → Frontier → List C → ℕ → Option C
found d f labels v = cond (settled f v) (Some (slice_index_or labels v d)) None

-- the search is right at v: it found the least total over all walks, and the records lead back along a walk of that
-- total with fewer arcs than there are places
pub record Answered {C : Type 0} (s : Scale C) (g : Digraph C) (start : ℕ) (f : Frontier) (labels : List C) (v : ℕ) : Type 0 where
  pub least : Least s g start v (found s.neutral f labels v)
  pub traced : settled f v ≡ true → Walk g start (back f start g.places v) v × (cost s g (back f start g.places v) ≡ slice_index_or labels v s.neutral) × (length (back f start g.places v) < g.places)

-- with a goal the search answers for the goal alone, else for every place
abbrev pub Asked : Option ℕ → ℕ → Type 0
Asked None v = Unit {0}
Asked (Some goal) v = v ≡ goal
