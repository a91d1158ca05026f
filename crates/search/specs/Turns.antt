-- A turn of the search, in the values that the code holds.
use Rattle.std.specs.Prelude.{◌≡◌, ℕ, ◌<◌, Bool, false, not, ◌||◌, ◌≢◌, List, drop, Some, None, Option, MatchOption, ◌==◌, slice_index_or, slice_set}
use Rattle.charge.specs.Scales.{Scale}
use Rattle.walks.specs.declared.arcs.Arc.{Arc}
use Rattle.walks.specs.Digraphs.{Digraph}
use Rattle.search.specs.declared.frontier.lists.Mark.TheVariants.{Unseen, Waiting, Settled}
use Rattle.search.specs.declared.frontier.Frontier.{Frontier}
use Rattle.search.specs.Marks.{is_unseen, is_settled, seen_mark, tally}
use Rattle.search.specs.Waiting.{cleared, Marked}
use Rattle.search.specs.Found.{mark_of}
use Rattle.search.specs.Progress.{state, First, Outer, Inner, Relaxed}

-- the search is over a graph of so many places
abbrev pub size_of : Frontier → ℕ
size_of f = f.places.lists.size

abbrev pub is_goal : Option ℕ → ℕ → Bool
is_goal None v = false
is_goal (Some goal) v = goal == v

-- how many of n places are settled
abbrev pub settled_count : Frontier → ℕ → ℕ
settled_count f n = tally is_settled (mark_of f) n

-- of a graph of n places, the start u alone waits, and all else is as it was
pub record Begun (f f' : Frontier) (n u : ℕ) : Type 0 where
  pub start : f'.start ≡ u
  pub steps : f'.steps ≡ f.steps
  pub marks : Marked (cleared f.places.lists n) f'.places.lists u Waiting
  pub others : (v : ℕ) → v < n → v ≢ u → mark_of f' v ≡ Unseen

-- a total is better than what v has
abbrev pub improved : {C : Type 0} → Scale C → Frontier → List C → ℕ → C → Bool
improved s f labels v x = is_unseen (mark_of f v) || not (s.leq (slice_index_or labels v s.neutral) x)

-- r's head was reached by r
abbrev pub recorded : Frontier → Arc → Frontier
recorded f r = record { start = f.start; places = f.places; steps = slice_set f.steps r.head (record { tail = r.tail; road = r.road }) }

-- and is seen
pub record Reached (f f' : Frontier) (r : Arc) : Type 0 where
  pub start : f'.start ≡ f.start
  pub steps : f'.steps ≡ (recorded f r).steps
  pub marks : Marked f.places.lists f'.places.lists r.head (seen_mark (mark_of f r.head))

-- u is settled, and all else is as it was
pub record Settles (f f' : Frontier) (u : ℕ) : Type 0 where
  pub start : f'.start ≡ f.start
  pub steps : f'.steps ≡ f.steps
  pub marks : Marked f.places.lists f'.places.lists u Settled

-- a place with the least label is settled; none where none waits
abbrev pub Taken : {C : Type 0} → Scale C → Frontier → Frontier → List C → Option ℕ → Type 0
Taken s f f' labels r =
    MatchOption r ((f' ≡ f) × ((v : ℕ) → v < size_of f → mark_of f v ≢ Waiting)) (λ u. First s (size_of f) (state s.neutral f labels) u × Settles f f' u)

-- between two turns
abbrev pub Searching : {C : Type 0} → Scale C → Digraph C → Frontier → List C → Type 0
Searching s g f labels = Outer s g f.start (settled_count f g.places) (state s.neutral f labels)

-- in a turn: u was settled last, and some of its arcs are left
abbrev pub Scanning : {C : Type 0} → Scale C → Digraph C → Frontier → List C → ℕ → List Arc → Type 0
Scanning s g f labels u left = Inner s g f.start (settled_count f g.places) (state s.neutral f labels) u left

-- what an arc changes that offers its head the total x
pub record Offered {C : Type 0} (s : Scale C) (f : Frontier) (labels : List C) (f' : Frontier) (labels' : List C) (r : Arc) (x : C) : Type 0 where
  pub start : f'.start ≡ f.start
  pub size : size_of f' ≡ size_of f
  pub beyond : drop (size_of f) labels' ≡ drop (size_of f) labels
  pub relaxed : Relaxed s (state s.neutral f labels) (state s.neutral f' labels') r x

-- what no arc changes
pub record Kept {C : Type 0} (n : ℕ) (f : Frontier) (labels : List C) (f' : Frontier) (labels' : List C) : Type 0 where
  pub start : f'.start ≡ f.start
  pub count : settled_count f' n ≡ settled_count f n
  pub beyond : drop n labels' ≡ drop n labels
