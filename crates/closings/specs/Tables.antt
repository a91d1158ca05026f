-- The numbers that a table holds.
use Rattle.std.specs.Prelude.{◌≡◌, ℕ, ◌≤◌, Bool, true, not, ◌&&◌, List, length, take, ◌==◌}
use Rattle.roads.specs.RoadLists.{distinct}
use Rattle.roads.specs.Networks.{numbered}

-- the first numbers of some places, none of them twice
pub record IsTable (slots : List ℕ) (count : ℕ) : Type 0 where
  pub few : count ≤ length slots
  pub once : distinct (take count slots) ≡ true

-- whether x is one of m roads, and not r
abbrev pub other_road : ℕ → ℕ → ℕ → Bool
other_road m r x = numbered m x && not (x == r)
