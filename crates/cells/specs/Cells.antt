-- Nested cells, and the junctions on their borders.
use Rattle.std.specs.Prelude.{ℕ, zero, suc, ◌-◌, ◌/◌, ◌^◌, Bool, false, cond, not, ◌&&◌, ◌||◌, List, [], ◌∷◌, ◌++◌, Some, None, Option, ◌==◌}
use Rattle.roads.specs.declared.facts.Facts.{Facts}
use Rattle.roads.specs.Networks.{Network}

-- how many levels there are, and the code of each junction
pub record Survey : Type 0 where
  pub levels : ℕ
  pub code : ℕ → ℕ

-- the cell of level l in which v lies: its code without the l - 1 lowest hexadecimal digits
abbrev pub cell : Survey → ℕ → ℕ → ℕ
cell c l v = c.code v / 16 ^ (l - 1)

-- whether a road with these facts ends at v, or begins there
abbrev pub has_end : ℕ → Option Facts → Bool
has_end v None = false
has_end v (Some f) = v == f.tail || v == f.head

-- whether it joins two cells of level l
abbrev pub crosses : Survey → ℕ → Option Facts → Bool
crosses c l None = false
crosses c l (Some f) = not (cell c l f.tail == cell c l f.head)

-- whether some road of 1, .., m passes a test
abbrev pub some_road : (ℕ → Bool) → ℕ → Bool
some_road test zero = false
some_road test (suc m) = test (suc m) || some_road test m

-- a border junction of level l: some road, open or closed, joins it in either direction to another cell of that level
abbrev pub border : Network → Survey → ℕ → ℕ → Bool
border w c l v = some_road (λ r. has_end v (w.facts r) && crosses c l (w.facts r)) w.roads

-- the numbers below k that pass a test, in order
abbrev pub those_below : (ℕ → Bool) → ℕ → List ℕ
those_below test zero = []
those_below test (suc k) = those_below test k ++ cond (test k) (k ∷ []) []

-- the border junctions of cell k of level l, by number
abbrev pub borders_of : Network → Survey → ℕ → ℕ → List ℕ
borders_of w c l k = those_below (λ v. (cell c l v == k) && border w c l v) w.junctions
