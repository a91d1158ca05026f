-- The search graph of a start and a goal: roads near them, shortcuts over the cells between.
use Rattle.std.specs.Prelude.{◌≡◌, ℕ, zero, suc, ◌≤◌, Bool, true, cond, not, ◌&&◌, List, [], ◌∷◌, ◌++◌, is_some, Some, Option, ◌==◌}
use Rattle.std.specs.Option.{unwrap_or}
use Rattle.roads.specs.declared.facts.Facts.{Facts}
use Rattle.roads.specs.Networks.{Network}
use Rattle.charge.specs.Scales.{Scale}
use Rattle.walks.specs.declared.arcs.Arc.{Arc}
use Rattle.walks.specs.Digraphs.{Digraph}
use Rattle.walks.specs.Least.{Least}
use Rattle.cells.specs.Cells.{Survey, cell, crosses, border, borders_of}
use Rattle.cells.specs.RoadGraphs.{arcs_of, road_charge, inside}

-- what a sheet says, by level, from and to
abbrev pub Sheet : Type 0 → Type 0
Sheet C = ℕ → ℕ → ℕ → Option C

-- each figure is the least over the open walks that stay inside the cell, and absent exactly where there is none
abbrev pub Right : {C : Type 0} → Scale C → Network → (ℕ → Facts → C) → Survey → Sheet C → Type 0
Right s w price c sheet = (l u x : ℕ) → 1 ≤ l → l ≤ c.levels → border w c l u ≡ true → border w c l x ≡ true → cell c l u ≡ cell c l x →
    Least s (inside s w price c l (cell c l u)) u x (sheet l u x)

-- whether v's cell of level l is neither the start's nor the goal's
abbrev pub apart : Survey → ℕ → ℕ → ℕ → ℕ → Bool
apart c start goal l v = not (cell c l v == cell c l start) && not (cell c l v == cell c l goal)

-- the highest level of 1, .., l at which it is neither, and 0 where there is none
abbrev pub highest : Survey → ℕ → ℕ → ℕ → ℕ → ℕ
highest c start goal zero v = 0
highest c start goal (suc l) v = cond (apart c start goal (suc l) v) (suc l) (highest c start goal l v)

abbrev pub query_level : Survey → ℕ → ℕ → ℕ → ℕ
query_level c start goal v = highest c start goal c.levels v

-- the shortcuts from v to those others of a list for which the sheet has a figure
abbrev pub shortcuts_to : {C : Type 0} → Sheet C → ℕ → ℕ → List ℕ → List Arc
shortcuts_to sheet l v [] = []
shortcuts_to sheet l v (x ∷ xs) = cond (not (x == v) && is_some (sheet l v x)) (record { tail = v; head = x; road = 0 } ∷ shortcuts_to sheet l v xs) (shortcuts_to sheet l v xs)

-- from a border junction of level l to the others of its cell
abbrev pub shortcuts : {C : Type 0} → Network → Survey → Sheet C → ℕ → ℕ → List Arc
shortcuts w c sheet l v = cond (border w c l v) (shortcuts_to sheet l v (borders_of w c l (cell c l v))) []

-- what leaves v, by its query level: its open roads, or its shortcuts and its open roads to other cells
abbrev pub overlay_leaving : {C : Type 0} → Network → Survey → Sheet C → ℕ → ℕ → List Arc
overlay_leaving w c sheet l v =
    cond (l == 0) (arcs_of w (λ f. f.open) (w.leaving v))
    (shortcuts w c sheet l v ++ arcs_of w (λ f. f.open && crosses c l (Some f)) (w.leaving v))

-- a shortcut costs its figure
abbrev pub overlay_charge : {C : Type 0} → Scale C → Network → (ℕ → Facts → C) → Survey → Sheet C → ℕ → ℕ → Arc → C
overlay_charge s w price c sheet start goal a =
    cond (a.road == 0) (unwrap_or (sheet (query_level c start goal a.tail) a.tail a.head) s.neutral) (road_charge s w price a.road)

abbrev pub overlay : {C : Type 0} → Scale C → Network → (ℕ → Facts → C) → Survey → Sheet C → ℕ → ℕ → Digraph C
overlay s w price c sheet start goal = record {
  places = w.junctions;
  leaving = λ v. overlay_leaving w c sheet (query_level c start goal v) v;
  charge = overlay_charge s w price c sheet start goal;
}
