-- The chains of roads, one for each junction, and the whole check of a map file.
use Rattle.std.specs.Prelude.{◌≡◌, ℕ, zero, suc, ◌+◌, ◌≤◌, cond, List, [], ◌∷◌, ◌++◌, Some, None, Option, ◌==◌, slice_index_or, unwrap_or}
use Rattle.roads.specs.declared.fault.Part.TheVariants.{Map}
use Rattle.roads.specs.declared.fault.Report.{Report}
use Rattle.roads.specs.Faults.{unless, or_else, first_below}
use Rattle.roads.specs.RoadLists.{has}
use Rattle.map_file.specs.Layout.{junction_count, road_count, first_at, next_at}
use Rattle.map_file.specs.Checks.{head_fault, field_fault}

-- the roads from r on, each the next of the one before, until 0; no more than a limit
unfoldable pub chain : List ℕ → ℕ → ℕ → List ℕ
chain bs zero r = []
chain bs (suc limit) r = cond (r == 0) [] (r ∷ chain bs limit (next_at bs r))

-- the chain of junction j. One with more roads than the map has meets a road again within the limit.
unfoldable pub chain_of : List ℕ → ℕ → List ℕ
chain_of bs j = chain bs (road_count bs + 1) (first_at bs j)

-- the roads met along the chains of the junctions below j, in order
unfoldable pub met : List ℕ → ℕ → List ℕ
met bs zero = []
met bs (suc j) = met bs j ++ chain_of bs j

-- the first road of a list that comes again, where those of `seen` came before
abbrev pub again : List ℕ → List ℕ → Option ℕ
again seen [] = None
again seen (r ∷ rs) = cond (has r seen) (Some r) (again (r ∷ seen) rs)

-- the junction below j whose chain has r, where there is one
unfoldable pub tail_below : List ℕ → ℕ → ℕ → Option ℕ
tail_below bs zero r = None
tail_below bs (suc j) r = cond (has r (chain_of bs j)) (Some j) (tail_below bs j r)

-- a road's tail, the junction whose chain has it; 65535, which is no junction, where none has
abbrev pub tail_at : List ℕ → ℕ → ℕ
tail_at bs r = unwrap_or (tail_below bs (junction_count bs) r) 65535

-- a table has at each road's number the junction below j whose chain has the road; at 0, which is no road, none
abbrev pub TailsBelow : List ℕ → ℕ → List (Option ℕ) → Type 0
TailsBelow bs j table = (r : ℕ) → r ≤ road_count bs → slice_index_or table r None ≡ tail_below bs j r

abbrev pub Tails : List ℕ → List (Option ℕ) → Type 0
Tails bs table = TailsBelow bs (junction_count bs) table

abbrev pub met_again : Option ℕ → Option Report
met_again None = None
met_again (Some r) = Some (record { number = 4; place = r; part = Map })

-- of the road i + 1: it is met
abbrev pub unmet_fault : List ℕ → ℕ → Option Report
unmet_fault roads i = unless (has (i + 1) roads) 4 (i + 1) Map

unfoldable pub chain_fault : List ℕ → Option Report
chain_fault bs =
    or_else (met_again (again [] (met bs (junction_count bs))))
    (first_below (unmet_fault (met bs (junction_count bs))) (road_count bs))

-- the first check that a map file fails
unfoldable pub open_fault : List ℕ → Option Report
open_fault bs = or_else (head_fault bs) (or_else (field_fault bs) (chain_fault bs))
