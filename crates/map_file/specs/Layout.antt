-- Where the fields of a map file stand.
use Rattle.std.specs.Prelude.{ℕ, ◌+◌, ◌-◌, ◌*◌, List, slice_index}

-- the 16-bit field at an offset, low byte first
abbrev pub field : List ℕ → ℕ → ℕ
field bs at = slice_index bs at + 256 * slice_index bs (at + 1)

-- the header: how many junctions, how many roads, how many levels
abbrev pub junction_count : List ℕ → ℕ
junction_count bs = field bs 0

abbrev pub road_count : List ℕ → ℕ
road_count bs = field bs 2

abbrev pub level_count : List ℕ → ℕ
level_count bs = slice_index bs 4

-- where the record of junction j begins, and in a map of n junctions that of road r
abbrev pub junction_record : ℕ → ℕ
junction_record j = 6 + 4 * j

abbrev pub road_record : ℕ → ℕ → ℕ
road_record n r = 6 + 4 * n + 12 * (r - 1)

-- a junction's code and the first road of its chain
abbrev pub code_at : List ℕ → ℕ → ℕ
code_at bs j = field bs (junction_record j)

abbrev pub first_at : List ℕ → ℕ → ℕ
first_at bs j = field bs (junction_record j + 2)

-- a road's head, the next road of its chain, its seconds, metres and limit, and its mark
abbrev pub head_at : List ℕ → ℕ → ℕ
head_at bs r = field bs (road_record (junction_count bs) r)

abbrev pub next_at : List ℕ → ℕ → ℕ
next_at bs r = field bs (road_record (junction_count bs) r + 2)

abbrev pub seconds_at : List ℕ → ℕ → ℕ
seconds_at bs r = field bs (road_record (junction_count bs) r + 4)

abbrev pub metres_at : List ℕ → ℕ → ℕ
metres_at bs r = field bs (road_record (junction_count bs) r + 6)

abbrev pub limit_at : List ℕ → ℕ → ℕ
limit_at bs r = field bs (road_record (junction_count bs) r + 8)

abbrev pub mark_at : List ℕ → ℕ → ℕ
mark_at bs r = field bs (road_record (junction_count bs) r + 10)
