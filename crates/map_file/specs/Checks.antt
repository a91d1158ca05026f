-- What is checked of the header and of each record; the numbers are those of the refusals.
use Rattle.std.specs.Prelude.{ℕ, ◌+◌, ◌*◌, ◌^◌, Bool, ◌&&◌, List, length, Option, ◌==◌, nat_le, nat_lt, slice_index}
use Rattle.roads.specs.declared.fault.Part.TheVariants.{Map}
use Rattle.roads.specs.declared.fault.Report.{Report}
use Rattle.roads.specs.Faults.{unless, or_else, first_below}
use Rattle.map_file.specs.Layout.{field, junction_count, road_count, level_count, junction_record}

abbrev pub within_limits : List ℕ → Bool
within_limits bs = nat_le (junction_count bs) 2048 && (nat_le (road_count bs) 4096 && (nat_le (level_count bs) 4 && slice_index bs 5 == 0))

-- a header, then the limits, then the length that the header asks for
abbrev pub head_fault : List ℕ → Option Report
head_fault bs =
    or_else (unless (nat_le 6 (length bs)) 1 0 Map)
    (or_else (unless (within_limits bs) 2 0 Map)
    (unless (length bs == 6 + 4 * junction_count bs + 12 * road_count bs) 1 0 Map))

-- the code has one hexadecimal digit a level, and the first road is one of the map's or 0
abbrev pub junction_fault : List ℕ → ℕ → Option Report
junction_fault bs j =
    or_else (unless (nat_lt (field bs (junction_record j)) (16 ^ level_count bs)) 3 (junction_record j) Map)
    (unless (nat_le (field bs (junction_record j + 2)) (road_count bs)) 3 (junction_record j + 2) Map)

-- of the record at an offset: the head is a junction, the next road is one of the map's or 0, the mark is 0 or 1
abbrev pub record_fault : List ℕ → ℕ → Option Report
record_fault bs at =
    or_else (unless (nat_lt (field bs at) (junction_count bs)) 3 at Map)
    (or_else (unless (nat_le (field bs (at + 2)) (road_count bs)) 3 (at + 2) Map)
    (unless (nat_le (field bs (at + 10)) 1) 3 (at + 10) Map))

-- of the road i + 1
abbrev pub road_fault : List ℕ → ℕ → Option Report
road_fault bs i = record_fault bs (6 + 4 * junction_count bs + 12 * i)

-- the records in the order of the file
unfoldable pub field_fault : List ℕ → Option Report
field_fault bs = or_else (first_below (junction_fault bs) (junction_count bs)) (first_below (road_fault bs) (road_count bs))
