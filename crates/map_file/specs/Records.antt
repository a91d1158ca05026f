-- The records of a map file.
use Rattle.std.specs.Prelude.{ℕ, cond, List, Some, None, Option, nat_lt}
use Rattle.roads.specs.Networks.{numbered}
use Rattle.map_file.specs.declared.records.JunctionRecord.{JunctionRecord}
use Rattle.map_file.specs.declared.records.RoadRecord.{RoadRecord}
use Rattle.map_file.specs.Layout.{junction_count, road_count, road_record, code_at, first_at, head_at, next_at, seconds_at, metres_at, limit_at, mark_at}

-- the record of junction j, where there is such a junction
abbrev pub junction_of : List ℕ → ℕ → Option JunctionRecord
junction_of bs j = cond (nat_lt j (junction_count bs)) (Some (record { code = code_at bs j; first = first_at bs j })) None

-- where the record of road r begins, where there is such a road
abbrev pub place_of : List ℕ → ℕ → Option ℕ
place_of bs r = cond (numbered (road_count bs) r) (Some (road_record (junction_count bs) r)) None

-- the record of road r, where there is such a road
abbrev pub road_of : List ℕ → ℕ → Option RoadRecord
road_of bs r =
    cond (numbered (road_count bs) r)
    (Some (record { head = head_at bs r; next = next_at bs r; seconds = seconds_at bs r; metres = metres_at bs r; limit = limit_at bs r; mark = mark_at bs r }))
    None
