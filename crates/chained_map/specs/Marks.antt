-- The marks of a map file.
use Rattle.std.specs.Prelude.{ℕ, ◌+◌, List, slice_set}
use Rattle.map_file.specs.Layout.{junction_count, road_record}

-- where the mark of road r stands
abbrev pub mark_place : List ℕ → ℕ → ℕ
mark_place bs r = road_record (junction_count bs) r + 10

-- the file with another mark at road r, and every other byte as it was
abbrev pub with_mark : ℕ → ℕ → List ℕ → List ℕ
with_mark v r bs = slice_set bs (mark_place bs r) v
