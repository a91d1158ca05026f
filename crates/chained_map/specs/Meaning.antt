-- What the bytes of a map file mean.
use Rattle.std.specs.Prelude.{ℕ, cond, List, [], map, Some, None, Option, ◌==◌, nat_lt}
use Rattle.std.specs.List.{range_with_len}
use Rattle.roads.specs.declared.facts.Facts.{Facts}
use Rattle.roads.specs.Networks.{Network, numbered}
use Rattle.map_file.specs.Layout.{junction_count, road_count, code_at, head_at, seconds_at, metres_at, limit_at, mark_at}
use Rattle.map_file.specs.Chains.{chain_of, tail_at}

-- a road is open where its mark is 0
abbrev pub facts_at : List ℕ → ℕ → Facts
facts_at bs r = record {
  tail = tail_at bs r;
  head = head_at bs r;
  seconds = seconds_at bs r;
  metres = metres_at bs r;
  limit = limit_at bs r;
  «open» = (mark_at bs r == 0);
}

-- what leaves a junction is its chain
abbrev pub network : List ℕ → Network
network bs = record {
  junctions = junction_count bs;
  roads = road_count bs;
  facts = λ r. cond (numbered (road_count bs) r) (Some (facts_at bs r)) None;
  leaving = λ j. cond (nat_lt j (junction_count bs)) (chain_of bs j) [];
}

-- a junction's code, where there is such a junction
abbrev pub code_of : List ℕ → ℕ → Option ℕ
code_of bs j = cond (nat_lt j (junction_count bs)) (Some (code_at bs j)) None

-- the codes of junctions 0, 1, ..
abbrev pub codes : List ℕ → List ℕ
codes bs = map (code_at bs) (range_with_len 0 (junction_count bs))
