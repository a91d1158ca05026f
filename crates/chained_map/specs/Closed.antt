-- What closing means on a map file: every road is under-open, and the marked roads are the own closings.
use Rattle.std.specs.Prelude.{ℕ, not, ◌&&◌, List, ◌==◌}
use Rattle.roads.specs.declared.fault.Part.TheVariants.{Map}
use Rattle.roads.specs.Networks.{numbered}
use Rattle.closings.specs.Closures.{Closures}
use Rattle.map_file.specs.Layout.{road_count, mark_at}

abbrev pub marked : List ℕ → Closures
marked bs = record {
  under = λ r. numbered (road_count bs) r;
  own = λ r. numbered (road_count bs) r && not (mark_at bs r == 0);
  capacity = road_count bs;
  finder = λ _ _. Map;
}
