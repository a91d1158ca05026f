use Rattle.std.proofs.Common.{◌≡◌, None}
use Rattle.roads.specs.Faults.{first_below}
use Rattle.map_file.specs.Checks.{road_fault}
use Rattle.map_file.proofs.header.Header.check_roads.Given as goal

abbrev pub invariant-loop-i : goal.invariant-loop-i
invariant-loop-i l = first_below (road_fault l.self.bytes.now) l.i ≡ None
