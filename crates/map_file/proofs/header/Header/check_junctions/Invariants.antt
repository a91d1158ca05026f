use Rattle.std.proofs.Common.{◌≡◌, None}
use Rattle.roads.specs.Faults.{first_below}
use Rattle.map_file.specs.Checks.{junction_fault}
use Rattle.map_file.proofs.header.Header.check_junctions.Given as goal

abbrev pub invariant-loop-junction : goal.invariant-loop-junction
invariant-loop-junction l = first_below (junction_fault l.self.bytes.now) l.junction ≡ None
