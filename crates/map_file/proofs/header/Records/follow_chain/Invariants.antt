use Rattle.std.proofs.Common.{◌≤◌}
use Rattle.map_file.specs.Layout.{road_count}
use Rattle.map_file.proofs.Walks.{Walk, free}
use Rattle.map_file.proofs.header.Records.follow_chain.Given as goal

abbrev pub invariant-loop-road : goal.invariant-loop-road
invariant-loop-road l = Walk l.self.bytes.now l.tails l.junction l.road × (l.road ≤ road_count l.self.bytes.now)

abbrev pub decreases-loop-road : goal.decreases-loop-road
decreases-loop-road l = free l.tails
