use Rattle.std.proofs.Common.{◌≡◌, filter, take}
use Rattle.closings.specs.Tables.{other_road}
use Rattle.closings.proofs.table.Table.without.Given as goal

abbrev pub invariant-loop-x : goal.invariant-loop-x
invariant-loop-x l = l.table ≡ filter (other_road l.m l.road) (take l.x-index l.x-items)
