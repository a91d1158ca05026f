use Rattle.std.proofs.Common.{◌≡◌, take}
use Rattle.std.specs.List.{count_by}
use Rattle.roads.specs.Networks.{numbered}
use Rattle.closings.proofs.table.edits.count_numbered.Given as goal

abbrev pub invariant-loop-x : goal.invariant-loop-x
invariant-loop-x l = l.count ≡ count_by (numbered l.m) (take l.x-index l.numbers)
