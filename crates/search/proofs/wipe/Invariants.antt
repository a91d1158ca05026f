use Rattle.std.proofs.Common.{◌≡◌, ◌++◌, drop, replicate}
use Rattle.search.proofs.wipe.Given as goal

abbrev pub invariant-loop-label : goal.invariant-loop-label
invariant-loop-label g l = l.label-items ≡ replicate l.label-index g.C.Charge.scale.neutral ++ drop l.label-index l.initial.label-items
