use Rattle.std.proofs.Common.{◌≡◌, ◌+◌, length}
use Rattle.std.proofs.lemmas.List.Edits.{sets}
use Rattle.loop_cutting.specs.Following.{ahead}
use Rattle.loop_cutting.proofs.Written.{roads}
use Rattle.loop_cutting.proofs.following.Following.put_roads.Given as goal

abbrev pub invariant-loop-at : goal.invariant-loop-at
invariant-loop-at l =
    let rest = ahead l.at-iterator.iter in
    let all = ahead l.initial.at-iterator.iter in
    record {
      counted : l.at-iterator.count + length rest ≡ length all;
      written : sets l.way l.at-iterator.count (roads rest) ≡ sets l.initial.way 0 (roads all);
    }
