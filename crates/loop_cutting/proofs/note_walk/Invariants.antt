use Rattle.std.proofs.Common.{◌≡◌, ℕ, take, drop}
use Rattle.walks.specs.Cutting.{last_exit}
use Rattle.loop_cutting.specs.Exits.{exit_at, all_fit}
use Rattle.loop_cutting.proofs.note_walk.Given as goal

abbrev pub invariant-loop-arc : goal.invariant-loop-arc
invariant-loop-arc l =
    record {
      last : (u : ℕ) → exit_at l.exits u ≡ last_exit (take l.arc-index l.walk) u;
      fit : all_fit (drop l.arc-index l.walk) ≡ all_fit l.walk;
    }
