-- A search as it runs.
use Rattle.std.specs.Prelude.{◌≡◌, length}
use Rattle.search.specs.declared.run.Run.{Run}

-- it is over the same graph, and has the same frontier and labels lent
pub record SameRun {G C K : Type 0} {m : _} {n : _} {k : _} (r r' : Run G C K m n k) : Type 0 where
  pub graph : r'.graph ≡ r.graph
  pub frontier : r'.frontier.ghost_name ≡ r.frontier.ghost_name
  pub labels : r'.labels.ghost_name ≡ r.labels.ghost_name
  pub long : length r'.labels.now ≡ length r.labels.now
