use Rattle.std.proofs.Common.{◌≡◌, ◌-◌, drop}
use Rattle.walks.specs.Digraphs.{proper}
use Rattle.search.specs.Turns.{settled_count, Searching}
use Rattle.search.specs.Runs.{SameRun}
use Rattle.search.proofs.search.Given as goal

abbrev pub invariant-loop-run : goal.invariant-loop-run
invariant-loop-run g l =
    let graph = proper (g.G.Graph.graph l.graph) in
    record {
      same : SameRun l.initial.run l.run;
      searching : Searching g.G.Charge.Charge.scale graph l.run.frontier.now l.run.labels.now;
      start : l.run.frontier.now.start ≡ l.start;
      beyond : drop graph.places l.run.labels.now ≡ drop graph.places l.initial.run.labels.now;
    }

abbrev pub decreases-loop-run : goal.decreases-loop-run
decreases-loop-run g l = let n = (g.G.Graph.graph l.graph).places in n - settled_count l.run.frontier.now n
