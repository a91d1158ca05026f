use Rattle.std.proofs.Common.{List, filter}
use Rattle.walks.specs.declared.arcs.Arc.{Arc}
use Rattle.walks.specs.Digraphs.{leads, proper}
use Rattle.walks.specs.Arcs.{Gives}
use Rattle.search.specs.Turns.{Scanning, Kept}
use Rattle.search.specs.Runs.{SameRun}
use Rattle.search.proofs.run.Run.scan.Given as goal

abbrev pub invariant-loop-by : goal.invariant-loop-by
invariant-loop-by g l =
    let whole = g.G.Graph.graph l.graph in
    let graph = proper whole in
    record {
      same : SameRun l.initial.self l.self;
      left : (xs : List Arc) × Gives g.G.Arcs.Iterator.next_gives whole.charge l.by-iterator xs
          × Scanning g.G.Charge.Charge.scale graph l.self.frontier.now l.self.labels.now l.place (filter (leads graph.places l.place) xs);
      kept : Kept graph.places l.initial.self.frontier.now l.initial.self.labels.now l.self.frontier.now l.self.labels.now;
    }
