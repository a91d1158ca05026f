use Rattle.std.proofs.Common.{filter, ◌≡◌, sym, ap, ◌∙◌, subst}
use Rattle.std.proofs.lemmas.Bool.{cond-true, cond-false}
use Rattle.walks.specs.Digraphs.{leads}
use Rattle.walks.proofs.Giving.{came, ended}
use Rattle.search.specs.Turns.{size_of}
use Rattle.search.proofs.Turning.{proper_laws, arc_done, arc_keeps, turn_ends}
use Rattle.search.proofs.run.Run.scan.Goals as goal

pub loop-by-preserved-then-leads : goal.loop-by-preserved-then-leads
loop-by-preserved-then-leads g c =
    let graph = g.G.Graph.graph c.args.self.now.graph.now in
    let m = g.met.G.Charge.Charge in
    let laws = proper_laws graph m.associative m.unit m.order m.monotone m.growing in
    let inv = c.loop-by.invariant in
    let old = c.loop-by.self in
    let new = c.relax.new.self in
    let r = c.in-Some.by.arc in
    let same = c.relax.ensures.same in
    let it = came g.G.Arcs.Iterator.next_gives graph.charge c.loop-by.by-iterator inv.left.0 inv.left.1 c.in-Some.by c.next.new.self c.in-Some.ensures.steps in
    let size = subst (λ b. size_of old.frontier.now ≡ (g.G.Graph.graph b.now).places) inv.same.graph old.size in
    let first = ap (filter (leads graph.places c.args.place)) it.first ∙ cond-true _ _ _ (sym c.leads.ensures ∙ c.if-leads.true) in
    record {
      same = record {
        graph = same.graph ∙ inv.same.graph;
        frontier = same.frontier ∙ inv.same.frontier;
        labels = same.labels ∙ inv.same.labels;
        long = same.long ∙ inv.same.long;
      };
      left = (
        it.others,
        it.given,
        arc_done laws old.frontier.now new.frontier.now old.labels.now new.labels.now c.args.place r c.in-Some.by.charge _ _ inv.left.2 first it.charged c.relax.ensures.offered,
      );
      kept = arc_keeps c.args.self.now.frontier.now old.frontier.now new.frontier.now c.args.self.now.labels.now old.labels.now new.labels.now _ r _ size inv.kept c.relax.ensures.offered;
    }

pub loop-by-preserved : goal.loop-by-preserved
loop-by-preserved g c =
    let graph = g.G.Graph.graph c.args.self.now.graph.now in
    let inv = c.loop-by.invariant in
    let now = c.loop-by.self in
    let it = came g.G.Arcs.Iterator.next_gives graph.charge c.loop-by.by-iterator inv.left.0 inv.left.1 c.in-Some.by c.next.new.self c.in-Some.ensures.steps in
    let passed = ap (filter (leads graph.places c.args.place)) it.first ∙ cond-false _ _ _ (sym c.leads.ensures ∙ c.if-leads.false) in
    record {
      same = inv.same;
      left = (it.others, it.given, rw (sym passed) inv.left.2);
      kept = inv.kept;
    }

pub returns-clause-turned : goal.returns-clause-turned
returns-clause-turned g c =
    let graph = g.G.Graph.graph c.args.self.now.graph.now in
    let left = c.loop-by.invariant.left in
    let over = ended g.G.Arcs.Iterator.next_gives graph.charge c.loop-by.by-iterator left.0 left.1 c.next.new.self c.in-None.ensures.steps in
    turn_ends c.loop-by.self.frontier.now c.loop-by.self.labels.now c.args.place _ left.2 (ap (filter (leads graph.places c.args.place)) over)
