use Rattle.std.proofs.Common.{sym, ◌∙◌}
use Rattle.walks.specs.Digraphs.{proper}
use Rattle.search.proofs.Turning.{Laws, proper_laws, counted, turn_begins, goal_found, all_found}
use Rattle.search.proofs.run.Run.turn.Given as given
use Rattle.search.proofs.run.Run.turn.Goals as goal

laws : (g : given.Over) (graph : g.row.G.Denot) → Laws g.G.Charge.Charge.scale (proper (g.G.Graph.graph graph))
laws g graph = let m = g.met.G.Charge.Charge in proper_laws (g.G.Graph.graph graph) m.associative m.unit m.order m.monotone m.growing

pub scan-requires : goal.scan-requires
scan-requires g c =
    let run = c.args.self.now in
    let took = c.in-Some.ensures in
    turn_begins g.met.G.Charge.Charge.order run.frontier.now c.take_least.new.self run.labels.now c.in-Some.place run.size c.requires took.0 took.1

-- the goal is settled
pub returns-then-is_goal-clause-over : goal.returns-then-is_goal-clause-over
returns-then-is_goal-clause-over g c =
    let run = c.args.self.now in
    let took = c.in-Some.ensures in
    λ _ v h asked. goal_found (laws g run.graph.now) run.frontier.now c.take_least.new.self run.labels.now c.in-Some.place c.args.goal v run.size c.requires took.0 took.1 (sym c.if-is_goal.ensures) asked

-- the search goes on
pub returns-clause-more : goal.returns-clause-more
returns-clause-more g c =
    let run = c.args.self.now in
    let took = c.in-Some.ensures in
    λ _. c.scan.ensures.kept.count ∙ counted run.frontier.now c.take_least.new.self run.labels.now _ c.in-Some.place run.size took.0 took.1

-- none waits
pub returns-in_default-clause-over : goal.returns-in_default-clause-over
returns-in_default-clause-over g c =
    let run = c.args.self.now in
    let none = c.in_default.ensures in
    λ _ v h _. all_found (laws g run.graph.now) run.frontier.now c.take_least.new.self run.labels.now v run.size c.requires none.0 none.1 h
