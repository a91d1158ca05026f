use Rattle.std.proofs.Common.{sym, ◌∙◌, arith}
use Rattle.search.proofs.Marking.{relabels}
use Rattle.search.proofs.run.Run.relax.Goals as goal

pub returns-then-improves-clause-offered : goal.returns-then-improves-clause-offered
returns-then-improves-clause-offered g c =
    let run = c.args.self.now in
    relabels g.G.Charge.Charge.scale run.frontier.now c.reach.new.self run.labels.now c.args.by.arc c.total_by-total.result _ (omega (arith, run.size, run.room)) c.requires.head
    (sym c.improves.ensures ∙ c.if-improves.true) c.reach.ensures.reached c.reach.ensures.room c.total_by-total.ensures
