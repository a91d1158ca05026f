use Rattle.std.proofs.Common.{rules}
use borrow.Author.Tests.{tests}
use Rattle.roads.specs.Networks.{is_open}
use Rattle.closings.proofs.UpTo.{counts_passing}
use Rattle.board.proofs.rows.open_roads.Goals as goal

pub returns-clause-counted : goal.returns-clause-counted
returns-clause-counted g c =
    let w = g.R.Roads.meaning c.args.roads.now in
    counts_passing c.filter.result _ (λ r. is_open (w.facts r)) w.roads c.count.result (search rules) (search rules) (search rules)
    c.count.ensures.ran c.filter.ensures.closure (λ x r q k. search (rules, tests))
