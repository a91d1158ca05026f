use Rattle.std.proofs.Common.{rules}
use borrow.Author.Tests.{tests}
use Rattle.map_file.specs.Layout.{road_count}
use Rattle.chained_map.specs.Opened.{file}
use Rattle.chained_map.specs.Closed.{marked}
use Rattle.closings.proofs.UpTo.{counts_passing}
use Rattle.chained_map.proofs.map.closing.ChainedMapClosable.closed_count.Goals as goal

pub returns : goal.returns
returns c =
    let bs = file c.args.self.now in
    counts_passing c.filter.result _ (marked bs).own (road_count bs) c.count.result (search rules) (search rules) (search rules)
    c.count.ensures.ran c.filter.ensures.closure (λ x r q k. search (rules, tests))
