use Rattle.std.proofs.Common.{◌≡◌, ◌-◌, refl, ◌∙◌, rules, arith}
use borrow.Author.Tests.{tests}
use Rattle.std.proofs.lemmas.Iterator.{YieldsList-from_range, items_from_collect}
use Rattle.std.proofs.lemmas.Iterator.Consumers.{YieldsList-at, YieldsList-from_filter_map}
use Rattle.std.proofs.lemmas.Result.{IfOk-weaker}
use Rattle.map_file.specs.Layout.{junction_count}
use Rattle.chained_map.specs.Meaning.{code_of}
use Rattle.chained_map.specs.Opened.{file}
use Rattle.chained_map.proofs.Readings.{codes_read}
use Rattle.chained_map.proofs.map.ChainedMap.codes.Goals as goal

pub returns : goal.returns
returns c =
    let bs = file c.args.self.now in
    let n = junction_count bs in
    let long : c.junctions.result - 0 ≡ n = omega arith in
    let source = YieldsList-at c.filter_map.ensures.source (YieldsList-from_range 0 c.junctions.result n refl long) in
    IfOk-weaker c.collect.result _ _ (λ _ e. e ∙ codes_read bs)
    (items_from_collect c.collect.result c.collect.ensures.ran (YieldsList-from_filter_map _ (code_of bs) source c.filter_map.ensures.closure (λ x r q k. search (rules, tests))))
