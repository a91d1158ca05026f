use Rattle.std.proofs.Common.{ap, ◌∙◌}
use Rattle.roads.specs.RoadLists.{has}
use Rattle.closings.proofs.Keeping.{found}
use Rattle.closings.proofs.table.Table.contains.Goals as goal

pub returns : goal.returns
returns c = c.contains.ensures.value ∙ found c.args.road c.numbers.result.now ∙ ap (has c.args.road) c.numbers.ensures.all
