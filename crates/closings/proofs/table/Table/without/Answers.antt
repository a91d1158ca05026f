use Rattle.std.proofs.Common.{◌≡◌, length, take, filter, slice_index_or, ap, ◌∙◌, arith}
use Rattle.std.proofs.lemmas.Bool.{and_left}
use Rattle.std.proofs.lemmas.Grind.{common_steps}
use Rattle.roads.specs.RoadLists.{has}
use Rattle.closings.specs.Tables.{other_road}
use Rattle.closings.proofs.Keeping.{has_filter, filter_few, new_at, others_without}
use Rattle.closings.proofs.Tallies.{others_tally}
use Rattle.closings.proofs.table.Table.without.Goals as goal

pub push-requires : goal.push-requires
push-requires c =
    let xs = c.numbers-x-items.result.now in
    let i = c.loop-x.x-index in
    let other = other_road c.args.m c.args.road in
    let x = slice_index_or xs i 0 in
    let once = rw (← c.numbers-x-items.ensures.all) at c.numbers-x-items.ensures.once in
    let few = rw (← c.numbers-x-items.ensures.all) at c.numbers-x-items.ensures.few in
    record {
      new = ap (has x) c.loop-x.invariant ∙ has_filter other x (take i xs)
          ∙ and_left (has x (take i xs)) (other x) (new_at xs i c.loop-x-test.true once);
      room = omega (arith, ap length c.loop-x.invariant, filter_few other xs i (omega arith));
    }

pub returns-clause-gone : goal.returns-clause-gone
returns-clause-gone c =
    ap (has c.args.road) c.loop-x.invariant ∙ others_without c.args.m c.args.road (take c.loop-x.x-index c.numbers-x-items.result.now)

pub returns-clause-few : goal.returns-clause-few
returns-clause-few c =
    let rest : c.loop-x.table ≡ filter (other_road c.args.m c.args.road) c.args.self.now = grind (arith, common_steps) in
    rw rest (others_tally c.args.m c.args.road c.args.self.now c.numbers-x-items.ensures.once)
