use Rattle.std.proofs.Common.{◌≡◌, ◌<◌, length, get_or, None, Some, set, sym, refl, ap, arith}
use Rattle.std.proofs.lemmas.Bool.{not-false}
use Rattle.std.proofs.lemmas.Result.{err_from_is_err_and}
use Rattle.roads.specs.declared.fault.Part.TheVariants.{Map}
use Rattle.roads.proofs.Firsts.{unless_holds, unless_fails}
use Rattle.map_file.specs.Layout.{road_count}
use Rattle.map_file.specs.Chains.{met_again}
use Rattle.map_file.proofs.Passed.{few_roads, first_fits, next_fits}
use Rattle.map_file.proofs.Walks.{walk_start, walk_step, walk_met, walk_end, none_is}
use Rattle.map_file.proofs.header.Records.follow_chain.Goals as goal

pub loop-road-init : goal.loop-road-init
loop-road-init c =
    let s = c.args.self.now in
    let bs = s.bytes.now in
    let long : road_count bs < length c.args.tails.now = omega (arith, few_roads bs s.head) in
    let w = walk_start bs c.args.tails.now c.args.junction long c.requires.tails c.requires.fresh in
    rw c.first-road.ensures (w, first_fits bs s.sound c.args.junction c.requires.junction)

pub returns-in_err-give_tail-clause-told : goal.returns-in_err-give_tail-clause-told
returns-in_err-give_tail-clause-told c =
    let bs = c.args.self.now.bytes.now in
    let road = c.loop-road.road in
    let p = err_from_is_err_and c.from_residual.result c.from_residual.ensures.1 in
    let why = unless_fails _ 4 road Map _ c.in_err-give_tail.ensures.told in
    let met = walk_met bs c.loop-road.tails c.args.junction road (omega arith) c.loop-road.invariant.1 (not-false _ why.0) c.loop-road.invariant.0 in
    rw (p.1, p.2) (rw (why.1, met) refl)

pub loop-road-preserved : goal.loop-road-preserved
loop-road-preserved c =
    let bs = c.args.self.now.bytes.now in
    let road = c.loop-road.road in
    let free : get_or c.loop-road.tails road None ≡ None = none_is _ (unless_holds _ 4 road Map c.in_ok-give_tail.ensures.told) in
    let given : c.give_tail.new.tails ≡ set c.loop-road.tails road (Some c.args.junction) = c.in_ok-give_tail.ensures.given in
    let w = walk_step bs c.loop-road.tails c.args.junction road (omega arith) c.loop-road.invariant.1 free c.loop-road.invariant.0 in
    rw (c.next-road.ensures, given) (w, next_fits bs c.args.self.now.sound road (omega arith) c.loop-road.invariant.1)

pub returns-clause-told : goal.returns-clause-told
returns-clause-told c = sym (ap met_again (walk_end c.args.self.now.bytes.now c.loop-road.tails c.args.junction (rw c.loop-road-test.false at c.loop-road.invariant.0)))
