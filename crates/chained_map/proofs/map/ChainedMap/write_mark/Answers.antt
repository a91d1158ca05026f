use Rattle.std.proofs.Common.{arith}
use Rattle.map_file.specs.Layout.{road_count}
use Rattle.chained_map.specs.Opened.{file}
use Rattle.chained_map.specs.Meant.{road_bounds}
use Rattle.chained_map.proofs.Marked.{place_in, still_sound, still_held, still_small}
use Rattle.chained_map.proofs.Shut.{marked_so, network_now}
use Rattle.chained_map.proofs.map.ChainedMap.write_mark.Goals as goal

pub index_mut-requires : goal.index_mut-requires
index_mut-requires c =
    let s = c.args.self.now in
    let r = road_bounds (road_count (file s)) c.args.road c.requires in
    omega (arith, c.mark_place-at.ensures, place_in (file s) c.args.road 0 s.sound r.0 r.1 (omega arith), s.bytes.ok.0)

pub invariant_of-self : goal.invariant_of-self
invariant_of-self c =
    let s = c.args.self.now in
    let r = road_bounds (road_count (file s)) c.args.road c.requires in
    let low = c.mark_of.ensures.low in
    rw c.mark_place-at.ensures (record {
      small = still_small (file s) c.args.road c.mark_of.result s.sound r.0 r.1 low s.small;
      sound = still_sound (file s) c.args.road c.mark_of.result s.sound r.0 r.1 low;
      held = still_held (file s) c.args.road c.mark_of.result s.sound r.0 r.1 low _ s.held;
    })

pub returns-clause-closures : goal.returns-clause-closures
returns-clause-closures c =
    let s = c.args.self.now in
    let r = road_bounds (road_count (file s)) c.args.road c.requires in
    rw c.mark_place-at.ensures (marked_so (file s) c.args.road c.mark_of.result s.sound r.0 r.1 c.mark_of.ensures.low c.args.closed c.mark_of.ensures.value)

pub returns-clause-roads : goal.returns-clause-roads
returns-clause-roads c =
    let s = c.args.self.now in
    let r = road_bounds (road_count (file s)) c.args.road c.requires in
    rw c.mark_place-at.ensures (network_now (file s) c.args.road c.mark_of.result s.sound r.0 r.1 c.mark_of.ensures.low)
