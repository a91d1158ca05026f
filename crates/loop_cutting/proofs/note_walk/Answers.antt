use Rattle.std.proofs.Common.{◌+◌, ◌&&◌, drop, sym, ap, ◌∙◌}
use Rattle.std.proofs.lemmas.List.{at_drop_more}
use Rattle.walks.specs.declared.arcs.Arc.{Arc}
use Rattle.loop_cutting.specs.Exits.{exit_at, all_fit}
use Rattle.loop_cutting.proofs.Noting.{noted_more}
use Rattle.loop_cutting.proofs.note_walk.Goals as goal

pub loop-arc-preserved : goal.loop-arc-preserved
loop-arc-preserved c =
    let walk = c.args.walk.now in
    let i = c.loop-arc.arc-index in
    let arc : Arc = record { tail = 0; head = 0; road = 0 } in
    let one = at_drop_more all_fit walk i arc c.loop-arc-test.true in
    record {
      last = noted_more walk i arc (exit_at c.loop-arc.exits) (exit_at c.note.new.self) c.loop-arc-test.true c.loop-arc.invariant.last c.in_ok-note.ensures.exits;
      fit = ap (λ b. b && all_fit (drop (i + 1) walk)) c.in_ok-note.ensures.fits ∙ sym one ∙ c.loop-arc.invariant.fit;
    }
