use Rattle.std.proofs.Common.{ap, ◌∙◌}
use Rattle.std.proofs.lemmas.List.Edits.{sets}
use Rattle.loop_cutting.specs.Following.{ahead}
use Rattle.loop_cutting.proofs.Written.{roads, written_whole}
use Rattle.loop_cutting.proofs.following.Following.put_roads.Goals as goal

pub returns : goal.returns
returns c =
    let same = ap (λ it. ahead it.iter) c.into_iter-at-iterator.ensures.into_iter_gives ∙ ap ahead c.enumerate-at-items.ensures.source in
    (rw c.in-None.ensures.steps.0.0 at c.loop-at.invariant.written) ∙ ap (λ w. sets c.args.way.now 0 (roads w)) same ∙ written_whole _ c.args.way.now c.requires
