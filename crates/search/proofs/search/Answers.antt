use Rattle.std.proofs.Common.{◌≡◌, ◌+◌, subst, arith}
use Rattle.search.specs.Marks.{is_settled}
use Rattle.search.specs.Found.{mark_of}
use Rattle.search.specs.Turns.{settled_count}
use Rattle.search.proofs.Tallies.{tally_le}
use Rattle.search.proofs.search.Goals as goal

pub loop-run-smaller : goal.loop-run-smaller
loop-run-smaller g c =
    let n = (g.G.Graph.graph c.args.graph.now).places in
    let old = c.loop-run.run.frontier.now in
    let new = c.turn.new.self.frontier.now in
    let more = subst (λ r. let m = (g.G.Graph.graph r.now).places in settled_count new m ≡ settled_count old m + 1) c.loop-run.invariant.same.graph (c.turn.ensures.more c.loop-run-test.true) in
    omega (arith, more, tally_le is_settled (mark_of new) n)
