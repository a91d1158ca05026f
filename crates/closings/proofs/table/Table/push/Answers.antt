use Rattle.std.proofs.Common.{ℕ, ◌<◌, length, take, ap, arith, length-set, length-take}
use Rattle.std.proofs.lemmas.List.{take_more_set}
use Rattle.closings.proofs.Keeping.{distinct_push}
use Rattle.closings.proofs.table.Table.push.Goals as goal

pub invariant_of-self : goal.invariant_of-self
invariant_of-self c =
    let t = c.self.inside in
    let room : t.count < length t.slots = omega (arith, length-take t.count t.slots, ap length c.self.view_is) in
    let new = rw (← c.self.view_is) at c.requires.new in
    record {
      few = omega (arith, length-set {A = ℕ});
      once = rw (take_more_set t.slots t.count c.args.road room) (distinct_push c.args.road (take t.count t.slots) new c.self.invariant.once);
    }
