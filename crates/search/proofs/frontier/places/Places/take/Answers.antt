use Rattle.std.proofs.Common.{sym, subst, arith}
use Rattle.search.specs.Waiting.{Bag}
use Rattle.search.proofs.Marking.{taken_bag}
use Rattle.search.proofs.frontier.places.Places.take.Goals as goal

pub invariant_of-self : goal.invariant_of-self
invariant_of-self c =
    let p = c.args.self.now in
    record { bag = subst (λ l. Bag l) (sym c.take.ensures.taken) (taken_bag p.lists c.args.i (omega arith) (omega arith) p.bag c.requires) }
