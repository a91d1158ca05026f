use Rattle.std.proofs.Common.{sym, subst}
use Rattle.search.specs.Waiting.{Bag}
use Rattle.search.proofs.Marking.{cleared_bag}
use Rattle.search.proofs.frontier.places.Places.clear.Goals as goal

pub invariant_of-self : goal.invariant_of-self
invariant_of-self c = record { bag = subst (λ l. Bag l) (sym c.clear.ensures) (cleared_bag c.args.self.now.lists c.args.size c.requires) }
