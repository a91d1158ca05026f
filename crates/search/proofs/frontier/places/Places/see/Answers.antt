use Rattle.std.proofs.Common.{rules, ◌≡◌, sym, subst, arith}
use Rattle.search.specs.declared.frontier.lists.Mark.TheVariants.{Unseen}
use Rattle.search.specs.Marks.{mark_at}
use Rattle.search.specs.Waiting.{Bag}
use Rattle.search.proofs.Marking.{room_for, pushed_bag}
use Rattle.search.proofs.frontier.places.Places.see.Goals as goal

pub push-requires-clause-room : goal.push-requires-clause-room
push-requires-clause-room c =
    let p = c.args.self.now in
    let unseen : mark_at p.lists c.args.place ≡ Unseen = search rules in
    omega (arith, p.bag.small, room_for p.lists p.bag c.args.place c.requires unseen)

pub invariant_of-self : goal.invariant_of-self
invariant_of-self c =
    let p = c.args.self.now in
    let unseen : mark_at p.lists c.args.place ≡ Unseen = search rules in
    record { bag = subst (λ l. Bag l) (sym c.push.ensures) (pushed_bag p.lists c.args.place (omega arith) (omega arith) p.bag c.requires unseen) }
