use Rattle.std.proofs.Common.{ℕ, ◌<◌, length, rules, tests, get_or, arith}
use Rattle.search.specs.Waiting.{queued}
use Rattle.search.proofs.Picks.{turns_within, reduced}
use Rattle.search.proofs.frontier.places.Places.least.Goals as goal

pub reduce-requires-clause-callable : goal.reduce-requires-clause-callable
reduce-requires-clause-callable g c =
    let s = g.C.Charge.scale in
    let l = c.args.self.now.lists in
    let bag = c.args.self.now.bag in
    let label : ℕ → g.row.C.Denot = λ i. get_or c.args.labels.now (queued l i) s.neutral in
    let labelled : (i : ℕ) → i < l.waiting → queued l i < length c.args.labels.now = λ i h. omega (arith, (bag.inside i h).0) in
    let small : (i : ℕ) → i < l.waiting → i < 2048 = λ i h. omega (arith, bag.small, bag.room) in
    turns_within s g.met.C.Charge.order label _ _ (λ b x q k. search (rules, tests)) _ l.waiting
    (λ b x hb hx. search (rules, labelled b hb, labelled x hx, small b hb, small x hx))

pub returns : goal.returns
returns g c =
    let s = g.C.Charge.scale in
    let l = c.args.self.now.lists in
    let label : ℕ → g.row.C.Denot = λ i. get_or c.args.labels.now (queued l i) s.neutral in
    reduced s g.met.C.Charge.order label _ _ (λ b x q k. search (rules, tests)) l.waiting c.reduce.result _
    (λ b within least. record { within = within; least = least }) c.reduce.ensures.ran
