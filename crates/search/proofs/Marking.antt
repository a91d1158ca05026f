-- What the steps of the frontier change.
use Rattle.std.proofs.Common.{◌≡◌, ℕ, ◌-◌, ◌<◌, ◌≤◌, true, ◌≢◌, List, length, get_or, set, sym, refl, ap, ◌∙◌, subst, inr, ⊎_elim, arith}
use Rattle.std.proofs.Math.Logic.{∥∥₁_elim}
use Rattle.std.proofs.Math.Bool.{Bool-set}
use Rattle.std.proofs.lemmas.List.{get_or-set_same, get_or-set_other, drop-set-lt}
use Rattle.std.proofs.lemmas.Bool.{not-true, or_cases}
use Rattle.charge.specs.Scales.{Scale}
use Rattle.walks.specs.declared.arcs.Arc.{Arc}
use Rattle.search.specs.declared.frontier.lists.Mark.TheVariants.{Unseen, Waiting, Settled}
use Rattle.search.specs.declared.frontier.lists.Lists.{Lists}
use Rattle.search.specs.declared.frontier.Step.{Step}
use Rattle.search.specs.declared.frontier.Frontier.{Frontier}
use Rattle.search.specs.Marks.{mark_at, is_unseen, is_waiting}
use Rattle.search.specs.Waiting.{queued, cleared, pushed, taken, Bag, LeastAt, Marked}
use Rattle.search.specs.Found.{mark_of}
use Rattle.search.specs.Progress.{state, First}
use Rattle.search.specs.Turns.{size_of, improved, Reached, Offered}
use Rattle.search.proofs.Bags.{none_waits, one_more, one_less}
use Rattle.search.proofs.Fills.{fill_front}
use Rattle.search.proofs.Tallies.{tally_room, unseen_true}

module _ (l : Lists) where
  -- nothing is seen
  pub cleared_unseen : (size v : ℕ) → v < size → mark_at (cleared l size) v ≡ Unseen
  cleared_unseen size v h = fill_front l.marks size v Unseen Unseen h

  pub cleared_bag : (size : ℕ) → size ≤ 2048 → Bag (cleared l size)
  cleared_bag size small = none_waits size (mark_at (cleared l size)) (queued (cleared l size)) small (cleared_unseen size)

  -- one more waits
  pub pushed_marked : (v : ℕ) → length l.marks ≡ 2048 → v < 2048 → Marked l (pushed l v) v Waiting
  pushed_marked v marks h = record {
    size = refl;
    here = get_or-set_same l.marks v Waiting Unseen (omega (arith, marks));
    others = λ y d. get_or-set_other l.marks v y Waiting Unseen d;
  }

  -- an unseen place does not wait yet, so that there is room
  pub room_for : Bag l → (v : ℕ) → v < l.size → mark_at l v ≡ Unseen → l.waiting < l.size
  room_for b v h was = omega (arith, b.count, tally_room is_waiting (mark_at l) v l.size h (ap is_waiting was))

  pub pushed_bag : (v : ℕ) → length l.marks ≡ 2048 → length l.queue ≡ 2048 → Bag l → v < l.size → mark_at l v ≡ Unseen → Bag (pushed l v)
  pushed_bag v marks queue b h was =
      let m = pushed_marked v marks (omega (arith, b.small)) in
      one_more l.size (mark_at l) (mark_at (pushed l v)) (queued l) (queued (pushed l v)) l.waiting v b h was m.here m.others
      (get_or-set_same l.queue l.waiting v 0 (omega (arith, queue, b.small, room_for b v h was))) (λ i d. get_or-set_other l.queue l.waiting i v 0 d)

  -- one is settled
  taken_marked : (i : ℕ) → length l.marks ≡ 2048 → Bag l → i < l.waiting → Marked l (taken l i) (queued l i) Settled
  taken_marked i marks b h = record {
    size = refl;
    here = get_or-set_same l.marks (queued l i) Settled Unseen (omega (arith, marks, b.small, (b.inside i h).0));
    others = λ y d. get_or-set_other l.marks (queued l i) y Settled Unseen d;
  }

  pub taken_bag : (i : ℕ) → length l.marks ≡ 2048 → length l.queue ≡ 2048 → Bag l → i < l.waiting → Bag (taken l i)
  taken_bag i marks queue b h =
      let m = taken_marked i marks b h in
      one_less l.size (mark_at l) (mark_at (taken l i)) (queued l) (queued (taken l i)) l.waiting i b h m.here m.others
      (get_or-set_same l.queue i (queued l (l.waiting - 1)) 0 (omega (arith, queue, b.small, b.room))) (λ j d. get_or-set_other l.queue i j (queued l (l.waiting - 1)) 0 d)

-- the place with the least label is the first
at_least : {C : Type 0} (s : Scale C) (f : Frontier) (labels : List C) (i : ℕ) → Bag f.places.lists → LeastAt s f.places.lists labels i →
    First s (size_of f) (state s.neutral f labels) (queued f.places.lists i)
at_least s f labels i b l = let u = queued f.places.lists i in record {
  within = (b.inside i l.within).0;
  waiting = (b.inside i l.within).1;
  least = λ v hv e. ∥∥₁_elim (b.all v hv e) (Bool-set _ _)
      (λ o. subst (λ z. s.leq (get_or labels u s.neutral) (get_or labels z s.neutral) ≡ true) o.2 (l.least o.0 o.1));
}

pub least_first : {C : Type 0} (s : Scale C) (f : Frontier) (labels : List C) (i u : ℕ) → Bag f.places.lists → LeastAt s f.places.lists labels i → u ≡ queued f.places.lists i →
    First s (size_of f) (state s.neutral f labels) u
least_first s f labels i u b l which = subst (λ v. First s (size_of f) (state s.neutral f labels) v) (sym which) (at_least s f labels i b l)

pub none_waiting : (l : Lists) → Bag l → l.waiting ≡ 0 → (v : ℕ) → v < l.size → mark_at l v ≢ Waiting
none_waiting l b none v h e = ∥∥₁_elim (b.all v h e) (λ x. absurd x) (λ o. omega (arith, o.1, none))

-- the arc to v by a step
abbrev by_step : ℕ → Step → Arc
by_step v step = record { tail = step.tail; head = v; road = step.road }

relabelled : {C : Type 0} (s : Scale C) (f t : Frontier) (labels : List C) (r : Arc) (x : C) → size_of f ≤ length labels → r.head < size_of f → improved s f labels r.head x ≡ true →
    Reached f t r → r.head < length f.steps → Offered s f labels t (set labels r.head x) r x
relabelled s f t labels r x room h better m long =
    let v : ℕ = r.head in
    let none : Step = record { tail = 0; road = 0 } in
    let step : Step = record { tail = r.tail; road = r.road } in
    record {
      start = m.start;
      size = m.marks.size;
      beyond = drop-set-lt (size_of f) labels v x h;
      relaxed = inr (record {
        better = λ seen. ⊎_elim (λ (e : is_unseen (mark_of f v) ≡ true). absurd (seen (unseen_true (mark_of f v) e))) (λ e. not-true _ e) (or_cases _ _ better);
        mark = m.marks.here;
        label = get_or-set_same labels v x s.neutral (omega (arith, h, room));
        into = ap (by_step v) (ap (λ l. get_or l v none) m.steps ∙ get_or-set_same f.steps v step none long);
        others = λ y d. (
          m.marks.others y d,
          get_or-set_other labels v y x s.neutral d,
          ap (by_step y) (ap (λ l. get_or l y none) m.steps ∙ get_or-set_other f.steps v y step none d),
        );
      });
    }

-- a place with a better total is relabelled
pub relabels : {C : Type 0} (s : Scale C) (f t : Frontier) (labels : List C) (r : Arc) (x y : C) → size_of f ≤ length labels → r.head < size_of f → improved s f labels r.head x ≡ true →
    Reached f t r → r.head < length f.steps → x ≡ y → Offered s f labels t (set labels r.head x) r y
relabels s f t labels r x y room h better m long e =
    subst (λ z. Offered s f labels t (set labels r.head x) r z) e (relabelled s f t labels r x room h better m long)
