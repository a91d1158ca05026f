-- The queue of the places that wait, and what is written to it and to the marks.
use Rattle.std.specs.Prelude.{◌≡◌, ℕ, ◌+◌, ◌-◌, ◌<◌, ◌≤◌, true, ◌≢◌, List, ◌++◌, drop, replicate, slice_index, slice_index_or, slice_set}
use Rattle.charge.specs.Scales.{Scale}
use Rattle.search.specs.declared.frontier.lists.Mark.{Mark}
use Rattle.search.specs.declared.frontier.lists.Mark.TheVariants.{Unseen, Waiting, Settled}
use Rattle.search.specs.declared.frontier.lists.Lists.{Lists}
use Rattle.search.specs.Marks.{mark_at, is_waiting, tally}

abbrev pub queued : Lists → ℕ → ℕ
queued l i = slice_index l.queue i

-- the first places of the queue hold the waiting places, each once
pub record Once (size : ℕ) (mark : ℕ → Mark) (queue : ℕ → ℕ) (waiting : ℕ) : Type 0 where
  pub inside : (i : ℕ) → i < waiting → (queue i < size) × (mark (queue i) ≡ Waiting)
  pub all : (v : ℕ) → v < size → mark v ≡ Waiting → ∥ ((i : ℕ) × (i < waiting) × (queue i ≡ v)) ∥₁
  pub once : (i j : ℕ) → i < waiting → j < waiting → queue i ≡ queue j → i ≡ j
  pub count : waiting ≡ tally is_waiting mark size
  pub small : size ≤ 2048
  pub room : waiting ≤ size

abbrev pub Bag : Lists → Type 0
Bag l = Once l.size (mark_at l) (queued l) l.waiting

-- nothing is seen
abbrev pub cleared : Lists → ℕ → Lists
cleared l size = record { size = size; waiting = 0; marks = replicate size Unseen ++ drop size l.marks; queue = l.queue }

-- v waits
abbrev pub pushed : Lists → ℕ → Lists
pushed l v = record { size = l.size; waiting = l.waiting + 1; marks = slice_set l.marks v Waiting; queue = slice_set l.queue l.waiting v }

-- what waits at i is settled, and the last comes in its place
abbrev pub taken : Lists → ℕ → Lists
taken l i = record { size = l.size; waiting = l.waiting - 1; marks = slice_set l.marks (queued l i) Settled; queue = slice_set l.queue i (queued l (l.waiting - 1)) }

-- what waits at i has a label that is not dearer than any waiting place's
pub record LeastAt {C : Type 0} (s : Scale C) (l : Lists) (labels : List C) (i : ℕ) : Type 0 where
  pub within : i < l.waiting
  pub least : (j : ℕ) → j < l.waiting → s.leq (slice_index_or labels (queued l i) s.neutral) (slice_index_or labels (queued l j) s.neutral) ≡ true

-- v has the mark m now, and the others are as they were
pub record Marked (l l' : Lists) (v : ℕ) (m : Mark) : Type 0 where
  pub size : l'.size ≡ l.size
  pub here : mark_at l' v ≡ m
  pub others : (y : ℕ) → y ≢ v → mark_at l' y ≡ mark_at l y
