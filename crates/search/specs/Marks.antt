-- The marks of places.
use Rattle.std.specs.Prelude.{ℕ, zero, suc, ◌+◌, Bool, true, false, cond, slice_index_or}
use Rattle.search.specs.declared.frontier.lists.Mark.{Mark}
use Rattle.search.specs.declared.frontier.lists.Mark.TheVariants.{Unseen, Waiting, Settled}
use Rattle.search.specs.declared.frontier.lists.Lists.{Lists}

-- a place past the marks is unseen
abbrev pub mark_at : Lists → ℕ → Mark
mark_at l v = slice_index_or l.marks v Unseen

abbrev pub is_unseen : Mark → Bool
is_unseen Unseen = true
is_unseen Waiting = false
is_unseen Settled = false

abbrev pub is_waiting : Mark → Bool
is_waiting Unseen = false
is_waiting Waiting = true
is_waiting Settled = false

abbrev pub is_settled : Mark → Bool
is_settled Unseen = false
is_settled Waiting = false
is_settled Settled = true

-- the mark of a place once it has been seen
abbrev pub seen_mark : Mark → Mark
seen_mark Unseen = Waiting
seen_mark Waiting = Waiting
seen_mark Settled = Settled

-- how many of the first n places have a mark that passes a test
abbrev pub tally : (Mark → Bool) → (ℕ → Mark) → ℕ → ℕ
tally test mark zero = 0
tally test mark (suc n) = cond (test (mark n)) 1 0 + tally test mark n
