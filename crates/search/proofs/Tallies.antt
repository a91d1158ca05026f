-- Marks, and counts of them.
use Rattle.std.proofs.Common.{◌≡◌, ℕ, zero, suc, ◌+◌, ◌<◌, ◌≤◌, Bool, true, false, cond, ◌≢◌, ◌⊎◌, refl, ap, inl, inr, ⊎_elim, arith}
use Rattle.std.proofs.lemmas.Bool.{cases_eq, cond_both}
use Rattle.search.specs.declared.frontier.lists.Mark.{Mark}
use Rattle.search.specs.declared.frontier.lists.Mark.TheVariants.{Unseen, Waiting, Settled}
use Rattle.search.specs.Marks.{is_unseen, is_settled, seen_mark, tally}

pub unseen_true : (m : Mark) → is_unseen m ≡ true → m ≡ Unseen
unseen_true Unseen e = refl
unseen_true Waiting e = cc
unseen_true Settled e = cc

pub settled_true : (m : Mark) → is_settled m ≡ true → m ≡ Settled
settled_true Unseen e = cc
settled_true Waiting e = cc
settled_true Settled e = refl

pub not_settled : (m : Mark) → m ≢ Settled → is_settled m ≡ false
not_settled Unseen ne = refl
not_settled Waiting ne = refl
not_settled Settled ne = absurd (ne refl)

pub settled_or : (m : Mark) → (m ≡ Settled) ⊎ (m ≢ Settled)
settled_or Unseen = inr (λ e. cc)
settled_or Waiting = inr (λ e. cc)
settled_or Settled = inl refl

-- there are three marks
pub then_waiting : (m : Mark) → m ≢ Unseen → m ≢ Settled → m ≡ Waiting
then_waiting Unseen a b = absurd (a refl)
then_waiting Waiting a b = refl
then_waiting Settled a b = absurd (b refl)

pub then_settled : (m : Mark) → m ≢ Unseen → m ≢ Waiting → m ≡ Settled
then_settled Unseen a b = absurd (a refl)
then_settled Waiting a b = absurd (b refl)
then_settled Settled a b = refl

-- a place that is seen now is settled only if it was
pub seen_settled : (m : Mark) → is_settled (seen_mark m) ≡ is_settled m
seen_settled Unseen = refl
seen_settled Waiting = refl
seen_settled Settled = refl

pub seen_waiting : (m : Mark) → m ≢ Settled → seen_mark m ≡ Waiting
seen_waiting Unseen ne = refl
seen_waiting Waiting ne = refl
seen_waiting Settled ne = absurd (ne refl)

abbrev one_if : Bool → ℕ
one_if t = cond t 1 0

at_most : (t : Bool) → one_if t ≤ 1
at_most t = cond_both t 1 0 (λ n. n ≤ 1) (λ _. omega arith) (λ _. omega arith)

module _ (test : Mark → Bool) where
  pub tally_le : (mark : ℕ → Mark) (n : ℕ) → tally test mark n ≤ n
  tally_le mark zero = omega arith
  tally_le mark (suc n) = omega (arith, at_most (test (mark n)), tally_le mark n)

  -- a place that does not pass leaves room
  pub tally_room : (mark : ℕ → Mark) (u n : ℕ) → u < n → test (mark u) ≡ false → tally test mark n < n
  tally_room mark u zero h off = omega (arith, h)
  tally_room mark u (suc n) h off = ⊎_elim
      (λ (e : n ≡ u). omega (arith, ap (λ z. one_if (test (mark z))) e, ap one_if off, tally_le mark n))
      (λ d. omega (arith, at_most (test (mark n)), tally_room mark u n (omega (arith, h, d)) off))
      (cases_eq n u)

  pub tally_none : (mark : ℕ → Mark) (n : ℕ) → ((y : ℕ) → y < n → test (mark y) ≡ false) → tally test mark n ≡ 0
  tally_none mark zero off = refl
  tally_none mark (suc n) off = omega (arith, ap one_if (off n (omega arith)), tally_none mark n (λ y h. off y (omega arith)))

  -- only the test counts
  pub tally_same : (mark mark' : ℕ → Mark) (n : ℕ) → ((y : ℕ) → y < n → test (mark' y) ≡ test (mark y)) → tally test mark' n ≡ tally test mark n
  tally_same mark mark' zero same = refl
  tally_same mark mark' (suc n) same = omega (arith, ap one_if (same n (omega arith)), tally_same mark mark' n (λ y h. same y (omega arith)))

  -- one place more passes
  pub tally_more : (mark mark' : ℕ → Mark) (u n : ℕ) → u < n → test (mark u) ≡ false → test (mark' u) ≡ true → ((y : ℕ) → y ≢ u → mark' y ≡ mark y) → tally test mark' n ≡ tally test mark n + 1
  tally_more mark mark' u zero h was is same = absurd (omega (arith, h))
  tally_more mark mark' u (suc n) h was is same = ⊎_elim
      (λ (e : n ≡ u). omega (arith, ap (λ z. one_if (test (mark z))) e, ap (λ z. one_if (test (mark' z))) e, ap one_if was, ap one_if is, tally_same mark mark' n (λ y hy. ap test (same y (omega arith)))))
      (λ d. omega (arith, ap (λ a. one_if (test a)) (same n d), tally_more mark mark' u n (omega (arith, h, d)) was is same))
      (cases_eq n u)
