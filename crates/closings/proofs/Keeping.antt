-- Lists of numbers, none of them twice: one more at the end, and those that pass a test.
use Rattle.std.specs.Prelude.{◌≡◌, ℕ, zero, suc, ◌<◌, ◌≤◌, Bool, true, false, cond, ◌&&◌, List, [], ◌∷◌, ◌++◌, length, take, filter, ◌==◌, slice_index, refl}
use Rattle.std.specs.List.{list_any}
use Rattle.std.proofs.Common.{sym, ◌∙◌, arith}
use Rattle.std.proofs.lemmas.Bool.{eq-eqb}
use Rattle.std.proofs.lemmas.Bool.Decides.{nat_tests}
use Rattle.std.proofs.lemmas.List.{length-take-le}
use Rattle.std.proofs.lemmas.List.Folds.{list_any_at}
use Rattle.std.proofs.lemmas.List.Sums.{length-filter, count_by-le-length}
use Rattle.roads.specs.RoadLists.{has, distinct}
use Rattle.closings.specs.Tables.{other_road}

-- what is in a list, as the library tests it
pub found : (r : ℕ) (xs : List ℕ) → list_any (λ x. x == r) xs ≡ has r xs
found r [] = refl
found r (x ∷ xs) = let more = found r xs in grind (arith, nat_tests)

-- what is in a list with one more at the end
pub has_push : (q r : ℕ) (xs : List ℕ) → has q (xs ++ (r ∷ [])) ≡ cond (q == r) true (has q xs)
has_push q r [] = refl
has_push q r (x ∷ xs) = let more = has_push q r xs in grind (arith, nat_tests)

pub distinct_push : (r : ℕ) (xs : List ℕ) → has r xs ≡ false → distinct xs ≡ true → distinct (xs ++ (r ∷ [])) ≡ true
distinct_push r [] h d = refl
distinct_push r (x ∷ xs) h d = let more = distinct_push r xs in let here = has_push x r xs in grind (arith, nat_tests)

-- each place's number is in the list
has_at : (xs : List ℕ) (i : ℕ) → i < length xs → has (slice_index xs i) xs ≡ true
has_at xs i l = sym (found _ xs) ∙ list_any_at (λ x. x == slice_index xs i) xs i 0 l (eq-eqb _ _ refl)

-- a place's number is not among those before
pub new_at : (xs : List ℕ) (i : ℕ) → i < length xs → distinct xs ≡ true → has (slice_index xs i) (take i xs) ≡ false
new_at [] i l d = absurd (omega arith)
new_at (x ∷ xs) zero l d = refl
new_at (x ∷ xs) (suc i) l d = let more = new_at xs i in let there = has_at xs i in grind (arith, nat_tests)

module _ (test : ℕ → Bool) where
  pub has_filter : (q : ℕ) (xs : List ℕ) → has q (filter test xs) ≡ (has q xs && test q)
  has_filter q [] = refl
  has_filter q (x ∷ xs) = let more = has_filter q xs in grind (arith, nat_tests)

  -- at most i of the first i pass
  pub filter_few : (xs : List ℕ) (i : ℕ) → i ≤ length xs → length (filter test (take i xs)) ≤ i
  filter_few xs i l = omega (arith, length-filter test (take i xs), count_by-le-length test (take i xs), length-take-le i xs l)

-- a road is not among the others
pub others_without : (m r : ℕ) (xs : List ℕ) → has r (filter (other_road m r) xs) ≡ false
others_without m r xs = let h = has_filter (other_road m r) r xs in grind (arith, nat_tests)
