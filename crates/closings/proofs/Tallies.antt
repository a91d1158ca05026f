-- How many of 1, .., m are in a set, and in a list in which no number comes twice.
use Rattle.std.proofs.Common.{◌≡◌, ℕ, zero, suc, ◌+◌, ◌≤◌, Bool, true, false, cond, ◌&&◌, eqb, List, [], ◌∷◌, length, filter, count_by, refl, sym, ◌∙◌, add-one, arith}
use Rattle.std.specs.List.{range_with_len}
use Rattle.std.proofs.lemmas.Bool.Decides.{nat_tests}
use Rattle.std.proofs.lemmas.List.Sums.{length-filter, sum_by-cons}
use Rattle.roads.specs.RoadLists.{has, distinct}
use Rattle.roads.specs.Networks.{numbered}
use Rattle.closings.specs.Closures.{tally}
use Rattle.closings.specs.Tables.{other_road}

tally_none : (m : ℕ) → tally (λ _. false) m ≡ 0
tally_none zero = refl
tally_none (suc m) = rw (tally_none m)

-- a set with one more member
tally_one : (set : ℕ → Bool) (x m : ℕ) → set x ≡ false → tally (λ r. cond (eqb r x) true (set r)) m ≡ cond (numbered m x) 1 0 + tally set m
tally_one set x zero h = grind (arith, nat_tests)
tally_one set x (suc m) h = let below = tally_one set x m h in grind (arith, nat_tests)

-- only the roads are counted
tally_roads : (set : ℕ → Bool) (m k : ℕ) → k ≤ m → tally (λ r. set r && numbered m r) k ≡ tally set k
tally_roads set m zero l = refl
tally_roads set m (suc k) l = let below = tally_roads set m k in grind (arith, nat_tests)

tally_has : (xs : List ℕ) (m : ℕ) → distinct xs ≡ true → tally (λ r. has r xs) m ≡ length (filter (numbered m) xs)
tally_has [] m d = tally_none m
tally_has (x ∷ xs) m d = let more = tally_has xs m in let one = tally_one (λ r. has r xs) x m in grind (arith, nat_tests)

-- as many of 1, .., m are in the list as numbers of the list are roads
pub tally_list : (xs : List ℕ) (m : ℕ) → distinct xs ≡ true → tally (λ r. has r xs && numbered m r) m ≡ count_by (numbered m) xs
tally_list xs m d = tally_roads (λ r. has r xs) m m (omega arith) ∙ tally_has xs m d ∙ length-filter (numbered m) xs

-- and no more of them are other roads
others_few : (m r : ℕ) (xs : List ℕ) → length (filter (other_road m r) xs) ≤ length (filter (numbered m) xs)
others_few m r [] = omega arith
others_few m r (x ∷ xs) = let few = others_few m r xs in grind (arith, nat_tests)

pub others_tally : (m r : ℕ) (xs : List ℕ) → distinct xs ≡ true → length (filter (other_road m r) xs) ≤ tally (λ q. has q xs && numbered m q) m
others_tally m r xs d = rw (tally_list xs m d, ← length-filter) (others_few m r xs)

-- as many of a + 1, .., a + k are in a set as the numbers of that range that pass its test
tally_from : (set : ℕ → Bool) (a k : ℕ) → tally set (a + k) ≡ count_by set (range_with_len (a + 1) k) + tally set a
tally_from set a zero = let e : a + 0 ≡ a = omega arith in rw e (omega arith)
tally_from set a (suc k) =
    let e : a + suc k ≡ a + 1 + k = omega arith in
    let i = tally_from set (a + 1) k in
    let m : tally set (a + 1) ≡ cond (set (a + 1)) 1 0 + tally set a = rw (add-one a) in
    let s = sum_by-cons (λ x. cond (set x) 1 0) (a + 1) (range_with_len (a + 1 + 1) k) in
    rw e (omega (arith, i, m, s))

-- how many of a range from 1 on pass a test
pub tally_counts : (set : ℕ → Bool) (m : ℕ) → count_by set (range_with_len 1 m) ≡ tally set m
tally_counts set m = let i = tally_from set 0 m in let e : 0 + m ≡ m = omega arith in sym (rw e at i ∙ omega arith)
