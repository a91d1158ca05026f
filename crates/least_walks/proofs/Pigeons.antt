-- Of the numbers below n no more than n differ, so a walk that comes to no place twice is short.
use Rattle.std.proofs.Common.{◌≡◌, ℕ, zero, suc, ◌+◌, ◌<◌, true, false, cond, ltb, List, [], ◌∷◌, map, length, refl, ap, ⊎_elim, arith}
use Rattle.std.specs.List.{AllByRecursion}
use Rattle.std.proofs.lemmas.List.{length-map}
use Rattle.std.proofs.lemmas.Bool.{cases_eq}
use Rattle.std.proofs.lemmas.Bool.Decides.{nat_tests}
use Rattle.roads.specs.RoadLists.{has, distinct}
use Rattle.roads.proofs.Leaving.{distinct_parts}
use Rattle.walks.specs.declared.arcs.Arc.{Arc}
use Rattle.walks.specs.Digraphs.{Digraph, Sound, Walk, visits}
use Rattle.charge.specs.Scales.{Scale}
use Rattle.least_walks.specs.Theorems.{SimpleWalks}
use Rattle.least_walks.specs.Steps.{DistinctAreFew}

-- how many of the numbers below n are not in a list
abbrev room : List ℕ → ℕ → ℕ
room xs zero = 0
room xs (suc n) = cond (has n xs) (room xs n) (suc (room xs n))

room_none : (n : ℕ) → room [] n ≡ n
room_none zero = refl
room_none (suc n) = ap suc (room_none n)

-- one more number in the list takes its place
room_less : (x : ℕ) (xs : List ℕ) → has x xs ≡ false → (n : ℕ) → room xs n ≡ room (x ∷ xs) n + cond (ltb x n) 1 0
room_less x xs new zero = grind (arith, nat_tests)
room_less x xs new (suc n) =
    let below = room_less x xs new n in
    ⊎_elim (λ (e : n ≡ x). grind (arith, nat_tests)) (λ (e : n ≡ x → ⊥). grind (arith, nat_tests)) (cases_eq n x)

-- the numbers of the list and the room that is left are n together
pigeons : (n : ℕ) (xs : List ℕ) → AllByRecursion (λ x. x < n) xs → distinct xs ≡ true → length xs + room xs n ≡ n
pigeons n [] h k = rw (room_none n) (omega arith)
pigeons n (x ∷ xs) (h, hs) k =
    let parts = distinct_parts x xs k in
    let below = pigeons n xs hs parts.1 in
    let less = room_less x xs parts.0 n in
    grind (arith, nat_tests)

pub few : DistinctAreFew
unfolding DistinctAreFew
few n xs h k = omega (arith, pigeons n xs h k)

module _ {C : Type 0} (g : Digraph C) (sound : Sound g) where
  heads_below : (a b : ℕ) (w : List Arc) → Walk g a w b → AllByRecursion (λ x. x < g.places) (map (λ r. r.head) w)
  heads_below a b [] k = tt
  heads_below a b (r ∷ w) (i, k) = (sound.heads a r i, heads_below r.head b w k)

pub simple_short : {C : Type 0} (s : Scale C) → DistinctAreFew → SimpleWalks s
unfolding DistinctAreFew SimpleWalks
simple_short s rare g sound a b w lt k d =
    omega (arith, simp length-map at (rare g.places (visits a w) (lt, heads_below g sound a b w k) d))
