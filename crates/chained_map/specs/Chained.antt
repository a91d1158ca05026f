-- The chains of a file that passes its checks: every road is on one, once, and every chain ends.
use Rattle.std.specs.Prelude.{◌≡◌, ℕ, zero, suc, ◌+◌, ◌-◌, ◌<◌, ◌≤◌, true, false, cond, List, [], ◌∷◌, ◌++◌, length, replicate, is_some, is_none, Some, None, Option, ◌==◌, nat_eq, slice_index_or, slice_set, unwrap_or, refl}
use Rattle.std.proofs.Common.{sym, ap, ◌∙◌}
use Rattle.std.proofs.Math.Logic.{⊎_elim}
use native.Mathlib.Omega.{arith}
use Rattle.std.specs.List.{AllByRecursion}
use Rattle.std.proofs.lemmas.Option.{none-some}
use Rattle.std.proofs.lemmas.Bool.Decides.{nat_tests}
use Rattle.std.proofs.lemmas.Bool.{cases_eq, eqb-true, ne_eqb, eq-eqb, cases_Bool, true≢false}
use Rattle.std.proofs.lemmas.List.{length-set, length-append, length-replicate, get_or-replicate, get_or-set_other}
use Rattle.std.proofs.ByRecursion.{All-append}
use Rattle.std.proofs.lemmas.List.Sums.{count_by-le-length}
use Rattle.roads.specs.Faults.{first_below}
use Rattle.roads.specs.RoadLists.{has, distinct, front, past}
use Rattle.roads.proofs.Firsts.{none_below}
use Rattle.map_file.specs.Layout.{junction_count, road_count, first_at, next_at}
use Rattle.map_file.specs.Checks.{head_fault, field_fault}
use Rattle.map_file.specs.Chains.{chain, chain_of, met, again, tail_below, tail_at, unmet_fault, chain_fault, open_fault}
use Rattle.map_file.proofs.Passed.{first_fits, next_fits}
use Rattle.map_file.proofs.Walks.{free, free_less, tail_met, has_append}

abbrev pub Numbered : ℕ → ℕ → Type 0
Numbered m r = (0 < r) × (r ≤ m)

-- roads of which none comes again are no more than the entries of a table that are free for them
few : (m : ℕ) (t : List (Option ℕ)) (seen xs : List ℕ) → length t ≡ m + 1 → ((x : ℕ) → 0 < x → x ≤ m → has x seen ≡ false → slice_index_or t x None ≡ None) → AllByRecursion (Numbered m) xs → again seen xs ≡ None → length xs ≤ free t
few m t seen [] l f a e = omega arith
few m t seen (x ∷ xs) l f a e =
    let new : has x seen ≡ false = grind (arith, nat_tests) in
    let e' : again (x ∷ seen) xs ≡ None = grind (arith, nat_tests) in
    let here = f x a.0.0 a.0.1 new in
    let less = free_less t 0 x (omega (arith, l, a.0.1)) here in
    let rest = few m (slice_set t x (Some 0)) (x ∷ seen) xs (length-set t x (Some 0) ∙ l)
    (λ y y0 ym h.
    let ne : y ≡ x → ⊥ = λ s. let z = eq-eqb y x s in let w : false ≡ true = grind (arith, nat_tests) in grind arith in
    get_or-set_other t x y (Some 0) None ne ∙ f y y0 ym (grind (arith, nat_tests)))
    a.1 e' in
    omega (arith, less, rest)

short : (m : ℕ) (xs : List ℕ) → AllByRecursion (Numbered m) xs → again [] xs ≡ None → length xs ≤ m
short m xs a e =
    let full : List (Option ℕ) = replicate (m + 1) None in
    let len : length full ≡ m + 1 = length-replicate (m + 1) None in
    let z : slice_index_or full 0 None ≡ None = get_or-replicate (m + 1) 0 None None (omega arith) in
    let less = free_less full 0 0 (omega (arith, len)) z in
    let all = count_by-le-length is_none full in
    let f = few m (slice_set full 0 (Some 0)) [] xs (length-set full 0 (Some 0) ∙ len)
    (λ x x0 xm h. get_or-set_other full 0 x (Some 0) None (λ s. omega arith) ∙ get_or-replicate (m + 1) x None None (omega arith)) a e in
    omega (arith, len, less, all, f)

-- what came does not come again
again_unseen : (seen ys : List ℕ) (r : ℕ) → again seen ys ≡ None → has r seen ≡ true → has r ys ≡ false
again_unseen seen [] r e h = refl
again_unseen seen (y ∷ ys) r e h =
    let new : has y seen ≡ false = grind (arith, nat_tests) in
    let i = again_unseen (y ∷ seen) ys r (grind (arith, nat_tests)) (grind (arith, nat_tests)) in
    ⊎_elim (λ (s : r ≡ y). let w : true ≡ false = sym h ∙ (ap (λ k. has k seen) s ∙ new) in absurd (grind arith))
    (λ (d : r ≡ y → ⊥). grind (arith, nat_tests)) (cases_eq r y)

again_apart : (seen xs ys : List ℕ) (r : ℕ) → again seen (xs ++ ys) ≡ None → has r xs ≡ true → has r ys ≡ false
again_apart seen [] ys r e h = grind arith
again_apart seen (x ∷ xs) ys r e h =
    let e' : again (x ∷ seen) (xs ++ ys) ≡ None = grind (arith, nat_tests) in
    ⊎_elim (λ (t : nat_eq r x ≡ true).
    let u = again_unseen (x ∷ seen) (xs ++ ys) r e' (grind (arith, nat_tests)) in
    let m = has_append r xs ys in grind (arith, nat_tests))
    (λ (f : nat_eq r x ≡ false). again_apart (x ∷ seen) xs ys r e' (grind (arith, nat_tests))) (cases_Bool (r == x))

again_left : (seen xs ys : List ℕ) → again seen (xs ++ ys) ≡ None → again seen xs ≡ None
again_left seen [] ys e = refl
again_left seen (x ∷ xs) ys e =
    let f : has x seen ≡ false = grind (arith, nat_tests) in
    let i = again_left (x ∷ seen) xs ys (grind (arith, nat_tests)) in rw f i

again_distinct : (seen xs : List ℕ) → again seen xs ≡ None → distinct xs ≡ true
again_distinct seen [] e = refl
again_distinct seen (x ∷ xs) e =
    let e' : again (x ∷ seen) xs ≡ None = grind (arith, nat_tests) in
    let gone = again_unseen (x ∷ seen) xs x e' (grind (arith, nat_tests)) in
    rw gone (again_distinct (x ∷ seen) xs e')

distinct_right : (seen xs ys : List ℕ) → again seen (xs ++ ys) ≡ None → distinct ys ≡ true
distinct_right seen [] ys e = again_distinct seen ys e
distinct_right seen (x ∷ xs) ys e = distinct_right (x ∷ seen) xs ys (grind (arith, nat_tests))

has_all : (P : ℕ → Type 0) (xs : List ℕ) (r : ℕ) → AllByRecursion P xs → has r xs ≡ true → P r
has_all P [] r a h = absurd (grind arith)
has_all P (x ∷ xs) r a h =
    ⊎_elim (λ (t : nat_eq r x ≡ true). rw (eqb-true r x t) a.0)
    (λ (f : nat_eq r x ≡ false). has_all P xs r a.1 (rw f at h)) (cases_Bool (r == x))

module _ (bs : List ℕ) (fields : field_fault bs ≡ None) where
  -- the roads of a chain are numbered
  chain_numbered : (k r : ℕ) → r ≤ road_count bs → AllByRecursion (Numbered (road_count bs)) (chain bs k r)
  unfolding chain
  chain_numbered zero r h = tt
  chain_numbered (suc k) r h =
      ⊎_elim (λ (z : r ≡ 0). rw z tt)
      (λ (ne : r ≡ 0 → ⊥).
      let p : 0 < r = omega arith in
      rw (ne_eqb r 0 ne) ((p, h), chain_numbered k (next_at bs r) (next_fits bs fields r p h))) (cases_eq r 0)

  pub own_numbered : (j : ℕ) → j < junction_count bs → AllByRecursion (Numbered (road_count bs)) (chain_of bs j)
  unfolding chain_of
  own_numbered j h = chain_numbered (road_count bs + 1) (first_at bs j) (first_fits bs fields j h)

  met_numbered : (j : ℕ) → j ≤ junction_count bs → AllByRecursion (Numbered (road_count bs)) (met bs j)
  unfolding met
  met_numbered zero h = tt
  met_numbered (suc j) h =
      All-append (Numbered (road_count bs)) (met bs j) (chain_of bs j) (met_numbered j (omega arith)) (own_numbered j (omega arith))

chain_shorter : (bs : List ℕ) (j k : ℕ) → j < k → length (chain_of bs j) ≤ length (met bs k)
unfolding met
chain_shorter bs j zero h = absurd (omega arith)
chain_shorter bs j (suc k) h =
    let l = length-append (met bs k) (chain_of bs k) in
    ⊎_elim (λ (s : j ≡ k). rw s (omega (arith, l)))
    (λ (ne : j ≡ k → ⊥). omega (arith, l, chain_shorter bs j k (omega arith))) (cases_eq j k)

met_has : (bs : List ℕ) (j k r : ℕ) → j < k → has r (chain_of bs j) ≡ true → has r (met bs k) ≡ true
unfolding met
met_has bs j zero r l h = absurd (omega arith)
met_has bs j (suc k) r l h =
    let m = has_append r (met bs k) (chain_of bs k) in
    ⊎_elim (λ (s : j ≡ k). let h' = rw s at h in grind (arith, nat_tests))
    (λ (d : j ≡ k → ⊥). let i = met_has bs j k r (omega arith) h in grind (arith, nat_tests)) (cases_eq j k)

some_is : (o : Option ℕ) (d : ℕ) → is_some o ≡ true → o ≡ Some (unwrap_or o d)
some_is None d e = absurd (true≢false (sym e))
some_is (Some t) d e = refl

-- a road on the chain of j has j for its tail
tail_owner : (bs : List ℕ) (j k r : ℕ) → j < k → again [] (met bs k) ≡ None → has r (chain_of bs j) ≡ true → tail_below bs k r ≡ Some j
unfolding met tail_below
tail_owner bs j zero r l e h = absurd (omega arith)
tail_owner bs j (suc k) r l e h =
    ⊎_elim (λ (s : j ≡ k). rw (← s) (rw h))
    (λ (d : j ≡ k → ⊥).
    let f = again_apart [] (met bs k) (chain_of bs k) r e (met_has bs j k r (omega arith) h) in
    let i = tail_owner bs j k r (omega arith) (again_left [] (met bs k) (chain_of bs k) e) h in
    rw f i) (cases_eq j k)

-- the junction that is a road's tail has it on its chain
tail_has : (bs : List ℕ) (j r t : ℕ) → tail_below bs j r ≡ Some t → (t < j) × (has r (chain_of bs t) ≡ true)
unfolding tail_below
tail_has bs zero r t e = absurd (none-some t e)
tail_has bs (suc j) r t e =
    ⊎_elim (λ (h : has r (chain_of bs j) ≡ true).
    let e' = rw h at e in
    let s : j ≡ t = cc in
    rw (← s) (omega arith, h))
    (λ (f : has r (chain_of bs j) ≡ false).
    let i = tail_has bs j r t (rw f at e) in
    (omega (arith, i.0), i.1)) (cases_Bool (has r (chain_of bs j)))

chain_distinct : (bs : List ℕ) (j k : ℕ) → j < k → again [] (met bs k) ≡ None → distinct (chain_of bs j) ≡ true
unfolding met
chain_distinct bs j zero l e = absurd (omega arith)
chain_distinct bs j (suc k) l e =
    ⊎_elim (λ (s : j ≡ k). rw s (distinct_right [] (met bs k) (chain_of bs k) e))
    (λ (d : j ≡ k → ⊥). chain_distinct bs j k (omega arith) (again_left [] (met bs k) (chain_of bs k) e)) (cases_eq j k)

pub chain_front : (bs : List ℕ) (k r : ℕ) → 0 < k → front (chain bs k r) ≡ r
unfolding chain
chain_front bs zero r h = absurd (omega arith)
chain_front bs (suc k) r h = grind (arith, nat_tests)

-- in a chain that ends, a road is before its next
chain_past : (bs : List ℕ) (k x r : ℕ) → has r (chain bs k x) ≡ true → length (chain bs k x) < k → front (past r (chain bs k x)) ≡ next_at bs r
unfolding chain
chain_past bs zero x r h l = absurd (omega arith)
chain_past bs (suc k) x r h l =
    ⊎_elim (λ (z : x ≡ 0). let h' = rw z at h in absurd (grind arith))
    (λ (ne : x ≡ 0 → ⊥).
    let f = ne_eqb x 0 ne in
    let h' : cond (r == x) true (has r (chain bs k (next_at bs x))) ≡ true = rw f at h in
    let l' : suc (length (chain bs k (next_at bs x))) < suc k = rw f at l in
    rw f (⊎_elim (λ (s : r ≡ x). rw (eq-eqb r x s, s) (chain_front bs k (next_at bs x) (omega arith)))
    (λ (d : r ≡ x → ⊥). let g = ne_eqb r x d in rw g (chain_past bs k (next_at bs x) r (rw g at h') (omega arith))) (cases_eq r x)))
    (cases_eq x 0)

-- a file that passes every check
module _ (bs : List ℕ) (sound : is_some (open_fault bs) ≡ false) where
  pub sound_head : head_fault bs ≡ None
  unfolding open_fault
  sound_head = grind arith

  pub sound_fields : field_fault bs ≡ None
  unfolding open_fault
  sound_fields = let h = sound_head in grind arith

  pub sound_again : again [] (met bs (junction_count bs)) ≡ None
  unfolding open_fault chain_fault
  sound_again =
      let h = rw (sound_head, sound_fields) at sound in
      grind arith

  sound_met : (r : ℕ) → 0 < r → r ≤ road_count bs → has r (met bs (junction_count bs)) ≡ true
  unfolding open_fault chain_fault
  sound_met r p h =
      let a = rw (sound_head, sound_fields, sound_again) at sound in
      let roads = met bs (junction_count bs) in
      let f : first_below (unmet_fault roads) (road_count bs) ≡ None = grind arith in
      let u = none_below (unmet_fault roads) (r - 1) (road_count bs) (omega arith) f in
      let e : r - 1 + 1 ≡ r = omega arith in
      let v = rw e at u in
      grind arith

  -- every chain ends
  own_short : (j : ℕ) → j < junction_count bs → length (chain_of bs j) ≤ road_count bs
  own_short j h =
      omega (arith, chain_shorter bs j (junction_count bs) h, short (road_count bs) (met bs (junction_count bs)) (met_numbered bs sound_fields (junction_count bs) (omega arith)) sound_again)

  pub own_distinct : (j : ℕ) → j < junction_count bs → distinct (chain_of bs j) ≡ true
  own_distinct j h = chain_distinct bs j (junction_count bs) h sound_again

  -- the roads on a chain are roads of the map, with that tail
  pub own_roads : (j r : ℕ) → j < junction_count bs → has r (chain_of bs j) ≡ true → Numbered (road_count bs) r × (tail_at bs r ≡ j)
  own_roads j r l h =
      (has_all (Numbered (road_count bs)) (chain_of bs j) r (own_numbered bs sound_fields j l) h, ap (λ o. unwrap_or o 65535) (tail_owner bs j (junction_count bs) r l sound_again h))

  -- a road has a tail
  pub tail_known : (r : ℕ) → 0 < r → r ≤ road_count bs → tail_below bs (junction_count bs) r ≡ Some (tail_at bs r)
  tail_known r p h = some_is (tail_below bs (junction_count bs) r) 65535 (tail_met bs (junction_count bs) r ∙ sound_met r p h)

  -- and is on its chain
  pub own_tail : (r : ℕ) → 0 < r → r ≤ road_count bs → (tail_at bs r < junction_count bs) × (has r (chain_of bs (tail_at bs r)) ≡ true)
  own_tail r p h = tail_has bs (junction_count bs) r (tail_at bs r) (tail_known r p h)

  pub own_next : (r : ℕ) → 0 < r → r ≤ road_count bs → front (past r (chain_of bs (tail_at bs r))) ≡ next_at bs r
  unfolding chain_of
  own_next r p h =
      let t = own_tail r p h in
      chain_past bs (road_count bs + 1) (first_at bs (tail_at bs r)) r t.1 (omega (arith, own_short (tail_at bs r) t.0))
