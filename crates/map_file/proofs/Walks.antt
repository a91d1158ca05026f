-- Chains that are followed road by road, with a table of the tails found so far.
use Rattle.std.proofs.Common.{◌≡◌, ℕ, zero, suc, ◌+◌, ◌-◌, ◌<◌, ◌≤◌, Bool, true, false, cond, ◌||◌, eqb, ◌≢◌, List, [], ◌∷◌, ◌++◌, length, get_or, set, take, is_some, is_none, Some, None, count_by, Option, refl, sym, ap, ◌∙◌, ⊎_elim, append_assoc, append-nil, add-one, arith}
use Rattle.std.proofs.Math.Seq.{take-set-lt}
use Rattle.std.proofs.lemmas.Bool.{cases_eq, cases_Bool, ne_eqb, true≢false}
use Rattle.std.proofs.lemmas.Bool.Decides.{nat_tests}
use Rattle.std.proofs.lemmas.List.{length-append, get_or-set_same, get_or-set_other, get_or-take, length-set, length-take-le}
use Rattle.std.proofs.lemmas.List.Sums.{sum_by-set, get_or-le-sum_by, count_by-le-length}
use Rattle.roads.specs.declared.fault.Report.{Report}
use Rattle.roads.specs.RoadLists.{has}
use Rattle.map_file.specs.Layout.{road_count, first_at, next_at}
use Rattle.map_file.specs.Chains.{chain, chain_of, met, again, met_again, tail_below, TailsBelow}

pub has_append : (r : ℕ) (xs ys : List ℕ) → has r (xs ++ ys) ≡ (has r xs || has r ys)
has_append r [] ys = refl
has_append r (x ∷ xs) ys = let e = has_append r xs ys in grind (arith, nat_tests)

-- a road that came before is the first to come again
again_old : (seen xs rest : List ℕ) (r : ℕ) → again seen xs ≡ None → (has r seen || has r xs) ≡ true → again seen (xs ++ r ∷ rest) ≡ Some r
again_old seen [] rest r e h = grind (arith, nat_tests)
again_old seen (x ∷ xs) rest r e h =
    let f : has x seen ≡ false = grind (arith, nat_tests) in
    let e' : again (x ∷ seen) xs ≡ None = grind (arith, nat_tests) in
    let i = again_old (x ∷ seen) xs rest r e' (grind (arith, nat_tests)) in
    grind (arith, nat_tests)

-- a road that did not come before is fine
again_new : (seen xs : List ℕ) (r : ℕ) → again seen xs ≡ None → (has r seen || has r xs) ≡ false → again seen (xs ++ r ∷ []) ≡ None
again_new seen [] r e h = grind (arith, nat_tests)
again_new seen (x ∷ xs) r e h =
    let f : has x seen ≡ false = grind (arith, nat_tests) in
    let e' : again (x ∷ seen) xs ≡ None = grind (arith, nat_tests) in
    let i = again_new (x ∷ seen) xs r e' (grind (arith, nat_tests)) in
    grind (arith, nat_tests)

again_more : (seen xs ys : List ℕ) (r : ℕ) → again seen xs ≡ Some r → again seen (xs ++ ys) ≡ Some r
again_more seen [] ys r e = grind arith
again_more seen (x ∷ xs) ys r e =
    ⊎_elim (λ (t : has x seen ≡ true). grind arith)
    (λ (f : has x seen ≡ false). let i = again_more (x ∷ seen) xs ys r (grind arith) in grind arith) (cases_Bool (has x seen))

-- how many entries of a table are free
abbrev pub free : List (Option ℕ) → ℕ
free tails = count_by is_none tails

-- one entry fewer is free
pub free_less : (tails : List (Option ℕ)) (j r : ℕ) → r < length tails → get_or tails r None ≡ None → free (set tails r (Some j)) + 1 ≡ free tails
free_less tails j r rl e =
    let s = sum_by-set (λ (t : Option ℕ). cond (is_none t) 1 0) tails r (Some j) None rl in
    omega (arith, rw e at s)

pub none_is : (o : Option ℕ) → is_none o ≡ true → o ≡ None
none_is None e = refl
none_is (Some x) e = absurd (true≢false (sym e))

-- a road has a tail below j exactly where the chains below j met it
some_or : (b : Bool) (t : Option ℕ) (j : ℕ) (c : Bool) → is_some t ≡ c → is_some (cond b (Some j) t) ≡ (c || b)
some_or true t j true e = refl
some_or true t j false e = refl
some_or false t j true e = e
some_or false t j false e = e

pub tail_met : (bs : List ℕ) (j r : ℕ) → is_some (tail_below bs j r) ≡ has r (met bs j)
unfolding tail_below met
tail_met bs zero r = refl
tail_met bs (suc j) r =
    some_or (has r (chain_of bs j)) (tail_below bs j r) j (has r (met bs j)) (tail_met bs j r) ∙ sym (has_append r (met bs j) (chain_of bs j))

-- 0 is on no chain
chain_none : (bs : List ℕ) (limit r : ℕ) → has 0 (chain bs limit r) ≡ false
unfolding chain
chain_none bs zero r = refl
chain_none bs (suc limit) r =
    ⊎_elim (λ (z : r ≡ 0). rw z)
    (λ (ne : r ≡ 0 → ⊥). rw (ne_eqb r 0 ne, ne_eqb 0 r (λ e. ne (sym e))) (chain_none bs limit (next_at bs r))) (cases_eq r 0)

tail_zero : (bs : List ℕ) (j : ℕ) → tail_below bs j 0 ≡ None
unfolding tail_below chain_of
tail_zero bs zero = refl
tail_zero bs (suc j) = rw (chain_none bs (road_count bs + 1) (first_at bs j)) (tail_zero bs j)

-- along the chain of j: the roads that are done, and those that are left from `road` on
pub record Walk (bs : List ℕ) (tails : List (Option ℕ)) (j road : ℕ) : Type 0 where
  pub done : List ℕ
  pub limit : ℕ
  pub is : chain_of bs j ≡ done ++ chain bs limit road
  pub sum : limit + length done ≡ road_count bs + 1
  pub fresh : again [] (met bs j ++ done) ≡ None
  pub table : (r : ℕ) → r ≤ road_count bs → get_or tails r None ≡ cond (has r done) (Some j) (tail_below bs j r)
  pub none : get_or tails 0 None ≡ None
  pub long : road_count bs < length tails
  pub count : free (take (road_count bs + 1) tails) + length done ≤ road_count bs + 1

pub walk_start : (bs : List ℕ) (tails : List (Option ℕ)) (j : ℕ) → road_count bs < length tails → TailsBelow bs j tails → again [] (met bs j) ≡ None → Walk bs tails j (first_at bs j)
unfolding chain_of
walk_start bs tails j l t a = record {
  done = [];
  limit = road_count bs + 1;
  is = refl;
  sum = omega arith;
  fresh = rw append-nil a;
  table = t;
  none = t 0 (omega arith) ∙ tail_zero bs j;
  long = l;
  count = let m = road_count bs + 1 in omega (arith, count_by-le-length is_none (take m tails), length-take-le m tails (omega arith));
}

chain_more : (bs : List ℕ) (limit r : ℕ) → 0 < limit → 0 < r → chain bs limit r ≡ r ∷ chain bs (limit - 1) (next_at bs r)
unfolding chain
chain_more bs zero r l h = absurd (omega arith)
chain_more bs (suc limit) r l h = let e : suc limit - 1 ≡ limit = omega arith in let f : eqb r 0 ≡ false = ne_eqb r 0 (omega arith) in rw (e, f)

chain_end : (bs : List ℕ) (limit : ℕ) → chain bs limit 0 ≡ []
unfolding chain
chain_end bs zero = refl
chain_end bs (suc limit) = refl

met_more : (bs : List ℕ) (j : ℕ) → met bs (j + 1) ≡ met bs j ++ chain_of bs j
unfolding met
met_more bs j = rw add-one

tail_more : (bs : List ℕ) (j r : ℕ) → tail_below bs (j + 1) r ≡ cond (has r (chain_of bs j)) (Some j) (tail_below bs j r)
unfolding tail_below
tail_more bs j r = rw add-one

-- there is a step left: entry 0 of the table is never taken
walk_room : (bs : List ℕ) (tails : List (Option ℕ)) (j r : ℕ) → (w : Walk bs tails j r) → 0 < w.limit
walk_room bs tails j r w =
    let m = road_count bs + 1 in
    let l = length-take-le m tails (omega (arith, w.long)) in
    let p = get_or-le-sum_by (λ (t : Option ℕ). cond (is_none t) 1 0) (take m tails) 0 None (omega (arith, l)) in
    let z : get_or (take m tails) 0 None ≡ None = get_or-take m tails 0 None (omega arith) ∙ w.none in
    let q : 1 ≤ free (take m tails) = rw z at p in
    omega (arith, q, w.count, w.sum)

-- what the table says of a road is whether it was met
pub walk_has : (bs : List ℕ) (tails : List (Option ℕ)) (j road r : ℕ) → (w : Walk bs tails j road) → r ≤ road_count bs → is_some (get_or tails r None) ≡ has r (met bs j ++ w.done)
walk_has bs tails j road r w l =
    ap is_some (w.table r l)
    ∙ some_or (has r w.done) (tail_below bs j r) j (has r (met bs j)) (tail_met bs j r)
    ∙ sym (has_append r (met bs j) w.done)

table_step : (done : List ℕ) (tails : List (Option ℕ)) (j r k : ℕ) (o : Option ℕ) → r < length tails → get_or tails k None ≡ cond (has k done) (Some j) o → get_or (set tails r (Some j)) k None ≡ cond (has k (done ++ r ∷ [])) (Some j) o
table_step done tails j r k o l e =
    let s = has_append k done (r ∷ []) in
    ⊎_elim (λ (h : k ≡ r). let g = get_or-set_same tails r (Some j) None l in grind (arith, nat_tests))
    (λ (h : k ≡ r → ⊥). let g = get_or-set_other tails r k (Some j) None h in grind (arith, nat_tests)) (cases_eq k r)

pub walk_step : (bs : List ℕ) (tails : List (Option ℕ)) (j r : ℕ) → 0 < r → r ≤ road_count bs → get_or tails r None ≡ None → Walk bs tails j r → Walk bs (set tails r (Some j)) j (next_at bs r)
walk_step bs tails j r r0 rm e w =
    let m = road_count bs + 1 in
    let room = walk_room bs tails j r w in
    let rl : r < length tails = omega (arith, w.long) in
    let l = length-take-le m tails (omega (arith, w.long)) in
    let c = free_less (take m tails) j r (omega (arith, l)) (get_or-take m tails r None (omega arith) ∙ e) in
    let t = take-set-lt m tails r (Some j) (omega arith) in
    let new : has r (met bs j ++ w.done) ≡ false = sym (walk_has bs tails j r r w rm) ∙ ap is_some e in
    record {
      done = w.done ++ r ∷ [];
      limit = w.limit - 1;
      is = w.is ∙ (rw (chain_more bs w.limit r room r0, append_assoc));
      sum = simp length-append (omega (arith, room, w.sum));
      fresh = rw (← append_assoc) (again_new [] (met bs j ++ w.done) r w.fresh new);
      table = λ k km. table_step w.done tails j r k (tail_below bs j k) rl (w.table k km);
      none = let ne : 0 ≢ r = omega arith in rw get_or-set_other w.none;
      long = rw length-set w.long;
      count = rw t (simp length-append (omega (arith, c, w.count)));
    }

-- a road that has a tail is the first met again
pub walk_met : (bs : List ℕ) (tails : List (Option ℕ)) (j r : ℕ) → 0 < r → r ≤ road_count bs → is_some (get_or tails r None) ≡ true → Walk bs tails j r → again [] (met bs (j + 1)) ≡ Some r
walk_met bs tails j r r0 rm e w =
    let m = chain_more bs w.limit r (walk_room bs tails j r w) r0 in
    let a = again_old [] (met bs j ++ w.done) (chain bs (w.limit - 1) (next_at bs r)) r w.fresh (sym (walk_has bs tails j r r w rm) ∙ e) in
    let s = append_assoc (met bs j) w.done (r ∷ chain bs (w.limit - 1) (next_at bs r)) in
    let l = met_more bs j in
    rw (l, w.is, m, ← s) a

pub walk_end : (bs : List ℕ) (tails : List (Option ℕ)) (j : ℕ) → Walk bs tails j 0 → again [] (met bs (j + 1)) ≡ None
walk_end bs tails j w =
    let l = met_more bs j in
    let e = chain_end bs w.limit in
    rw (l, w.is, e, append-nil) w.fresh

pub walk_tails : (bs : List ℕ) (tails : List (Option ℕ)) (j : ℕ) → Walk bs tails j 0 → TailsBelow bs (j + 1) tails
walk_tails bs tails j w r rm =
    let e = chain_end bs w.limit in
    rw (tail_more bs j r, w.is, e, append-nil) (w.table r rm)

-- a road that is met again stays the first as more chains are followed
again_later : (bs : List ℕ) (i k r : ℕ) → i < k → again [] (met bs (i + 1)) ≡ Some r → again [] (met bs k) ≡ Some r
unfolding met
again_later bs i zero r l e = absurd (omega arith)
again_later bs i (suc k) r l e =
    ⊎_elim (λ (s : i ≡ k). let f = rw (met_more bs i) at e in rw (← s) f)
    (λ (s : i ≡ k → ⊥). again_more [] (met bs k) (chain_of bs k) r (again_later bs i k r (omega arith) e)) (cases_eq i k)

pub fault_later : (bs : List ℕ) (i k : ℕ) (x : Report) → i < k → met_again (again [] (met bs (i + 1))) ≡ Some x → met_again (again [] (met bs k)) ≡ Some x
fault_later bs i k x l e = by (again [] (met bs (i + 1))) refl e where
  by : (o : Option ℕ) → again [] (met bs (i + 1)) ≡ o → met_again o ≡ Some x → met_again (again [] (met bs k)) ≡ Some x
  by None a h = let z : ◌≡◌ {A = ℕ} 0 1 = cc in absurd (omega arith)
  by (Some r) a h = ap met_again (again_later bs i k r l a) ∙ h
