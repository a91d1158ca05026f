-- When a junction is on a border, and which are listed.
use Rattle.std.proofs.Common.{◌≡◌, ℕ, zero, suc, ◌<◌, ◌≤◌, Bool, true, cond, not, ◌&&◌, ◌||◌, eqb, ◌≢◌, ◌⊎◌, [], ◌∷◌, Some, None, Option, sym, refl, subst, inl, ⊎_elim, arith}
use Rattle.std.proofs.lemmas.Bool.{cond_both, both_ways, and_parts, and_from, or_cases, or_left, or_right, not_from_false, eqb-true, eq-eqb, ne_eqb, cases_lt}
use Rattle.roads.specs.declared.facts.Facts.{Facts}
use Rattle.roads.specs.Networks.{Network, WellFormed}
use Rattle.walks.specs.Digraphs.{In}
use Rattle.walks.proofs.Members.{in_left, in_right, in_either}
use Rattle.cells.specs.Cells.{Survey, cell, has_end, crosses, some_road, border, those_below, borders_of}
use Rattle.exactness.proofs.RoadArcs.{road_number}

some_road_from : (test : ℕ → Bool) (m r : ℕ) → 1 ≤ r → r ≤ m → test r ≡ true → some_road test m ≡ true
some_road_from test zero r lo hi t = absurd (omega arith)
some_road_from test (suc m) r lo hi t =
    ⊎_elim (λ lt. or_right (test (suc m)) (some_road test m) (some_road_from test m r lo (omega arith) t))
    (λ ge. let same : r ≡ suc m = omega arith in or_left (test (suc m)) (some_road test m) (rw same at t)) (cases_lt r (suc m))

some_road_gives : (test : ℕ → Bool) (m : ℕ) → some_road test m ≡ true → (r : ℕ) × (test r ≡ true)
some_road_gives test zero h = absurd (both_ways _ refl h)
some_road_gives test (suc m) h = ⊎_elim (λ t. (suc m, t)) (λ t. some_road_gives test m t) (or_cases (test (suc m)) (some_road test m) h)

those_in : (test : ℕ → Bool) (k v : ℕ) → v < k → test v ≡ true → In v (those_below test k)
those_in test zero v lt t = absurd (omega arith)
those_in test (suc k) v lt t =
    ⊎_elim (λ below. in_left v (those_below test k) _ (those_in test k v below t))
    (λ ge. let same : v ≡ k = omega arith in let there : test k ≡ true = rw same at t in in_right v (those_below test k) _ (rw there (inl same)))
    (cases_lt v k)

in_those : (test : ℕ → Bool) (k v : ℕ) → In v (those_below test k) → test v ≡ true
in_those test zero v i = absurd i
in_those test (suc k) v i =
    ⊎_elim (λ j. in_those test k v j)
    (cond_both (test k) (k ∷ []) [] (λ xs. In v xs → test v ≡ true) (λ t. ⊎_elim (λ (e : v ≡ k). rw e t) (λ j. absurd j)) (λ _ j. absurd j))
    (in_either v (those_below test k) (cond (test k) (k ∷ []) []) i)

module _ {w : Network} (ok : WellFormed w) (c : Survey) where
  -- an end of a road to another cell of level l
  pub border_from : (l v r : ℕ) (f : Facts) → w.facts r ≡ Some f → (v ≡ f.tail) ⊎ (v ≡ f.head) → cell c l f.tail ≢ cell c l f.head → border w c l v ≡ true
  border_from l v r f e end other =
      let range = road_number ok r f e in
      let ends : (eqb v f.tail || eqb v f.head) ≡ true =
      ⊎_elim (λ (q : v ≡ f.tail). or_left (eqb v f.tail) (eqb v f.head) (eq-eqb v f.tail q)) (λ q. or_right (eqb v f.tail) (eqb v f.head) (eq-eqb v f.head q)) end in
      let out : not (eqb (cell c l f.tail) (cell c l f.head)) ≡ true = not_from_false _ (ne_eqb (cell c l f.tail) (cell c l f.head) other) in
      let passes : (o : Option Facts) → o ≡ Some f → (has_end v o && crosses c l o) ≡ true = λ o is.
      subst (λ o. (has_end v o && crosses c l o) ≡ true) (sym is) (and_from _ _ ends out) in
      some_road_from (λ r. has_end v (w.facts r) && crosses c l (w.facts r)) w.roads r range.0 range.1 (passes (w.facts r) e)

  ends_below : (v r : ℕ) (o : Option Facts) → w.facts r ≡ o → has_end v o ≡ true → v < w.junctions
  ends_below v r None e h = absurd (both_ways _ refl h)
  ends_below v r (Some f) e h =
      let ends = ok.ends r f e in
      ⊎_elim (λ (t : eqb v f.tail ≡ true). omega (arith, eqb-true v f.tail t)) (λ t. omega (arith, eqb-true v f.head t)) (or_cases (eqb v f.tail) (eqb v f.head) h)

  pub border_below : (l v : ℕ) → border w c l v ≡ true → v < w.junctions
  border_below l v h =
      let road = some_road_gives (λ r. has_end v (w.facts r) && crosses c l (w.facts r)) w.roads h in
      ends_below v road.0 (w.facts road.0) refl (and_parts (has_end v (w.facts road.0)) _ road.1).0

  pub borders_in : (l k v : ℕ) → cell c l v ≡ k → border w c l v ≡ true → In v (borders_of w c l k)
  borders_in l k v e h =
      those_in (λ v. eqb (cell c l v) k && border w c l v) w.junctions v (border_below l v h) (and_from _ _ (eq-eqb (cell c l v) k e) h)

  pub in_borders : (l k v : ℕ) → In v (borders_of w c l k) → (cell c l v ≡ k) × (border w c l v ≡ true)
  in_borders l k v i =
      let p = and_parts (eqb (cell c l v) k) (border w c l v) (in_those (λ v. eqb (cell c l v) k && border w c l v) w.junctions v i) in
      (eqb-true (cell c l v) k p.0, p.1)
