-- A leaving list is read from its front, each road by the one before.
use Rattle.std.proofs.Common.{◌≡◌, ℕ, Bool, true, false, cond, ◌||◌, ◌==◌, eqb, List, [], ◌∷◌, is_some, Some, None, Option, sym, refl, ap, ◌∙◌, ⊎_elim}
use Rattle.std.proofs.lemmas.Bool.{eqb-true, eqb-false, eq-eqb, ne_eqb, cond-true, cond-false, true≢false, cases_Bool}
use Rattle.roads.specs.declared.facts.Facts.{Facts}
use Rattle.roads.specs.RoadLists.{has, distinct, front, past}
use Rattle.roads.specs.Networks.{Network, WellFormed, leaves, numbered, next_leaving, roads_from, stands}

-- a list from r on
abbrev pub onward : ℕ → List ℕ → List ℕ
onward r [] = []
onward r (x ∷ xs) = cond (eqb r x) (x ∷ xs) (onward r xs)

neither : (v w : Bool) → cond v true w ≡ false → (v ≡ false) × (w ≡ false)
neither true w h = absurd (true≢false h)
neither false w h = (refl, h)

pub has_neither : (r x : ℕ) (xs : List ℕ) → has r (x ∷ xs) ≡ false → (eqb r x ≡ false) × (has r xs ≡ false)
has_neither r x xs h = neither (eqb r x) (has r xs) h

pub distinct_parts : (x : ℕ) (xs : List ℕ) → distinct (x ∷ xs) ≡ true → (has x xs ≡ false) × (distinct xs ≡ true)
distinct_parts x xs h = by (has x xs) (distinct xs) h where
  by : (v w : Bool) → cond v false w ≡ true → (v ≡ false) × (w ≡ true)
  by true w e = absurd (true≢false (sym e))
  by false w e = (refl, e)

has_past : (q r : ℕ) (xs : List ℕ) → has q xs ≡ false → has q (past r xs) ≡ false
has_past q r [] h = h
has_past q r (x ∷ xs) h =
    let apart = has_neither q x xs h in
    elim (eqb r x) as (λ v. has q (cond v xs (past r xs)) ≡ false) [ true ↦ apart.1 | false ↦ has_past q r xs apart.1 ]

front_apart : (x : ℕ) (ys : List ℕ) → eqb 0 x ≡ false → has x ys ≡ false → eqb (front ys) x ≡ false
front_apart x [] z h = z
front_apart x (y ∷ ys) z h = ne_eqb y x (λ e. eqb-false x y (has_neither x y ys h).0 (sym e))

-- from the front on there is the whole list
pub onward_front : (xs : List ℕ) → onward (front xs) xs ≡ xs
onward_front [] = refl
onward_front (x ∷ xs) = cond-true (eqb x x) (x ∷ xs) (onward x xs) (eq-eqb x x refl)

-- what is left from the next road on
pub onward_next : (r : ℕ) (xs : List ℕ) → has 0 xs ≡ false → distinct xs ≡ true → onward (front (past r xs)) xs ≡ past r xs
onward_next r [] z d = refl
onward_next r (x ∷ xs) z d =
    let none = has_neither 0 x xs z in
    let parts = distinct_parts x xs d in
    let skip : (ys : List ℕ) → has x ys ≡ false → onward (front ys) (x ∷ xs) ≡ onward (front ys) xs =
    λ ys h. cond-false (eqb (front ys) x) (x ∷ xs) (onward (front ys) xs) (front_apart x ys none.0 h) in
    elim (eqb r x) as (λ v. onward (front (cond v xs (past r xs))) (x ∷ xs) ≡ cond v xs (past r xs)) [
      | true ↦ skip xs parts.0 ∙ onward_front xs
      | false ↦ skip (past r xs) (has_past x r xs parts.0) ∙ onward_next r xs none.1 parts.1
    ]

-- a road of a list stands at the front of what is left from it on
onward_has : (r : ℕ) (xs : List ℕ) → has r xs ≡ true → onward r xs ≡ r ∷ past r xs
onward_has r [] h = absurd (true≢false (sym h))
onward_has r (x ∷ xs) h =
    (elim (eqb r x) as (λ v. eqb r x ≡ v → cond v true (has r xs) ≡ true → cond v (x ∷ xs) (onward r xs) ≡ r ∷ cond v xs (past r xs)) [
      | true ↦ λ t e. ap (λ y. y ∷ xs) (sym (eqb-true r x t))
      | false ↦ λ t e. onward_has r xs e
    ]) refl h

-- what comes after r is in the list
past_in : (r : ℕ) (xs : List ℕ) (q : ℕ) → has q (past r xs) ≡ true → has q xs ≡ true
past_in r xs q h =
    ⊎_elim (λ (t : has q xs ≡ true). t) (λ (f : has q xs ≡ false). absurd (true≢false (sym h ∙ has_past q r xs f))) (cases_Bool (has q xs))

leaves_known : (j : ℕ) (o : Option Facts) → leaves j o ≡ true → is_some o ≡ true
leaves_known j None e = absurd (true≢false (sym e))
leaves_known j (Some f) e = refl

nowhere : (w : Network) (r : ℕ) (o : Option Facts) → is_some o ≡ false → ◌≡◌ {A = List ℕ} (elim o [ None ↦ [] | Some f ↦ r ∷ past r (w.leaving f.tail) ]) []
nowhere w r None e = refl
nowhere w r (Some f) e = absurd (true≢false e)

module _ (w : Network) (ok : WellFormed w) (j : ℕ) where
  pub leaving_no_zero : has 0 (w.leaving j) ≡ false
  leaving_no_zero =
      ⊎_elim (λ (h : has 0 (w.leaving j) ≡ true).
      absurd (true≢false (sym (leaves_known j (w.facts 0) (sym (ok.listed j 0) ∙ h)) ∙ ok.known 0)))
      (λ h. h) (cases_Bool (has 0 (w.leaving j)))

  -- the roads from one that leaves j on
  there : (r : ℕ) (o : Option Facts) → leaves j o ≡ true
      → elim o [ None ↦ [] | Some f ↦ r ∷ past r (w.leaving f.tail) ] ≡ r ∷ past r (w.leaving j)
  there r None t = absurd (true≢false (sym t))
  there r (Some f) t = ap (λ k. r ∷ past r (w.leaving k)) (sym (eqb-true j f.tail t))

  pub from_front : (ys : List ℕ) → ((y : ℕ) → has y ys ≡ true → has y (w.leaving j) ≡ true) → onward (front ys) (w.leaving j) ≡ ys → roads_from w (front ys) ≡ ys
  unfolding roads_from
  from_front [] s e = nowhere w 0 (w.facts 0) (ok.known 0)
  from_front (y ∷ ys) s e =
      let here : has y (w.leaving j) ≡ true = s y (cond-true (eqb y y) true (has y ys) (eq-eqb y y refl)) in
      there y (w.facts y) (sym (ok.listed j y) ∙ here) ∙ (sym (onward_has y (w.leaving j) here) ∙ e)

or_true : (u v : Bool) → v ≡ true → (u || v) ≡ true
or_true true v e = refl
or_true false v e = e

module _ (w : Network) (ok : WellFormed w) where
  -- from the first road that leaves j on there are all of them
  pub from_first : (j : ℕ) → roads_from w (front (w.leaving j)) ≡ w.leaving j
  from_first j = from_front w ok j (w.leaving j) (λ y h. h) (onward_front (w.leaving j))

  pub from_step : (r : ℕ) (f : Facts) → w.facts r ≡ Some f → roads_from w r ≡ r ∷ roads_from w (next_leaving w r)
  unfolding roads_from
  from_step r f e =
      let all = w.leaving f.tail in
      let now : roads_from w r ≡ r ∷ past r all = ap (λ (o : Option Facts). elim o [ None ↦ [] | Some x ↦ r ∷ past r (w.leaving x.tail) ]) e in
      let next : next_leaving w r ≡ front (past r all) = ap (λ (o : Option Facts). elim o [ None ↦ 0 | Some x ↦ front (past r (w.leaving x.tail)) ]) e in
      let rest : roads_from w (front (past r all)) ≡ past r all =
      from_front w ok f.tail (past r all) (past_in r all) (onward_next r all (leaving_no_zero w ok f.tail) (ok.once f.tail)) in
      now ∙ ap (λ xs. r ∷ xs) (sym (ap (roads_from w) next ∙ rest))

  -- from no road on there is nothing
  pub from_none : (r : ℕ) → numbered w.roads r ≡ false → roads_from w r ≡ []
  unfolding roads_from
  from_none r h = nowhere w r (w.facts r) (ok.known r ∙ h)

  -- a road, and then those from the next on
  pub from_road : (r n : ℕ) → n ≡ next_leaving w r → numbered w.roads r ≡ true → roads_from w r ≡ r ∷ roads_from w n
  from_road r n e h = by (w.facts r) refl (ok.known r ∙ h) where
    by : (o : Option Facts) → w.facts r ≡ o → is_some o ≡ true → roads_from w r ≡ r ∷ roads_from w n
    by None t s = absurd (true≢false (sym s))
    by (Some f) t s = rw e (from_step r f t)

  -- the front of some roads that leave a junction is a road, or 0
  front_stands : (j : ℕ) (ys : List ℕ) → ((y : ℕ) → has y ys ≡ true → has y (w.leaving j) ≡ true) → stands w (front ys) ≡ true
  front_stands j [] s = refl
  front_stands j (y ∷ ys) s =
      let here : has y (w.leaving j) ≡ true = s y (cond-true (eqb y y) true (has y ys) (eq-eqb y y refl)) in
      let known : numbered w.roads y ≡ true = sym (ok.known y) ∙ leaves_known j (w.facts y) (sym (ok.listed j y) ∙ here) in
      or_true (y == 0) (numbered w.roads y) known

  -- the first road that leaves a junction
  pub first_stands : (j n : ℕ) → n ≡ front (w.leaving j) → stands w n ≡ true
  first_stands j n e = rw e (front_stands j (w.leaving j) (λ y h. h))

  -- and the one after a road
  pub next_stands : (r n : ℕ) → n ≡ next_leaving w r → stands w n ≡ true
  next_stands r n e = rw e (by (w.facts r)) where
    by : (o : Option Facts) → stands w (elim o [ None ↦ 0 | Some f ↦ front (past r (w.leaving f.tail)) ]) ≡ true
    by None = refl
    by (Some f) = front_stands f.tail (past r (w.leaving f.tail)) (past_in r (w.leaving f.tail))

  -- what is no 0 is a road
  pub stands_road : (r : ℕ) → stands w r ≡ true → (r ≡ 0 → ⊥) → numbered w.roads r ≡ true
  stands_road r h n = by (r == 0) (numbered w.roads r) (ne_eqb r 0 n) h where
    by : (u v : Bool) → u ≡ false → (u || v) ≡ true → v ≡ true
    by true v e k = absurd (true≢false e)
    by false v e k = k
