-- What leaves a junction in the search graph, and what it costs.
use Rattle.std.proofs.Common.{◌≡◌, ℕ, ◌≤◌, Bool, true, not, ◌&&◌, eqb, ◌≢◌, ◌⊎◌, List, [], ◌∷◌, ◌++◌, is_some, Some, sym, refl, ap, ◌∙◌, subst, inl, inr, ⊎_elim, arith}
use Rattle.std.proofs.lemmas.Bool.{cond_both, cond-false, both_ways, and_parts, and_from, not_from_false, eqb-true, eqb-false, ne_eqb}
use Rattle.roads.specs.declared.facts.Facts.{Facts}
use Rattle.roads.specs.Networks.{Network, WellFormed}
use Rattle.charge.specs.Scales.{Scale}
use Rattle.walks.specs.declared.arcs.Arc.{Arc}
use Rattle.walks.specs.Digraphs.{In, Sound}
use Rattle.walks.proofs.Members.{in_left, in_right, in_either}
use Rattle.cells.specs.Cells.{Survey, cell, crosses, border, borders_of}
use Rattle.cells.specs.RoadGraphs.{arcs_of, road_charge}
use Rattle.cells.specs.Overlay.{Sheet, query_level, shortcuts_to, shortcuts, overlay_leaving, overlay_charge, overlay}
use Rattle.exactness.proofs.RoadArcs.{Road, road_in, in_road, road_number, road_tail, road_head, road_leads}
use Rattle.exactness.proofs.Borders.{border_below, borders_in, in_borders}

abbrev pub hop : ℕ → ℕ → Arc
hop u x = record { tail = u; head = x; road = 0 }

abbrev pub is_open : Facts → Bool
is_open f = f.open

-- a is a shortcut of level l from v
pub record Shortcut {C : Type 0} (w : Network) (c : Survey) (sheet : Sheet C) (l v : ℕ) (a : Arc) : Type 0 where
  pub high : 1 ≤ l
  pub here : border w c l v ≡ true
  pub there : border w c l a.head ≡ true
  pub together : cell c l v ≡ cell c l a.head
  pub present : is_some (sheet l v a.head) ≡ true
  pub is : a ≡ hop v a.head

module _ {C : Type 0} (sheet : Sheet C) (l v : ℕ) where
  shortcut_to : (x : ℕ) (xs : List ℕ) → In x xs → x ≢ v → is_some (sheet l v x) ≡ true → In (hop v x) (shortcuts_to sheet l v xs)
  shortcut_to x [] i other some = absurd i
  shortcut_to x (y ∷ ys) (inl e) other some =
      let passes : (not (eqb x v) && is_some (sheet l v x)) ≡ true = and_from _ _ (not_from_false _ (ne_eqb x v other)) some in
      cond_both (not (eqb y v) && is_some (sheet l v y)) (hop v y ∷ shortcuts_to sheet l v ys) (shortcuts_to sheet l v ys) (In (hop v x))
      (λ _. inl (ap (hop v) e)) (λ no. absurd (both_ways _ no (rw e at passes)))
  shortcut_to x (y ∷ ys) (inr i) other some =
      let rest = shortcut_to x ys i other some in
      cond_both (not (eqb y v) && is_some (sheet l v y)) (hop v y ∷ shortcuts_to sheet l v ys) (shortcuts_to sheet l v ys) (In (hop v x)) (λ _. inr rest) (λ _. rest)

  abbrev To : Arc → List ℕ → Type 0
  To a xs = In a.head xs × (is_some (sheet l v a.head) ≡ true) × (a ≡ hop v a.head)

  to_shortcut : (a : Arc) (xs : List ℕ) → In a (shortcuts_to sheet l v xs) → To a xs
  to_shortcut a [] = λ i. absurd i
  to_shortcut a (y ∷ ys) =
      let rest : In a (shortcuts_to sheet l v ys) → To a (y ∷ ys) = λ j. let k = to_shortcut a ys j in (inr k.0, k.1, k.2) in
      cond_both (not (eqb y v) && is_some (sheet l v y)) (hop v y ∷ shortcuts_to sheet l v ys) (shortcuts_to sheet l v ys) (λ arcs. In a arcs → To a (y ∷ ys))
      (λ t. ⊎_elim (λ (e : a ≡ hop v y). subst (λ b. To b (y ∷ ys)) (sym e) (inl refl, (and_parts (not (eqb y v)) _ t).1, refl)) rest) (λ _. rest)

module _ {C : Type 0} {w : Network} (ok : WellFormed w) (c : Survey) (sheet : Sheet C) (l v : ℕ) where
  abbrev roads_out : List Arc
  roads_out = arcs_of w (λ f. f.open) (w.leaving v)

  abbrev roads_across : List Arc
  roads_across = arcs_of w (λ f. f.open && crosses c l (Some f)) (w.leaving v)

  -- an open road from v serves at level 0, or where it leaves v's cell
  pub road_serves : (a : Arc) → Road w is_open v a → (l ≡ 0) ⊎ (cell c l v ≢ cell c l a.head) → In a (overlay_leaving w c sheet l v)
  road_serves a road out =
      cond_both (eqb l 0) roads_out (shortcuts w c sheet l v ++ roads_across) (In a)
      (λ _. road_in ok is_open v a road)
      (λ ne.
      let other : cell c l v ≢ cell c l a.head = ⊎_elim (λ (e : l ≡ 0). absurd (eqb-false l 0 ne e)) (λ k. k) out in
      let f = road.facts in
      let differ : cell c l f.tail ≢ cell c l f.head = λ e. other (ap (cell c l) (sym road.from) ∙ e ∙ ap (cell c l) (sym (road_head road))) in
      let across : (f.open && crosses c l (Some f)) ≡ true = and_from _ _ road.passes (not_from_false _ (ne_eqb _ _ differ)) in
      in_right a (shortcuts w c sheet l v) roads_across
      (road_in ok (λ f. f.open && crosses c l (Some f)) v a (record { facts = f; known = road.known; passes = across; from = road.from; is = road.is })))

  pub hop_serves : (x : ℕ) → 1 ≤ l → border w c l v ≡ true → border w c l x ≡ true → cell c l v ≡ cell c l x → v ≢ x
      → is_some (sheet l v x) ≡ true → In (hop v x) (overlay_leaving w c sheet l v)
  hop_serves x high here there together other some =
      let listed : In (hop v x) (shortcuts_to sheet l v (borders_of w c l (cell c l v))) =
      shortcut_to sheet l v x (borders_of w c l (cell c l v)) (borders_in ok c l (cell c l v) x (sym together) there) (λ e. other (sym e)) some in
      cond_both (eqb l 0) roads_out (shortcuts w c sheet l v ++ roads_across) (In (hop v x))
      (λ e. absurd (omega (arith, eqb-true l 0 e)))
      (λ _. in_left (hop v x) (shortcuts w c sheet l v) roads_across
      (cond_both (border w c l v) (shortcuts_to sheet l v (borders_of w c l (cell c l v))) [] (In (hop v x)) (λ _. listed) (λ no. absurd (both_ways _ no here))))

  -- and nothing else leaves v
  pub serving : (a : Arc) → In a (overlay_leaving w c sheet l v) → Road w is_open v a ⊎ Shortcut w c sheet l v a
  serving a =
      cond_both (eqb l 0) roads_out (shortcuts w c sheet l v ++ roads_across) (λ arcs. In a arcs → Road w is_open v a ⊎ Shortcut w c sheet l v a)
      (λ _ i. inl (in_road ok is_open v a i))
      (λ ne i. ⊎_elim
      (cond_both (border w c l v) (shortcuts_to sheet l v (borders_of w c l (cell c l v))) [] (λ arcs. In a arcs → Road w is_open v a ⊎ Shortcut w c sheet l v a)
      (λ here j.
      let to = to_shortcut sheet l v a (borders_of w c l (cell c l v)) j in
      let listed = in_borders ok c l (cell c l v) a.head to.0 in
      let positive : (l ≡ 0) → ⊥ = eqb-false l 0 ne in
      inr (record { high = omega arith; here = here; there = listed.1; together = sym listed.0; present = to.1; is = to.2 }))
      (λ _ j. absurd j))
      (λ j.
      let road = in_road ok (λ f. f.open && crosses c l (Some f)) v a j in
      inl (record { facts = road.facts; known = road.known; passes = (and_parts road.facts.open _ road.passes).0; from = road.from; is = road.is }))
      (in_either a (shortcuts w c sheet l v) roads_across i))

module _ {C : Type 0} (s : Scale C) {w : Network} (ok : WellFormed w) (price : ℕ → Facts → C) (c : Survey) (sheet : Sheet C) (start goal : ℕ) where
  pub road_costs : (v : ℕ) (a : Arc) → Road w is_open v a → overlay_charge s w price c sheet start goal a ≡ road_charge s w price a.road
  road_costs v a road =
      let range = road_number ok a.road road.facts road.known in
      cond-false (eqb a.road 0) _ _ (ne_eqb a.road 0 (λ e. absurd (omega arith)))

  pub search_sound : Sound (overlay s w price c sheet start goal)
  search_sound = record {
    tails = λ v a i. ⊎_elim (λ road. road_tail road) (λ cut. ap (λ b. b.tail) cut.is) (serving ok c sheet (query_level c start goal v) v a i);
    heads = λ v a i. ⊎_elim (λ road. road_leads ok is_open v a road) (λ cut. border_below ok c (query_level c start goal v) a.head cut.there) (serving ok c sheet (query_level c start goal v) v a i);
  }
