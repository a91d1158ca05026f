-- Every open walk has a walk of the search graph that is not dearer: by induction over its roads, with the part behind carried inside the present cell.
use Rattle.std.proofs.Common.{◌≡◌, ℕ, ◌<◌, ◌≤◌, true, eqb, ◌≢◌, ◌⊎◌, List, [], ◌∷◌, ◌++◌, is_some, Some, None, Option, unwrap_or, sym, refl, ap, ◌∙◌, inl, inr, ⊎_elim, append_assoc, arith}
use Rattle.std.proofs.lemmas.Bool.{and_parts, and_from, eqb-true, eq-eqb, cases_lt, cases_eq}
use Rattle.roads.specs.declared.facts.Facts.{Facts}
use Rattle.roads.specs.Networks.{Network, WellFormed}
use Rattle.charge.specs.Scales.{Scale}
use Rattle.charge.proofs.Laws.{Lawful, neutral_least}
use Rattle.walks.specs.declared.arcs.Arc.{Arc}
use Rattle.walks.specs.Digraphs.{Digraph, Walk, cost}
use Rattle.walks.specs.Least.{Least}
use Rattle.cells.specs.Cells.{Survey, cell, border}
use Rattle.cells.specs.RoadGraphs.{open_roads, stays_inside, inside}
use Rattle.cells.specs.Overlay.{Sheet, Right, query_level, overlay}
use Rattle.exactness.proofs.QueryLevels.{nests, level_apart, level_most, level_start, level_same, level_differs}
use Rattle.exactness.proofs.Costs.{walk_from, walk_append, cost_append}
use Rattle.exactness.proofs.RoadArcs.{Road, road_in, in_road, road_head}
use Rattle.exactness.proofs.Borders.{border_from}
use Rattle.exactness.proofs.SearchArcs.{hop, is_open, road_serves, hop_serves, road_costs}

module _ {C : Type 0} {s : Scale C} (laws : Lawful s) {w : Network} (ok : WellFormed w) (price : ℕ → Facts → C) (c : Survey) where
  abbrev within : ℕ → ℕ → Digraph C
  within l k = inside s w price c l k

  -- a walk inside a cell ends in it
  inside_end : (l k a b : ℕ) (p : List Arc) → cell c l a ≡ k → Walk (within l k) a p b → cell c l b ≡ k
  inside_end l k a b [] h e = rw e at h
  inside_end l k a b (r ∷ p) h (i, q) =
      let road = in_road ok (stays_inside c l k) a r i in
      let ends = (and_parts road.facts.open _ road.passes).1 in
      inside_end l k r.head b p (ap (cell c l) (road_head road) ∙ eqb-true _ _ (and_parts (eqb (cell c l road.facts.tail) k) _ ends).1) q

  module _ (sheet : Sheet C) (right : Right s w price c sheet) (start goal : ℕ) where
    abbrev graph : Digraph C
    graph = overlay s w price c sheet start goal

    abbrev roads : Digraph C
    roads = open_roads s w price

    abbrev level : ℕ → ℕ
    level = query_level c start goal

    -- a walk of the search graph from u to the goal, not dearer than a bound
    abbrev Found : ℕ → C → Type 0
    Found u bound = (q : List Arc) × Walk graph u q goal × (s.leq (cost s graph q) bound ≡ true)

    -- p leads from u to v: nowhere at query level 0, else from a border junction u inside its cell of its query level
    abbrev Underway : ℕ → List Arc → ℕ → Type 0
    Underway u p v = ((level u ≡ 0) × (u ≡ v) × (p ≡ [])) ⊎ ((1 ≤ level u) × (border w c (level u) u ≡ true) × Walk (within (level u) (cell c (level u) u)) u p v)

    setting_out : (y : ℕ) → (1 ≤ level y → border w c (level y) y ≡ true) → Underway y [] y
    setting_out y fit = ⊎_elim (λ lt. inl (omega arith, refl, refl)) (λ ge. inr (ge, fit ge, refl)) (cases_lt (level y) 1)

    -- the figure of a right sheet is there, and not dearer than a walk inside
    figure_least : (g : Digraph C) (u v : ℕ) (p : List Arc) (o : Option C) → Least s g u v o → Walk g u p v
        → (is_some o ≡ true) × (s.leq (unwrap_or o s.neutral) (cost s g p) ≡ true)
    figure_least g u v p None h k = absurd (h p k)
    figure_least g u v p (Some x) h k = (refl, h.1 p k)

    -- from wherever the rest of the way is taken up
    abbrev GoesOn : List Arc → Type 0
    GoesOn z = (u : ℕ) (p : List Arc) (v : ℕ) → Underway u p v → Walk roads v z goal → Found u (cost s roads (p ++ z))

    at_end : GoesOn []
    at_end u p v (inl (q, e, n)) k = ([], e ∙ k, neutral_least laws _)
    at_end u p v (inr (pos, b, h)) k =
        absurd ((level_apart c start goal u pos).1 (sym (inside_end (level u) (cell c (level u) u) u v p refl h) ∙ ap (cell c (level u)) k))

    -- a road taken at v, and the way on from its head
    take : (r : Arc) (u v : ℕ) (z : List Arc) → GoesOn z → Road w is_open v r → Walk roads r.head z goal
        → ((k : ℕ) → level u < k → cell c k v ≡ cell c k u) → ((k : ℕ) → 1 ≤ k → k ≤ level u → cell c k v ≢ cell c k r.head)
        → ((level v ≡ 0) ⊎ (cell c (level v) v ≢ cell c (level v) r.head)) → Found v (cost s roads (r ∷ z))
    take r u v z ih road k above below out =
        let y = r.head in
        let f = road.facts in
        let fit : 1 ≤ level y → border w c (level y) y ≡ true = λ pos.
        border_from ok c (level y) y r.road f road.known (inr (road_head road))
        (λ e. level_differs c start goal u v y above below pos (ap (cell c (level y)) (sym road.from) ∙ e ∙ ap (cell c (level y)) (sym (road_head road)))) in
        let found = ih y [] y (setting_out y fit) k in (
          r ∷ found.0,
          (road_serves ok c sheet (level v) v r road out, found.1),
          rw (road_costs s ok price c sheet start goal v r road) (laws.monotone.before _ _ _ found.2),
        )

    -- from u to the border junction v of its cell, by a shortcut in place of the walk p, or by nothing
    hop_over : (u v : ℕ) (p z : List Arc) → 1 ≤ level u → border w c (level u) u ≡ true → border w c (level u) v ≡ true
        → cell c (level u) u ≡ cell c (level u) v → Walk (within (level u) (cell c (level u) u)) u p v
        → Found v (cost s roads z) → Found u (cost s roads (p ++ z))
    hop_over u v p z pos bu bv same h found =
        let stays : u ≡ v → Found u (cost s roads (p ++ z)) = λ e. (
          found.0,
          walk_from graph u v goal found.0 e found.1,
          rw (cost_append laws roads p z) (laws.order.transitive _ _ _ found.2 (laws.growing.last (cost s roads z) (cost s roads p))),
        ) in
        let hops : (u ≡ v → ⊥) → Found u (cost s roads (p ++ z)) = λ other.
        let figure = figure_least (within (level u) (cell c (level u) u)) u v p (sheet (level u) u v) (right (level u) u v pos (level_most c start goal u) bu bv same) h in (
          hop u v ∷ found.0,
          (hop_serves ok c sheet (level u) u v pos bu bv same other figure.0, found.1),
          rw (cost_append laws roads p z)
              (laws.order.transitive _ _ _ (laws.monotone.after _ _ (cost s graph found.0) figure.1) (laws.monotone.before _ _ (cost s roads p) found.2)),
        ) in
        ⊎_elim stays hops (cases_eq u v)

    step : (r : Arc) (z : List Arc) → GoesOn z → GoesOn (r ∷ z)
    step r z ih u p v (inl (q, e, n)) (i, k) =
        let found = take r u v z ih (in_road ok is_open v r i) k (λ l _. ap (cell c l) (sym e)) (λ l lo hi. absurd (omega arith)) (inl (ap level (sym e) ∙ q)) in
        rw n (found.0, walk_from graph u v goal found.0 e found.1, found.2)
    step r z ih u p v (inr (pos, b, h)) (i, k) =
        let l = level u in
        let y = r.head in
        let road = in_road ok is_open v r i in
        let f = road.facts in
        let here : cell c l v ≡ cell c l u = inside_end l (cell c l u) u v p refl h in
        let stays : cell c l y ≡ cell c l u → Found u (cost s roads (p ++ (r ∷ z))) = λ same.
        let passes : stays_inside c l (cell c l u) f ≡ true =
        and_from _ _ road.passes (and_from _ _ (eq-eqb _ _ (ap (cell c l) road.from ∙ here)) (eq-eqb _ _ (ap (cell c l) (sym (road_head road)) ∙ same))) in
        let longer : Walk (within l (cell c l u)) u (p ++ (r ∷ [])) y =
        walk_append (within l (cell c l u)) u v y p (r ∷ []) h
        (road_in ok (stays_inside c l (cell c l u)) v r (record { facts = f; known = road.known; passes = passes; from = road.from; is = road.is }), refl) in
        rw append_assoc at (ih u (p ++ (r ∷ [])) y (inr (pos, b, longer)) k) in
        let leaves : (cell c l y ≡ cell c l u → ⊥) → Found u (cost s roads (p ++ (r ∷ z))) = λ other.
        let across : cell c l v ≢ cell c l y = λ e. other (sym e ∙ here) in
        let same-level : level v ≡ l = level_same c start goal u v pos (sym here) in
        let out : border w c l v ≡ true =
        border_from ok c l v r.road f road.known (inl (sym road.from))
        (λ e. across (ap (cell c l) (sym road.from) ∙ e ∙ ap (cell c l) (sym (road_head road)))) in
        let rest = take r u v z ih road k
        (λ m lt. nests c l m v u (omega arith) here)
        (λ m lo hi e. across (nests c m l v y hi e))
        (inr (rw same-level across)) in
        hop_over u v p (r ∷ z) pos b out (sym here) h rest in
        ⊎_elim stays leaves (cases_eq (cell c l y) (cell c l u))

    goes_on : (z : List Arc) → GoesOn z
    goes_on [] = at_end
    goes_on (r ∷ z) = step r z (goes_on z)

    pub roads_to_search : (p : List Arc) → Walk roads start p goal → Found start (cost s roads p)
    roads_to_search p k = goes_on p start [] start (inl (level_start c start goal, refl, refl)) k
