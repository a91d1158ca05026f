-- Every walk of the search graph opens into an open walk of the same total, and so the least totals agree.
use Rattle.std.proofs.Common.{◌≡◌, ℕ, true, List, [], ◌∷◌, ◌++◌, is_some, Some, None, Option, unwrap_or, sym, refl, ap, ◌∙◌, ap₂, ⊎_elim}
use Rattle.std.proofs.lemmas.Bool.{and_parts, both_ways}
use Rattle.roads.specs.declared.facts.Facts.{Facts}
use Rattle.roads.specs.Networks.{Network, WellFormed}
use Rattle.charge.specs.Scales.{Scale, Ordered}
use Rattle.walks.specs.declared.arcs.Arc.{Arc}
use Rattle.walks.specs.Digraphs.{Digraph, Walk, cost}
use Rattle.walks.specs.Least.{Least}
use Rattle.cells.specs.Cells.{Survey, cell}
use Rattle.cells.specs.RoadGraphs.{open_roads, stays_inside, inside}
use Rattle.cells.specs.Overlay.{Sheet, Right, query_level, overlay, overlay_charge}
use Rattle.exactness.proofs.QueryLevels.{level_most}
use Rattle.exactness.specs.Exact.{Exact, Opens, OverlaySound}
use Rattle.exactness.specs.Steps.{CostsJoin, Searched, OverlayTails, OverlayHeads}
use Rattle.exactness.proofs.Costs.{walk_append, leasts_agree}
use Rattle.exactness.proofs.RoadArcs.{Road, road_in, in_road}
use Rattle.exactness.proofs.SearchArcs.{Shortcut, is_open, serving, road_costs}

module _ {C : Type 0} (s : Scale C) (joins : CostsJoin s) {w : Network} (ok : WellFormed w) (price : ℕ → Facts → C) (c : Survey) where
  abbrev roads : Digraph C
  roads = open_roads s w price

  inside_open : (l k a b : ℕ) (p : List Arc) → Walk (inside s w price c l k) a p b → Walk roads a p b
  inside_open l k a b [] e = e
  inside_open l k a b (r ∷ p) (i, h) =
      let road = in_road ok (stays_inside c l k) a r i in
      let opens = (and_parts road.facts.open _ road.passes).0 in
      (road_in ok is_open a r (record { facts = road.facts; known = road.known; passes = opens; from = road.from; is = road.is }), inside_open l k r.head b p h)

  -- a figure of a right sheet is the total of an open walk
  attained : (l k a b : ℕ) (o : Option C) → is_some o ≡ true → Least s (inside s w price c l k) a b o → (p : List Arc) × Walk roads a p b × (cost s roads p ≡ unwrap_or o s.neutral)
  attained l k a b None some h = absurd (both_ways _ refl some)
  attained l k a b (Some x) some h = (h.0.0, inside_open l k a b h.0.0 h.0.1, h.0.2)

  module _ (sheet : Sheet C) (right : Right s w price c sheet) (start goal : ℕ) where
    abbrev graph : Digraph C
    graph = overlay s w price c sheet start goal

    abbrev Opened : ℕ → List Arc → ℕ → Type 0
    Opened a p b = (q : List Arc) × Walk roads a q b × (cost s roads q ≡ cost s graph p)

    over_road : (a b : ℕ) (r : Arc) (p : List Arc) → Opened r.head p b → Road w is_open a r → Opened a (r ∷ p) b
    over_road a b r p rest road = (
      r ∷ rest.0,
      (road_in ok is_open a r road, rest.1),
      ap₂ s.joined (sym (road_costs s ok price c sheet start goal a r road)) rest.2,
    )

    over_shortcut : (a b : ℕ) (r : Arc) (p : List Arc) → Opened r.head p b → Shortcut w c sheet (query_level c start goal a) a r → Opened a (r ∷ p) b
    unfolding CostsJoin
    over_shortcut a b r p rest cut =
        let l = query_level c start goal a in
        let x = r.head in
        let way = attained l (cell c l a) a x (sheet l a x) cut.present (right l a x cut.high (level_most c start goal a) cut.here cut.there cut.together) in
        let charge : overlay_charge s w price c sheet start goal r ≡ unwrap_or (sheet l a x) s.neutral = ap (overlay_charge s w price c sheet start goal) cut.is in (
          way.0 ++ rest.0,
          walk_append roads a x b way.0 rest.0 way.1 rest.1,
          joins roads way.0 rest.0 ∙ ap₂ s.joined (way.2 ∙ sym charge) rest.2,
        )

    pub search_to_roads : (a b : ℕ) (p : List Arc) → Walk graph a p b → Opened a p b
    search_to_roads a b [] e = ([], e, refl)
    search_to_roads a b (r ∷ p) (i, k) =
        let rest = search_to_roads r.head b p k in
        ⊎_elim (over_road a b r p rest) (over_shortcut a b r p rest) (serving ok c sheet (query_level c start goal a) a r i)

module _ {C : Type 0} (s : Scale C) where
  pub opens : CostsJoin s → Opens s
  unfolding Opens
  opens joins w ok price c sheet right start goal a b p k = search_to_roads s joins ok price c sheet right start goal a b p k

  pub exact : Ordered s → Opens s → Searched s → Exact s
  unfolding Opens Searched Exact
  exact order back forth w ok price c sheet right start goal =
      let roads = open_roads s w price in
      let graph = overlay s w price c sheet start goal in
      leasts_agree order roads graph (λ p. Walk roads start p goal) (λ p. Walk graph start p goal)
      (back w ok price c sheet right start goal start goal) (forth w ok price c sheet right start goal)

  pub sound : OverlayTails s → OverlayHeads s → OverlaySound s
  unfolding OverlayTails OverlayHeads OverlaySound
  sound tails heads w ok price c sheet start goal =
      record { tails = tails w ok price c sheet start goal; heads = heads w ok price c sheet start goal }
