-- The arcs that leave a junction by roads whose facts pass a test.
use Rattle.std.proofs.Common.{◌≡◌, ℕ, ◌<◌, ◌≤◌, Bool, true, cond, eqb, leb, ◌⊎◌, List, [], ◌∷◌, is_some, Some, None, Option, sym, refl, ap, ◌∙◌, subst, inl, inr, ⊎_elim}
use Rattle.std.proofs.lemmas.Bool.{cond_both, cond-true, cond-false, both_ways, and_parts, eqb-true, eq-eqb, ne_eqb, leb-true, cases_eq}
use Rattle.roads.specs.declared.facts.Facts.{Facts}
use Rattle.roads.specs.RoadLists.{has}
use Rattle.roads.specs.Networks.{Network, WellFormed, leaves}
use Rattle.walks.specs.declared.arcs.Arc.{Arc}
use Rattle.walks.specs.Digraphs.{In}
use Rattle.cells.specs.RoadGraphs.{road_arc, arcs_of}

pub cases_option : {X : Type 0} (o : Option X) → (o ≡ None) ⊎ ((x : X) × (o ≡ Some x))
cases_option None = inl refl
cases_option (Some x) = inr (x, refl)

-- a is the arc of a road from v whose facts pass the test
pub record Road (w : Network) (test : Facts → Bool) (v : ℕ) (a : Arc) : Type 0 where
  pub facts : Facts
  pub known : w.facts a.road ≡ Some facts
  pub passes : test facts ≡ true
  pub from : facts.tail ≡ v
  pub is : a ≡ road_arc a.road facts

module _ {w : Network} {test : Facts → Bool} {v : ℕ} {a : Arc} (road : Road w test v a) where
  pub road_tail : a.tail ≡ v
  road_tail = ap (λ b. b.tail) road.is ∙ road.from

  pub road_head : a.head ≡ road.facts.head
  road_head = ap (λ b. b.head) road.is

has_more : (r x : ℕ) (xs : List ℕ) → has r xs ≡ true → has r (x ∷ xs) ≡ true
has_more r x xs h = cond_both (eqb r x) true (has r xs) (λ t. t ≡ true) (λ _. refl) (λ _. h)

module _ (w : Network) where
  -- an arc of a list of roads, without a word of where they begin
  abbrev Listed : (Facts → Bool) → Arc → List ℕ → Type 0
  Listed test a rs = (f : Facts) × (has a.road rs ≡ true) × (w.facts a.road ≡ Some f) × (test f ≡ true) × (a ≡ road_arc a.road f)

  module _ (test : Facts → Bool) (a : Arc) where
    listed_more : (r : ℕ) (rs : List ℕ) → Listed test a rs → Listed test a (r ∷ rs)
    listed_more r rs (f, h, known, passes, is) = (f, has_more a.road r rs h, known, passes, is)

    arcs_none : (r : ℕ) (rs : List ℕ) → w.facts r ≡ None → arcs_of w test (r ∷ rs) ≡ arcs_of w test rs
    arcs_none r rs e = rw (e, arcs_of)

    arcs_some : (r : ℕ) (rs : List ℕ) (f : Facts) → w.facts r ≡ Some f
        → arcs_of w test (r ∷ rs) ≡ cond (test f) (road_arc r f ∷ arcs_of w test rs) (arcs_of w test rs)
    arcs_some r rs f e = rw (e, arcs_of)

    in_listed : (rs : List ℕ) → In a (arcs_of w test rs) → Listed test a rs
    in_listed [] i = absurd i
    in_listed (r ∷ rs) i =
        let rest : In a (arcs_of w test rs) → Listed test a (r ∷ rs) = λ j. listed_more r rs (in_listed rs j) in
        ⊎_elim (λ e. rest (subst (In a) (arcs_none r rs e) i))
        (λ k.
        let f = k.0 in
        cond_both (test f) (road_arc r f ∷ arcs_of w test rs) (arcs_of w test rs) (λ arcs. In a arcs → Listed test a (r ∷ rs))
        (λ t. ⊎_elim (λ (is : a ≡ road_arc r f). subst (λ b. Listed test b (r ∷ rs)) (sym is) (f, cond-true (eqb r r) true (has r rs) (eq-eqb r r refl), k.1, t, refl)) rest)
        (λ _. rest) (subst (In a) (arcs_some r rs f k.1) i))
        (cases_option (w.facts r))

    in_more : (r : ℕ) (rs : List ℕ) → In a (arcs_of w test rs) → In a (arcs_of w test (r ∷ rs))
    in_more r rs i =
        ⊎_elim (λ e. subst (In a) (sym (arcs_none r rs e)) i)
        (λ k. subst (In a) (sym (arcs_some r rs k.0 k.1))
        (cond_both (test k.0) (road_arc r k.0 ∷ arcs_of w test rs) (arcs_of w test rs) (In a) (λ _. inr i) (λ _. i)))
        (cases_option (w.facts r))

    listed_in : (rs : List ℕ) → Listed test a rs → In a (arcs_of w test rs)
    listed_in [] (f, h, known, passes, is) = absurd (both_ways _ refl h)
    listed_in (r ∷ rs) (f, h, known, passes, is) =
        ⊎_elim
        (λ (e : a.road ≡ r).
        let there : arcs_of w test (r ∷ rs) ≡ road_arc r f ∷ arcs_of w test rs = arcs_some r rs f (ap w.facts (sym e) ∙ known) ∙ cond-true (test f) _ _ passes in
        subst (In a) (sym there) (inl (is ∙ ap (λ x. road_arc x f) e)))
        (λ other. in_more r rs (listed_in rs (f, sym (cond-false (eqb a.road r) true (has a.road rs) (ne_eqb a.road r other)) ∙ h, known, passes, is)))
        (cases_eq a.road r)

module _ {w : Network} (ok : WellFormed w) where
  leaves_from : (v : ℕ) (o : Option Facts) (f : Facts) → o ≡ Some f → leaves v o ≡ eqb v f.tail
  leaves_from v o f e = rw e

  pub road_in : (test : Facts → Bool) (v : ℕ) (a : Arc) → Road w test v a → In a (arcs_of w test (w.leaving v))
  road_in test v a road =
      let listed : has a.road (w.leaving v) ≡ true =
      ok.listed v a.road ∙ leaves_from v (w.facts a.road) road.facts road.known ∙ eq-eqb v road.facts.tail (sym road.from) in
      listed_in w test a (w.leaving v) (road.facts, listed, road.known, road.passes, road.is)

  pub in_road : (test : Facts → Bool) (v : ℕ) (a : Arc) → In a (arcs_of w test (w.leaving v)) → Road w test v a
  in_road test v a i =
      let here = in_listed w test a (w.leaving v) i in
      let tail : eqb v here.0.tail ≡ true = sym (leaves_from v (w.facts a.road) here.0 here.2) ∙ sym (ok.listed v a.road) ∙ here.1 in
      record { facts = here.0; known = here.2; passes = here.3; from = sym (eqb-true v here.0.tail tail); is = here.4 }

  -- roads are numbered from 1
  pub road_number : (r : ℕ) (f : Facts) → w.facts r ≡ Some f → (1 ≤ r) × (r ≤ w.roads)
  road_number r f e =
      let some : is_some (w.facts r) ≡ true = rw e in
      let p = and_parts (leb 1 r) (leb r w.roads) (sym (ok.known r) ∙ some) in
      (leb-true 1 r p.0, leb-true r w.roads p.1)

  pub road_leads : (test : Facts → Bool) (v : ℕ) (a : Arc) → Road w test v a → a.head < w.junctions
  road_leads test v a road = rw (road_head road) (ok.ends a.road road.facts road.known).1
