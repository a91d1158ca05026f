-- The records lead back along a walk that has the label for its total.
use Rattle.std.proofs.Common.{◌≡◌, ℕ, zero, suc, ◌<◌, ◌≤◌, eqb, ◌≢◌, List, [], ◌∷◌, ◌++◌, length, get_or, sym, refl, ap, ◌∙◌, subst, arith}
use Rattle.std.proofs.lemmas.List.{length_push}
use Rattle.std.proofs.lemmas.Bool.{eq-eqb, ne_eqb, cond-true, cond-false}
use Rattle.charge.specs.Scales.{Scale}
use Rattle.walks.specs.declared.arcs.Arc.{Arc}
use Rattle.walks.specs.Digraphs.{Digraph, In, Walk, cost}
use Rattle.search.specs.declared.frontier.lists.Mark.TheVariants.{Unseen}
use Rattle.search.specs.declared.frontier.Frontier.{Frontier}
use Rattle.search.specs.Found.{mark_of, arc_into, back}
use Rattle.search.specs.Progress.{state, Leads, Core}
use Rattle.charge.proofs.Laws.{Lawful}

-- a list of arcs is a walk to v with the label of v for its total
pub record Traced {C : Type 0} (s : Scale C) (g : Digraph C) (start : ℕ) (w : List Arc) (v : ℕ) (x : C) (k : ℕ) : Type 0 where
  pub walk : Walk g start w v
  pub total : cost s g w ≡ x
  pub arcs : length w ≡ k

module _ {C : Type 0} (s : Scale C) (laws : Lawful s) (g : Digraph C) where
  walk_push : (a : ℕ) (w : List Arc) (r : Arc) (b : ℕ) → Walk g a w b → In r (g.leaving b) → Walk g a (w ++ (r ∷ [])) r.head
  walk_push a [] r b e i = (subst (λ y. In r (g.leaving y)) (sym e) i, refl)
  walk_push a (q ∷ w) r b e i = (e.0, walk_push q.head w r b e.1 i)

  cost_push : (w : List Arc) (r : Arc) → cost s g (w ++ (r ∷ [])) ≡ s.joined (cost s g w) (g.charge r)
  cost_push [] r = laws.unit.right (g.charge r) ∙ sym (laws.unit.left (g.charge r))
  cost_push (q ∷ w) r = ap (s.joined (g.charge q)) (cost_push w r) ∙ sym (laws.associative.regroup (g.charge q) (cost s g w) (g.charge r))

  none : (start v : ℕ) (x : C) → v ≡ start → x ≡ s.neutral → Traced s g start [] v x 0
  none start v x e n = record { walk = sym e; total = sym n; arcs = refl }

  more : (start : ℕ) (w : List Arc) (u v : ℕ) (r : Arc) (x y : C) (k : ℕ) → Traced s g start w u x k → In r (g.leaving u) → r.head ≡ v → y ≡ s.joined x (g.charge r) →
      Traced s g start (w ++ (r ∷ [])) v y (suc k)
  more start w u v r x y k t i e j = record {
    walk = subst (λ z. Walk g start (w ++ (r ∷ [])) z) e (walk_push start w r u t.walk i);
    total = cost_push w r ∙ ap (λ a. s.joined a (g.charge r)) t.total ∙ sym j;
    arcs = omega (arith, length_push w r, t.arcs);
  }

  pub traced : (start count : ℕ) (f : Frontier) (labels : List C) → Core s g start count (state s.neutral f labels) →
      (fuel k v : ℕ) → k ≤ fuel → v < g.places → mark_of f v ≢ Unseen → Leads (arc_into f) start k v → Traced s g start (back f start fuel v) v (get_or labels v s.neutral) k
  traced start count f labels c zero zero v le h seen l = none start v _ l (ap (λ y. get_or labels y s.neutral) l ∙ c.neutral)
  traced start count f labels c zero (suc k) v le h seen l = absurd (omega (arith, le))
  traced start count f labels c (suc fuel) zero v le h seen l =
      subst (λ w. Traced s g start w v (get_or labels v s.neutral) 0) (sym (cond-true (eqb v start) [] _ (eq-eqb v start l)))
      (none start v _ l (ap (λ y. get_or labels y s.neutral) l ∙ c.neutral))
  traced start count f labels c (suc fuel) (suc k) v le h seen l =
      let r = c.recorded v h seen l.0 in
      let u = (arc_into f v).tail in
      subst (λ w. Traced s g start w v (get_or labels v s.neutral) (suc k)) (sym (cond-false (eqb v start) [] _ (ne_eqb v start l.0)))
      (more start (back f start fuel u) u v (arc_into f v) _ _ k
      (traced start count f labels c fuel k u (omega (arith, le)) r.within (λ z. cc (r.from)) l.1) r.arc r.ends r.total)
