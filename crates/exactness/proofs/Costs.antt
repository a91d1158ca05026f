-- What walks one after another cost, and when least totals agree.
use Rattle.std.proofs.Common.{◌≡◌, ℕ, true, ◌↔◌, List, [], ◌∷◌, ◌++◌, Some, None, Option, sym, ap, ◌∙◌, subst}
use Rattle.charge.specs.Scales.{Scale, Ordered}
use Rattle.charge.proofs.Laws.{Lawful}
use Rattle.walks.specs.declared.arcs.Arc.{Arc}
use Rattle.walks.specs.Digraphs.{Digraph, Walk, cost}
use Rattle.walks.specs.Least.{LeastOf}

module _ {C : Type 0} (g : Digraph C) where
  pub walk_from : (a b d : ℕ) (w : List Arc) → a ≡ b → Walk g b w d → Walk g a w d
  walk_from a b d w e h = subst (λ x. Walk g x w d) (sym e) h

  pub walk_append : (a b d : ℕ) (v w : List Arc) → Walk g a v b → Walk g b w d → Walk g a (v ++ w) d
  walk_append a b d [] w e h = walk_from a b d w e h
  walk_append a b d (r ∷ v) w (i, k) h = (i, walk_append r.head b d v w k h)

module _ {C : Type 0} {s : Scale C} (laws : Lawful s) where
  pub cost_append : (g : Digraph C) (v w : List Arc) → cost s g (v ++ w) ≡ s.joined (cost s g v) (cost s g w)
  cost_append g [] w = sym (laws.unit.left (cost s g w))
  cost_append g (r ∷ v) w = ap (s.joined (g.charge r)) (cost_append g v w) ∙ sym (laws.associative.regroup (g.charge r) (cost s g v) (cost s g w))

module _ {C : Type 0} {s : Scale C} (order : Ordered s) where
  -- where each list in Q has one in P of the same total, and each in P one in Q that is not dearer, the least totals agree
  module _ (f g : Digraph C) (P Q : List Arc → Type 0)
      (back : (w : List Arc) → Q w → (v : List Arc) × P v × (cost s f v ≡ cost s g w))
      (forth : (v : List Arc) → P v → (w : List Arc) × Q w × (s.leq (cost s g w) (cost s f v) ≡ true)) where
    pub leasts_agree : (o : Option C) → LeastOf s g Q o ↔ LeastOf s f P o
    leasts_agree None = (λ no v k. no (forth v k).0 (forth v k).1, λ no w k. no (back w k).0 (back w k).1)
    leasts_agree (Some x) = (
      λ least.
          let here = back least.0.0 least.0.1 in (
            (here.0, here.1, here.2 ∙ least.0.2),
            λ v k. let other = forth v k in order.transitive _ _ _ (least.1 other.0 other.1) other.2,
          ),
      λ least.
          let lower : (w : List Arc) → Q w → s.leq x (cost s g w) ≡ true = λ w k.
          let other = back w k in rw other.2 at (least.1 other.0 other.1) in
          let here = forth least.0.0 least.0.1 in (
            (here.0, here.1, order.antisymmetric _ _ (rw least.0.2 at here.2) (lower here.0 here.1)),
            lower,
          ),
    )
