-- What is not dearer, and when least totals agree.
use Rattle.std.proofs.Common.{◌≡◌, true, ◌↔◌, List, [], ◌∷◌, map, Some, None, Option, refl, ap, inl, inr, ⊎_elim}
use Rattle.std.proofs.lemmas.Bool.{cond_both}
use Rattle.charge.specs.Scales.{Scale, Ordered, Monotone, Growing}
use Rattle.charge.proofs.Laws.{leq_refl}
use Rattle.walks.specs.declared.arcs.Arc.{Arc}
use Rattle.walks.specs.Digraphs.{Digraph, In, cost}
use Rattle.walks.specs.Least.{LeastOf}
use Rattle.walks.specs.Cutting.{Sub, done, skip, keep}
use Rattle.walks.specs.Computing.{cheaper, cheapest}
use Rattle.least_walks.specs.Theorems.{OneLeast}
use Rattle.least_walks.specs.Steps.{EquallyDear}

module _ {C : Type 0} {s : Scale C} (order : Ordered s) where
  module _ (g : Digraph C) where
    -- some of the arcs are not dearer than all
    pub sub_cost : Monotone s → Growing s → {v w : List Arc} → Sub v w → s.leq (cost s g v) (cost s g w) ≡ true
    sub_cost mono grow done = leq_refl order s.neutral
    sub_cost mono grow (skip h) = order.transitive _ _ _ (sub_cost mono grow h) (grow.last _ _)
    sub_cost mono grow (keep h) = mono.before _ _ _ (sub_cost mono grow h)

    -- of the lists in Q, those in P are enough
    pub same_least : (P Q : List Arc → Type 0) → ((w : List Arc) → P w → Q w)
        → ((w : List Arc) → Q w → (v : List Arc) × P v × (s.leq (cost s g v) (cost s g w) ≡ true))
        → (o : Option C) → LeastOf s g P o ↔ LeastOf s g Q o
    same_least P Q into enough None = (λ no w q. no (enough w q).0 (enough w q).1, λ no w p. no w (into w p))
    same_least P Q into enough (Some x) = (
      λ least. (
        (least.0.0, into _ least.0.1, least.0.2),
        λ w q. let v = enough w q in order.transitive _ _ _ (least.1 v.0 v.1) v.2,
      ),
      λ least.
          let v = enough least.0.0 least.0.1 in (
            (v.0, v.1, order.antisymmetric _ _ (rw least.0.2 at v.2) (least.1 v.0 (into _ v.1))),
            λ w p. least.1 w (into w p),
          ),
    )

    one_more : (w : List Arc) (ws : List (List Arc)) (o : Option C) → LeastOf s g (λ v. In v ws) o
        → LeastOf s g (λ v. In v (w ∷ ws)) (cheaper s (cost s g w) o)
    one_more w ws None h = ((w, inl refl, refl), λ v. ⊎_elim (λ (e : v ≡ w). rw e (leq_refl order _)) (λ i. absurd (h v i)))
    one_more w ws (Some x) h =
        cond_both (s.leq (cost s g w) x) (cost s g w) x (λ y. LeastOf s g (λ v. In v (w ∷ ws)) (Some y))
        (λ le. ((w, inl refl, refl), λ v. ⊎_elim (λ (e : v ≡ w). rw e (leq_refl order _)) (λ i. order.transitive _ _ _ le (h.1 v i))))
        (λ gt. ((h.0.0, inr h.0.1, h.0.2), λ v. ⊎_elim (λ (e : v ≡ w). rw e (order.comparable _ _ gt)) (h.1 v)))

    -- the cheapest of a list has its least total
    pub cheapest_least : (ws : List (List Arc)) → LeastOf s g (λ w. In w ws) (cheapest s (map (cost s g) ws))
    cheapest_least [] = λ w i. i
    cheapest_least (w ∷ ws) = one_more w ws (cheapest s (map (cost s g) ws)) (cheapest_least ws)

-- there is one least total at most
pub one_least : {C : Type 0} (s : Scale C) → EquallyDear s → OneLeast s
unfolding EquallyDear OneLeast
one_least s same g a b None None h k = refl
one_least s same g a b None (Some y) h k = absurd (h k.0.0 k.0.1)
one_least s same g a b (Some x) None h k = absurd (k h.0.0 h.0.1)
one_least s same g a b (Some x) (Some y) h k =
    ap Some (same x y (rw k.0.2 at (h.1 k.0.0 k.0.1)) (rw h.0.2 at (k.1 h.0.0 h.0.1)))
