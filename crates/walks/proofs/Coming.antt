-- What a cursor has yet to give is given arc by arc.
use Rattle.std.proofs.Common.{◌≡◌, List, [], ◌∷◌, Some, None, Option, MatchOption, sym, refl, ap, ◌∙◌}
use Rattle.walks.specs.declared.arcs.Arc.{Arc}
use Rattle.walks.specs.declared.arcs.ChargedArc.{ChargedArc}
use Rattle.walks.specs.Arcs.{Gives, GaveFirst}

module _ {S C : Type 0} (left : S → List Arc) (charge : S → Arc → C) where
  pub gives : (s : S) (price : Arc → C) (xs : List Arc) → charge s ≡ price → left s ≡ xs → Gives (GaveFirst left charge) price s xs
  gives s price [] p e = ends where
    ends : (r : Option (ChargedArc C)) (t : S) → GaveFirst left charge s r t → r ≡ None
    ends None t m = refl
    ends (Some y) t m = absurd (cc (sym m.0 ∙ e))
  gives s price (x ∷ xs) p e = λ r t m. more r t m (gives t price xs) where
    more : (r : Option (ChargedArc C)) (t : S) → GaveFirst left charge s r t → (charge t ≡ price → left t ≡ xs → Gives (GaveFirst left charge) price t xs) →
        MatchOption r ⊥ (λ y. (y.arc ≡ x) × (y.charge ≡ price x) × Gives (GaveFirst left charge) price t xs)
    more None t m others = absurd (cc (sym m ∙ e))
    more (Some y) t m others =
        let h = sym m.0 ∙ e in
        let first : y.arc ≡ x = cc (h) in
        (first, m.1 ∙ ap (λ f. f y.arc) p ∙ ap price first, others (m.2 ∙ p) (cc (h)))
