-- What gives a list of charged arcs gives their arcs, each with its charge.
use Rattle.std.proofs.Common.{◌≡◌, List, [], ◌∷◌, map, Some, None, Option, MatchOption, sym, refl, ◌∙◌}
use Rattle.std.specs.Iterator.{YieldsFirst}
use Rattle.walks.specs.declared.arcs.Arc.{Arc}
use Rattle.walks.specs.declared.arcs.ChargedArc.{ChargedArc}
use Rattle.walks.specs.Arcs.{Gives}

module _ {S C : Type 0} (rest : S → List (ChargedArc C)) (charge : Arc → C) where
  abbrev with_charge : Arc → ChargedArc C
  with_charge a = record { arc = a; charge = charge a }

  pub gives : (s : S) (xs : List Arc) → rest s ≡ map with_charge xs → Gives (YieldsFirst rest) charge s xs
  gives s [] e = ends where
    ends : (r : Option (ChargedArc C)) (t : S) → YieldsFirst rest s r t → r ≡ None
    ends None t m = refl
    ends (Some y) t m = absurd (cc (sym m ∙ e))
  gives s (x ∷ xs) e = λ r t m. more r t m (gives t xs) where
    more : (r : Option (ChargedArc C)) (t : S) → YieldsFirst rest s r t → (rest t ≡ map with_charge xs → Gives (YieldsFirst rest) charge t xs) →
        MatchOption r ⊥ (λ y. (y.arc ≡ x) × (y.charge ≡ charge x) × Gives (YieldsFirst rest) charge t xs)
    more None t m others = absurd (cc (sym m.0 ∙ e))
    more (Some y) t m others =
        let h = sym m ∙ e in
        (cc (h), cc (h), others (cc (h)))
