-- How arcs are given one by one.
use Rattle.std.specs.Prelude.{◌≡◌, List, [], ◌∷◌, None, Option, MatchOption}
use Rattle.walks.specs.declared.arcs.Arc.{Arc}
use Rattle.walks.specs.declared.arcs.ChargedArc.{ChargedArc}

-- calls of `next` from s on give just these arcs in order, each with its charge
abbrev pub Gives : {S C : Type 0} → (S → Option (ChargedArc C) → S → Type 0) → (Arc → C) → S → List Arc → Type 0
Gives {S} {C} steps charge s [] = (r : Option (ChargedArc C)) (t : S) → steps s r t → r ≡ None
Gives {S} {C} steps charge s (x ∷ xs) =
    (r : Option (ChargedArc C)) (t : S) → steps s r t → MatchOption r ⊥ (λ y. (y.arc ≡ x) × (y.charge ≡ charge x) × Gives steps charge t xs)

-- a call from s gave the first of the arcs that were left, with its charge, and left the others, or none was left; charges stay
abbrev pub GaveFirst : {S C : Type 0} → (S → List Arc) → (S → Arc → C) → S → Option (ChargedArc C) → S → Type 0
GaveFirst left charge s r t = MatchOption r (left s ≡ []) (λ x. (left s ≡ x.arc ∷ left t) × (x.charge ≡ charge s x.arc) × (charge t ≡ charge s))
