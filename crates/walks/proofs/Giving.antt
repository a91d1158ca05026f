-- What a call of `next` says of the arcs that are left.
use Rattle.std.proofs.Common.{◌≡◌, List, [], ◌∷◌, Some, None, Option, sym, refl, ap, ◌∙◌}
use Rattle.walks.specs.declared.arcs.Arc.{Arc}
use Rattle.walks.specs.declared.arcs.ChargedArc.{ChargedArc}
use Rattle.walks.specs.Arcs.{Gives}

module _ {S C : Type 0} (steps : S → Option (ChargedArc C) → S → Type 0) (charge : Arc → C) where
  -- an arc that comes is the first of those that were left, and the others are left
  pub record Came (xs : List Arc) (y : ChargedArc C) (t : S) : Type 0 where
    pub others : List Arc
    pub first : xs ≡ y.arc ∷ others
    pub charged : y.charge ≡ charge y.arc
    pub given : Gives steps charge t others

  pub came : (s : S) (xs : List Arc) → Gives steps charge s xs → (y : ChargedArc C) (t : S) → steps s (Some y) t → Came xs y t
  came s [] given y t step = let none : Some y ≡ None = given (Some y) t step in absurd (cc (none))
  came s (x ∷ xs) given y t step =
      let m = given (Some y) t step in
      record { others = xs; first = ap (λ z. z ∷ xs) (sym m.0); charged = m.1 ∙ ap charge (sym m.0); given = m.2 }

  -- where none comes, none was left
  pub ended : (s : S) (xs : List Arc) → Gives steps charge s xs → (t : S) → steps s None t → xs ≡ []
  ended s [] given t step = refl
  ended s (x ∷ xs) given t step = absurd (given None t step)
