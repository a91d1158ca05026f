-- The total of a list is the total so far, joined before that of what is left.
use Rattle.std.proofs.Common.{◌≡◌, ℕ, ◌+◌, ◌<◌, List, ◌∷◌, length, get_or, drop, Some, None, Option, sym, refl, ap, ◌∙◌}
use Rattle.std.proofs.lemmas.List.{at_drop_more}
use Rattle.roads.specs.declared.facts.Facts.{Facts}
use Rattle.charge.specs.Scales.{Scale, Associative, total}
use Rattle.charge.specs.Totals.{both, charge_of, charges_of, total_along}

module _ {C : Type 0} (s : Scale C) where
  total_both : (o : Option C) (p : Option (List C))
      → elim (both ◌∷◌ o p) [ None ↦ None | Some cs ↦ Some (total s cs) ] ≡ both s.joined o (elim p [ None ↦ None | Some cs ↦ Some (total s cs) ])
  total_both None p = refl
  total_both (Some a) None = refl
  total_both (Some a) (Some cs) = refl

  both_regroup : Associative s → (o p q : Option C) → both s.joined o (both s.joined p q) ≡ both s.joined (both s.joined o p) q
  both_regroup law None p q = refl
  both_regroup law (Some a) None q = refl
  both_regroup law (Some a) (Some b) None = refl
  both_regroup law (Some a) (Some b) (Some c) = ap Some (sym (law.regroup a b c))

module _ {C : Type 0} (s : Scale C) (facts : ℕ → Option Facts) (price : ℕ → Facts → C) where
  -- the total so far, and then the total of rs
  abbrev pub and_then : C → List ℕ → Option C
  and_then t rs = both s.joined (Some t) (total_along s facts price rs)

  -- one road on: o is the total with it
  pub and_then_more : Associative s → (t : C) (i : ℕ) (list : List ℕ) (o : Option C) → i < length list
      → o ≡ both s.joined (Some t) (charge_of facts price (get_or list i 0))
      → and_then t (drop i list) ≡ both s.joined o (total_along s facts price (drop (i + 1) list))
  and_then_more law t i list o below e =
      let charge = charge_of facts price (get_or list i 0) in
      let rest = drop (i + 1) list in
      at_drop_more (and_then t) list i 0 below
      ∙ ap (both s.joined (Some t)) (total_both s charge (charges_of facts price rest))
      ∙ both_regroup s law (Some t) charge (total_along s facts price rest)
      ∙ ap (λ p. both s.joined p (total_along s facts price rest)) (sym e)
