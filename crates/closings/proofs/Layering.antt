-- A layer whose table has lost a road, or gained one at the end.
use Rattle.std.specs.Prelude.{◌≡◌, ℕ, Bool, true, false, cond, List, [], ◌∷◌, ◌++◌, ◌==◌, filter, None}
use Rattle.std.proofs.Common.{sym, ap, ◌∙◌, arith}
use Rattle.std.proofs.lemmas.Bool.Decides.{nat_tests}
use Rattle.roads.specs.declared.fault.Part.TheVariants.{Layer}
use Rattle.roads.specs.Networks.{Network, numbered}
use Rattle.roads.proofs.Firsts.{first_holds}
use Rattle.closings.specs.Closures.{Closures, opened, with_own, close_fault}
use Rattle.closings.specs.Layers.{layered}
use Rattle.closings.specs.Tables.{other_road}
use Rattle.closings.proofs.Keeping.{has_filter, has_push}
use Rattle.closings.specs.Coherence.{opened_again}

-- closures of which only the own closings are others
own_is : (c : Closures) (own : ℕ → Bool) (b : Bool) (r : ℕ) → ((q : ℕ) → own q ≡ cond (q == r) b (c.own q))
    → record { under = c.under; own = own; capacity = c.capacity; finder = c.finder } ≡ with_own b r c
own_is c own b r h = λ i. record { under = c.under; own = λ q. h q i; capacity = c.capacity; finder = c.finder }

module _ (w : Network) (xs : List ℕ) (r : ℕ) where
  -- what is left without r
  layered_without : layered w (filter (other_road w.roads r) xs) ≡ with_own false r (layered w xs)
  layered_without = own_is (layered w xs) _ false r (λ q. let h = has_filter (other_road w.roads r) q xs in grind (arith, nat_tests))

  -- and with r at the end
  layered_with : numbered w.roads r ≡ true → layered w (filter (other_road w.roads r) xs ++ (r ∷ [])) ≡ with_own true r (layered w xs)
  layered_with road = own_is (layered w xs) _ true r
      (λ q. let h = has_filter (other_road w.roads r) q xs in let more = has_push q r (filter (other_road w.roads r) xs) in grind (arith, nat_tests))

-- the list has become ys, over roads that are as they were
module _ (w : Network) (xs : List ℕ) (r : ℕ) (w' : Network) (ys : List ℕ) (same : w' ≡ w) where
  moved : (b : Bool) → layered w ys ≡ with_own b r (layered w xs)
      → (layered w' ys ≡ with_own b r (layered w xs)) × (opened w' (layered w' ys) ≡ opened (opened w (layered w xs)) (layered w' ys))
  moved b own = rw same (own, sym (opened_again w (layered w xs) (layered w ys)))

  pub layer_closed : None ≡ close_fault w.roads (layered w xs) r → ys ≡ filter (other_road w.roads r) xs ++ (r ∷ [])
      → (layered w' ys ≡ with_own true r (layered w xs)) × (opened w' (layered w' ys) ≡ opened (opened w (layered w xs)) (layered w' ys))
  layer_closed free here = moved true (ap (layered w) here ∙ layered_with w xs r (first_holds (numbered w.roads r) 6 r Layer _ free))

  pub layer_reopened : ys ≡ filter (other_road w.roads r) xs
      → (layered w' ys ≡ with_own false r (layered w xs)) × (opened w' (layered w' ys) ≡ opened (opened w (layered w xs)) (layered w' ys))
  layer_reopened here = moved false (ap (layered w) here ∙ layered_without w xs r)
