-- The first road without a tail is the first that no chain met.
use Rattle.std.proofs.Common.{◌≡◌, ℕ, ◌+◌, ◌<◌, Bool, true, false, nat_lt, List, length, get_or, is_some, is_none, position, Some, None, Option, sym, ◌∙◌, ⊎_elim, arith}
use Rattle.std.specs.List.{position_or_len}
use Rattle.std.proofs.lemmas.Bool.{cases_Bool, not-true, not-false, ltb-false}
use Rattle.std.proofs.lemmas.List.Sums.{fails_before_first}
use Rattle.std.proofs.lemmas.List.Quantifiers.{position-Some}
use Rattle.std.proofs.lemmas.Option.{none-some}
use Rattle.roads.specs.declared.fault.Part.TheVariants.{Map}
use Rattle.roads.specs.Faults.{first_below}
use Rattle.roads.specs.RoadLists.{has}
use Rattle.roads.proofs.Firsts.{first_is, none_all}
use Rattle.map_file.specs.Chains.{unmet_fault}

-- where no entry passes, each fails
position_none : {X : Type 0} (p : X → Bool) (xs : List X) (d : X) → position p xs ≡ None → (k : ℕ) → k < length xs → p (get_or xs k d) ≡ false
position_none p xs d e k l =
    ⊎_elim (λ (t : nat_lt (position_or_len p xs) (length xs) ≡ true). let e' = rw t at e in absurd (none-some _ (sym e')))
    (λ (f : nat_lt (position_or_len p xs) (length xs) ≡ false). let g = ltb-false _ _ f in fails_before_first p xs k d (omega arith))
    (cases_Bool (nat_lt (position_or_len p xs) (length xs)))

-- a table of the roads 1, .., m has a tail just for those that are met
module _ (roads : List ℕ) (m : ℕ) (tails : List (Option ℕ)) (long : length tails ≡ m) (known : (i : ℕ) → i < m → is_some (get_or tails i None) ≡ has (i + 1) roads) where
  met_at : (i : ℕ) → i < m → is_none (get_or tails i None) ≡ false → unmet_fault roads i ≡ None
  met_at i l e = let h : has (i + 1) roads ≡ true = sym (known i l) ∙ not-false _ e in rw h

  pub unmet_some : (i : ℕ) → position is_none tails ≡ Some i → first_below (unmet_fault roads) m ≡ Some (record { number = 4; place = i + 1; part = Map })
  unmet_some i e =
      let p = position-Some is_none tails i None e in
      let h : has (i + 1) roads ≡ false = sym (known i (omega (arith, p.0))) ∙ not-true _ p.1 in
      let f : unmet_fault roads i ≡ Some (record { number = 4; place = i + 1; part = Map }) = rw h in
      first_is (unmet_fault roads) i m _ (omega (arith, p.0)) (none_all (unmet_fault roads) i (λ k l. met_at k (omega (arith, p.0)) (p.2 k l))) f

  pub unmet_none : position is_none tails ≡ None → first_below (unmet_fault roads) m ≡ None
  unmet_none e = none_all (unmet_fault roads) m (λ k l. met_at k l (position_none is_none tails None e k (omega arith)))
