-- What a list of roads costs, by the facts of each road and a tariff.
use Rattle.std.specs.Prelude.{ℕ, List, [], ◌∷◌, Some, None, Option}
use Rattle.roads.specs.declared.facts.Facts.{Facts}
use Rattle.charge.specs.Scales.{Scale, total}

-- both values put together, where both are there
abbrev pub both : {A B D : Type 0} → (A → B → D) → Option A → Option B → Option D
both f None y = None
both f (Some a) None = None
both f (Some a) (Some b) = Some (f a b)

-- the charge of road r; None where r is no road
abbrev pub charge_of : {C : Type 0} → (ℕ → Option Facts) → (ℕ → Facts → C) → ℕ → Option C
charge_of facts price r = elim (facts r) [ None ↦ None | Some f ↦ Some (price r f) ]

-- the charges of a list of roads; None where one of them is no road
abbrev pub charges_of : {C : Type 0} → (ℕ → Option Facts) → (ℕ → Facts → C) → List ℕ → Option (List C)
charges_of facts price [] = Some []
charges_of facts price (r ∷ rs) = both ◌∷◌ (charge_of facts price r) (charges_of facts price rs)

-- their total
abbrev pub total_along : {C : Type 0} → Scale C → (ℕ → Option Facts) → (ℕ → Facts → C) → List ℕ → Option C
total_along s facts price rs = elim (charges_of facts price rs) [ None ↦ None | Some cs ↦ Some (total s cs) ]
