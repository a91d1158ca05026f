-- The five laws of a charge together, and what follows from some of them.
use Rattle.std.proofs.Common.{◌≡◌, true, ⊎_elim}
use Rattle.std.proofs.lemmas.Bool.{cases_Bool}
use Rattle.charge.specs.Scales.{Scale, Associative, Neutral, Ordered, Monotone, Growing}

pub record Lawful {C : Type 0} (s : Scale C) : Type 0 where
  pub associative : Associative s
  pub unit : Neutral s
  pub order : Ordered s
  pub monotone : Monotone s
  pub growing : Growing s

-- no charge is dearer than itself
pub leq_refl : {C : Type 0} {s : Scale C} → Ordered s → (a : C) → s.leq a a ≡ true
leq_refl {s = s} order a = ⊎_elim (λ h. h) (order.comparable a a) (cases_Bool (s.leq a a))

-- the neutral charge is not dearer than any
pub neutral_least : {C : Type 0} {s : Scale C} → Lawful s → (a : C) → s.leq s.neutral a ≡ true
neutral_least {s = s} laws a = rw (laws.unit.left a) at (laws.growing.first s.neutral a)
