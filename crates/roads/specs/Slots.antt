-- A junction or none, in 16 bits.
use Rattle.std.specs.Prelude.{◌≡◌, ℕ, zero, suc, Some, None, Option}
use Rattle.std.proofs.Common.{refl}

-- 0 stands for none, and each other number for the junction below it
abbrev pub below : ℕ → Option ℕ
below zero = None
below (suc n) = Some n

abbrev pub above : Option ℕ → ℕ
above None = 0
above (Some n) = suc n

pub above_below : (n : ℕ) → ◌≡◌ {A = ℕ} (above (below n)) n
above_below zero = refl
above_below (suc n) = refl
