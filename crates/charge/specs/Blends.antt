-- The blend.
use Rattle.std.specs.Prelude.{ℕ, ◌+◌, min, max, nat_le}
use Rattle.charge.specs.Scales.{Scale}

-- at numbers of 32 bits just the sum that stops at the largest of them; beyond them only so that the laws hold
abbrev pub stopped_sum : ℕ → ℕ → ℕ
stopped_sum a b = max (max a b) (min (a + b) 4294967295)

-- the smaller is the cheaper
abbrev pub blend : Scale ℕ
blend = record { neutral = 0; joined = stopped_sum; leq = nat_le }
