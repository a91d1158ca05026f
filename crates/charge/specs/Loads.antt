-- The load.
use Rattle.std.specs.Prelude.{ℕ, ◌-◌, Bool, cond, nat_le}
use Rattle.charge.specs.Scales.{Scale}

-- how dear a load is: 65535 costs nothing and 0 the most; numbers of more than 16 bits come after, only so that the laws hold
abbrev pub key : ℕ → ℕ
key a = cond (nat_le a 65535) (65535 - a) a

abbrev pub key_leq : ℕ → ℕ → Bool
key_leq a b = nat_le (key a) (key b)

-- the dearer of two, at numbers of 16 bits the smaller
abbrev pub dearer : ℕ → ℕ → ℕ
dearer a b = cond (key_leq a b) b a

abbrev pub load : Scale ℕ
load = record { neutral = 65535; joined = dearer; leq = key_leq }
