-- What a road costs.
use Rattle.std.specs.Prelude.{ℕ, ◌+◌, ◌*◌, cond, ◌==◌}
use Rattle.roads.specs.declared.facts.Facts.{Facts}
use Rattle.charge.specs.Scales.{Scale}

-- three for each second and two for each metre
abbrev pub blend_of : Facts → ℕ
blend_of f = 3 * f.seconds + 2 * f.metres

-- the limit as it is, 0 included
abbrev pub load_of : Facts → ℕ
load_of f = f.limit

-- a tariff with an extra joined after the charge of one road
abbrev pub with_extra : {C : Type 0} → Scale C → ℕ → C → (ℕ → Facts → C) → ℕ → Facts → C
with_extra s road extra below r f = cond (r == road) (s.joined (below r f) extra) (below r f)
