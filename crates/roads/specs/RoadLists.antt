-- Lists of road numbers.
use Rattle.std.specs.Prelude.{ℕ, Bool, true, false, cond, List, [], ◌∷◌, ◌==◌}

-- whether r is in a list
abbrev pub has : ℕ → List ℕ → Bool
has r [] = false
has r (x ∷ xs) = cond (r == x) true (has r xs)

-- whether no number comes twice
abbrev pub distinct : List ℕ → Bool
distinct [] = true
distinct (x ∷ xs) = cond (has x xs) false (distinct xs)

-- the first, and 0 where there is none
abbrev pub front : List ℕ → ℕ
front [] = 0
front (x ∷ xs) = x

-- what comes after r
abbrev pub past : ℕ → List ℕ → List ℕ
past r [] = []
past r (x ∷ xs) = cond (r == x) xs (past r xs)
