-- Pieces of a text, and the numbers in it.
use Rattle.std.specs.Prelude.{ℕ, ◌+◌, ◌-◌, ◌*◌, cond, ◌&&◌, List, [], ◌∷◌, length, Some, None, Option, ◌==◌, nat_le}
use Rattle.std.specs.Str.{all_ascii_digits}

-- what stands before the first byte b, or all where there is none
abbrev pub before : ℕ → List ℕ → List ℕ
before b [] = []
before b (x ∷ xs) = cond (x == b) [] (x ∷ before b xs)

-- what stands behind the first byte b
abbrev pub behind : ℕ → List ℕ → Option (List ℕ)
behind b [] = None
behind b (x ∷ xs) = cond (x == b) (Some xs) (behind b xs)

-- the value of digits that follow the number n
abbrev pub value : ℕ → List ℕ → ℕ
value n [] = n
value n (d ∷ ds) = value (10 * n + (d - 48)) ds

-- one to five digits
abbrev pub number : List ℕ → Option ℕ
number ds = cond (nat_le 1 (length ds) && nat_le (length ds) 5 && all_ascii_digits ds) (Some (value 0 ds)) None

-- two numbers with one space between
abbrev pub both : Option ℕ → Option ℕ → Option (ℕ × ℕ)
both None o = None
both (Some a) None = None
both (Some a) (Some b) = Some (a, b)

abbrev pub pair_of : List ℕ → Option (ℕ × ℕ)
pair_of bs = elim (behind 32 bs) [ None ↦ None | Some back ↦ both (number (before 32 bs)) (number back) ]
