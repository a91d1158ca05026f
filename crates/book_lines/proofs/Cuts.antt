-- A text that is cut at a byte, taken line by line, or read as a number.
use Rattle.std.proofs.Common.{◌≡◌, ℕ, ◌+◌, ◌<◌, true, false, cond, not, ◌==◌, nat_lt, List, [], ◌∷◌, length, take, drop, Some, None, refl, ap, add-one, arith}
use Rattle.std.proofs.lemmas.List.{take_rest}
use Rattle.std.specs.List.{slice_range, position, position_or_len}
use Rattle.std.proofs.Math.Numerals.{one-add}
use Rattle.std.proofs.lemmas.Bool.Decides.{nat_tests}
use Rattle.book_lines.specs.Pieces.{before, behind}
use Rattle.book_lines.specs.Lines.{first_line, later_lines, lines_of}

module _ (b : ℕ) where
  before_is : (s : List ℕ) → before b s ≡ take (position_or_len (λ x. x == b) s) s
  before_is [] = refl
  before_is (x ∷ s) =
      elim (x == b) as (λ v. cond v [] (x ∷ before b s) ≡ take (cond (not v) (1 + position_or_len (λ y. y == b) s) 0) (x ∷ s)) [
        | true ↦ refl
        | false ↦ rw one-add (ap (λ front. x ∷ front) (before_is s))
      ]

  behind_is : (s : List ℕ) → behind b s ≡ cond (nat_lt (position_or_len (λ x. x == b) s) (length s)) (Some (drop (position_or_len (λ x. x == b) s + 1) s)) None
  behind_is [] = refl
  behind_is (x ∷ s) = let more = behind_is s in grind (arith, nat_tests, add-one, one-add)

  -- the place of the first byte b
  pub placed : (s : List ℕ) (i : ℕ) → Some i ≡ position (λ x. x == b) s → (i < length s) × (before b s ≡ take i s) × (behind b s ≡ Some (slice_range s (i + 1) (length s)))
  placed s i e = let front = before_is s in let back = behind_is s in let rest = take_rest s (i + 1) in grind (arith, nat_tests)

  pub placed_nowhere : (s : List ℕ) → None ≡ position (λ x. x == b) s → behind b s ≡ None
  placed_nowhere s e = let back = behind_is s in grind (arith, nat_tests)

  -- where no byte is b, all stands before it
  pub before_all : (s : List ℕ) → behind b s ≡ None → before b s ≡ s
  before_all [] e = refl
  before_all (x ∷ s) e = let more = before_all s in grind (arith, nat_tests)

  pub behind_less : (s t : List ℕ) → behind b s ≡ Some t → length t < length s
  behind_less [] t e = absurd cc
  behind_less (x ∷ s) t e = let more = behind_less s t in grind (arith, nat_tests)

-- a text with a byte is its first line and the later ones
pub lines_step : (s : List ℕ) → 0 < length s → lines_of s ≡ first_line s ∷ lines_of (later_lines s)
lines_step [] h = absurd (omega arith)
lines_step (x ∷ []) h = grind (arith, nat_tests)
lines_step (x ∷ y ∷ s) h = let more = lines_step (y ∷ s) in grind (arith, nat_tests)
