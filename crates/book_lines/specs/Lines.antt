-- What a line of the day book asks for.
use Rattle.std.specs.Prelude.{ℕ, cond, List, [], ◌∷◌, Some, None, Option, ◌==◌}
use Rattle.std.specs.Option.{option_map, unwrap_or}
use Rattle.book_lines.specs.declared.lines.Line.{Line}
use Rattle.book_lines.specs.declared.lines.Line.TheVariants.{Survey, Price, Close, Reopen, Measure, Way}
use Rattle.book_lines.specs.Pieces.{before, behind, number, pair_of}

-- the letters are S, P, C, O, M and W
abbrev pub by_letter : ℕ → List ℕ → Option Line
by_letter letter rest =
    cond (letter == 67) (option_map Close (number rest))
    (cond (letter == 79) (option_map Reopen (number rest))
    (cond (letter == 77) (option_map (λ p. Measure p.0 p.1) (pair_of rest))
    (cond (letter == 87) (option_map (λ p. Way p.0 p.1) (pair_of rest))
    None)))

abbrev pub reading : List ℕ → Option Line
reading [] = None
reading (x ∷ []) = cond (x == 83) (Some Survey) (cond (x == 80) (Some Price) None)
reading (x ∷ y ∷ rest) = cond (y == 32) (by_letter x rest) None

-- the first line of a text, and what comes after its line feed
abbrev pub first_line : List ℕ → List ℕ
first_line s = before 10 s

abbrev pub later_lines : List ℕ → List ℕ
later_lines s = unwrap_or (behind 10 s) []

-- a byte put before the first of some lines, or alone where there is none
abbrev pub onto : ℕ → List (List ℕ) → List (List ℕ)
onto x [] = (x ∷ []) ∷ []
onto x (line ∷ rest) = (x ∷ line) ∷ rest

-- the lines of a text: each ends at a line feed, and there is none after the last one
abbrev pub lines_of : List ℕ → List (List ℕ)
lines_of [] = []
lines_of (x ∷ xs) = cond (x == 10) ([] ∷ lines_of xs) (onto x (lines_of xs))
