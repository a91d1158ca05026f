-- Levels and codes as they are lent.
use Rattle.std.specs.Prelude.{ℕ, List, slice_index}
use Rattle.cells.specs.Cells.{Survey}

-- so many levels, with codes that are listed
abbrev pub surveyed : ℕ → List ℕ → Survey
surveyed levels codes = record { levels = levels; code = λ v. slice_index codes v }
