-- What the board says.
use Rattle.std.specs.Prelude.{ℕ, ◌-◌, Bool, cond, List, ◌++◌, codes, decimal}
use Rattle.roads.specs.declared.facts.Facts.{Facts}
use Rattle.roads.specs.Networks.{Network, is_open}
use Rattle.charge.specs.Tariffs.{blend_of}
use Rattle.closings.specs.Closures.{tally}
use Rattle.board.specs.declared.rows.Row.{Row}
use Rattle.board.specs.declared.rows.Tally.{Tally}

-- a road by its number and its facts
abbrev pub row_for : ℕ → Facts → Row
row_for r f = record { road = r; head = f.head; blend = blend_of f; limit = f.limit; «open» = f.open }

abbrev pub state_word : Bool → List ℕ
state_word b = cond b (codes "open") (codes "closed")

abbrev pub row_text : Row → List ℕ
row_text x =
    codes "road " ++ (decimal x.road ++ (codes " to " ++ (decimal x.head ++ (codes " blend " ++ (decimal x.blend
    ++ (codes " limit " ++ (decimal x.limit ++ (codes " " ++ state_word x.open))))))))

abbrev pub open_count : Network → ℕ
open_count w = tally (λ r. is_open (w.facts r)) w.roads

abbrev pub tallied : Network → Tally
tallied w = record { «open» = open_count w; closed = w.roads - open_count w }

abbrev pub tally_text : Tally → List ℕ
tally_text x = decimal x.open ++ (codes " open, " ++ (decimal x.closed ++ codes " closed"))
