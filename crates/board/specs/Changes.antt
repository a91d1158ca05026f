-- What a line that is tried on the board does.
use Rattle.std.specs.Prelude.{ℕ, List, ◌++◌, Some, None, codes, decimal, Option}
use Rattle.roads.specs.declared.fault.Part.TheVariants.{Book}
use Rattle.roads.specs.declared.fault.Report.{Report}
use Rattle.closings.specs.Closures.{Closures, close_fault, reopen_fault}
use Rattle.book_lines.specs.declared.lines.Line.{Line}
use Rattle.book_lines.specs.declared.lines.Line.TheVariants.{Survey, Price, Close, Reopen, Measure, Way}
use Rattle.board.specs.declared.changes.Change.{Change}
use Rattle.board.specs.declared.changes.Change.TheVariants.{Closed, Reopened}

abbrev pub no_change : ℕ → Option Report
no_change n = Some (record { number = 14; place = n; part = Book })

-- why line n is refused: its closing or reopening is, or it asks for neither
abbrev pub line_fault : ℕ → Closures → ℕ → Option Line → Option Report
line_fault m c n None = no_change n
line_fault m c n (Some Survey) = no_change n
line_fault m c n (Some Price) = no_change n
line_fault m c n (Some (Close r)) = close_fault m c r
line_fault m c n (Some (Reopen r)) = reopen_fault m c r
line_fault m c n (Some (Measure a b)) = no_change n
line_fault m c n (Some (Way a b)) = no_change n

abbrev pub change_text : Change → List ℕ
change_text (Closed r) = codes "closed " ++ decimal r
change_text (Reopened r) = codes "reopened " ++ decimal r
