-- How a fault is written.
use Rattle.std.specs.Prelude.{ℕ, List, ◌++◌, codes, decimal}
use Rattle.roads.specs.declared.fault.Part.{Part}
use Rattle.roads.specs.declared.fault.Part.TheVariants.{Map, Layer, Planner, Book}
use Rattle.roads.specs.declared.fault.Report.{Report}

-- the name of each part
abbrev pub word : Part → List ℕ
word Map = codes "map"
word Layer = codes "layer"
word Planner = codes "planner"
word Book = codes "book"

-- number, place and part, with a space between
abbrev pub docket : Report → List ℕ
docket x = decimal x.number ++ (codes " " ++ (decimal x.place ++ (codes " " ++ word x.part)))
