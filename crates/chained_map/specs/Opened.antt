-- What opening a map file answers.
use Rattle.std.specs.Prelude.{ℕ, List, Some, None, Ok, Err, vec_items, Option, Result}
use Rattle.roads.specs.declared.fault.Report.{Report}
use Rattle.roads.specs.Faults.{report}
use Rattle.chained_map.specs.declared.map.ChainedMap.{ChainedMap}
use Rattle.chained_map.specs.declared.map.RefusedMap.{RefusedMap}

-- the bytes that a map reads
abbrev pub file : ChainedMap → List ℕ
file x = vec_items x.bytes

-- what is told of an answer: nothing where the file is a map
abbrev pub told : Result ChainedMap RefusedMap → Option Report
told (Ok x) = None
told (Err e) = Some (report e.fault)
