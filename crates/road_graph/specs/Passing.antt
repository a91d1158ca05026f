-- The roads that pass a test, and their arcs with what they cost.
use Rattle.std.specs.Prelude.{ℕ, Bool, List, map}
use Rattle.charge.specs.Scales.{Scale}
use Rattle.roads.specs.declared.facts.Facts.{Facts}
use Rattle.roads.specs.Networks.{Network}
use Rattle.walks.specs.declared.arcs.Arc.{Arc}
use Rattle.walks.specs.declared.arcs.ChargedArc.{ChargedArc}
use Rattle.cells.specs.RoadGraphs.{arcs_of, road_charge}

-- an arc with what its road costs by a tariff
abbrev pub charged_arc : {C : Type 0} → Scale C → Network → (ℕ → Facts → C) → Arc → ChargedArc C
charged_arc s w price a = record { arc = a; charge = road_charge s w price a.road }

-- the arcs of those roads of a list whose facts pass a test, so charged
abbrev pub charged_arcs : {C : Type 0} → Scale C → Network → (ℕ → Facts → C) → (Facts → Bool) → List ℕ → List (ChargedArc C)
charged_arcs s w price test rs = map (charged_arc s w price) (arcs_of w test rs)
