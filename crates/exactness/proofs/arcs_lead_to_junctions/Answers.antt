use Rattle.exactness.specs.Steps.{OverlayHeads}
use Rattle.exactness.proofs.SearchArcs.{search_sound}
use Rattle.exactness.proofs.arcs_lead_to_junctions.Goals as goal

pub returns : goal.returns
unfolding OverlayHeads
returns g c = λ w ok price survey sheet start goal. (search_sound g.C.Charge.scale ok price survey sheet start goal).heads
