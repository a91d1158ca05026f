use Rattle.exactness.specs.Steps.{OverlayTails}
use Rattle.exactness.proofs.SearchArcs.{search_sound}
use Rattle.exactness.proofs.arcs_leave_their_place.Goals as goal

pub returns : goal.returns
unfolding OverlayTails
returns g c = λ w ok price survey sheet start goal. (search_sound g.C.Charge.scale ok price survey sheet start goal).tails
