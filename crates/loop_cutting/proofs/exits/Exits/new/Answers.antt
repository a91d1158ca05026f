use Rattle.loop_cutting.proofs.Noting.{no_arc_out}
use Rattle.loop_cutting.proofs.exits.Exits.new.Goals as goal

pub returns : goal.returns
returns c = λ u. no_arc_out 2048 u u c.no_exit.result c.no_exit.ensures
