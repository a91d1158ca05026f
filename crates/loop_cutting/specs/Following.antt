-- The arcs that are yet to be followed.
use Rattle.std.specs.Prelude.{List}
use Rattle.walks.specs.declared.arcs.Arc.{Arc}
use Rattle.walks.specs.Cutting.{follow}
use Rattle.loop_cutting.specs.declared.following.Following.{Following}
use Rattle.loop_cutting.specs.Exits.{exit_at}

abbrev pub ahead : Following → List Arc
ahead f = follow (exit_at f.exits.now) f.goal f.left f.here
