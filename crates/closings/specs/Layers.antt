-- A layer of closings over a network.
use Rattle.std.specs.Prelude.{ℕ, ◌&&◌, List}
use Rattle.roads.specs.declared.fault.Part.TheVariants.{Layer}
use Rattle.roads.specs.RoadLists.{has}
use Rattle.roads.specs.Networks.{Network, numbered, is_open}
use Rattle.closings.specs.Closures.{Closures}

-- what is open below, and the numbers of a list that are roads below
abbrev pub layered : Network → List ℕ → Closures
layered w list = record {
  under = λ r. is_open (w.facts r);
  own = λ r. has r list && numbered w.roads r;
  capacity = 32;
  finder = λ _ _. Layer;
}
