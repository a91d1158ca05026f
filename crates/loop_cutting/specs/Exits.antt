-- For each place the arc that left it last.
use Rattle.std.specs.Prelude.{ℕ, Bool, cond, ◌&&◌, List, length, Some, None, Option, ◌==◌, nat_le, nat_lt, slice_get}
use Rattle.std.specs.List.{list_all}
use Rattle.std.specs.Option.{option_map}
use Rattle.walks.specs.declared.arcs.Arc.{Arc}
use Rattle.loop_cutting.specs.declared.exits.Exit.{Exit}
use Rattle.loop_cutting.specs.declared.exits.Exits.{Exits}

-- the arc that left u, by what is kept there
abbrev pub arc_out : ℕ → Option Exit → Option Arc
arc_out u None = None
arc_out u (Some x) = option_map (λ h. record { tail = u; head = h; road = x.road }) x.head

abbrev pub exit_at : Exits → ℕ → Option Arc
exit_at e u = arc_out u (slice_get e.exits u)

-- an arc between places that there is room for
abbrev pub fits : Arc → Bool
fits r = nat_lt r.tail 2048 && nat_lt r.head 2048

abbrev pub all_fit : List Arc → Bool
all_fit w = list_all fits w

-- the exits with one arc more
abbrev pub noted : (ℕ → Option Arc) → Arc → ℕ → Option Arc
noted exit r u = cond (r.tail == u) (Some r) (exit u)

-- how many entries a list of arcs takes of a list that has room for so many; None where it is too long
abbrev pub room_for : List Arc → ℕ → Option ℕ
room_for w most = cond (nat_le (length w) most) (Some (length w)) None
