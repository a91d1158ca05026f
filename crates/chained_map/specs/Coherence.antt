-- The marks of a map file agree with its roads: a road is open where none closes it.
use Rattle.std.specs.Prelude.{◌≡◌, ℕ, Bool, true, false, cond, not, ◌&&◌, List, Some, None, ◌==◌, refl}
use Rattle.std.proofs.Common.{sym, ap}
use Rattle.std.proofs.Math.Path.{fun_ext}
use Rattle.std.specs.Option.{option_map}
use Rattle.std.proofs.lemmas.Bool.{and_parts, true≢false}
use Rattle.roads.specs.Networks.{Network, numbered}
use Rattle.closings.specs.Closures.{stands_open, with_open, opened, Coherent}
use Rattle.map_file.specs.Layout.{road_count, mark_at}
use Rattle.chained_map.specs.Meaning.{facts_at, network}
use Rattle.chained_map.specs.Closed.{marked}

-- where a road is one of the map's, it stands open as its mark says
pub stands : (b z : Bool) → b ≡ true → (b && not (b && not z)) ≡ z
stands true true e = refl
stands true false e = refl
stands false z e = absurd (true≢false (sym e))

pub network_path : (v w : Network) → v.junctions ≡ w.junctions → v.roads ≡ w.roads → ((r : ℕ) → v.facts r ≡ w.facts r) → ((j : ℕ) → v.leaving j ≡ w.leaving j) → v ≡ w
network_path v w n m f l = λ i. record { junctions = n i; roads = m i; facts = fun_ext f i; leaving = fun_ext l i }

-- the facts of a road under its mark
facts_open : (bs : List ℕ) (r : ℕ) (b : Bool) → numbered (road_count bs) r ≡ b →
    option_map (with_open (stands_open (marked bs) r)) (cond b (Some (facts_at bs r)) None) ≡ cond b (Some (facts_at bs r)) None
facts_open bs r false e = refl
facts_open bs r true e =
    ap (λ o. Some (with_open o (facts_at bs r))) (stands (numbered (road_count bs) r) (mark_at bs r == 0) e)

pub map_coherent : (bs : List ℕ) → Coherent (network bs) (marked bs)
map_coherent bs = record {
  roads_open = network_path (opened (network bs) (marked bs)) (network bs) refl refl (λ r. facts_open bs r (numbered (road_count bs) r) refl) (λ j. refl);
  under_roads = λ r e. e;
  own_roads = λ r e. (and_parts (numbered (road_count bs) r) (not (mark_at bs r == 0)) e).0;
}
