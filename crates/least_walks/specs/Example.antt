-- Five places in two parts, with parallel arcs and an arc that leads nowhere else.
use Rattle.std.specs.Prelude.{ℕ, [], ◌∷◌, slice_index, slice_index_or}
use Rattle.walks.specs.declared.arcs.Arc.{Arc}
use Rattle.walks.specs.Digraphs.{Digraph}

abbrev pub arc : ℕ → ℕ → ℕ → Arc
arc u v r = record { tail = u; head = v; road = r }

-- 0 to 1 costs 100 by road 1 and 90 by road 6; 1 to 2 and 2 to 3 cost 50 each, 1 to 3 costs 150, 3 to 1 nothing; 4 is apart
abbrev pub five : Digraph ℕ
five = record {
  places = 5;
  leaving = λ u. slice_index_or ((arc 0 1 1 ∷ arc 0 1 6 ∷ []) ∷ (arc 1 2 2 ∷ arc 1 3 5 ∷ []) ∷ (arc 2 3 3 ∷ []) ∷ (arc 3 1 4 ∷ []) ∷ []) u [];
  charge = λ r. slice_index (0 ∷ 100 ∷ 50 ∷ 50 ∷ 0 ∷ 150 ∷ 90 ∷ []) r.road;
}
