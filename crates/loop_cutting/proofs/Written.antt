-- The roads of some arcs as they are written.
use Rattle.std.proofs.Common.{◌≡◌, ℕ, ◌≤◌, List, ◌++◌, map, length, drop, ap, ◌∙◌, zero-add, arith}
use Rattle.std.proofs.lemmas.List.{length-map}
use Rattle.std.proofs.lemmas.List.Edits.{sets, sets-eq}
use Rattle.walks.specs.declared.arcs.Arc.{Arc}

abbrev pub roads : List Arc → List ℕ
roads w = map (λ x. x.road) w

-- written into a list with room for them, they take the place of as many of its entries
pub written_whole : (w : List Arc) (way : List ℕ) → length w ≤ length way → sets way 0 (roads w) ≡ roads w ++ drop (length w) way
written_whole w way h =
    let n : length (roads w) ≡ length w = length-map w (λ (x : Arc). x.road) in
    sets-eq (roads w) way 0 (omega (arith, n)) ∙ ap (λ k. roads w ++ drop k way) (zero-add (length (roads w)) ∙ n)
