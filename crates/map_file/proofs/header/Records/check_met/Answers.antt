use Rattle.std.proofs.Common.{◌≡◌, ◌+◌, ◌-◌, ◌<◌, List, length, take, drop, get_or, is_some, None, Option, ℕ, sym, ap, ◌∙◌, arith}
use Rattle.std.proofs.lemmas.List.{length-take-le, length-drop, get_or-take, get_or-drop}
use Rattle.roads.specs.RoadLists.{has}
use Rattle.map_file.specs.Layout.{junction_count, road_count}
use Rattle.map_file.specs.Chains.{met, Tails}
use Rattle.map_file.proofs.Passed.{few_roads}
use Rattle.map_file.proofs.Walks.{tail_met}
use Rattle.map_file.proofs.Unmet.{unmet_some, unmet_none}
use Rattle.map_file.proofs.header.Records.check_met.Goals as goal

-- the entries 1, .., m of a table
abbrev entries : List ℕ → List (Option ℕ) → List (Option ℕ)
entries bs tails = take (road_count bs) (drop 1 tails)

entries_long : (bs : List ℕ) (tails : List (Option ℕ)) → road_count bs < length tails → length (entries bs tails) ≡ road_count bs
entries_long bs tails l = length-take-le (road_count bs) (drop 1 tails) (omega (arith, length-drop 1 tails))

entries_known : (bs : List ℕ) (tails : List (Option ℕ)) → Tails bs tails → (i : ℕ) → i < road_count bs →
    is_some (get_or (entries bs tails) i None) ≡ has (i + 1) (met bs (junction_count bs))
entries_known bs tails t i l =
    let e : 1 + i ≡ i + 1 = omega arith in
    ap is_some (get_or-take (road_count bs) (drop 1 tails) i None l ∙ get_or-drop 1 tails i None ∙ ap (λ k. get_or tails k None) e ∙ t (i + 1) (omega arith))
    ∙ tail_met bs (junction_count bs) (i + 1)

pub returns-in-Some : goal.returns-in-Some
returns-in-Some c =
    let bs = c.args.self.now.bytes.now in
    let m : c.from-m.result + 1 - 1 ≡ road_count bs = omega arith in
    let long = entries_long bs c.args.tails.now (omega (arith, few_roads bs c.args.self.now.head)) in
    let first = unmet_some (met bs (junction_count bs)) (road_count bs) (entries bs c.args.tails.now) long (entries_known bs c.args.tails.now c.requires) c.in-Some.i (sym (rw m at c.in-Some.ensures)) in
    rw c.new.ensures (sym first)

pub returns-in-None : goal.returns-in-None
returns-in-None c =
    let bs = c.args.self.now.bytes.now in
    let m : c.from-m.result + 1 - 1 ≡ road_count bs = omega arith in
    let long = entries_long bs c.args.tails.now (omega (arith, few_roads bs c.args.self.now.head)) in
    sym (unmet_none (met bs (junction_count bs)) (road_count bs) (entries bs c.args.tails.now) long (entries_known bs c.args.tails.now c.requires) (sym (rw m at c.in-None.ensures)))
