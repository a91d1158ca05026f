-- What is read of a map file, as its network has it.
use Rattle.std.specs.Prelude.{◌≡◌, ℕ, zero, suc, ◌+◌, ◌<◌, ◌≤◌, false, cond, List, [], ◌∷◌, map, is_some, Some, None, Option, nat_lt, refl}
use Rattle.std.proofs.Common.{sym, ap, ◌∙◌, arith}
use Rattle.std.specs.List.{filter_map, range_with_len}
use Rattle.std.proofs.lemmas.Bool.{cond-true, lt-ltb}
use Rattle.roads.specs.declared.facts.Facts.{Facts}
use Rattle.roads.specs.RoadLists.{front, past}
use Rattle.roads.specs.Networks.{numbered, next_leaving}
use Rattle.map_file.specs.declared.records.RoadRecord.{RoadRecord}
use Rattle.map_file.specs.Layout.{junction_count, road_count, code_at, first_at, next_at}
use Rattle.map_file.specs.Records.{road_of}
use Rattle.map_file.specs.Chains.{chain_of, tail_at, open_fault}
use Rattle.chained_map.specs.Meaning.{facts_at, network, code_of, codes}
use Rattle.chained_map.specs.Chained.{chain_front, own_tail, own_next}
use Rattle.chained_map.specs.Meant.{taken, is_road, road_bounds}

-- a junction's chain begins with the first of its record
own_front : (bs : List ℕ) (j : ℕ) → front (chain_of bs j) ≡ first_at bs j
unfolding chain_of
own_front bs j = chain_front bs (road_count bs + 1) (first_at bs j) (omega arith)

-- the first road that leaves a junction is the first of its record
pub first_read : (bs : List ℕ) (j : ℕ) → j < junction_count bs → front ((network bs).leaving j) ≡ first_at bs j
first_read bs j h = ap front (cond-true (nat_lt j (junction_count bs)) (chain_of bs j) [] (lt-ltb j (junction_count bs) h)) ∙ own_front bs j

-- and the road after a road is the next of its record
pub next_read : (bs : List ℕ) → is_some (open_fault bs) ≡ false → (r : ℕ) → 0 < r → r ≤ road_count bs → next_leaving (network bs) r ≡ next_at bs r
next_read bs sound r p l =
    let t = own_tail bs sound r p l in
    let j = tail_at bs r in
    ap (λ (o : Option Facts). elim o [ None ↦ 0 | Some f ↦ front (past r ((network bs).leaving f.tail)) ]) (cond-true (numbered (road_count bs) r) (Some (facts_at bs r)) None (is_road (road_count bs) r p l))
    ∙ ap (λ xs. front (past r xs)) (cond-true (nat_lt j (junction_count bs)) (chain_of bs j) [] (lt-ltb j (junction_count bs) t.0))
    ∙ own_next bs sound r p l

-- a record that is read is a road's
pub read_known : (bs : List ℕ) (r : ℕ) (x : RoadRecord) → Some x ≡ road_of bs r → (0 < r) × (r ≤ road_count bs)
read_known bs r x e = road_bounds (road_count bs) r (taken (numbered (road_count bs) r) _ x (sym e)).0

-- each of some numbers below n gives its value
all_below : (f : ℕ → ℕ) (n a k : ℕ) → a + k ≤ n → filter_map (λ j. cond (nat_lt j n) (Some (f j)) None) (range_with_len a k) ≡ map f (range_with_len a k)
all_below f n a zero l = refl
all_below f n a (suc k) l = rw (lt-ltb a n (omega arith)) (ap (λ xs. f a ∷ xs) (all_below f n (a + 1) k (omega arith)))

-- the codes that there are are all of them
pub codes_read : (bs : List ℕ) → filter_map (code_of bs) (range_with_len 0 (junction_count bs)) ≡ codes bs
codes_read bs = all_below (code_at bs) (junction_count bs) 0 (junction_count bs) (omega arith)
