-- What the checks of the header and the records say once they pass.
use Rattle.std.proofs.Common.{◌≡◌, ℕ, zero, suc, ◌+◌, ◌-◌, ◌*◌, ◌^◌, ◌<◌, ◌≤◌, List, length, None, lit<, arith}
use Rattle.std.proofs.lemmas.Bool.Decides.{nat_tests}
use Rattle.std.proofs.lemmas.Bool.{leb-true, ltb-true}
use Rattle.roads.proofs.Firsts.{none_below}
use Rattle.map_file.specs.Layout.{junction_count, road_count, level_count, road_record, first_at, head_at, next_at, mark_at}
use Rattle.map_file.specs.Checks.{head_fault, field_fault, junction_fault, record_fault, road_fault}

module _ (bs : List ℕ) (head : head_fault bs ≡ None) where
  pub few_junctions : junction_count bs ≤ 2048
  few_junctions = grind (arith, nat_tests)

  pub few_roads : road_count bs ≤ 4096
  few_roads = grind (arith, nat_tests)

  pub few_levels : level_count bs ≤ 4
  few_levels = grind (arith, nat_tests)

  pub long_enough : length bs ≡ 6 + 4 * junction_count bs + 12 * road_count bs
  long_enough = grind (arith, nat_tests)

module _ (bs : List ℕ) (fields : field_fault bs ≡ None) where
  pub junction_fine : (j : ℕ) → j < junction_count bs → junction_fault bs j ≡ None
  unfolding field_fault
  junction_fine j l = none_below (junction_fault bs) j (junction_count bs) l (grind arith)

  pub road_fine : (r : ℕ) → 0 < r → r ≤ road_count bs → record_fault bs (road_record (junction_count bs) r) ≡ None
  unfolding field_fault
  road_fine r p l = none_below (road_fault bs) (r - 1) (road_count bs) (omega arith) (grind arith)

  pub first_fits : (j : ℕ) → j < junction_count bs → first_at bs j ≤ road_count bs
  first_fits j l = let h = junction_fine j l in leb-true _ _ (grind arith)

  pub head_fits : (r : ℕ) → 0 < r → r ≤ road_count bs → head_at bs r < junction_count bs
  head_fits r p l = let h = road_fine r p l in ltb-true _ _ (grind arith)

  pub next_fits : (r : ℕ) → 0 < r → r ≤ road_count bs → next_at bs r ≤ road_count bs
  next_fits r p l = let h = road_fine r p l in leb-true _ _ (grind arith)

  pub mark_fits : (r : ℕ) → 0 < r → r ≤ road_count bs → mark_at bs r ≤ 1
  mark_fits r p l = let h = road_fine r p l in leb-true _ _ (grind arith)

-- four hexadecimal digits are few
pub codes_fit : (k : ℕ) → k ≤ 4 → 16 ^ k < 4294967296
codes_fit zero l = lit< tt
codes_fit (suc zero) l = lit< tt
codes_fit (suc (suc zero)) l = lit< tt
codes_fit (suc (suc (suc zero))) l = lit< tt
codes_fit (suc (suc (suc (suc zero)))) l = lit< tt
codes_fit (suc (suc (suc (suc (suc k))))) l = absurd (omega arith)
