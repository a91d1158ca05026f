-- A mark of 0 or 1 that is written into a file which passes its checks.
use Rattle.std.specs.Prelude.{◌≡◌, ℕ, zero, suc, ◌+◌, ◌-◌, ◌*◌, ◌<◌, ◌≤◌, false, List, length, is_some, None, Option, ◌==◌, ◌≢◌, slice_index, slice_index_or, slice_set, unwrap_or}
use Rattle.std.proofs.Math.Path.{refl}
use Rattle.std.proofs.Common.{sym, ap, ◌∙◌, ⊎_elim, arith}
use Rattle.std.proofs.lemmas.Bool.{cases_eq, le-leb, lt-ltb}
use Rattle.std.proofs.lemmas.List.{length-set, get_or-set_same, get_or-set_other}
use Rattle.roads.specs.declared.fault.Report.{Report}
use Rattle.roads.specs.Faults.{or_else}
use Rattle.roads.proofs.Firsts.{none_all}
use Rattle.map_file.specs.Layout.{field, junction_count, road_count, junction_record, road_record, first_at, head_at, next_at, mark_at}
use Rattle.map_file.specs.Checks.{head_fault, field_fault, junction_fault, road_fault, record_fault}
use Rattle.map_file.specs.Chains.{chain, chain_of, met, tail_below, tail_at, Tails, chain_fault, open_fault}
use Rattle.map_file.proofs.Passed.{long_enough, junction_fine, head_fits, next_fits, mark_fits}
use Rattle.closings.specs.Closures.{with_open}
use Rattle.chained_map.specs.Meaning.{facts_at}
use Rattle.chained_map.specs.Marks.{mark_place, with_mark}
use Rattle.chained_map.specs.Chained.{sound_head, sound_fields}

-- two files with the same chains
record SameChains (bs cs : List ℕ) : Type 0 where
  n : junction_count cs ≡ junction_count bs
  m : road_count cs ≡ road_count bs
  first : (j : ℕ) → j < junction_count bs → first_at cs j ≡ first_at bs j
  next : (r : ℕ) → next_at cs r ≡ next_at bs r

module _ (bs cs : List ℕ) (l : SameChains bs cs) where
  chain_same : (k r : ℕ) → chain cs k r ≡ chain bs k r
  unfolding chain
  chain_same zero r = refl
  chain_same (suc k) r = rw (l.next r, chain_same k (next_at bs r))

  own_same : (j : ℕ) → j < junction_count bs → chain_of cs j ≡ chain_of bs j
  unfolding chain_of
  own_same j h = rw (l.m, l.first j h) (chain_same (road_count bs + 1) (first_at bs j))

  met_same : (j : ℕ) → j ≤ junction_count bs → met cs j ≡ met bs j
  unfolding met
  met_same zero h = refl
  met_same (suc j) h = let a = met_same j (omega arith) in let b = own_same j (omega arith) in rw (a, b)

  tail_same : (j r : ℕ) → j ≤ junction_count bs → tail_below cs j r ≡ tail_below bs j r
  unfolding tail_below
  tail_same zero r h = refl
  tail_same (suc j) r h = let a = tail_same j r (omega arith) in let b = own_same j (omega arith) in rw (a, b)

  chain_fault_same : chain_fault cs ≡ chain_fault bs
  unfolding chain_fault
  chain_fault_same = let a = met_same (junction_count bs) (omega arith) in rw (l.n, l.m, a)

field_other : (bs : List ℕ) (k at v : ℕ) → (k ≢ at) → (k + 1 ≢ at) → field (slice_set bs at v) k ≡ field bs k
field_other bs k at v p q = rw (get_or-set_other bs at k v 0 p, get_or-set_other bs at (k + 1) v 0 q)

-- a write of any mark
module _ (bs : List ℕ) (r v : ℕ) where
  pub n_same : junction_count (with_mark v r bs) ≡ junction_count bs
  n_same = field_other bs 0 (mark_place bs r) v (λ e. omega arith) (λ e. omega arith)

  pub m_same : road_count (with_mark v r bs) ≡ road_count bs
  m_same = field_other bs 2 (mark_place bs r) v (λ e. omega arith) (λ e. omega arith)

  same_chains : SameChains bs (with_mark v r bs)
  same_chains = record {
    n = n_same;
    m = m_same;
    first = λ j h. field_other bs (junction_record j + 2) (mark_place bs r) v (λ e. omega arith) (λ e. omega arith);
    next = λ x. rw n_same (field_other bs (road_record (junction_count bs) x + 2) (mark_place bs r) v (λ e. omega arith) (λ e. omega arith));
  }

  head_same : head_fault (with_mark v r bs) ≡ head_fault bs
  head_same =
      let at = mark_place bs r in
      let a : (k : ℕ) → k < 6 → slice_index (slice_set bs at v) k ≡ slice_index_or bs k 0 = λ k h. get_or-set_other bs at k v 0 (λ e. omega arith) in
      rw (n_same, m_same, length-set bs at v, a 4 (omega arith), a 5 (omega arith))

  junction_same : (j : ℕ) → j < junction_count bs → junction_fault (with_mark v r bs) j ≡ junction_fault bs j
  junction_same j h =
      let at = mark_place bs r in
      let a = field_other bs (junction_record j) at v (λ e. omega arith) (λ e. omega arith) in
      let b = same_chains.first j h in
      let d = get_or-set_other bs at 4 v 0 (λ e. omega arith) in
      rw (a, b, d, m_same)

  pub mark_other : (x : ℕ) → 0 < x → 0 < r → (x ≢ r) → mark_at (with_mark v r bs) x ≡ mark_at bs x
  mark_other x p q ne =
      ap (λ n. field (with_mark v r bs) (road_record n x + 10)) n_same
      ∙ field_other bs (road_record (junction_count bs) x + 10) (mark_place bs r) v (λ e. ne (omega arith)) (λ e. omega arith)

  pub own_chain_same : (j : ℕ) → j < junction_count bs → chain_of (with_mark v r bs) j ≡ chain_of bs j
  own_chain_same j h = own_same bs (with_mark v r bs) same_chains j h

  -- a road's facts but for its mark
  pub facts_but_mark : (x : ℕ) → facts_at (with_mark v r bs) x ≡ with_open (mark_at (with_mark v r bs) x == 0) (facts_at bs x)
  facts_but_mark x =
      let cs = with_mark v r bs in
      let t : tail_at cs x ≡ tail_at bs x = ap (λ o. unwrap_or o 65535) (ap (λ j. tail_below cs j x) n_same ∙ tail_same bs cs same_chains (junction_count bs) x (omega arith)) in
      let f : (k : ℕ) → k < 9 → field cs (road_record (junction_count cs) x + k) ≡ field bs (road_record (junction_count bs) x + k) =
      λ k h. ap (λ n. field cs (road_record n x + k)) n_same ∙ field_other bs (road_record (junction_count bs) x + k) (mark_place bs r) v (λ e. omega arith) (λ e. omega arith) in
      let h0 : head_at cs x ≡ head_at bs x = ap (λ n. field cs (road_record n x)) n_same ∙ field_other bs (road_record (junction_count bs) x) (mark_place bs r) v (λ e. omega arith) (λ e. omega arith) in
      λ i. record { tail = t i; head = h0 i; seconds = f 4 (omega arith) i; metres = f 6 (omega arith) i; limit = f 8 (omega arith) i; «open» = (mark_at cs x == 0) }

record_good : (bs : List ℕ) (at : ℕ) → field bs at < junction_count bs → field bs (at + 2) ≤ road_count bs → field bs (at + 10) ≤ 1 → record_fault bs at ≡ None
record_good bs at a b d = rw (lt-ltb _ _ a, le-leb _ _ b, le-leb _ _ d)

-- the record of road i + 1 in a file without a fault in its fields
road_good : (bs : List ℕ) (i : ℕ) → field_fault bs ≡ None → i < road_count bs →
    (field bs (6 + 4 * junction_count bs + 12 * i) < junction_count bs) × (field bs (6 + 4 * junction_count bs + 12 * i + 2) ≤ road_count bs) × (field bs (6 + 4 * junction_count bs + 12 * i + 10) ≤ 1)
road_good bs i s h =
    let e : i + 1 - 1 ≡ i = omega arith in
    (rw e at (head_fits bs s (i + 1) (omega arith) (omega arith)), rw e at (next_fits bs s (i + 1) (omega arith) (omega arith)), rw e at (mark_fits bs s (i + 1) (omega arith) (omega arith)))

none_of : (x y z : Option Report) → x ≡ None → y ≡ None → is_some z ≡ false → is_some (or_else x (or_else y z)) ≡ false
none_of x y z p q e = rw (p, q) e

-- a write of a mark of 0 or 1
module _ (bs : List ℕ) (r v : ℕ) (sound : is_some (open_fault bs) ≡ false) (r0 : 0 < r) (rm : r ≤ road_count bs) (v1 : v ≤ 1) where
  pub place_in : mark_place bs r < length bs
  place_in = omega (arith, long_enough bs (sound_head bs sound))

  mark_here : field (with_mark v r bs) (mark_place bs r) ≡ v
  mark_here =
      let at = mark_place bs r in
      let a = get_or-set_same bs at v 0 place_in in
      let b = get_or-set_other bs at (at + 1) v 0 (λ e. omega arith) in
      let f = mark_fits bs (sound_fields bs sound) r r0 rm in
      omega (arith, a, b, f)

  road_fine : (i : ℕ) → i < road_count bs → road_fault (with_mark v r bs) i ≡ None
  road_fine i h =
      let mark = mark_place bs r in
      let cs = with_mark v r bs in
      let at = 6 + 4 * junction_count bs + 12 * i in
      let old = road_good bs i (sound_fields bs sound) h in
      let a = field_other bs at mark v (λ e. omega arith) (λ e. omega arith) in
      let b = field_other bs (at + 2) mark v (λ e. omega arith) (λ e. omega arith) in
      let d : field cs (at + 10) ≤ 1 =
      ⊎_elim (λ (e : i ≡ r - 1). rw e (rw mark_here v1))
      (λ (ne : i ≡ r - 1 → ⊥). rw (field_other bs (at + 10) mark v (λ e. omega arith) (λ e. omega arith)) old.2) (cases_eq i (r - 1)) in
      let n = n_same bs r v in
      let m = m_same bs r v in
      ap (λ n. record_fault cs (6 + 4 * n + 12 * i)) n
      ∙ record_good cs at (omega (arith, a, n, old.0)) (omega (arith, b, m, old.1)) d

  fields_fine : field_fault (with_mark v r bs) ≡ None
  unfolding field_fault
  fields_fine =
      let cs = with_mark v r bs in
      let a = none_all (junction_fault cs) (junction_count bs) (λ j h. junction_same bs r v j h ∙ junction_fine bs (sound_fields bs sound) j h) in
      let b = none_all (road_fault cs) (road_count bs) road_fine in
      rw (n_same bs r v, m_same bs r v, a, b)

  pub still_sound : is_some (open_fault (with_mark v r bs)) ≡ false
  unfolding open_fault
  still_sound =
      let cs = with_mark v r bs in
      let a = head_same bs r v ∙ sound_head bs sound in
      let d = chain_fault_same bs cs (same_chains bs r v) in
      let old : is_some (chain_fault bs) ≡ false = rw (sound_head bs sound, sound_fields bs sound) at sound in
      none_of (head_fault cs) (field_fault cs) (chain_fault cs) a fields_fine (rw d old)

  pub still_held : (tails : List (Option ℕ)) → Tails bs tails → Tails (with_mark v r bs) tails
  still_held tails t k km =
      let cs = with_mark v r bs in
      let e = m_same bs r v in
      t k (omega (arith, e)) ∙ sym (ap (λ j. tail_below cs j k) (n_same bs r v) ∙ tail_same bs cs (same_chains bs r v) (junction_count bs) k (omega arith))

  pub mark_now : mark_at (with_mark v r bs) r ≡ v
  mark_now = ap (λ n. field (with_mark v r bs) (road_record n r + 10)) (n_same bs r v) ∙ mark_here

  pub still_small : ((i : ℕ) → slice_index bs i < 256) → (i : ℕ) → slice_index (with_mark v r bs) i < 256
  still_small small i =
      ⊎_elim (λ (e : i ≡ mark_place bs r). let a = get_or-set_same bs (mark_place bs r) v 0 place_in in rw e (omega (arith, a)))
      (λ (ne : i ≡ mark_place bs r → ⊥). let a = get_or-set_other bs (mark_place bs r) i v 0 ne in omega (arith, a, small i)) (cases_eq i (mark_place bs r))
