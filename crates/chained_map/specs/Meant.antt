-- The network that a file means: how it is read, and that it is well formed.
use Rattle.std.specs.Prelude.{◌≡◌, ℕ, ◌+◌, ◌^◌, ◌<◌, ◌≤◌, Bool, true, false, cond, List, [], is_some, Some, None, nat_le, nat_lt, slice_index, refl}
use Rattle.std.proofs.Common.{sym, ap, subst, ◌∙◌, ⊎_elim, arith}
use Rattle.std.proofs.lemmas.Bool.{cases_Bool, le-leb, leb-true, ltb-true, ltb-false, and_parts, and_from, eq-eqb, ne_eqb, true≢false}
use Rattle.roads.specs.declared.facts.Facts.{Facts}
use Rattle.roads.specs.RoadLists.{has, distinct}
use Rattle.roads.specs.Networks.{WellFormed, numbered, leaves}
use Rattle.map_file.specs.Layout.{field, junction_count, road_count}
use Rattle.map_file.specs.Chains.{chain_of, tail_at, open_fault}
use Rattle.map_file.proofs.Passed.{few_junctions, few_roads, head_fits}
use Rattle.chained_map.specs.Meaning.{facts_at, network}
use Rattle.chained_map.specs.Chained.{Numbered, sound_head, sound_fields, own_distinct, own_roads, own_tail}

pub is_road : (m r : ℕ) → 0 < r → r ≤ m → numbered m r ≡ true
is_road m r p l = and_from (nat_le 1 r) (nat_le r m) (le-leb 1 r p) (le-leb r m l)

pub road_bounds : (m r : ℕ) → numbered m r ≡ true → Numbered m r
road_bounds m r e = let p = and_parts (nat_le 1 r) (nat_le r m) e in (leb-true 1 r p.0, leb-true r m p.1)

-- what is read where a test holds
pub taken : {X : Type 0} (b : Bool) (x y : X) → cond b (Some x) None ≡ Some y → (b ≡ true) × (x ≡ y)
taken true x y e = (refl, cc)
taken false x y e = let z : ◌≡◌ {A = ℕ} 0 1 = cc in absurd (omega arith)

known_by : {X : Type 0} (b : Bool) (x : X) → is_some (cond b (Some x) None) ≡ b
known_by true x = refl
known_by false x = refl

pub field_fits : (bs : List ℕ) (at : ℕ) → ((i : ℕ) → slice_index bs i < 256) → field bs at < 2 ^ 16
field_fits bs at small = omega (arith, small at, small (at + 1))

module _ (bs : List ℕ) (sound : is_some (open_fault bs) ≡ false) where
  road_of : (r : ℕ) (f : Facts) → (network bs).facts r ≡ Some f → Numbered (road_count bs) r × (facts_at bs r ≡ f)
  road_of r f e = let t = taken (numbered (road_count bs) r) (facts_at bs r) f e in (road_bounds (road_count bs) r t.0, t.1)

  listed_in : (j r : ℕ) → j < junction_count bs → (b : Bool) → numbered (road_count bs) r ≡ b → has r (chain_of bs j) ≡ leaves j (cond b (Some (facts_at bs r)) None)
  listed_in j r l false e =
      ⊎_elim (λ (h : has r (chain_of bs j) ≡ true).
      let n = (own_roads bs sound j r l h).0 in
      absurd (true≢false (sym (is_road (road_count bs) r n.0 n.1) ∙ e)))
      (λ h. h) (cases_Bool (has r (chain_of bs j)))
  listed_in j r l true e =
      let n = road_bounds (road_count bs) r e in
      ⊎_elim (λ (h : has r (chain_of bs j) ≡ true). h ∙ sym (eq-eqb j (tail_at bs r) (sym (own_roads bs sound j r l h).1)))
      (λ (h : has r (chain_of bs j) ≡ false).
      h ∙ sym (ne_eqb j (tail_at bs r) (λ s. true≢false (sym (own_tail bs sound r n.0 n.1).1 ∙ ap (λ k. has r (chain_of bs k)) (sym s) ∙ h))))
      (cases_Bool (has r (chain_of bs j)))

  listed_out : (j r : ℕ) → junction_count bs ≤ j → (b : Bool) → numbered (road_count bs) r ≡ b → false ≡ leaves j (cond b (Some (facts_at bs r)) None)
  listed_out j r l false e = refl
  listed_out j r l true e =
      let n = road_bounds (road_count bs) r e in
      let t = (own_tail bs sound r n.0 n.1).0 in
      sym (ne_eqb j (tail_at bs r) (λ s. omega arith))

  listed_at : (j r : ℕ) (b : Bool) → nat_lt j (junction_count bs) ≡ b → has r (cond b (chain_of bs j) []) ≡ leaves j ((network bs).facts r)
  listed_at j r true e = listed_in j r (ltb-true j (junction_count bs) e) (numbered (road_count bs) r) refl
  listed_at j r false e = listed_out j r (ltb-false j (junction_count bs) e) (numbered (road_count bs) r) refl

  once_at : (j : ℕ) (b : Bool) → nat_lt j (junction_count bs) ≡ b → distinct (cond b (chain_of bs j) []) ≡ true
  once_at j true e = own_distinct bs sound j (ltb-true j (junction_count bs) e)
  once_at j false e = refl

  pub well_formed : ((i : ℕ) → slice_index bs i < 256) → WellFormed (network bs)
  well_formed small = record {
    counts = (omega (arith, few_junctions bs (sound_head bs sound)), omega (arith, few_roads bs (sound_head bs sound)));
    known = λ r. known_by (numbered (road_count bs) r) (facts_at bs r);
    ends = λ r f e.
        let t = road_of r f e in
        subst (λ (x : Facts). (x.tail < junction_count bs) × (x.head < junction_count bs)) t.1
        ((own_tail bs sound r t.0.0 t.0.1).0, head_fits bs (sound_fields bs sound) r t.0.0 t.0.1);
    widths = λ r f e.
        let t = road_of r f e in
        subst (λ (x : Facts). (x.seconds < 2 ^ 16) × (x.metres < 2 ^ 16) × (x.limit < 2 ^ 16)) t.1
        (field_fits bs _ small, field_fits bs _ small, field_fits bs _ small);
    listed = λ j r. listed_at j r (nat_lt j (junction_count bs)) refl;
    once = λ j. once_at j (nat_lt j (junction_count bs)) refl;
  }
