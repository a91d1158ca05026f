-- A map file as closable roads: its marks say which roads are closed, and writing one closes or reopens its road.
use Rattle.std.specs.Prelude.{◌≡◌, ℕ, zero, suc, ◌+◌, ◌<◌, ◌≤◌, Bool, true, false, cond, not, ◌&&◌, List, [], is_some, Some, None, Option, ◌==◌, nat_lt, refl}
use Rattle.std.proofs.Common.{sym, ap, ap₂, ◌∙◌, ⊎_elim, arith}
use Rattle.std.proofs.Math.Path.{fun_ext}
use Rattle.std.specs.Option.{option_map}
use Rattle.std.proofs.lemmas.Bool.{cases_eq, eqb-true, eqb-false, ltb-true, lt-ltb}
use Rattle.roads.specs.declared.fault.Part.TheVariants.{Map}
use Rattle.roads.specs.declared.fault.Report.{Report}
use Rattle.roads.specs.Faults.{unless, or_else}
use Rattle.roads.specs.Networks.{numbered}
use Rattle.closings.specs.Closures.{Closures, tally, stands_open, with_open, opened, with_own, close_fault}
use Rattle.map_file.specs.Layout.{junction_count, road_count, mark_at}
use Rattle.map_file.specs.Chains.{chain_of, open_fault}
use Rattle.chained_map.specs.Meaning.{facts_at, network}
use Rattle.chained_map.specs.Marks.{with_mark}
use Rattle.chained_map.specs.Closed.{marked}
use Rattle.chained_map.specs.Meant.{is_road, road_bounds}
use Rattle.chained_map.proofs.Marked.{n_same, m_same, mark_other, mark_now, facts_but_mark, own_chain_same}
use Rattle.chained_map.specs.Coherence.{stands, network_path}

-- a set that lacks one of 1, .., m has fewer than m of them
tally_most : (set : ℕ → Bool) (m : ℕ) → tally set m ≤ m
tally_most set zero = omega arith
tally_most set (suc m) =
    let h = tally_most set m in
    elim (set (suc m)) as (λ v. cond v 1 0 + tally set m ≤ suc m) [ true ↦ omega arith | false ↦ omega arith ]

tally_room : (set : ℕ → Bool) (m r : ℕ) → 0 < r → r ≤ m → set r ≡ false → tally set m < m
tally_room set zero r p l e = absurd (omega arith)
tally_room set (suc m) r p l e =
    ⊎_elim (λ (s : r ≡ suc m). let e' = rw s at e in let h = tally_most set m in rw e' (omega arith))
    (λ (s : r ≡ suc m → ⊥).
    let h = tally_room set m r p (omega arith) e in
    elim (set (suc m)) as (λ v. cond v 1 0 + tally set m < suc m) [ true ↦ omega arith | false ↦ omega arith ]) (cases_eq r (suc m))

-- there is always room for a road that is not marked
pub close_checks : (bs : List ℕ) (r : ℕ) → close_fault (road_count bs) (marked bs) r
    ≡ or_else (unless (numbered (road_count bs) r) 6 r Map) (unless (not ((marked bs).own r)) 7 r Map)
close_checks bs r = by (numbered (road_count bs) r) refl ((marked bs).own r) refl where
  full : Option Report
  full = unless (nat_lt (tally (marked bs).own (road_count bs)) (road_count bs)) 9 r Map

  by : (b : Bool) → numbered (road_count bs) r ≡ b → (o : Bool) → (marked bs).own r ≡ o →
      or_else (unless b 6 r Map) (or_else (unless (not o) 7 r Map) full) ≡ or_else (unless b 6 r Map) (unless (not o) 7 r Map)
  by false e o h = refl
  by true e true h = refl
  by true e false h =
      let n = road_bounds (road_count bs) r e in
      let room = lt-ltb (tally (marked bs).own (road_count bs)) (road_count bs) (tally_room (marked bs).own (road_count bs) r n.0 n.1 h) in
      rw room

closures_path : (c d : Closures) → ((r : ℕ) → c.under r ≡ d.under r) → ((r : ℕ) → c.own r ≡ d.own r) → c.capacity ≡ d.capacity → c.finder ≡ d.finder → c ≡ d
closures_path c d u o k f = λ i. record { under = fun_ext u i; own = fun_ext o i; capacity = k i; finder = f i }

-- the mark of a closed road is 1, and of any other 0
mark_read : (b : Bool) → not (cond b 1 0 == 0) ≡ b
mark_read true = refl
mark_read false = refl

-- a mark of 0 or 1 is written at a road of the map
module _ (bs : List ℕ) (r v : ℕ) (sound : is_some (open_fault bs) ≡ false) (r0 : 0 < r) (rm : r ≤ road_count bs) (v1 : v ≤ 1) where
  known : numbered (road_count bs) r ≡ true
  known = is_road (road_count bs) r r0 rm

  own_now : (q : ℕ) → (marked (with_mark v r bs)).own q ≡ cond (q == r) (not (v == 0)) ((marked bs).own q)
  own_now q =
      ap (λ m. numbered m q && not (mark_at (with_mark v r bs) q == 0)) (m_same bs r v)
      ∙ by (q == r) refl (numbered (road_count bs) q) refl where
        by : (e : Bool) → (q == r) ≡ e → (b : Bool) → numbered (road_count bs) q ≡ b →
            (numbered (road_count bs) q && not (mark_at (with_mark v r bs) q == 0)) ≡ cond e (not (v == 0)) (numbered (road_count bs) q && not (mark_at bs q == 0))
        by true e b h =
            let s = eqb-true q r e in
            let here : mark_at (with_mark v r bs) q ≡ v = ap (mark_at (with_mark v r bs)) s ∙ mark_now bs r v sound r0 rm v1 in
            ap₂ (λ x y. x && not (y == 0)) (ap (numbered (road_count bs)) s ∙ known) here
        by false e true h =
            let q0 = (road_bounds (road_count bs) q h).0 in
            ap (λ x. numbered (road_count bs) q && not (x == 0)) (mark_other bs r v q q0 r0 (eqb-false q r e))
        by false e false h = ap (λ b. b && not (mark_at (with_mark v r bs) q == 0)) h ∙ sym (ap (λ b. b && not (mark_at bs q == 0)) h)

  marked_now : marked (with_mark v r bs) ≡ with_own (not (v == 0)) r (marked bs)
  marked_now = closures_path (marked (with_mark v r bs)) (with_own (not (v == 0)) r (marked bs))
      (λ q. ap (λ m. numbered m q) (m_same bs r v)) own_now (m_same bs r v) refl

  facts_now : (q : ℕ) (b : Bool) → numbered (road_count bs) q ≡ b →
      cond b (Some (facts_at (with_mark v r bs) q)) None ≡ option_map (with_open (stands_open (marked (with_mark v r bs)) q)) (cond b (Some (facts_at bs q)) None)
  facts_now q false e = refl
  facts_now q true e =
      let still : numbered (road_count (with_mark v r bs)) q ≡ true = ap (λ m. numbered m q) (m_same bs r v) ∙ e in
      ap Some (facts_but_mark bs r v q
      ∙ ap (λ o. with_open o (facts_at bs q)) (sym (stands (numbered (road_count (with_mark v r bs)) q) (mark_at (with_mark v r bs) q == 0) still)))

  leaving_now : (j : ℕ) (b : Bool) → nat_lt j (junction_count bs) ≡ b → cond b (chain_of (with_mark v r bs) j) [] ≡ cond b (chain_of bs j) []
  leaving_now j true e = own_chain_same bs r v j (ltb-true j (junction_count bs) e)
  leaving_now j false e = refl

  pub network_now : network (with_mark v r bs) ≡ opened (network bs) (marked (with_mark v r bs))
  network_now = network_path (network (with_mark v r bs)) (opened (network bs) (marked (with_mark v r bs))) (n_same bs r v) (m_same bs r v)
      (λ q. ap (λ m. cond (numbered m q) (Some (facts_at (with_mark v r bs) q)) None) (m_same bs r v) ∙ facts_now q (numbered (road_count bs) q) refl)
      (λ j. ap (λ n. cond (nat_lt j n) (chain_of (with_mark v r bs) j) []) (n_same bs r v) ∙ leaving_now j (nat_lt j (junction_count bs)) refl)

  pub marked_so : (b : Bool) → v ≡ cond b 1 0 → marked (with_mark v r bs) ≡ with_own b r (marked bs)
  marked_so b e = marked_now ∙ ap (λ x. with_own x r (marked bs)) (ap (λ k. not (k == 0)) e ∙ mark_read b)
