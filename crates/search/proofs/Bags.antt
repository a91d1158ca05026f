-- The queue, as a place comes and as one goes.
use Rattle.std.proofs.Common.{◌≡◌, ℕ, ◌+◌, ◌-◌, ◌<◌, ◌≤◌, ◌≢◌, sym, ap, ◌∙◌, ⊎_elim, arith}
use Rattle.std.proofs.Math.Logic.{∥∥₁_map}
use Rattle.std.proofs.lemmas.Bool.{cases_eq}
use Rattle.search.specs.declared.frontier.lists.Mark.{Mark}
use Rattle.search.specs.declared.frontier.lists.Mark.TheVariants.{Unseen, Waiting, Settled}
use Rattle.search.specs.Marks.{is_waiting}
use Rattle.search.specs.Waiting.{Once}
use Rattle.search.proofs.Tallies.{tally_room, tally_more, tally_none}

pub none_waits : (size : ℕ) (mark : ℕ → Mark) (queue : ℕ → ℕ) → size ≤ 2048 → ((v : ℕ) → v < size → mark v ≡ Unseen) → Once size mark queue 0
none_waits size mark queue small off = record {
  inside = λ i h. absurd (omega (arith, h));
  all = λ v h e. absurd (cc (off v h));
  once = λ i j hi hj e. absurd (omega (arith, hi));
  count = sym (tally_none is_waiting mark size (λ y h. ap is_waiting (off y h)));
  small = small;
  room = omega arith;
}

-- one more waits, at the end
pub one_more : (size : ℕ) (mark mark' : ℕ → Mark) (queue queue' : ℕ → ℕ) (len v : ℕ) → Once size mark queue len → v < size → mark v ≡ Unseen →
    mark' v ≡ Waiting → ((y : ℕ) → y ≢ v → mark' y ≡ mark y) → queue' len ≡ v → ((i : ℕ) → i ≢ len → queue' i ≡ queue i) → Once size mark' queue' (len + 1)
one_more size mark mark' queue queue' len v b lt was is same put others =
    let old : (i : ℕ) → i < len → queue' i ≡ queue i = λ i h. others i (omega arith) in
    let new : (i : ℕ) → i < len + 1 → i ≢ len → i < len = λ i h d. omega arith in
    let apart : (i : ℕ) → i < len → queue i ≢ v = λ i h e. cc (ap mark e, (b.inside i h).1) in
    record {
      inside = λ i h. ⊎_elim
          (λ (e : i ≡ len). (omega (arith, ap queue' e ∙ put, lt), ap mark' (ap queue' e ∙ put) ∙ is))
          (λ d. let o = b.inside i (new i h d) in (omega (arith, others i d, o.0), ap mark' (others i d) ∙ same (queue i) (apart i (new i h d)) ∙ o.1)) (cases_eq i len);
      all = λ y hy e. ⊎_elim
          (λ (q : y ≡ v). ∣ (len, omega arith, put ∙ sym q) ∣₁)
          (λ d. ∥∥₁_map (b.all y hy (sym (same y d) ∙ e)) (λ o. (o.0, omega (arith, o.1), old o.0 o.1 ∙ o.2))) (cases_eq y v);
      once = λ i j hi hj e. ⊎_elim
          (λ (p : i ≡ len). ⊎_elim
          (λ (q : j ≡ len). p ∙ sym q)
          (λ q. absurd (apart j (new j hj q) (sym (others j q) ∙ sym e ∙ ap queue' p ∙ put))) (cases_eq j len))
          (λ p. ⊎_elim
          (λ (q : j ≡ len). absurd (apart i (new i hi p) (sym (others i p) ∙ e ∙ ap queue' q ∙ put)))
          (λ q. b.once i j (new i hi p) (new j hj q) (sym (others i p) ∙ e ∙ others j q)) (cases_eq j len)) (cases_eq i len);
      count = omega (arith, b.count, tally_more is_waiting mark mark' v size lt (ap is_waiting was) (ap is_waiting is) same);
      small = b.small;
      room = omega (arith, b.count, tally_room is_waiting mark v size lt (ap is_waiting was));
    }

-- what waits at i is settled, and the last comes in its place
pub one_less : (size : ℕ) (mark mark' : ℕ → Mark) (queue queue' : ℕ → ℕ) (len i : ℕ) → Once size mark queue len → i < len →
    mark' (queue i) ≡ Settled → ((y : ℕ) → y ≢ queue i → mark' y ≡ mark y) → queue' i ≡ queue (len - 1) → ((j : ℕ) → j ≢ i → queue' j ≡ queue j) → Once size mark' queue' (len - 1)
one_less size mark mark' queue queue' len i b lt is same put others =
    let other : (j : ℕ) → j < len → j ≢ i → queue j ≢ queue i = λ j h d e. d (b.once j i h lt e) in
    let end : len - 1 < len = omega arith in
    record {
      inside = λ j h. ⊎_elim
          (λ (e : j ≡ i). let o = b.inside (len - 1) end in let q = ap queue' e ∙ put in
          (omega (arith, q, o.0), ap mark' q ∙ same (queue (len - 1)) (other (len - 1) end (omega arith)) ∙ o.1))
          (λ d. let o = b.inside j (omega arith) in (omega (arith, others j d, o.0), ap mark' (others j d) ∙ same (queue j) (other j (omega arith) d) ∙ o.1)) (cases_eq j i);
      all = λ y hy e.
          let ne : y ≢ queue i = λ q. cc (ap mark' q) in
          ∥∥₁_map (b.all y hy (sym (same y ne) ∙ e)) (λ o.
          let ni : o.0 ≢ i = λ q. ne (sym o.2 ∙ ap queue q) in
          ⊎_elim (λ (q : o.0 ≡ len - 1). (i, omega (arith, q, ni), put ∙ ap queue (sym q) ∙ o.2))
          (λ d. (o.0, omega (arith, o.1, d), others o.0 ni ∙ o.2)) (cases_eq o.0 (len - 1)));
      once = λ x y hx hy e. ⊎_elim
          (λ (p : x ≡ i). ⊎_elim
          (λ (q : y ≡ i). p ∙ sym q)
          (λ q. absurd (omega (arith, hy, b.once (len - 1) y end (omega arith) (sym put ∙ ap queue' (sym p) ∙ e ∙ others y q)))) (cases_eq y i))
          (λ p. ⊎_elim
          (λ (q : y ≡ i). absurd (omega (arith, hx, b.once x (len - 1) (omega arith) end (sym (others x p) ∙ e ∙ ap queue' q ∙ put))))
          (λ q. b.once x y (omega arith) (omega arith) (sym (others x p) ∙ e ∙ others y q)) (cases_eq y i)) (cases_eq x i);
      count = let o = b.inside i lt in omega (arith, b.count, lt, tally_more is_waiting mark' mark (queue i) size o.0 (ap is_waiting is) (ap is_waiting o.1) (λ y ne. sym (same y ne)));
      small = b.small;
      room = omega (arith, b.room);
    }
