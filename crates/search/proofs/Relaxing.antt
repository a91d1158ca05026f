-- What holds as an arc of the place that was settled last is dealt with.
use Rattle.std.proofs.Common.{◌≡◌, ℕ, zero, suc, ◌<◌, true, ◌≢◌, ◌⊎◌, List, ◌∷◌, sym, refl, ap, ◌∙◌, subst, inl, inr, ⊎_elim, arith}
use Rattle.std.proofs.lemmas.Bool.{cases_eq, both_ways}
use Rattle.charge.specs.Scales.{Scale}
use Rattle.walks.specs.declared.arcs.Arc.{Arc}
use Rattle.walks.specs.Digraphs.{Digraph, In, Sound}
use Rattle.search.specs.Progress.{State, Leads, Recorded, Core, Fine, Inner, Relabelled, Relaxed}
use Rattle.search.specs.declared.frontier.lists.Mark.TheVariants.{Unseen, Waiting, Settled}
use Rattle.search.specs.Marks.{is_settled, tally}
use Rattle.charge.proofs.Laws.{Lawful, leq_refl, neutral_least}
use Rattle.search.proofs.Tallies.{tally_same, seen_settled, seen_waiting}

-- an arc settles none
pub count_kept : {C : Type 0} (s : Scale C) (st st' : State C) (r : Arc) (x : C) → Relaxed s st st' r x → (n : ℕ) → tally is_settled st'.mark n ≡ tally is_settled st.mark n
count_kept s st st' r x (inl p) n = ap (λ z. tally is_settled z.mark n) p.same
count_kept s st st' r x (inr m) n = tally_same is_settled st.mark st'.mark n (λ y h. ⊎_elim
    (λ (q : y ≡ r.head). ap (λ z. is_settled (st'.mark z)) q ∙ ap is_settled m.mark ∙ seen_settled (st.mark r.head) ∙ ap (λ z. is_settled (st.mark z)) (sym q))
    (λ d. ap is_settled (m.others y d).0) (cases_eq y r.head))

module _ {C : Type 0} (s : Scale C) (laws : Lawful s) (g : Digraph C) (sound : Sound g) where
  -- a fine arc is dealt with as it is
  passed : (start count : ℕ) (st : State C) (u : ℕ) (r : Arc) (rest : List Arc) → Inner s g start count st u (r ∷ rest) → Fine s g st u r → Inner s g start count st u rest
  passed start count st u r rest n fine = record {
    core = n.core;
    within = n.within;
    last = n.last;
    top = n.top;
    closed = n.closed;
    partly = λ q i. ⊎_elim
        (λ (here : (q ≡ r) ⊎ In q rest). ⊎_elim (λ (e : q ≡ r). inr (subst (λ y. Fine s g st u y) (sym e) fine)) (λ more. inl more) here)
        (λ done. inr done) (n.partly q i);
    onward = λ q i. n.onward q (inr i);
  }

  -- the records of settled places, and the way that they lead back, stay
  leads_kept : (start count : ℕ) (st : State C) (into' : ℕ → Arc) → Core s g start count st → ((y : ℕ) → y < g.places → st.mark y ≡ Settled → into' y ≡ st.into y) →
      (k v : ℕ) → v < g.places → st.mark v ≢ Unseen → into' v ≡ st.into v → Leads st.into start k v → Leads into' start k v
  leads_kept start count st into' c kept zero v h seen same l = l
  leads_kept start count st into' c kept (suc k) v h seen same l =
      let r = c.recorded v h seen l.0 in (
        l.0,
        subst (λ a. Leads into' start k a.tail) (sym same)
            (leads_kept start count st into' c kept k (st.into v).tail r.within (λ z. cc (r.from)) (kept _ r.within r.from) l.1),
      )

  recorded_by : (st : State C) (y u : ℕ) (a : Arc) → st.into y ≡ a → a.tail ≡ u → u < g.places → st.mark u ≡ Settled → In a (g.leaving u) → a.head ≡ y →
      st.label y ≡ s.joined (st.label u) (g.charge a) → Recorded s g st y
  recorded_by st y u a e t within from arc ends total =
      let tail : (st.into y).tail ≡ u = ap (λ z. z.tail) e ∙ t in
      record {
        within = subst (λ z. z < g.places) (sym tail) within;
        from = ap st.mark tail ∙ from;
        arc = subst (λ z. In z (g.leaving z.tail)) (sym e) (subst (λ z. In a (g.leaving z)) (sym t) arc);
        ends = ap (λ z. z.head) e ∙ ends;
        total = total ∙ ap (λ z. s.joined (st.label z) (g.charge a)) (sym tail) ∙ ap (λ z. s.joined (st.label (st.into y).tail) (g.charge z)) (sym e);
      }

  relabelled : (start count : ℕ) (st st' : State C) (u : ℕ) (r : Arc) (rest : List Arc) → Inner s g start count st u (r ∷ rest) →
      Relabelled s st st' r (s.joined (st.label u) (g.charge r)) → Inner s g start count st' u rest
  relabelled start count st st' u r rest n m =
      let c = n.core in
      let v : ℕ = r.head in
      let x : C = s.joined (st.label u) (g.charge r) in
      let leaves : In r (g.leaving u) = n.onward r (inl refl) in
      let tail : r.tail ≡ u = sound.tails u r leaves in
      let hv : v < g.places = sound.heads u r leaves in
      let up : s.leq (st.label u) x ≡ true = laws.growing.first (st.label u) (g.charge r) in
      let not-2 : st.mark v ≢ Settled = λ e. both_ways _ (m.better (λ z. cc)) (laws.order.transitive _ _ _ (n.top v hv e) up) in
      let not_start : v ≢ start = λ e.
      let no = m.better (λ z. c.seen (ap st.mark (sym e) ∙ z)) in
      both_ways _ no (subst (λ a. s.leq a x ≡ true) (sym (ap st.label e ∙ c.neutral)) (neutral_least laws x)) in
      let one : st'.mark v ≡ Waiting = m.mark ∙ seen_waiting (st.mark v) not-2 in
      let grown : (y : ℕ) → st.mark y ≢ Unseen → st'.mark y ≢ Unseen = λ y ne z. ⊎_elim (λ (q : y ≡ v). cc (ap st'.mark q)) (λ d. ne (sym (m.others y d).0 ∙ z)) (cases_eq y v) in
      let falls : (y : ℕ) → st.mark y ≢ Unseen → s.leq (st'.label y) (st.label y) ≡ true = λ y ne. ⊎_elim
      (λ (q : y ≡ v). subst (λ z. s.leq (st'.label z) (st.label z) ≡ true) (sym q) (subst (λ a. s.leq a (st.label v) ≡ true) (sym m.label)
      (laws.order.comparable _ _ (m.better (λ z. ne (ap st.mark q ∙ z))))))
      (λ d. subst (λ a. s.leq a (st.label y) ≡ true) (sym (m.others y d).1) (leq_refl laws.order (st.label y))) (cases_eq y v) in
      let was-2 : (y : ℕ) → st'.mark y ≡ Settled → (st.mark y ≡ Settled) × (y ≢ v) = λ y e. ⊎_elim
      (λ (q : y ≡ v). absurd (cc (ap st'.mark q))) (λ d. (sym (m.others y d).0 ∙ e, d)) (cases_eq y v) in
      let apart : (y : ℕ) → st.mark y ≡ Settled → y ≢ v = λ y e q. not-2 (ap st.mark (sym q) ∙ e) in
      let same-u : st'.label u ≡ st.label u = (m.others u (apart u n.last)).1 in
      let last' : st'.mark u ≡ Settled = (m.others u (apart u n.last)).0 ∙ n.last in
      let kept : (y : ℕ) → y < g.places → st.mark y ≡ Settled → st'.into y ≡ st.into y = λ y h e. (m.others y (apart y e)).2 in
      let keeps : (y : ℕ) (q : Arc) → st.mark y ≡ Settled → Fine s g st y q → Fine s g st' y q = λ y q e fine. (
        grown q.head fine.0,
        subst (λ b. s.leq (st'.label q.head) (s.joined b (g.charge q)) ≡ true) (sym (m.others y (apart y e)).1)
            (laws.order.transitive _ _ _ (falls q.head fine.0) fine.1),
      ) in
      record {
        core = record {
          within = c.within;
          seen = grown start c.seen;
          neutral = (m.others start (λ e. not_start (sym e))).1 ∙ c.neutral;
          waiting = λ y h e. ⊎_elim
              (λ (q : y ≡ v). let l = c.settled u n.within n.last in (
                suc l.0,
                omega (arith, l.1),
                subst (λ z. Leads st'.into start (suc l.0) z) (sym q) (
                  not_start,
                  subst (λ z. Leads st'.into start l.0 z) (sym (ap (λ a. a.tail) m.into ∙ tail))
                      (leads_kept start count st st'.into c kept l.0 u n.within (λ z. cc (n.last)) (kept u n.within n.last) l.2),
                ),
              ))
              (λ d. let was : st.mark y ≡ Waiting = sym (m.others y d).0 ∙ e in let l = c.waiting y h was in
              (l.0, l.1, leads_kept start count st st'.into c kept l.0 y h (λ z. cc) (m.others y d).2 l.2)) (cases_eq y v);
          settled = λ y h e. let was = was-2 y e in let l = c.settled y h was.0 in
              (l.0, l.1, leads_kept start count st st'.into c kept l.0 y h (λ z. cc (was.0)) (m.others y was.1).2 l.2);
          recorded = λ y h e ne. ⊎_elim
              (λ (q : y ≡ v). subst (λ z. Recorded s g st' z) (sym q)
              (recorded_by st' v u r m.into tail n.within last' leaves refl (m.label ∙ ap (λ a. s.joined a (g.charge r)) (sym same-u))))
              (λ d. let a = c.recorded y h (λ z. e ((m.others y d).0 ∙ z)) ne in let from = m.others (st.into y).tail (apart _ a.from) in
              recorded_by st' y (st.into y).tail (st.into y) (m.others y d).2 refl a.within (from.0 ∙ a.from) a.arc a.ends
              ((m.others y d).1 ∙ a.total ∙ ap (λ b. s.joined b (g.charge (st.into y))) (sym from.1))) (cases_eq y v);
          ordered = λ y z hy hz ey ez. let was = was-2 y ey in subst (λ a. s.leq a (st'.label z) ≡ true) (sym (m.others y was.1).1) (⊎_elim
              (λ (q : z ≡ v). subst (λ a. s.leq (st.label y) a ≡ true) (sym (ap st'.label q ∙ m.label)) (laws.order.transitive _ _ _ (n.top y hy was.0) up))
              (λ d. subst (λ a. s.leq (st.label y) a ≡ true) (sym (m.others z d).1) (c.ordered y z hy hz was.0 (sym (m.others z d).0 ∙ ez))) (cases_eq z v));
        };
        within = n.within;
        last = last';
        top = λ y h e. let was = was-2 y e in subst (λ a. s.leq a (st'.label u) ≡ true) (sym (m.others y was.1).1) (subst (λ a. s.leq (st.label y) a ≡ true) (sym same-u) (n.top y h was.0));
        closed = λ y h e ne q i. let was = was-2 y e in keeps y q was.0 (n.closed y h was.0 ne q i);
        partly = λ q i. ⊎_elim
            (λ (here : (q ≡ r) ⊎ In q rest). ⊎_elim
            (λ (e : q ≡ r). inr (subst (λ a. Fine s g st' u a) (sym e)
            (λ z. cc, subst (λ b. s.leq (st'.label v) (s.joined b (g.charge r)) ≡ true) (sym same-u) (subst (λ a. s.leq a x ≡ true) (sym m.label) (leq_refl laws.order x)))))
            (λ more. inl more) here)
            (λ fine. inr (keeps u q n.last fine)) (n.partly q i);
        onward = λ q i. n.onward q (inr i);
      }

  -- an arc of u is dealt with
  pub relaxed : (start count : ℕ) (st st' : State C) (u : ℕ) (r : Arc) (rest : List Arc) → Inner s g start count st u (r ∷ rest) →
      Relaxed s st st' r (s.joined (st.label u) (g.charge r)) → Inner s g start count st' u rest
  relaxed start count st st' u r rest n (inl p) = subst (λ z. Inner s g start count z u rest) (sym p.same) (passed start count st u r rest n (p.seen, p.fine))
  relaxed start count st st' u r rest n (inr m) = relabelled start count st st' u r rest n m
