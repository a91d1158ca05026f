-- What holds as a place is settled, and as its arcs are done.
use Rattle.std.proofs.Common.{◌≡◌, ℕ, ◌+◌, true, ◌≢◌, ◌⊎◌, [], sym, ap, ◌∙◌, subst, inl, inr, ⊎_elim, arith}
use Rattle.std.proofs.lemmas.Bool.{cases_eq}
use Rattle.charge.specs.Scales.{Scale, Ordered}
use Rattle.walks.specs.Digraphs.{Digraph, In}
use Rattle.search.specs.declared.frontier.lists.Mark.{Mark}
use Rattle.search.specs.declared.frontier.lists.Mark.TheVariants.{Unseen, Waiting, Settled}
use Rattle.search.specs.Progress.{State, Fine, Outer, Inner, First}
use Rattle.charge.proofs.Laws.{leq_refl}

module _ {C : Type 0} (s : Scale C) (g : Digraph C) where
  -- a waiting place with the least label is settled
  pub settle : Ordered s → (start count : ℕ) (st : State C) (mark' : ℕ → Mark) (u : ℕ) → Outer s g start count st → First s g.places st u →
      mark' u ≡ Settled → ((y : ℕ) → y ≢ u → mark' y ≡ st.mark y) → Inner s g start (count + 1) (record { mark = mark'; label = st.label; into = st.into }) u (g.leaving u)
  settle order start count st mark' u o f here others =
      let c = o.core in
      let grown : (v : ℕ) → st.mark v ≢ Unseen → mark' v ≢ Unseen = λ v ne z. ⊎_elim (λ (q : v ≡ u). cc (ap mark' q)) (λ d. ne (sym (others v d) ∙ z)) (cases_eq v u) in
      let was-1 : (v : ℕ) → mark' v ≡ Waiting → st.mark v ≡ Waiting = λ v e. ⊎_elim (λ (q : v ≡ u). absurd (cc (ap mark' q))) (λ d. sym (others v d) ∙ e) (cases_eq v u) in
      let was-2 : (v : ℕ) → mark' v ≡ Settled → (v ≡ u) ⊎ (st.mark v ≡ Settled) = λ v e. ⊎_elim (λ (q : v ≡ u). inl q) (λ d. inr (sym (others v d) ∙ e)) (cases_eq v u) in
      let is-2 : (v : ℕ) → st.mark v ≡ Settled → mark' v ≡ Settled = λ v e. ⊎_elim (λ (q : v ≡ u). ap mark' q ∙ here) (λ d. others v d ∙ e) (cases_eq v u) in
      let was-seen : (v : ℕ) → mark' v ≢ Unseen → st.mark v ≢ Unseen = λ v e z. ⊎_elim (λ (q : v ≡ u). cc (ap st.mark q, f.waiting)) (λ d. e (others v d ∙ z)) (cases_eq v u) in
      record {
        core = record {
          within = c.within;
          seen = grown start c.seen;
          neutral = c.neutral;
          waiting = λ v h e. let r = c.waiting v h (was-1 v e) in (r.0, omega (arith, r.1), r.2);
          settled = λ v h e. ⊎_elim
              (λ (q : v ≡ u). let r = c.waiting v h (ap st.mark q ∙ f.waiting) in (r.0, omega (arith, r.1), r.2))
              (λ e2. let r = c.settled v h e2 in (r.0, omega (arith, r.1), r.2)) (was-2 v e);
          recorded = λ v h e ne. let r = c.recorded v h (was-seen v e) ne in
              record { within = r.within; from = is-2 _ r.from; arc = r.arc; ends = r.ends; total = r.total };
          ordered = λ x v hx hv ex ev. ⊎_elim
              (λ (q : x ≡ u). subst (λ y. s.leq (st.label y) (st.label v) ≡ true) (sym q) (f.least v hv (was-1 v ev)))
              (λ e2. c.ordered x v hx hv e2 (was-1 v ev)) (was-2 x ex);
        };
        within = f.within;
        last = here;
        top = λ v h e. ⊎_elim
            (λ (q : v ≡ u). subst (λ y. s.leq (st.label y) (st.label u) ≡ true) (sym q) (leq_refl order (st.label u)))
            (λ e2. c.ordered v u h f.within e2 f.waiting) (was-2 v e);
        closed = λ v h e ne r i. ⊎_elim (λ (q : v ≡ u). absurd (ne q))
            (λ e2. let a = o.closed v h e2 r i in (grown r.head a.0, a.1)) (was-2 v e);
        partly = λ r i. inl i;
        onward = λ r i. i;
      }

  -- no arc of u is left
  pub turned : (start count : ℕ) (st : State C) (u : ℕ) → Inner s g start count st u [] → Outer s g start count st
  turned start count st u n = record {
    core = n.core;
    closed = λ v h e r i. ⊎_elim
        (λ (q : v ≡ u). subst (λ y. Fine s g st y r) (sym q) (⊎_elim (λ no. absurd no) (λ (fine : Fine s g st u r). fine) (n.partly r (subst (λ y. In r (g.leaving y)) q i))))
        (λ ne. n.closed v h e ne r i) (cases_eq v u);
  }
