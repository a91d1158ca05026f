-- No walk is cheaper than the labels say.
use Rattle.std.proofs.Common.{◌≡◌, ℕ, ◌<◌, ◌≤◌, true, cond, ◌≢◌, ◌⊎◌, List, [], ◌∷◌, get_or, Some, None, sym, ap, subst, inl, inr, ⊎_elim, arith}
use Rattle.std.proofs.lemmas.Bool.{cases_eq}
use Rattle.charge.specs.Scales.{Scale}
use Rattle.walks.specs.declared.arcs.Arc.{Arc}
use Rattle.walks.specs.Digraphs.{Digraph, In, Sound, Walk, cost}
use Rattle.walks.specs.Least.{Least}
use Rattle.search.specs.declared.frontier.Frontier.{Frontier}
use Rattle.search.specs.declared.frontier.lists.Mark.TheVariants.{Unseen, Waiting, Settled}
use Rattle.search.specs.Marks.{is_settled}
use Rattle.search.specs.Found.{mark_of, back, Answered}
use Rattle.search.specs.Progress.{State, state, Core, Outer, Inner}
use Rattle.charge.proofs.Laws.{Lawful, neutral_least}
use Rattle.search.proofs.Tallies.{settled_or, settled_true, not_settled, then_waiting, then_settled}
use Rattle.search.proofs.Traces.{traced}

-- v is settled with a label not dearer than x, or x is far out
abbrev At : {C : Type 0} → Scale C → Digraph C → State C → (C → Type 0) → ℕ → C → Type 0
At s g st Far v x = ((v < g.places) × (st.mark v ≡ Settled) × (s.leq (st.label v) x ≡ true)) ⊎ Far x

-- an arc of a settled place leads to a settled one, or far out
abbrev Steps : {C : Type 0} → Scale C → Digraph C → State C → (C → Type 0) → Type 0
Steps s g st Far = (v : ℕ) → v < g.places → st.mark v ≡ Settled → (r : Arc) → In r (g.leaving v) → At s g st Far r.head (s.joined (st.label v) (g.charge r))

module _ {C : Type 0} (s : Scale C) (laws : Lawful s) (g : Digraph C) (st : State C) (Far : C → Type 0)
    (up : (a b : C) → Far a → s.leq a b ≡ true → Far b) (steps : Steps s g st Far) where
  next : (v : ℕ) (x : C) (r : Arc) → In r (g.leaving v) → At s g st Far v x → At s g st Far r.head (s.joined x (g.charge r))
  next v x r i (inl a) =
      let more = laws.monotone.after (st.label v) x (g.charge r) a.2 in
      ⊎_elim (λ (b : (r.head < g.places) × (st.mark r.head ≡ Settled) × (s.leq (st.label r.head) (s.joined (st.label v) (g.charge r)) ≡ true)).
      inl (b.0, b.1, laws.order.transitive _ _ _ b.2 more))
      (λ far. inr (up _ _ far more)) (steps v a.0 a.1 r i)
  next v x r i (inr far) = inr (up _ _ far (laws.growing.first x (g.charge r)))

  along : (v : ℕ) (x : C) (w : List Arc) (y : ℕ) → At s g st Far v x → Walk g v w y → At s g st Far y (s.joined x (cost s g w))
  along v x [] y a e = subst (λ z. At s g st Far z (s.joined x s.neutral)) e (subst (λ c. At s g st Far v c) (sym (laws.unit.right x)) a)
  along v x (r ∷ w) y a e = subst (λ c. At s g st Far y c) (laws.associative.regroup x (g.charge r) (cost s g w))
      (along r.head (s.joined x (g.charge r)) w y (next v x r e.0 a) e.1)

  from_start : (start : ℕ) (w : List Arc) (y : ℕ) → At s g st Far start s.neutral → Walk g start w y → At s g st Far y (cost s g w)
  from_start start w y a e = subst (λ c. At s g st Far y c) (laws.unit.left (cost s g w)) (along start s.neutral w y a e)

module _ {C : Type 0} (s : Scale C) (laws : Lawful s) (g : Digraph C) (sound : Sound g) where
  -- while u is the last settled: what waits, and what comes after u, is not cheaper than u
  none_cheaper : (start count : ℕ) (st : State C) (u : ℕ) (left : List Arc) → Inner s g start count st u left → (w : List Arc) → Walk g start w u → s.leq (st.label u) (cost s g w) ≡ true
  none_cheaper start count st u left n w walk =
      let Far : C → Type 0 = λ x. s.leq (st.label u) x ≡ true in
      let far : (v : ℕ) (x : C) → v < g.places → st.mark v ≢ Unseen → s.leq (st.label v) x ≡ true → At s g st Far v x = λ v x h seen le. ⊎_elim
      (λ (e : st.mark v ≡ Settled). inl (h, e, le))
      (λ ne. inr (laws.order.transitive _ _ _ (n.core.ordered u v n.within h n.last (then_waiting (st.mark v) seen ne)) le))
      (settled_or (st.mark v)) in
      let steps : Steps s g st Far = λ v h e r i. ⊎_elim
      (λ (q : v ≡ u). inr (subst (λ y. s.leq (st.label u) (s.joined (st.label y) (g.charge r)) ≡ true) (sym q) (laws.growing.first (st.label u) (g.charge r))))
      (λ ne. let fine = n.closed v h e ne r i in far r.head _ (sound.heads v r i) fine.0 fine.1) (cases_eq v u) in
      let begins = far start s.neutral n.core.within n.core.seen (subst (λ x. s.leq x s.neutral ≡ true) (sym n.core.neutral) (neutral_least laws s.neutral)) in
      ⊎_elim (λ (a : (u < g.places) × (st.mark u ≡ Settled) × (s.leq (st.label u) (cost s g w) ≡ true)). a.2) (λ a. a)
      (from_start s laws g st Far (λ a b le le'. laws.order.transitive _ _ _ le le') steps start w u begins walk)

  -- where none waits, every walk leads to a settled place that is not dearer
  all_reached : (start count : ℕ) (st : State C) → Outer s g start count st → ((v : ℕ) → v < g.places → st.mark v ≢ Waiting) →
      (w : List Arc) (v : ℕ) → Walk g start w v → (st.mark v ≡ Settled) × (s.leq (st.label v) (cost s g w) ≡ true)
  all_reached start count st o none w v walk =
      let Far : C → Type 0 = λ x. ⊥ in
      let two : (y : ℕ) → y < g.places → st.mark y ≢ Unseen → st.mark y ≡ Settled = λ y h ne. then_settled (st.mark y) ne (none y h) in
      let steps : Steps s g st Far = λ y h e r i. let fine = o.closed y h e r i in let hr = sound.heads y r i in inl (hr, two r.head hr fine.0, fine.1) in
      let begins : At s g st Far start s.neutral = inl (o.core.within, two start o.core.within o.core.seen, subst (λ x. s.leq x s.neutral ≡ true) (sym o.core.neutral) (neutral_least laws s.neutral)) in
      ⊎_elim (λ (a : (v < g.places) × (st.mark v ≡ Settled) × (s.leq (st.label v) (cost s g w) ≡ true)). (a.1, a.2)) (λ no. absurd no)
      (from_start s laws g st Far (λ a b no le. no) steps start w v begins walk)

  settled_answer : (start count : ℕ) (f : Frontier) (labels : List C) (v : ℕ) → Core s g start count (state s.neutral f labels) → count ≤ g.places → v < g.places → mark_of f v ≡ Settled →
      ((w : List Arc) → Walk g start w v → s.leq (get_or labels v s.neutral) (cost s g w) ≡ true) → Answered s g start f labels v
  settled_answer start count f labels v c few h e none =
      let k = c.settled v h e in
      let t = traced s laws g start count f labels c g.places k.0 v (omega (arith, k.1, few)) h (λ z. cc) k.2 in
      record {
        least = subst (λ b. Least s g start v (cond b (Some (get_or labels v s.neutral)) None)) (sym (ap is_settled e)) ((back f start g.places v, t.walk, t.total), none);
        traced = λ _. (t.walk, t.total, omega (arith, t.arcs, k.1, few));
      }

  unsettled_answer : (start : ℕ) (f : Frontier) (labels : List C) (v : ℕ) → mark_of f v ≢ Settled → ((w : List Arc) → Walk g start w v → ⊥) → Answered s g start f labels v
  unsettled_answer start f labels v ne none = record {
    least = subst (λ b. Least s g start v (cond b (Some (get_or labels v s.neutral)) None)) (sym (not_settled (mark_of f v) ne)) none;
    traced = λ e. absurd (ne (settled_true (mark_of f v) e));
  }

  -- the place that was settled last
  pub goal_answer : (start count : ℕ) (f : Frontier) (labels : List C) (u : ℕ) (left : List Arc) → Inner s g start count (state s.neutral f labels) u left → count ≤ g.places → Answered s g start f labels u
  goal_answer start count f labels u left n few =
      settled_answer start count f labels u n.core few n.within n.last (none_cheaper start count (state s.neutral f labels) u left n)

  -- where none waits, every place
  pub all_answers : (start count : ℕ) (f : Frontier) (labels : List C) → Outer s g start count (state s.neutral f labels) → count ≤ g.places →
      ((v : ℕ) → v < g.places → mark_of f v ≢ Waiting) → (v : ℕ) → v < g.places → Answered s g start f labels v
  all_answers start count f labels o few none v h =
      let all = all_reached start count (state s.neutral f labels) o none in
      ⊎_elim (λ (e : mark_of f v ≡ Settled). settled_answer start count f labels v o.core few h e (λ w walk. (all w v walk).1))
      (λ ne. unsettled_answer start f labels v ne (λ w walk. ne (all w v walk).0)) (settled_or (mark_of f v))
