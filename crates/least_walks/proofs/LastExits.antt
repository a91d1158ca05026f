-- Following the last exits of a walk cuts its loops.
use Rattle.std.proofs.Common.{◌≡◌, ℕ, zero, suc, ◌<◌, ◌≤◌, true, false, cond, eqb, List, [], ◌∷◌, length, Some, None, Option, sym, refl, ◌∙◌, subst, arith}
use Rattle.std.proofs.lemmas.Bool.{cond_both, eqb-true, eqb-false, eq-eqb, ne_eqb}
use Rattle.roads.specs.RoadLists.{has, distinct}
use Rattle.walks.specs.declared.arcs.Arc.{Arc}
use Rattle.walks.specs.Digraphs.{Digraph, In, Sound, Walk, visits}
use Rattle.walks.specs.Cutting.{last_exit, follow, Sub, done, skip, keep}

sub_none : {X : Type 0} (xs : List X) → Sub [] xs
sub_none [] = done
sub_none (x ∷ xs) = skip (sub_none xs)

-- where the second has an exit, the first has the same
abbrev pub Keeps : (ℕ → Option Arc) → (ℕ → Option Arc) → Type 0
Keeps exit other = (u : ℕ) (r : Arc) → other u ≡ Some r → exit u ≡ Some r

keeps_none : (o p : Option Arc) → ((r : Arc) → p ≡ Some r → o ≡ Some r) → o ≡ None → p ≡ None
keeps_none o None h e = refl
keeps_none o (Some r) h e = let k = h r refl in cc

-- r leaves u last in w, and what comes after it leads on to b
pub record Leaves {C : Type 0} (g : Digraph C) (b : ℕ) (w : List Arc) (u : ℕ) (r : Arc) : Type 0 where
  pub rest : List Arc
  pub from : In r (g.leaving u)
  pub onward : Walk g r.head rest b
  pub shorter : length rest < length w
  pub part : (v : List Arc) → Sub v rest → Sub (r ∷ v) w
  pub last : last_exit rest u ≡ None
  pub later : Keeps (last_exit w) (last_exit rest)

-- f leads from v to b by some of the arcs of w, comes to no place twice, and but for b only to places that w leaves
pub record Simple {C : Type 0} (g : Digraph C) (b v : ℕ) (w f : List Arc) : Type 0 where
  pub walk : Walk g v f b
  pub part : Sub f w
  pub once : distinct (visits v f) ≡ true
  pub inside : (x : ℕ) → (x ≡ b → ⊥) → last_exit w x ≡ None → has x (visits v f) ≡ false

abbrev LeavesBy : {C : Type 0} → Digraph C → ℕ → List Arc → ℕ → Option Arc → Type 0
LeavesBy g b w u None = Unit {0}
LeavesBy g b w u (Some r) = Leaves g b w u r

module _ {C : Type 0} {g : Digraph C} (sound : Sound g) (b : ℕ) where
  -- one arc before w
  one_more : (a : ℕ) (q : Arc) (w : List Arc) → In q (g.leaving a) → Walk g q.head w b
      → (u : ℕ) (o : Option Arc) → last_exit w u ≡ o → LeavesBy g b w u o
      → LeavesBy g b (q ∷ w) u (elim o [ None ↦ cond (eqb q.tail u) (Some q) None | Some r ↦ Some r ])
  one_more a q w i k u None e h =
      cond_both (eqb q.tail u) (Some q) None (LeavesBy g b (q ∷ w) u)
      (λ t. record {
        rest = w;
        from = subst (λ x. In q (g.leaving x)) (sym (sound.tails a q i) ∙ eqb-true _ _ t) i;
        onward = k;
        shorter = omega arith;
        part = λ v p. keep p;
        last = e;
        later = λ x r e. rw e;
      })
      (λ _. tt)
  one_more a q w i k u (Some r) e h = record {
    rest = h.rest;
    from = h.from;
    onward = h.onward;
    shorter = omega arith;
    part = λ v p. skip (h.part v p);
    last = h.last;
    later = λ x r e. rw (h.later x r e);
  }

  leaves_by : (a : ℕ) (w : List Arc) → Walk g a w b → (u : ℕ) → LeavesBy g b w u (last_exit w u)
  leaves_by a [] k u = tt
  leaves_by a (q ∷ w) (i, k) u = one_more a q w i k u (last_exit w u) refl (leaves_by q.head w k u)

  -- a walk that is not yet at the end leaves where it is
  starts : (a : ℕ) (w : List Arc) → Walk g a w b → (a ≡ b → ⊥) → (r : Arc) × (last_exit w a ≡ Some r)
  starts a [] k n = absurd (n k)
  starts a (q ∷ w) (i, k) n = by (last_exit w a) refl where
    by : (o : Option Arc) → last_exit w a ≡ o → (r : Arc) × (last_exit (q ∷ w) a ≡ Some r)
    by None e = (q, rw (e, eq-eqb _ _ (sound.tails a q i)))
    by (Some r) e = (r, rw e)

  stays : (a : ℕ) (w : List Arc) → a ≡ b → Simple g b a w []
  stays a w e = record {
    walk = e;
    part = sub_none w;
    once = refl;
    inside = λ x m _. rw (ne_eqb x a (λ same. m (same ∙ e)));
  }

  -- the last exit from a, and then f from there
  goes : (a : ℕ) (w : List Arc) (r : Arc) → (a ≡ b → ⊥) → last_exit w a ≡ Some r → (l : Leaves g b w a r)
      → (f : List Arc) → Simple g b r.head l.rest f → Simple g b a w (r ∷ f)
  goes a w r n e l f h = record {
    walk = (l.from, h.walk);
    part = l.part f h.part;
    once = rw (h.inside a n l.last) h.once;
    inside = λ x m none.
        let apart : x ≡ a → ⊥ = λ same. let z : ◌≡◌ {A = ℕ} 0 1 = cc in omega arith in
        rw (ne_eqb x a apart) (h.inside x m (keeps_none _ _ (l.later x) none));
  }

  -- from the start of w to its end, by the last exits of w or of a list that ends in w
  pub followed : (exit : ℕ → Option Arc) (n a : ℕ) (w : List Arc) → Walk g a w b → length w ≤ n → Keeps exit (last_exit w)
      → Simple g b a w (follow exit b n a)
  followed exit zero a [] k short keeps = stays a [] k
  followed exit zero a (q ∷ w) k short keeps = absurd (omega arith)
  followed exit (suc n) a w k short keeps =
      cond_both (eqb a b) [] (elim (exit a) [ None ↦ [] | Some r ↦ r ∷ follow exit b n r.head ]) (Simple g b a w)
      (λ t. stays a w (eqb-true a b t))
      (λ t.
      let start = starts a w k (eqb-false a b t) in
      let l = subst (LeavesBy g b w a) start.1 (leaves_by a w k a) in
      let rest = followed exit n start.0.head l.rest l.onward (omega arith) (λ x r e. keeps x r (l.later x r e)) in
      rw (keeps a start.0 start.1) (goes a w start.0 (eqb-false a b t) start.1 l _ rest))
