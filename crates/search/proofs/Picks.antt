-- The best of the numbers of a range, as a reduction by `better of two` comes to it.
use Rattle.std.proofs.Common.{◌≡◌, ℕ, ◌+◌, ◌<◌, ◌≤◌, true, cond, List, [], ◌∷◌, None, Some, Option, MatchOption, sym, refl, ap, ◌∙◌, subst, arith}
use Rattle.std.proofs.iter.Yields.{nat_range_steps}
use Rattle.std.proofs.lemmas.Bool.{cond_both}
use Rattle.std.specs.Iterator.{Yields, Drains, CallableAtEachTurn}
use Rattle.std.specs.List.{FoldsTo}
use Rattle.std.specs.declared.ops.Range.{Range}
use Rattle.charge.specs.Scales.{Scale, Ordered}
use Rattle.charge.proofs.Laws.{leq_refl}
use Rattle.search.proofs.Orders.{best_more}

-- F is what a closure captured, f its value, and a turn answers the better of two
module _ {F C : Type 0} (s : Scale C) (order : Ordered s) (label : ℕ → C) (f : F) (R : F × ℕ → ℕ → F × ℕ → Type 0)
    (turn : (b x : ℕ) (q : F × ℕ) → R (f, b) x q → (q.0 ≡ f) × (q.1 ≡ cond (s.leq (label b) (label x)) b x)) where
  -- p holds the best of the numbers before a range
  record Best (p : F × ℕ) (r : Range ℕ) : Type 0 where
    same : p.0 ≡ f
    before : p.1 < r.start
    inside : r.start ≤ r.end
    least : (j : ℕ) → j < r.start → s.leq (label p.1) (label j) ≡ true

  step : (p q : F × ℕ) (x : ℕ) (r t : Range ℕ) → Best p r → nat_range_steps r (Some x) t → R p x q → Best q t
  step p q x r t b e k =
      let after = turn p.1 x q (subst (λ h. R (h, p.1) x q) b.same k) in
      let at : x ≡ r.start = e.1.1 in
      let next : t.start ≡ x + 1 = omega (arith, e.1.1, e.1.2) in
      record {
        same = after.0;
        before = subst (λ z. z < t.start) (sym after.1) (cond_both (s.leq (label p.1) (label x)) p.1 x (λ z. z < t.start) (λ _. omega (arith, b.before, at, next)) (λ _. omega (arith, next)));
        inside = omega (arith, e.0, e.1.0, e.1.2);
        least = λ j h. subst (λ z. s.leq (label z) (label j) ≡ true) (sym after.1)
            (best_more s order label p.1 x (λ i l. b.least i (omega (arith, l, at))) j (omega (arith, h, next)));
      }

  along : (xs : List ℕ) (p q : F × ℕ) (r t : Range ℕ) → Best p r → Yields nat_range_steps r xs t → FoldsTo R p xs q → Best q t × (t.end ≡ r.end)
  along [] p q r t b y k = (subst (λ z. Best q z) y (subst (λ z. Best z r) k b), ap (λ z. z.end) (sym y))
  along (x ∷ xs) p q r t b y k =
      let rest = along xs k.0 q y.0 t (step p k.0 x r y.0 b y.1 k.1) y.2 k.2 in
      (rest.0, rest.1 ∙ y.1.0)

  first : (n x : ℕ) (t : Range ℕ) → nat_range_steps (record { start = 0; end = n }) (Some x) t → Best (f, x) t × (t.end ≡ n)
  first n x t e = (
    record {
      same = refl;
      before = omega (arith, e.1.1, e.1.2);
      inside = omega (arith, e.0, e.1.0, e.1.2);
      least = λ j h. subst (λ z. s.leq (label x) (label z) ≡ true) (omega (arith, h, e.1.1, e.1.2)) (leq_refl order (label x));
    },
    e.0,
  )

  -- each turn is asked two numbers of the range
  pub turns_within : (Q : F × ℕ → ℕ → Type 0) (n : ℕ) → ((b x : ℕ) → b < n → x < n → Q (f, b) x) →
      (x : ℕ) (t : Range ℕ) → nat_range_steps (record { start = 0; end = n }) (Some x) t → CallableAtEachTurn {P = F × ℕ} nat_range_steps R Q t (f, x)
  turns_within Q n ask x t e =
      let begins = first n x t e in
      record {
        at = λ xs t' q z u y k l.
            let now = along xs (f, x) q t t' begins.0 y k in
            subst (λ h. Q (h, q.1) z) (sym now.0.same)
            (ask q.1 z (omega (arith, now.0.before, now.0.inside, now.1, begins.1)) (omega (arith, l.1.0, l.1.1, now.1, begins.1)));
      }

  -- and the last answer is the best
  pub reduced : (n : ℕ) (r : Option ℕ) (P : ℕ → Type 0) → ((b : ℕ) → b < n → ((j : ℕ) → j < n → s.leq (label b) (label j) ≡ true) → P b) →
      MatchOption r (Drains nat_range_steps (record { start = 0; end = n }) [])
      (λ y. (x : ℕ) × (xs : List ℕ) × (f' : F) × Drains nat_range_steps (record { start = 0; end = n }) (x ∷ xs) × FoldsTo R (f, x) xs (f', y)) →
      MatchOption r (n ≡ 0) P
  reduced n None P holds d = omega (arith, ap (λ z. z.start) d.1.1, ap (λ z. z.end) d.1.1, d.1.2.1.0)
  reduced n (Some y) P holds d =
      let e = d.3 in
      let begins = first n d.0 e.1.1.0 e.1.1.1 in
      let now = along d.1 (f, d.0) (d.2, y) e.1.1.0 e.1.0 begins.0 e.1.1.2 d.4 in
      let end : n ≤ e.1.0.start = omega (arith, e.1.2.1.0, now.1, begins.1) in
      holds y (omega (arith, now.0.before, now.0.inside, now.1, begins.1)) (λ j h. now.0.least j (omega (arith, h, end)))
