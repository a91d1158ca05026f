-- The best so far, by one more.
use Rattle.std.proofs.Common.{◌≡◌, ℕ, ◌+◌, ◌<◌, true, cond, below_more}
use Rattle.std.proofs.lemmas.Bool.{cond_both}
use Rattle.charge.specs.Scales.{Scale, Ordered}
use Rattle.charge.proofs.Laws.{leq_refl}

module _ {C : Type 0} (s : Scale C) (order : Ordered s) where
  pub best_more : (label : ℕ → C) (b j : ℕ) → ((i : ℕ) → i < j → s.leq (label b) (label i) ≡ true) →
      (i : ℕ) → i < j + 1 → s.leq (label (cond (s.leq (label b) (label j)) b j)) (label i) ≡ true
  best_more label b j all = cond_both (s.leq (label b) (label j)) b j (λ z. (i : ℕ) → i < j + 1 → s.leq (label z) (label i) ≡ true)
      (λ e. below_more (λ i. s.leq (label b) (label i) ≡ true) j all e)
      (λ e. below_more (λ i. s.leq (label j) (label i) ≡ true) j (λ i h. order.transitive _ _ _ (order.comparable _ _ e) (all i h)) (leq_refl order (label j)))
