-- The first check that fails among many.
use Rattle.std.proofs.Common.{◌≡◌, ℕ, zero, suc, ◌+◌, ◌<◌, Bool, true, false, Some, None, Option, refl, ⊎_elim, add-one, arith}
use Rattle.std.proofs.lemmas.Bool.{cases_eq}
use Rattle.roads.specs.declared.fault.Report.{Report}
use Rattle.roads.specs.declared.fault.Part.{Part}
use Rattle.roads.specs.Faults.{unless, or_else, first_below}

-- a check that passes, and one that fails
pub unless_holds : (b : Bool) (n p : ℕ) (q : Part) → None ≡ unless b n p q → b ≡ true
unless_holds true n p q e = refl
unless_holds false n p q e = let z : ◌≡◌ {A = ℕ} 0 1 = cc in absurd (omega arith)

pub unless_fails : (b : Bool) (n p : ℕ) (q : Part) (x : Report) → Some x ≡ unless b n p q → (b ≡ false) × (x ≡ record { number = n; place = p; part = q })
unless_fails true n p q x e = let z : ◌≡◌ {A = ℕ} 0 1 = cc in absurd (omega arith)
unless_fails false n p q x e = (refl, cc)

-- the first of two checks passes where both do
pub first_holds : (b : Bool) (n p : ℕ) (q : Part) (later : Option Report) → None ≡ or_else (unless b n p q) later → b ≡ true
first_holds true n p q later e = refl
first_holds false n p q later e = let z : ◌≡◌ {A = ℕ} 0 1 = cc in absurd (omega arith)

module _ (f : ℕ → Option Report) where
  -- one more place passes
  pub none_more : (i : ℕ) → first_below f i ≡ None → f i ≡ None → first_below f (i + 1) ≡ None
  none_more i e h = rw add-one (rw (e, h))

  -- the first that fails is at i
  pub first_is : (i k : ℕ) (x : Report) → i < k → first_below f i ≡ None → f i ≡ Some x → first_below f k ≡ Some x
  first_is i zero x l e h = absurd (omega arith)
  first_is i (suc k) x l e h =
      ⊎_elim (λ (s : i ≡ k). let e' = rw s at e in let h' = rw s at h in rw (e', h'))
      (λ (s : i ≡ k → ⊥). let b = first_is i k x (omega arith) e h in rw b) (cases_eq i k)

  -- where none fails below k, each place passes
  pub none_below : (i k : ℕ) → i < k → first_below f k ≡ None → f i ≡ None
  none_below i zero l e = absurd (omega arith)
  none_below i (suc k) l e =
      ⊎_elim (λ (s : i ≡ k). rw s (grind arith))
      (λ (s : i ≡ k → ⊥). none_below i k (omega arith) (grind arith)) (cases_eq i k)

  -- where each place passes, none fails
  pub none_all : (k : ℕ) → ((i : ℕ) → i < k → f i ≡ None) → first_below f k ≡ None
  none_all zero h = refl
  none_all (suc k) h = let a = none_all k (λ i l. h i (omega arith)) in let b = h k (omega arith) in rw (a, b)
