-- Cells nest, and what the query level says.
use Rattle.std.proofs.Common.{◌≡◌, ℕ, zero, suc, ◌+◌, ◌-◌, ◌*◌, ◌/◌, ◌^◌, ◌<◌, ◌≤◌, true, false, not, eqb, ◌≢◌, ◌⊎◌, sym, refl, ap, ◌∙◌, inl, inr, ⊎_elim, arith, pow-add}
use native.Mathlib.Nat.{div-div-eq-div-mul}
use Rattle.std.proofs.lemmas.Bool.{cond_both, and_parts, and_cases, not-true, not-false, eqb-true, eqb-false, cases_lt}
use Rattle.cells.specs.Cells.{Survey, cell}
use Rattle.cells.specs.Overlay.{apart, highest, query_level}

quotient_nests : (a b i j : ℕ) → i ≤ j → a / 16 ^ i ≡ b / 16 ^ i → a / 16 ^ j ≡ b / 16 ^ j
quotient_nests a b i j le e =
    let whole : i + (j - i) ≡ j = omega arith in
    let split : 16 ^ j ≡ 16 ^ i * 16 ^ (j - i) = ap (λ k. 16 ^ k) (sym whole) ∙ pow-add 16 i (j - i) in
    rw (split, ← div-div-eq-div-mul a (16 ^ i) (16 ^ (j - i)), ← div-div-eq-div-mul b (16 ^ i) (16 ^ (j - i)), e)

module _ (c : Survey) where
  -- what is one cell at a level is one at each higher level
  pub nests : (l k u v : ℕ) → l ≤ k → cell c l u ≡ cell c l v → cell c k u ≡ cell c k v
  nests l k u v le e = quotient_nests (c.code u) (c.code v) (l - 1) (k - 1) (omega arith) e

  module _ (start goal : ℕ) where
    abbrev level : ℕ → ℕ
    level = query_level c start goal

    apart_parts : (l v : ℕ) → apart c start goal l v ≡ true → (cell c l v ≢ cell c l start) × (cell c l v ≢ cell c l goal)
    apart_parts l v h =
        let p = and_parts (not (eqb (cell c l v) (cell c l start))) (not (eqb (cell c l v) (cell c l goal))) h in
        (eqb-false _ _ (not-true _ p.0), eqb-false _ _ (not-true _ p.1))

    not_apart : (l v : ℕ) → apart c start goal l v ≡ false → (cell c l v ≡ cell c l start) ⊎ (cell c l v ≡ cell c l goal)
    not_apart l v h =
        ⊎_elim (λ e. inl (eqb-true _ _ (not-false _ e))) (λ e. inr (eqb-true _ _ (not-false _ e)))
        (and_cases (not (eqb (cell c l v) (cell c l start))) (not (eqb (cell c l v) (cell c l goal))) h)

    highest_apart : (l v : ℕ) → 1 ≤ highest c start goal l v → apart c start goal (highest c start goal l v) v ≡ true
    highest_apart zero v = λ h. absurd (omega arith)
    highest_apart (suc l) v =
        cond_both (apart c start goal (suc l) v) (suc l) (highest c start goal l v) (λ x. 1 ≤ x → apart c start goal x v ≡ true)
        (λ e _. e) (λ _ h. highest_apart l v h)

    highest_most : (l v : ℕ) → highest c start goal l v ≤ l
    highest_most zero v = omega arith
    highest_most (suc l) v =
        let ih = highest_most l v in
        cond_both (apart c start goal (suc l) v) (suc l) (highest c start goal l v) (λ x. x ≤ suc l) (λ _. omega arith) (λ _. omega arith)

    highest_above : (l v k : ℕ) → highest c start goal l v < k → k ≤ l → apart c start goal k v ≡ false
    highest_above zero v k = λ lo hi. absurd (omega arith)
    highest_above (suc l) v k =
        cond_both (apart c start goal (suc l) v) (suc l) (highest c start goal l v) (λ x. x < k → k ≤ suc l → apart c start goal k v ≡ false)
        (λ _ lo hi. absurd (omega arith))
        (λ e lo hi. ⊎_elim (λ lt. highest_above l v k lo (omega arith))
        (λ ge. let same : suc l ≡ k = omega arith in rw same at e) (cases_lt k (suc l)))

    -- at its query level a junction is apart from start and goal
    pub level_apart : (v : ℕ) → 1 ≤ level v → (cell c (level v) v ≢ cell c (level v) start) × (cell c (level v) v ≢ cell c (level v) goal)
    level_apart v h = apart_parts (level v) v (highest_apart c.levels v h)

    pub level_most : (v : ℕ) → level v ≤ c.levels
    level_most v = highest_most c.levels v

    -- and above it, it is not
    pub level_above : (v k : ℕ) → level v < k → k ≤ c.levels → (cell c k v ≡ cell c k start) ⊎ (cell c k v ≡ cell c k goal)
    level_above v k lo hi = not_apart k v (highest_above c.levels v k lo hi)

    pub level_start : level start ≡ 0
    level_start = ⊎_elim (λ lt. omega arith) (λ ge. absurd ((level_apart start ge).0 refl)) (cases_lt (level start) 1)

    -- above v's query level, no junction of v's cell is apart
    meets : (v x : ℕ) → 1 ≤ level x → level v < level x → cell c (level x) x ≡ cell c (level x) v → ⊥
    meets v x pos lt e =
        ⊎_elim (λ q. (level_apart x pos).0 (e ∙ q)) (λ q. (level_apart x pos).1 (e ∙ q)) (level_above v (level x) lt (level_most x))

    -- all of u's cell at its query level have that query level
    pub level_same : (u v : ℕ) → 1 ≤ level u → cell c (level u) u ≡ cell c (level u) v → level v ≡ level u
    level_same u v pos e =
        let not-below : level v < level u → ⊥ = λ lt. meets v u pos lt e in
        let not-above : level u < level v → ⊥ = λ lt. meets u v (omega arith) lt (sym (nests (level u) (level v) u v (omega arith) e)) in
        ⊎_elim (λ lt. absurd (not-below lt)) (λ ge. ⊎_elim (λ lt. absurd (not-above lt)) (λ le. omega arith) (cases_lt (level u) (level v))) (cases_lt (level v) (level u))

    -- where x is in u's cells above u's query level, and y in none of x's cells up to it, x and y differ at y's query level
    pub level_differs : (u x y : ℕ) → ((k : ℕ) → level u < k → cell c k x ≡ cell c k u)
        → ((k : ℕ) → 1 ≤ k → k ≤ level u → cell c k x ≢ cell c k y) → 1 ≤ level y → cell c (level y) x ≢ cell c (level y) y
    level_differs u x y above below pos e =
        ⊎_elim (λ lt. meets u y pos lt (sym e ∙ above (level y) lt)) (λ ge. below (level y) pos ge e) (cases_lt (level u) (level y))
