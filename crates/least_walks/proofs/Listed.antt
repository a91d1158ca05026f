-- Just the walks of at most k arcs are listed.
use Rattle.std.proofs.Common.{◌≡◌, ℕ, zero, suc, ◌≤◌, cond, eqb, List, [], ◌∷◌, map, length, sym, refl, ap, subst, inl, inr, ⊎_elim, arith}
use Rattle.std.specs.List.{flat_map}
use Rattle.std.proofs.lemmas.Bool.{cond_both, eqb-true, eq-eqb}
use Rattle.walks.specs.declared.arcs.Arc.{Arc}
use Rattle.walks.specs.Digraphs.{Digraph, In, Walk}
use Rattle.walks.specs.Computing.{walks_within}
use Rattle.walks.proofs.Members.{in_left, in_right, in_either}

in_map : {X Y : Type 0} (f : X → Y) (x : X) (xs : List X) → In x xs → In (f x) (map f xs)
in_map f x [] i = absurd i
in_map f x (z ∷ xs) (inl e) = inl (ap f e)
in_map f x (z ∷ xs) (inr i) = inr (in_map f x xs i)

map_in : {X Y : Type 0} (f : X → Y) (y : Y) (xs : List X) → In y (map f xs) → (x : X) × In x xs × (f x ≡ y)
map_in f y [] i = absurd i
map_in f y (z ∷ xs) (inl e) = (z, inl refl, sym e)
map_in f y (z ∷ xs) (inr i) = let h = map_in f y xs i in (h.0, inr h.1, h.2)

in_flat_map : {X Y : Type 0} (f : X → List Y) (x : X) (y : Y) (xs : List X) → In x xs → In y (f x) → In y (flat_map f xs)
in_flat_map f x y [] i j = absurd i
in_flat_map f x y (z ∷ xs) (inl e) j = in_left y (f z) (flat_map f xs) (rw e at j)
in_flat_map f x y (z ∷ xs) (inr i) j = in_right y (f z) (flat_map f xs) (in_flat_map f x y xs i j)

flat_map_in : {X Y : Type 0} (f : X → List Y) (y : Y) (xs : List X) → In y (flat_map f xs) → (x : X) × In x xs × In y (f x)
flat_map_in f y [] i = absurd i
flat_map_in f y (z ∷ xs) i =
    ⊎_elim (λ j. (z, inl refl, j)) (λ j. let h = flat_map_in f y xs j in (h.0, inr h.1, h.2)) (in_either y (f z) (flat_map f xs) i)

module _ {C : Type 0} (g : Digraph C) (b : ℕ) where
  abbrev staying : ℕ → List (List Arc)
  staying a = cond (eqb a b) ([] ∷ []) []

  abbrev going : ℕ → Arc → List (List Arc)
  going k r = map (λ w. r ∷ w) (walks_within g k r.head b)

  staying_walks : (a : ℕ) (w : List Arc) → In w (staying a) → Walk g a w b
  staying_walks a w =
      cond_both (eqb a b) ([] ∷ []) [] (λ ws. In w ws → Walk g a w b)
      (λ t. ⊎_elim (λ e. subst (λ v. Walk g a v b) (sym e) (eqb-true a b t)) (λ i. absurd i)) (λ _ i. absurd i)

  pub listed : (k a : ℕ) (w : List Arc) → Walk g a w b → length w ≤ k → In w (walks_within g k a b)
  listed zero a [] e l = rw (eq-eqb a b e) (inl refl)
  listed zero a (r ∷ w) h l = absurd (omega arith)
  listed (suc k) a [] e l = rw (eq-eqb a b e) (inl refl)
  listed (suc k) a (r ∷ w) (i, h) l =
      in_right (r ∷ w) (staying a) (flat_map (going k) (g.leaving a)) (in_flat_map (going k) r (r ∷ w) (g.leaving a) i
      (in_map (λ v. r ∷ v) w (walks_within g k r.head b) (listed k r.head w h (omega arith))))

  pub listed_walks : (k a : ℕ) (w : List Arc) → In w (walks_within g k a b) → Walk g a w b
  listed_walks zero a w i = staying_walks a w i
  listed_walks (suc k) a w i =
      ⊎_elim (staying_walks a w)
      (λ j.
      let first = flat_map_in (going k) w (g.leaving a) j in
      let rest = map_in (λ v. first.0 ∷ v) w (walks_within g k first.0.head b) first.2 in
      subst (λ v. Walk g a v b) rest.2 (first.1, listed_walks k first.0.head rest.0 rest.1))
      (in_either w (staying a) (flat_map (going k) (g.leaving a)) i)
