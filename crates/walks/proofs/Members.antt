-- What is one of two lists one after the other, and of what passes a test.
use Rattle.std.proofs.Common.{◌≡◌, Bool, true, ◌⊎◌, List, [], ◌∷◌, ◌++◌, filter, inl, inr, ⊎_elim}
use Rattle.std.proofs.lemmas.Bool.{cond_both}
use Rattle.walks.specs.Digraphs.{In}

module _ {X : Type 0} (x : X) where
  pub in_left : (xs ys : List X) → In x xs → In x (xs ++ ys)
  in_left [] ys i = absurd i
  in_left (z ∷ xs) ys (inl e) = inl e
  in_left (z ∷ xs) ys (inr i) = inr (in_left xs ys i)

  pub in_right : (xs ys : List X) → In x ys → In x (xs ++ ys)
  in_right [] ys i = i
  in_right (z ∷ xs) ys i = inr (in_right xs ys i)

  pub in_either : (xs ys : List X) → In x (xs ++ ys) → In x xs ⊎ In x ys
  in_either [] ys i = inr i
  in_either (z ∷ xs) ys (inl e) = inl (inl e)
  in_either (z ∷ xs) ys (inr i) = ⊎_elim (λ j. inl (inr j)) (λ j. inr j) (in_either xs ys i)

  pub in_filter : (test : X → Bool) (xs : List X) → In x (filter test xs) → test x ≡ true
  in_filter test [] = λ i. absurd i
  in_filter test (y ∷ ys) =
      cond_both (test y) (y ∷ filter test ys) (filter test ys) (λ zs. In x zs → test x ≡ true)
      (λ t. ⊎_elim (λ (e : x ≡ y). rw e t) (in_filter test ys)) (λ _. in_filter test ys)
