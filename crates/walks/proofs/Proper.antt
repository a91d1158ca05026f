-- A graph without its improper arcs is sound, and a sound graph has none.
use Rattle.std.proofs.Common.{◌≡◌, ℕ, Bool, true, cond, eqb, ltb, List, [], ◌∷◌, filter, refl, ap, ◌∙◌, inl, inr}
use mathlib.Core.Path.{fun_ext}
use Rattle.std.proofs.lemmas.Bool.{and_parts, and_from, eqb-true, eq-eqb, ltb-true, lt-ltb}
use Rattle.walks.specs.Digraphs.{Digraph, In, Sound, leads, proper}
use Rattle.walks.proofs.Members.{in_filter}

-- a list of which all pass is as it was
filter_all : {X : Type 0} (test : X → Bool) (xs : List X) → ((x : X) → In x xs → test x ≡ true) → filter test xs ≡ xs
filter_all test [] h = refl
filter_all test (x ∷ xs) h =
    ap (λ b. cond b (x ∷ filter test xs) (filter test xs)) (h x (inl refl)) ∙ ap (λ ys. x ∷ ys) (filter_all test xs (λ y i. h y (inr i)))

module _ {C : Type 0} (g : Digraph C) where
  pub proper_sound : Sound (proper g)
  proper_sound = record {
    tails = λ u r i. eqb-true r.tail u (and_parts (eqb r.tail u) (ltb r.head g.places) (in_filter r (leads g.places u) (g.leaving u) i)).0;
    heads = λ u r i. ltb-true r.head g.places (and_parts (eqb r.tail u) (ltb r.head g.places) (in_filter r (leads g.places u) (g.leaving u) i)).1;
  }

  pub proper_same : Sound g → proper g ≡ g
  proper_same ok =
      let same : (u : ℕ) → filter (leads g.places u) (g.leaving u) ≡ g.leaving u =
      λ u. filter_all (leads g.places u) (g.leaving u) (λ r i. and_from (eqb r.tail u) (ltb r.head g.places) (eq-eqb r.tail u (ok.tails u r i)) (lt-ltb r.head g.places (ok.heads u r i))) in
      λ i. record { places = g.places; leaving = fun_ext same i; charge = g.charge }
