-- Exits that are noted arc by arc are the last exits of a walk.
use Rattle.std.proofs.Common.{◌≡◌, ℕ, zero, suc, ◌+◌, ◌<◌, true, false, cond, eqb, List, [], ◌∷◌, ◌++◌, length, get_or, take, replicate, Some, None, Option, sym, refl, ap, ◌∙◌}
use Rattle.std.specs.List.{slice_get}
use Rattle.std.specs.Option.{option_map}
use Rattle.std.proofs.lemmas.List.{take_more}
use Rattle.walks.specs.declared.arcs.Arc.{Arc}
use Rattle.walks.specs.Cutting.{last_exit}
use Rattle.loop_cutting.specs.declared.exits.Exit.{Exit}
use Rattle.loop_cutting.specs.Exits.{noted, arc_out}

-- where no arc left any place, none left v
pub no_arc_out : (n u v : ℕ) (x : Exit) → x.head ≡ None → arc_out v (slice_get (replicate n x) u) ≡ None
no_arc_out zero u v x e = refl
no_arc_out (suc n) zero v x e = ap (option_map (λ h. record { tail = v; head = h; road = x.road })) e
no_arc_out (suc n) (suc u) v x e = no_arc_out n u v x e

-- the last exit, where an arc comes before
abbrev before : Arc → ℕ → Option Arc → Option Arc
before x u None = cond (eqb x.tail u) (Some x) None
before x u (Some y) = Some y

last_exit_push : (xs : List Arc) (r : Arc) (u : ℕ) → last_exit (xs ++ r ∷ []) u ≡ noted (last_exit xs) r u
last_exit_push [] r u = refl
last_exit_push (x ∷ xs) r u =
    ap (before x u) (last_exit_push xs r u)
    ∙ elim (eqb r.tail u) as (λ b. before x u (cond b (Some r) (last_exit xs u)) ≡ cond b (Some r) (before x u (last_exit xs u))) [ true ↦ refl | false ↦ refl ]

-- one arc more of a walk is noted
pub noted_more : (walk : List Arc) (i : ℕ) (d : Arc) (old new : ℕ → Option Arc) → i < length walk → ((u : ℕ) → old u ≡ last_exit (take i walk) u) → ((u : ℕ) → new u ≡ noted old (get_or walk i d) u) → (u : ℕ) → new u ≡ last_exit (take (i + 1) walk) u
noted_more walk i d old new l was is u =
    let r = get_or walk i d in
    is u
    ∙ ap (λ o. cond (eqb r.tail u) (Some r) o) (was u)
    ∙ sym (last_exit_push (take i walk) r u)
    ∙ ap (λ w. last_exit w u) (sym (take_more walk i d l))
