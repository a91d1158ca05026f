-- What stands in a list that is filled from its front.
use Rattle.std.proofs.Common.{◌≡◌, ℕ, ◌+◌, ◌<◌, List, [], ◌∷◌, ◌++◌, length, get_or, drop, set, replicate, sym, ap, ◌∙◌, ⊎_elim, arith}
use Rattle.std.proofs.lemmas.List.{append_assoc, drop_more, get_or_append_left, get_or_past, get_or-replicate, length-replicate, replicate_more, set_at}
use Rattle.std.proofs.lemmas.Bool.{cases_lt}

pub all_alike : {X : Type 0} (n v : ℕ) (x : X) → get_or (replicate n x) v x ≡ x
all_alike n v x = ⊎_elim (λ (h : v < n). get_or-replicate n v x x h) (λ h. get_or_past (replicate n x) v x (omega (arith, length-replicate n x))) (cases_lt v n)

-- the next is filled
pub fill_more : {X : Type 0} (xs : List X) (i : ℕ) (x : X) → i < length xs → set (replicate i x ++ drop i xs) i x ≡ replicate (i + 1) x ++ drop (i + 1) xs
fill_more xs i x h =
    ap (λ l. set (replicate i x ++ l) i x) (drop_more xs i x h) ∙ set_at (replicate i x) (get_or xs i x) (drop (i + 1) xs) x i (length-replicate i x)
    ∙ sym (append_assoc (replicate i x) (x ∷ []) (drop (i + 1) xs)) ∙ ap (λ l. l ++ drop (i + 1) xs) (replicate_more i x)

pub fill_front : {X : Type 0} (xs : List X) (n v : ℕ) (x d : X) → v < n → get_or (replicate n x ++ drop n xs) v d ≡ x
fill_front xs n v x d h = get_or_append_left (replicate n x) (drop n xs) d v (omega (arith, length-replicate n x)) ∙ get_or-replicate n v x d h
