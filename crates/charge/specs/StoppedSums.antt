-- The blend's join is associative.
use Rattle.std.specs.Prelude.{◌≡◌, ℕ, ◌+◌, ◌≤◌, min, max}
use Rattle.std.proofs.Common.{sym, ◌∙◌, ap, arith}
use Rattle.charge.specs.Blends.{stopped_sum}

-- the sum of all, or the largest of them and of the top where the sum is above that
abbrev stops : ℕ → ℕ → ℕ
stops sum largest = min sum (max largest 4294967295)

is_stopped : (a b : ℕ) → stopped_sum a b ≡ stops (a + b) (max a b)
is_stopped a b = omega arith

-- s stands for a sum that stopped already, of which m was the largest
more : (s m j c : ℕ) → j ≡ stops s m → m ≤ s → stopped_sum j c ≡ stops (s + c) (max m c)
more s m j c e h = omega arith

more_before : (a s m j : ℕ) → j ≡ stops s m → m ≤ s → stopped_sum a j ≡ stops (a + s) (max a m)
more_before a s m j e h = omega arith

pub stopped_assoc : (a b c : ℕ) → stopped_sum (stopped_sum a b) c ≡ stopped_sum a (stopped_sum b c)
stopped_assoc a b c =
    let sum : a + b + c ≡ a + (b + c) = omega arith in
    let largest : max (max a b) c ≡ max a (max b c) = omega arith in
    more (a + b) (max a b) _ c (is_stopped a b) (omega arith)
    ∙ ap (λ n. stops n (max (max a b) c)) sum ∙ ap (stops (a + (b + c))) largest
    ∙ sym (more_before a (b + c) (max b c) _ (is_stopped b c) (omega arith))
