use Rattle.std.proofs.Common.{◌≡◌, ℕ, ◌+◌, ◌-◌, ◌*◌, ◌/◌, ◌^◌, ◌<◌, ◌≤◌, Some, None, Option, unwrap_or, sym, ap, ◌∙◌, arith, lit<, pow-add}
use native.Mathlib.Nat.{pow-le-pow_right, div-eq_of_lt}
use Rattle.std.proofs.lemmas.Nat.{mul-pow}
use Rattle.std.specs.Option.{SomeIff}
use Rattle.cells.proofs.cell_of.Goals as goal

-- a hexadecimal digit has four bits
digits : (k : ℕ) → 2 ^ (4 * k) ≡ 16 ^ k
digits k =
    let whole : 4 * k ≡ k + k + (k + k) = omega arith in
    rw (whole, pow-add 2 (k + k) (k + k), pow-add 2 k k, ← mul-pow 2 2 k, ← mul-pow 4 4 k)

-- with no digit left, 0 is left
left : (code k : ℕ) (o : Option ℕ) → code < 16 ^ 4 → SomeIff o (4 * k < 16) (code / 2 ^ (4 * k)) → unwrap_or o 0 ≡ code / 16 ^ k
left code k None below past =
    let high : 4 ≤ k = omega arith in
    let large : 16 ^ 4 ≤ 16 ^ k = pow-le-pow_right (lit< tt) high in
    sym (div-eq_of_lt (omega arith))
left code k (Some x) below (_, e) = e ∙ ap (λ p. code / p) (digits k)

pub returns : goal.returns
returns c =
    c.unwrap_or.ensures ∙ left c.args.code (c.args.level - 1) c.checked_shr.result (omega arith) (rw c.bits_below.ensures at c.checked_shr.ensures)
