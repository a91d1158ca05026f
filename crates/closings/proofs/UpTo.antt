-- What `a..=b` yields, and how many of 1, .., m pass a test.
use Rattle.std.proofs.Common.{◌≡◌, ℕ, ◌+◌, ◌-◌, Bool, true, false, List, ◌∷◌, length, count_by, Bor, refl, ap, sym, ◌∙◌, add-one, arith}
use denote.Param.Members.{Mut}
use Rattle.std.specs.Fn.{CalledAt}
use Rattle.std.specs.Iterator.{Drains}
use Rattle.std.specs.Iterator.Adapters.{filter_source, filter_callee, filter_steps}
use Rattle.std.specs.declared.iter.Filter.{Filter}
use Rattle.std.specs.List.{range_with_len}
use Rattle.std.specs.Range.{range_inclusive_start, range_inclusive_end, range_inclusive_exhausted, range_inclusive_len}
use Rattle.std.specs.declared.ops.RangeInclusive.{RangeInclusive}
use Rattle.std.proofs.iter.runs.Sources.{nat_range_inclusive_steps}
use Rattle.std.proofs.lemmas.List.FromFn.{length-range_with_len}
use Rattle.std.proofs.lemmas.Iterator.{YieldsList}
use Rattle.std.proofs.lemmas.Iterator.Consumers.{YieldsList-from_shown, YieldsList-from_filter, count_from_yields_List}
use Rattle.std.proofs.lemmas.List.Sums.{length-filter}
use Rattle.closings.specs.Closures.{tally}
use Rattle.closings.proofs.Tallies.{tally_counts}

abbrev left : RangeInclusive ℕ → ℕ
left s = range_inclusive_len (λ x y. y - x) (range_inclusive_start s) (range_inclusive_end s) (range_inclusive_exhausted s)

abbrev listed : RangeInclusive ℕ → List ℕ
listed s = range_with_len (range_inclusive_start s) (left s)

step : (a n more : ℕ) → more + 1 ≡ n → range_with_len a n ≡ a ∷ range_with_len (a + 1) more
step a n more h = ap (range_with_len a) (sym h ∙ add-one more)

-- one number fewer is left
next : (a b x n : ℕ) (more : ℕ) (spent : Bool) → x ≡ a → more + 1 ≡ n → (spent ≡ true → more ≡ 0) → (spent ≡ false → b ≡ a + 1)
    → range_with_len a n ≡ x ∷ range_with_len b more
next a b x n more true e h z u = step a n more h ∙ rw (z refl, e)
next a b x n more false e h z u = step a n more h ∙ rw (u refl, e)

yields_listed : (s : RangeInclusive ℕ) → YieldsList nat_range_inclusive_steps (λ x. x) s (listed s)
yields_listed = YieldsList-from_shown nat_range_inclusive_steps (λ x. x) listed
    (λ s t h. omega (arith, h.1.0, length-range_with_len (range_inclusive_start s) (left s)))
    (λ s x t h. next (range_inclusive_start s) (range_inclusive_start t) x (left s) (left t) (range_inclusive_exhausted t) h.1.0 h.1.1
    (λ z. ap (range_inclusive_len (λ x y. y - x) (range_inclusive_start t) (range_inclusive_end t)) z) h.1.2)

-- the numbers from 1 on
from_one : (s : RangeInclusive ℕ) (m : ℕ) → range_inclusive_start s ≡ 1 → range_inclusive_end s ≡ m → range_inclusive_exhausted s ≡ false
    → listed s ≡ range_with_len 1 m
from_one s m a b e = rw (a, b, e) (ap (range_with_len 1) (omega arith))

-- as many of 1, .., m pass a test as a filter over them counts
pub counts_passing : {F : Type 0} (s : Filter (RangeInclusive ℕ) F) (g : Mut F (Bor ℕ × Unit {0}) Bool) (test : ℕ → Bool) {f : F} (m n : ℕ)
    → range_inclusive_start (filter_source s) ≡ 1 → range_inclusive_end (filter_source s) ≡ m → range_inclusive_exhausted (filter_source s) ≡ false
    → ((xs : List ℕ) × Drains (filter_steps nat_range_inclusive_steps g) s xs × (n ≡ length xs))
    → filter_callee s ≡ f → ((x : ℕ) (b : Bool) (q : F) → CalledAt g f x b q → (q ≡ f) × (b ≡ test x)) → n ≡ tally test m
counts_passing s g test m n a b e ran callee calls =
    let road = from_one (filter_source s) m a b e in
    count_from_yields_List s n ran (YieldsList-from_filter g test (yields_listed (filter_source s)) callee calls)
    ∙ length-filter test (listed (filter_source s)) ∙ ap (count_by test) road ∙ tally_counts test m
