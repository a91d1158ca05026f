-- What roads mean.
use Rattle.std.specs.Prelude.{◌≡◌, ℕ, ◌^◌, ◌<◌, Bool, true, false, ◌&&◌, ◌||◌, List, [], ◌∷◌, is_some, Some, None, Option, ◌==◌, nat_le}
use Rattle.roads.specs.declared.facts.Facts.{Facts}
use Rattle.roads.specs.RoadLists.{has, distinct, front, past}

-- junctions 0, 1, .., roads 1, 2, .. with their facts, and for each junction the roads that leave it, in order
pub record Network : Type 0 where
  pub junctions : ℕ
  pub roads : ℕ
  pub facts : ℕ → Option Facts
  pub leaving : ℕ → List ℕ

-- whether r is the number of one of m roads
abbrev pub numbered : ℕ → ℕ → Bool
numbered m r = nat_le 1 r && nat_le r m

-- whether a road with these facts leaves j
abbrev pub leaves : ℕ → Option Facts → Bool
leaves j None = false
leaves j (Some f) = j == f.tail

-- whether a road with these facts is open; a road that is none is not
abbrev pub is_open : Option Facts → Bool
is_open None = false
is_open (Some f) = f.open

-- the road that leaves the tail of r after r; 0 where r is the last, or no road
abbrev pub next_leaving : Network → ℕ → ℕ
next_leaving w r = elim (w.facts r) [ None ↦ 0 | Some f ↦ front (past r (w.leaving f.tail)) ]

-- the roads from r on that leave the tail of r; none where r is no road
unfoldable pub roads_from : Network → ℕ → List ℕ
roads_from w r = elim (w.facts r) [ None ↦ [] | Some f ↦ r ∷ past r (w.leaving f.tail) ]

-- whether r is a road's number, or the 0 that ends a list
abbrev pub stands : Network → ℕ → Bool
stands w r = r == 0 || numbered w.roads r

pub record WellFormed (w : Network) : Type 0 where
  -- the counts have 32 bits
  pub counts : (w.junctions < 2 ^ 32) × (w.roads < 2 ^ 32)
  -- just the roads have facts
  pub known : (r : ℕ) → is_some (w.facts r) ≡ numbered w.roads r
  -- a road leads from a junction to a junction
  pub ends : (r : ℕ) (f : Facts) → w.facts r ≡ Some f → (f.tail < w.junctions) × (f.head < w.junctions)
  -- seconds, metres and limit have 16 bits
  pub widths : (r : ℕ) (f : Facts) → w.facts r ≡ Some f → (f.seconds < 2 ^ 16) × (f.metres < 2 ^ 16) × (f.limit < 2 ^ 16)
  -- the leaving list of j has just the roads with tail j, each once
  pub listed : (j r : ℕ) → has r (w.leaving j) ≡ leaves j (w.facts r)
  pub once : (j : ℕ) → distinct (w.leaving j) ≡ true
