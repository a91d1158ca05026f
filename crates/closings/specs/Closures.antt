-- What closing means on top of a network.
use Rattle.std.specs.Prelude.{◌≡◌, ℕ, zero, suc, ◌+◌, Bool, true, false, cond, not, ◌&&◌, None, Ok, Err, Option, Result, ◌==◌, nat_lt}
use Rattle.std.specs.Option.{option_map}
use Rattle.roads.specs.declared.facts.Facts.{Facts}
use Rattle.roads.specs.declared.fault.Fault.{Fault}
use Rattle.roads.specs.declared.fault.Part.{Part}
use Rattle.roads.specs.declared.fault.Report.{Report}
use Rattle.roads.specs.Faults.{unless, or_else}
use Rattle.roads.specs.Networks.{Network, numbered}

-- Which roads are open but for these closings, which are closed by them, how many may be, and which part finds
-- a refusal, by how many are closed and the refusal's number. Only the own closings ever change.
pub record Closures : Type 0 where
  pub under : ℕ → Bool
  pub own : ℕ → Bool
  pub capacity : ℕ
  pub finder : ℕ → ℕ → Part

-- how many of 1, .., m are in a set
abbrev pub tally : (ℕ → Bool) → ℕ → ℕ
tally set zero = 0
tally set (suc m) = cond (set (suc m)) 1 0 + tally set m

-- a road is open exactly when it is under-open and no own closing
abbrev pub stands_open : Closures → ℕ → Bool
stands_open c r = c.under r && not (c.own r)

abbrev pub with_open : Bool → Facts → Facts
with_open b f = record { tail = f.tail; head = f.head; seconds = f.seconds; metres = f.metres; limit = f.limit; «open» = b }

-- a network with its roads open as the closures say, and all else as it is
abbrev pub opened : Network → Closures → Network
opened w c = record {
  junctions = w.junctions;
  roads = w.roads;
  facts = λ r. option_map (with_open (stands_open c r)) (w.facts r);
  leaving = w.leaving;
}

pub record Coherent (w : Network) (c : Closures) : Type 0 where
  pub roads_open : opened w c ≡ w
  pub under_roads : (r : ℕ) → c.under r ≡ true → numbered w.roads r ≡ true
  pub own_roads : (r : ℕ) → c.own r ≡ true → numbered w.roads r ≡ true

-- the closures with r as an own closing, or not
abbrev pub with_own : Bool → ℕ → Closures → Closures
with_own b r c = record { under = c.under; own = λ q. cond (q == r) b (c.own q); capacity = c.capacity; finder = c.finder }

-- a check of m roads under closures, at road r
abbrev pub demand : ℕ → Closures → Bool → ℕ → ℕ → Option Report
demand m c test refusal r = unless test refusal r (c.finder (tally c.own m) refusal)

-- why r cannot be closed: it is no road, closed already, or one too many
abbrev pub close_fault : ℕ → Closures → ℕ → Option Report
close_fault m c r =
    or_else (demand m c (numbered m r) 6 r)
    (or_else (demand m c (not (c.own r)) 7 r)
    (demand m c (nat_lt (tally c.own m) c.capacity) 9 r))

-- why r cannot be reopened: it is no road, or not closed
abbrev pub reopen_fault : ℕ → Closures → ℕ → Option Report
reopen_fault m c r = or_else (demand m c (numbered m r) 6 r) (demand m c (c.own r) 8 r)

-- what an answer leaves of a network and its closures: accepted, r is an own closing or is none, and the roads are
-- open accordingly; refused, nothing has moved
abbrev pub Moved : Bool → ℕ → Result (Unit {0}) Fault → Network → Closures → Network → Closures → Type 0
Moved b r (Ok x) w c w' c' = (c' ≡ with_own b r c) × (w' ≡ opened w c')
Moved b r (Err f) w c w' c' = (c' ≡ c) × (w' ≡ w)

-- what an answer to closing r leaves: accepted, reopening r is accepted too and leads back; refused, nothing has moved
abbrev pub Reversible : ℕ → Result (Unit {0}) Fault → Network → Closures → Network → Closures → Type 0
Reversible r (Ok x) w c w' c' = (reopen_fault w'.roads c' r ≡ None) × (with_own false r c' ≡ c) × (opened w' c ≡ w)
Reversible r (Err f) w c w' c' = (c' ≡ c) × (w' ≡ w)
