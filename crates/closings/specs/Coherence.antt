-- Closures over a network: the roads stay well formed, and a later opening takes the place of an earlier one.
use Rattle.std.specs.Prelude.{◌≡◌, ℕ, Bool, true, List, is_some, Some, None, Option, refl}
use Rattle.std.proofs.Common.{sym, ◌∙◌}
use Rattle.std.specs.Option.{option_map}
use Rattle.std.proofs.lemmas.Bool.{and_parts}
use Rattle.roads.specs.declared.facts.Facts.{Facts}
use Rattle.roads.specs.Networks.{Network, WellFormed, numbered, leaves, is_open}
use Rattle.roads.specs.RoadLists.{has}
use Rattle.closings.specs.Closures.{Closures, Coherent, stands_open, opened, with_open}
use Rattle.closings.specs.Layers.{layered}

-- the facts that were there before a road was opened or closed
record Before (b : Bool) (o : Option Facts) (f : Facts) : Type 0 where
  was : Facts
  there : o ≡ Some was
  now : f ≡ with_open b was

before : (b : Bool) (o : Option Facts) (f : Facts) → option_map (with_open b) o ≡ Some f → Before b o f
before b None f e = absurd cc
before b (Some x) f e = record { was = x; there = refl; now = cc }

known_still : (b : Bool) (o : Option Facts) → is_some (option_map (with_open b) o) ≡ is_some o
known_still b None = refl
known_still b (Some x) = refl

leaves_still : (j : ℕ) (b : Bool) (o : Option Facts) → leaves j (option_map (with_open b) o) ≡ leaves j o
leaves_still j b None = refl
leaves_still j b (Some x) = refl

pub opened_sound : (w : Network) (c : Closures) → WellFormed w → WellFormed (opened w c)
opened_sound w c ok = record {
  counts = ok.counts;
  known = λ r. known_still _ (w.facts r) ∙ ok.known r;
  ends = λ r f e. let x = before _ (w.facts r) f e in rw x.now (ok.ends r x.was x.there);
  widths = λ r f e. let x = before _ (w.facts r) f e in rw x.now (ok.widths r x.was x.there);
  listed = λ j r. ok.listed j r ∙ sym (leaves_still j _ (w.facts r));
  once = ok.once;
}

open_again : (a b : Bool) (o : Option Facts) → option_map (with_open b) (option_map (with_open a) o) ≡ option_map (with_open b) o
open_again a b None = refl
open_again a b (Some x) = refl

-- only the last closures count
pub opened_again : (w : Network) (c c' : Closures) → opened (opened w c) c' ≡ opened w c'
opened_again w c c' = λ i. record {
  junctions = w.junctions;
  roads = w.roads;
  facts = λ r. open_again (stands_open c r) (stands_open c' r) (w.facts r) i;
  leaving = w.leaving;
}

open_known : (o : Option Facts) → is_open o ≡ true → is_some o ≡ true
open_known None e = e
open_known (Some x) e = refl

pub layered_coherent : (w : Network) (xs : List ℕ) → WellFormed w → Coherent (opened w (layered w xs)) (layered w xs)
layered_coherent w xs ok = record {
  roads_open = opened_again w (layered w xs) (layered w xs);
  under_roads = λ r e. sym (ok.known r) ∙ open_known (w.facts r) e;
  own_roads = λ r e. (and_parts (has r xs) (numbered w.roads r) e).1;
}
