-- The walks with fewer arcs than there are places are enough for the least total.
use Rattle.std.proofs.Common.{ℕ, ◌-◌, ◌<◌, List, length, sym, subst, arith}
use Rattle.charge.specs.Scales.{Scale, Ordered}
use Rattle.walks.specs.declared.arcs.Arc.{Arc}
use Rattle.walks.specs.Digraphs.{Digraph, In, Sound, Walk}
use Rattle.walks.specs.Least.{Least}
use Rattle.walks.specs.Cutting.{cut, last_exit}
use Rattle.walks.specs.Computing.{walks_within, least_total}
use Rattle.least_walks.proofs.LastExits.{Simple, followed}
use Rattle.least_walks.specs.Theorems.{CutWalks, SimpleWalks, ShortWalks, OneLeast, ComputedLeast}
use Rattle.least_walks.specs.Steps.{PartsAreCheap, CheapestIsLeast, ShortEnough}
use Rattle.least_walks.proofs.Leasts.{same_least}
use Rattle.least_walks.proofs.Listed.{listed, listed_walks}

-- a walk without its loops
pub cut_simple : {C : Type 0} {g : Digraph C} → Sound g → (a b : ℕ) (w : List Arc) → Walk g a w b
    → Simple g b a w (cut a b w)
cut_simple sound a b w k = followed sound b (last_exit w) (length w) a w k (omega arith) (λ u r e. e)

module _ {C : Type 0} (s : Scale C) where
  pub cut_walks : PartsAreCheap s → CutWalks s
  unfolding PartsAreCheap CutWalks
  cut_walks parts g sound a b w k =
      let h = cut_simple sound a b w k in
      (h.walk, h.part, h.once, parts g (cut a b w) w h.part)

  pub enough : CutWalks s → SimpleWalks s → ShortEnough s
  unfolding CutWalks SimpleWalks ShortEnough
  enough cuts shorts g sound a b lt w k =
      let h = cuts g sound a b w k in
      (cut a b w, (h.0, shorts g sound a b (cut a b w) lt h.0 h.2), h.3)

  pub short_walks : Ordered s → ShortEnough s → ShortWalks s
  unfolding ShortEnough ShortWalks
  short_walks order short g sound a b lt o = same_least order g (λ w. Walk g a w b × (length w < g.places)) (λ w. Walk g a w b) (λ w k. k.0) (short g sound a b lt) o

  pub computed : Ordered s → ShortEnough s → CheapestIsLeast s → OneLeast s → ComputedLeast s
  unfolding ShortEnough CheapestIsLeast OneLeast ComputedLeast
  computed order short cheap one g sound a b lt o =
      let ws = walks_within g (g.places - 1) a b in
      let is : Least s g a b (least_total s g a b) =
      (same_least order g (λ w. In w ws) (λ w. Walk g a w b) (listed_walks g b (g.places - 1) a)
      (λ w k. let v = short g sound a b lt w k in (v.0, listed g b (g.places - 1) a v.0 v.1.0 (omega arith), v.2))
      (least_total s g a b)).0 (cheap g ws) in
      (λ h. one g a b o (least_total s g a b) h is, λ e. subst (Least s g a b) (sym e) is)
