-- A cursor goes through a leaving list from its front, each road by the one before.
use Rattle.std.proofs.Common.{◌≡◌, ℕ, ◌<◌, Bool, true, false, cond, [], ◌∷◌, length, Some, None, Option, ap, ◌∙◌, sym, arith}
use Rattle.std.proofs.lemmas.Bool.{cond-true, cond-false}
use Rattle.roads.specs.declared.facts.Facts.{Facts}
use Rattle.roads.specs.RoadLists.{past}
use Rattle.roads.specs.Networks.{Network, WellFormed, next_leaving, roads_from}
use Rattle.roads.proofs.Leaving.{from_step}
use Rattle.cells.specs.RoadGraphs.{road_arc, arcs_of}
use Rattle.road_graph.specs.Cursors.{arcs_from}

module _ (w : Network) (test : Facts → Bool) where
  -- from what is no road there are no arcs
  pub from_no_road : (r : ℕ) → None ≡ w.facts r → arcs_from w test r ≡ []
  unfolding roads_from
  from_no_road r e = ap (λ (x : Option Facts). arcs_of w test (elim x [ None ↦ [] | Some f ↦ r ∷ past r (w.leaving f.tail) ])) (sym e)

  -- at a road, its arc stands first where it passes the test
  arcs_step : WellFormed w → (r : ℕ) (f : Facts) → w.facts r ≡ Some f →
      arcs_from w test r ≡ cond (test f) (road_arc r f ∷ arcs_from w test (next_leaving w r)) (arcs_from w test (next_leaving w r))
  arcs_step ok r f e =
      let rest = arcs_from w test (next_leaving w r) in
      ap (arcs_of w test) (from_step w ok r f e)
      ∙ ap (λ (o : Option Facts). elim o [ None ↦ rest | Some x ↦ cond (test x) (road_arc r x ∷ rest) rest ]) e

  -- the arc of a road that passes, and then those from the next on
  pub pass : WellFormed w → (r n : ℕ) (f : Facts) → Some f ≡ w.facts r → n ≡ next_leaving w r → true ≡ test f → arcs_from w test r ≡ road_arc r f ∷ arcs_from w test n
  pass ok r n f e h t = rw h (arcs_step ok r f (sym e) ∙ cond-true _ _ _ (sym t))

  -- of one that fails, those from the next on
  pub skip : WellFormed w → (r n : ℕ) (f : Facts) → Some f ≡ w.facts r → n ≡ next_leaving w r → false ≡ test f → arcs_from w test r ≡ arcs_from w test n
  skip ok r n f e h t = rw h (arcs_step ok r f (sym e) ∙ cond-false _ _ _ (sym t))

-- fewer roads are left from the next on
pub fewer : (w : Network) → WellFormed w → (r n : ℕ) (f : Facts) → Some f ≡ w.facts r → n ≡ next_leaving w r → length (roads_from w n) < length (roads_from w r)
fewer w ok r n f e h = rw h (omega (arith, ap length (from_step w ok r f (sym e))))
