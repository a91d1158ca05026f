-- The turns of a search, in the values that the code holds.
use Rattle.std.proofs.Common.{◌≡◌, ℕ, ◌+◌, ◌<◌, true, ◌≢◌, List, [], ◌∷◌, get_or, drop, Some, None, Option, sym, refl, ap, ◌∙◌, subst, inl, arith}
use Rattle.std.proofs.lemmas.Bool.{eqb-true, false≢true}
use Rattle.charge.specs.Scales.{Scale, Associative, Neutral, Ordered, Monotone, Growing}
use Rattle.walks.specs.declared.arcs.Arc.{Arc}
use Rattle.walks.specs.Digraphs.{Digraph, Sound, proper}
use Rattle.walks.proofs.Proper.{proper_sound}
use Rattle.search.specs.declared.frontier.lists.Mark.TheVariants.{Waiting}
use Rattle.search.specs.declared.frontier.Step.{Step}
use Rattle.search.specs.declared.frontier.Frontier.{Frontier}
use Rattle.search.specs.Marks.{is_settled}
use Rattle.search.specs.Found.{mark_of, arc_into, Answered, Asked}
use Rattle.search.specs.Progress.{state, First, Inner, Relaxed}
use Rattle.search.specs.Turns.{size_of, is_goal, settled_count, Settles, Searching, Scanning, Offered, Kept}
use Rattle.charge.proofs.Laws.{Lawful}
use Rattle.search.proofs.Reaching.{goal_answer, all_answers}
use Rattle.search.proofs.Relaxing.{relaxed, count_kept}
use Rattle.search.proofs.Settling.{settle, turned}
use Rattle.search.proofs.Tallies.{tally_le, tally_more}

asked_goal : (goal : Option ℕ) (u v : ℕ) → is_goal goal u ≡ true → Asked goal v → v ≡ u
asked_goal None u v e asked = absurd (false≢true e)
asked_goal (Some t) u v e asked = asked ∙ eqb-true t u e

same_arcs : (f f' : Frontier) → f'.steps ≡ f.steps → arc_into f' ≡ arc_into f
same_arcs f f' steps =
    let none : Step = record { tail = 0; road = 0 } in
    ap {B = ℕ → Arc} (λ l. λ v. record { tail = (get_or l v none).tail; head = v; road = (get_or l v none).road }) steps

-- an arc keeps what no arc changes
pub arc_keeps : {C : Type 0} {s : Scale C} (f₀ f f' : Frontier) (labels₀ labels labels' : List C) (n : ℕ) (r : Arc) (x : C) → size_of f ≡ n → Kept n f₀ labels₀ f labels → Offered s f labels f' labels' r x → Kept n f₀ labels₀ f' labels'
arc_keeps {s = s} f₀ f f' labels₀ labels labels' n r x size k o = record {
  start = o.start ∙ k.start;
  count = count_kept s _ _ r x o.relaxed n ∙ k.count;
  beyond = subst (λ m. drop m labels' ≡ drop m labels) size o.beyond ∙ k.beyond;
}

-- one more is settled
pub counted : {C : Type 0} {s : Scale C} (f f' : Frontier) (labels : List C) (n u : ℕ) → size_of f ≡ n → First s (size_of f) (state s.neutral f labels) u → Settles f f' u →
    settled_count f' n ≡ settled_count f n + 1
counted f f' labels n u size first m = tally_more is_settled (mark_of f) (mark_of f') u n (omega (arith, first.within, size)) (ap is_settled first.waiting) (ap is_settled m.marks.here) m.marks.others

module _ {C : Type 0} {s : Scale C} {g : Digraph C} where
  -- what is settled next
  pub turn_begins : Ordered s → (f f' : Frontier) (labels : List C) (u : ℕ) → size_of f ≡ g.places → Searching s g f labels → First s (size_of f) (state s.neutral f labels) u → Settles f f' u →
      Scanning s g f' labels u (g.leaving u)
  turn_begins order f f' labels u size h first m =
      let d : C = s.neutral in
      let first' : First s g.places (state d f labels) u = subst (λ n. First s n (state d f labels) u) size first in
      let inner = settle s g order f.start (settled_count f g.places) (state d f labels) (mark_of f') u h first' m.marks.here m.marks.others in
      subst (λ a. Inner s g a (settled_count f' g.places) (state d f' labels) u (g.leaving u)) (sym m.start)
      (subst (λ k. Inner s g f.start k (state d f' labels) u (g.leaving u)) (sym (counted f f' labels g.places u size first m))
      (subst (λ into. Inner s g f.start (settled_count f g.places + 1) (record { mark = mark_of f'; label = λ v. get_or labels v d; into = into }) u (g.leaving u))
      (sym (same_arcs f f' m.steps)) inner))

  -- no arc is left
  pub turn_ends : (f : Frontier) (labels : List C) (u : ℕ) (left : List Arc) → Scanning s g f labels u left → left ≡ [] → Searching s g f labels
  turn_ends f labels u left h e =
      turned s g f.start _ _ u (subst (λ l. Inner s g f.start (settled_count f g.places) (state s.neutral f labels) u l) e h)

-- the laws of charges and of graphs
pub record Laws {C : Type 0} (s : Scale C) (g : Digraph C) : Type 0 where
  pub charges : Lawful s
  pub graph : Sound g

pub proper_laws : {C : Type 0} {s : Scale C} (g : Digraph C) → Associative s → Neutral s → Ordered s → Monotone s → Growing s → Laws s (proper g)
proper_laws g associative unit order monotone growing = record {
  charges = record { associative = associative; unit = unit; order = order; monotone = monotone; growing = growing };
  graph = proper_sound g;
}

module _ {C : Type 0} {s : Scale C} {g : Digraph C} (laws : Laws s g) where
  -- an arc is dealt with
  pub arc_done : (f f' : Frontier) (labels labels' : List C) (u : ℕ) (r : Arc) (c : C) (left rest : List Arc) → Scanning s g f labels u left → left ≡ r ∷ rest → c ≡ g.charge r →
      Offered s f labels f' labels' r (s.joined (get_or labels r.tail s.neutral) c) → Scanning s g f' labels' u rest
  arc_done f f' labels labels' u r c left rest h e charged o =
      let d : C = s.neutral in
      let n = subst (λ l. Inner s g f.start (settled_count f g.places) (state d f labels) u l) e h in
      let tail : r.tail ≡ u = laws.graph.tails u r (n.onward r (inl refl)) in
      let total : s.joined (get_or labels r.tail d) c ≡ s.joined (get_or labels u d) (g.charge r) =
      ap (λ y. s.joined (get_or labels y d) c) tail ∙ ap (s.joined (get_or labels u d)) charged in
      let r' = subst (λ x. Relaxed s (state d f labels) (state d f' labels') r x) total o.relaxed in
      subst (λ a. Inner s g a (settled_count f' g.places) (state d f' labels') u rest) (sym o.start)
      (subst (λ k. Inner s g f.start k (state d f' labels') u rest) (sym (count_kept s _ _ r _ r' g.places))
      (relaxed s laws.charges g laws.graph f.start (settled_count f g.places) (state d f labels) (state d f' labels') u r rest n r'))

  -- the goal is settled
  pub goal_found : (f f' : Frontier) (labels : List C) (u : ℕ) (goal : Option ℕ) (v : ℕ) → size_of f ≡ g.places → Searching s g f labels → First s (size_of f) (state s.neutral f labels) u → Settles f f' u →
      is_goal goal u ≡ true → Asked goal v → Answered s g f.start f' labels v
  goal_found f f' labels u goal v size h first m is asked =
      let scanning = turn_begins laws.charges.order f f' labels u size h first m in
      subst (λ y. Answered s g f.start f' labels y) (sym (asked_goal goal u v is asked)) (subst (λ a. Answered s g a f' labels u) m.start
      (goal_answer s laws.charges g laws.graph f'.start _ f' labels u _ scanning (tally_le is_settled (mark_of f') g.places)))

  -- none waits
  pub all_found : (f f' : Frontier) (labels : List C) (v : ℕ) → size_of f ≡ g.places → Searching s g f labels → f' ≡ f → ((y : ℕ) → y < size_of f → mark_of f y ≢ Waiting) → v < g.places → Answered s g f.start f' labels v
  all_found f f' labels v size h same none lt = subst (λ t. Answered s g f.start t labels v) (sym same)
      (all_answers s laws.charges g laws.graph f.start _ f labels h (tally_le is_settled (mark_of f) g.places) (λ y l. none y (omega (arith, l, size))) v lt)
