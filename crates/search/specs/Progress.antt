-- What holds in the course of a search.
use Rattle.std.specs.Prelude.{◌≡◌, ℕ, zero, suc, ◌<◌, ◌≤◌, true, false, ◌≢◌, ◌⊎◌, List, slice_index_or}
use Rattle.charge.specs.Scales.{Scale}
use Rattle.walks.specs.declared.arcs.Arc.{Arc}
use Rattle.walks.specs.Digraphs.{Digraph, In}
use Rattle.search.specs.declared.frontier.lists.Mark.{Mark}
use Rattle.search.specs.declared.frontier.lists.Mark.TheVariants.{Unseen, Waiting, Settled}
use Rattle.search.specs.declared.frontier.Frontier.{Frontier}
use Rattle.search.specs.Marks.{seen_mark}
use Rattle.search.specs.Found.{mark_of, arc_into}

-- each place's mark, its label, and the arc by which it was reached
pub record State (C : Type 0) : Type 0 where
  pub mark : ℕ → Mark
  pub label : ℕ → C
  pub into : ℕ → Arc

abbrev pub state : {C : Type 0} → C → Frontier → List C → State C
state d f labels = record { mark = mark_of f; label = λ v. slice_index_or labels v d; into = arc_into f }

-- the records lead from v back to the start in k steps
abbrev pub Leads : (ℕ → Arc) → ℕ → ℕ → ℕ → Type 0
Leads into start zero v = v ≡ start
Leads into start (suc k) v = (v ≢ start) × Leads into start k (into v).tail

-- v was reached by an arc of the graph, from a settled place, and has the total by way of it
pub record Recorded {C : Type 0} (s : Scale C) (g : Digraph C) (st : State C) (v : ℕ) : Type 0 where
  pub within : (st.into v).tail < g.places
  pub from : st.mark (st.into v).tail ≡ Settled
  pub arc : In (st.into v) (g.leaving (st.into v).tail)
  pub ends : (st.into v).head ≡ v
  pub total : st.label v ≡ s.joined (st.label (st.into v).tail) (g.charge (st.into v))

-- with so many places settled
pub record Core {C : Type 0} (s : Scale C) (g : Digraph C) (start count : ℕ) (st : State C) : Type 0 where
  pub within : start < g.places
  pub seen : st.mark start ≢ Unseen
  pub neutral : st.label start ≡ s.neutral
  pub waiting : (v : ℕ) → v < g.places → st.mark v ≡ Waiting → (k : ℕ) × (k ≤ count) × Leads st.into start k v
  pub settled : (v : ℕ) → v < g.places → st.mark v ≡ Settled → (k : ℕ) × (k < count) × Leads st.into start k v
  pub recorded : (v : ℕ) → v < g.places → st.mark v ≢ Unseen → v ≢ start → Recorded s g st v
  pub ordered : (u v : ℕ) → u < g.places → v < g.places → st.mark u ≡ Settled → st.mark v ≡ Waiting → s.leq (st.label u) (st.label v) ≡ true

-- the arc r leads from u to a seen place, and does not shorten its label
abbrev pub Fine : {C : Type 0} → Scale C → Digraph C → State C → ℕ → Arc → Type 0
Fine s g st u r = (st.mark r.head ≢ Unseen) × (s.leq (st.label r.head) (s.joined (st.label u) (g.charge r)) ≡ true)

-- between two turns of the search
pub record Outer {C : Type 0} (s : Scale C) (g : Digraph C) (start count : ℕ) (st : State C) : Type 0 where
  pub core : Core s g start count st
  pub closed : (v : ℕ) → v < g.places → st.mark v ≡ Settled → (r : Arc) → In r (g.leaving v) → Fine s g st v r

-- in a turn: u was settled last, and some of its arcs are left
pub record Inner {C : Type 0} (s : Scale C) (g : Digraph C) (start count : ℕ) (st : State C) (u : ℕ) (left : List Arc) : Type 0 where
  pub core : Core s g start count st
  pub within : u < g.places
  pub last : st.mark u ≡ Settled
  pub top : (v : ℕ) → v < g.places → st.mark v ≡ Settled → s.leq (st.label v) (st.label u) ≡ true
  pub closed : (v : ℕ) → v < g.places → st.mark v ≡ Settled → v ≢ u → (r : Arc) → In r (g.leaving v) → Fine s g st v r
  pub partly : (r : Arc) → In r (g.leaving u) → In r left ⊎ Fine s g st u r
  pub onward : (r : Arc) → In r left → In r (g.leaving u)

-- the arc r offers its head the total x. A seen head whose label is not dearer stays as it is
pub record Passed {C : Type 0} (s : Scale C) (st st' : State C) (r : Arc) (x : C) : Type 0 where
  pub seen : st.mark r.head ≢ Unseen
  pub fine : s.leq (st.label r.head) x ≡ true
  pub same : st' ≡ st

-- any other head is relabelled
pub record Relabelled {C : Type 0} (s : Scale C) (st st' : State C) (r : Arc) (x : C) : Type 0 where
  pub better : st.mark r.head ≢ Unseen → s.leq (st.label r.head) x ≡ false
  pub mark : st'.mark r.head ≡ seen_mark (st.mark r.head)
  pub label : st'.label r.head ≡ x
  pub into : st'.into r.head ≡ r
  pub others : (y : ℕ) → y ≢ r.head → (st'.mark y ≡ st.mark y) × (st'.label y ≡ st.label y) × (st'.into y ≡ st.into y)

abbrev pub Relaxed : {C : Type 0} → Scale C → State C → State C → Arc → C → Type 0
Relaxed s st st' r x = Passed s st st' r x ⊎ Relabelled s st st' r x

-- u is a waiting place with the least label
pub record First {C : Type 0} (s : Scale C) (n : ℕ) (st : State C) (u : ℕ) : Type 0 where
  pub within : u < n
  pub waiting : st.mark u ≡ Waiting
  pub least : (v : ℕ) → v < n → st.mark v ≡ Waiting → s.leq (st.label u) (st.label v) ≡ true
