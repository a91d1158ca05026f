-- How charges are joined and compared, and the laws of it.
use Rattle.std.specs.Prelude.{◌≡◌, Bool, true, false, List, [], ◌∷◌}

pub record Scale (C : Type 0) : Type 0 where
  pub neutral : C
  pub joined : C → C → C
  -- leq a b says that a is not dearer than b
  pub leq : C → C → Bool

pub record Associative {C : Type 0} (s : Scale C) : Type 0 where
  pub regroup : (a b c : C) → s.joined (s.joined a b) c ≡ s.joined a (s.joined b c)

-- the neutral charge changes nothing, on either side
pub record Neutral {C : Type 0} (s : Scale C) : Type 0 where
  pub left : (a : C) → s.joined s.neutral a ≡ a
  pub right : (a : C) → s.joined a s.neutral ≡ a

pub record Ordered {C : Type 0} (s : Scale C) : Type 0 where
  pub comparable : (a b : C) → s.leq a b ≡ false → s.leq b a ≡ true
  pub transitive : (a b c : C) → s.leq a b ≡ true → s.leq b c ≡ true → s.leq a c ≡ true
  pub antisymmetric : (a b : C) → s.leq a b ≡ true → s.leq b a ≡ true → a ≡ b

-- a join keeps the order, on either side
pub record Monotone {C : Type 0} (s : Scale C) : Type 0 where
  pub before : (a b c : C) → s.leq a b ≡ true → s.leq (s.joined c a) (s.joined c b) ≡ true
  pub after : (a b c : C) → s.leq a b ≡ true → s.leq (s.joined a c) (s.joined b c) ≡ true

-- no charge is dearer than what it is joined into
pub record Growing {C : Type 0} (s : Scale C) : Type 0 where
  pub first : (a b : C) → s.leq a (s.joined a b) ≡ true
  pub last : (a b : C) → s.leq a (s.joined b a) ≡ true

-- charges joined in order; the neutral one where there are none
abbrev pub total : {C : Type 0} → Scale C → List C → C
total s [] = s.neutral
total s (x ∷ xs) = s.joined x (total s xs)
