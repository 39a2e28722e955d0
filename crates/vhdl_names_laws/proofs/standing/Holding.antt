-- Bytes of which something holds, and types whose bytes are such.
use Rattle.std.proofs.Common.{ℕ, List, [], ◌∷◌, ◌++◌}
use Rattle.std.specs.List.{AllByRecursion, flat_map}
use Rattle.vhdl_names_rules.specs.units.Bytes.{static_bytes, range_bytes, index_bytes, computed_bytes, vector_bytes, value_bytes, test_bytes}
use Rattle.vhdl_names_rules.specs.Types as types
use Rattle.vhdl_names_rules.specs.Types.{TypedChoice, TypedElements}
use Rattle.vhdl_names_rules.specs.Operators as o
use Rattle.vhdl_names_rules.specs.Operators.{Typed}
use Rattle.vhdl_names_rules.specs.Names as n
use Rattle.vhdl_names_rules.specs.Names.{Suffix}
use Rattle.vhdl_names_laws.proofs.placed.Told.{all_of_both}

abbrev pub Hold : (ℕ → Type 0) → List ℕ → Type 0
Hold P = AllByRecursion P

pub hold_both : (P : ℕ → Type 0) (xs ys : List ℕ) → Hold P xs → Hold P ys → Hold P (xs ++ ys)
hold_both P xs ys h g = all_of_both P xs ys h g

pub first_part : (P : ℕ → Type 0) (xs ys : List ℕ) → Hold P (xs ++ ys) → Hold P xs
first_part P [] ys h = tt
first_part P (x ∷ xs) ys h = (h.0, first_part P xs ys h.1)

pub last_part : (P : ℕ → Type 0) (xs ys : List ℕ) → Hold P (xs ++ ys) → Hold P ys
last_part P [] ys h = h
last_part P (x ∷ xs) ys h = last_part P xs ys h.1

pub hold_each : {A : Type 0} (P : ℕ → Type 0) (f : A → List ℕ) (xs : List A) → AllByRecursion (λ x. Hold P (f x)) xs → Hold P (flat_map f xs)
hold_each P f [] h = tt
hold_each P f (x ∷ xs) h = hold_both P (f x) (flat_map f xs) h.0 (hold_each P f xs h.1)

-- ---- expressions and what follows names

abbrev pub ChoiceHolds : (ℕ → Type 0) → TypedChoice → Type 0
ChoiceHolds P (types.others at) = P at
ChoiceHolds P (types.place is_local x) = Hold P (index_bytes x)

abbrev mutual
  pub TypedHolds : (ℕ → Type 0) → Typed → Type 0
  TypedHolds P (o.integer s) = Hold P (static_bytes s)
  TypedHolds P (o.computed x) = Hold P (computed_bytes x)
  TypedHolds P (o.elements k x) = Hold P (vector_bytes x)
  TypedHolds P (o.enumerated e count x) = Hold P (value_bytes x)
  TypedHolds P (o.truth t) = Hold P (test_bytes t)
  TypedHolds P (o.interval r) = Hold P (range_bytes r)
  TypedHolds P (o.composite at es) = P at × ElementsHold P es

  -- the elements of an aggregate, the indexes that they are for, and where they start
  pub ElementsHold : (ℕ → Type 0) → TypedElements → Type 0
  ElementsHold P types.no_elements = Unit {0}
  ElementsHold P (types.element cs at x es) = AllByRecursion (ChoiceHolds P) cs × TypedHolds P x × ElementsHold P es × P at

abbrev pub SuffixHolds : (ℕ → Type 0) → Suffix → Type 0
SuffixHolds P n.plain = Unit {0}
SuffixHolds P (n.arguments b xs) = AllByRecursion (TypedHolds P) xs
SuffixHolds P (n.range r) = Hold P (range_bytes r)
SuffixHolds P (n.computed_range l direction r) = Hold P (computed_bytes l ++ computed_bytes r)
