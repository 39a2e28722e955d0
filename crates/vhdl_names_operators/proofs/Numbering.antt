-- Operands that are integers, which a run may compute, and what stands beside them.
use Rattle.std.proofs.Common.{◌≡◌, ℕ, Bool, true, false, true≢false, if◌then◌else◌, Option, Some, None, Result, IfErr, refl, sym, ap, subst, ◌∙◌}
use Rattle.std.specs.Prelude.{option_map}
use Rattle.vhdl_values.specs.declared.kinds.Cmp.{Cmp}
use Rattle.vhdl_names_rules.specs.declared.kind.ElementKind.{ElementKind}
use Rattle.vhdl_names_rules.specs.declared.kind.ElementKind.TheVariants.{Element, Unsigned}
use Rattle.vhdl_names_rules.specs.declared.fault.NameFault.{NameFault}
use Rattle.vhdl_names_rules.specs.declared.fault.NameFault.TheVariants.{At}
use Rattle.vhdl_names_rules.specs.declared.fault.NameProblem.{NameProblem}
use Rattle.vhdl_names_rules.specs.declared.fault.NameProblem.TheVariants.{TypeMismatch, NotVisible}
use Rattle.vhdl_names_trees.specs.declared.vector.Vector as code
use Rattle.vhdl_names_trees.specs.declared.vector.Value as code_value
use Rattle.vhdl_names_trees.specs.declared.typed.Typed as code_typed
use Rattle.vhdl_names_trees.specs.declared.typed.Typed.TheVariants as t
use Rattle.vhdl_names_rules.specs.units.Expressions as u
use Rattle.vhdl_names_rules.specs.Rules.{◌>>=◌}
use Rattle.vhdl_names_rules.specs.Operators.{Typed, integer, computed, elements, enumerated, composite, truth, is_number, equality}
use Rattle.vhdl_names_rules.specs.problems.Broken.{Tells, refused}
use Rattle.vhdl_names_rules.specs.problems.Operators.{is_numeric}
use Rattle.vhdl_names_trees.specs.views.Expressions.{typed_view}
use Rattle.vhdl_names_rules.proofs.laws.Rules.{some_is}
use Rattle.vhdl_names_numbers.specs.declared.integer.Integer.{Integer}
use Rattle.vhdl_names_numbers.specs.declared.integer.Integer.TheVariants as i
use Rattle.vhdl_names_numbers.specs.Integers.{integer_view, integer_of, integers_of, integers_related, number_beside, beside_number}
use Rattle.vhdl_names_operators.specs.Steps.{numbers_of, found}
use Rattle.vhdl_names_operators.specs.Resolving.{is_plain}

-- ---- operands that are no integers

abbrev pub is_elements : Typed → Bool
is_elements (elements k x) = true
is_elements _ = false

abbrev pub is_enumerated : Typed → Bool
is_enumerated (enumerated d m x) = true
is_enumerated _ = false

pub no_elements : (x : code_typed.Typed) → ((k : ElementKind) (v : code.Vector) → x ≡ t.Elements k v → ⊥) → is_elements (typed_view x) ≡ false
no_elements (t.Elements k v) other = absurd (other k v refl)
no_elements x other = refl

pub no_enumerated : (x : code_typed.Typed) → ((number count : ℕ) (v : code_value.Value) → x ≡ t.Enumerated number count v → ⊥) → is_enumerated (typed_view x) ≡ false
no_enumerated (t.Enumerated number count v) other = absurd (other number count v refl)
no_enumerated x other = refl

-- the integer that an operand is
pub integer_same : (x a : Typed) → integer_of x ≡ Some a → x ≡ a
integer_same (integer s) a h = some_is (integer s) a h
integer_same (computed s) a h = some_is (computed s) a h
integer_same x a h = absurd cc

integer_alone : (x a : Typed) → integer_of x ≡ Some a → is_elements x ≡ false
integer_alone (elements k x) a h = absurd cc
integer_alone x a h = refl

-- ---- numbers of + - * and of < <= > >=

pub integer_beside : (numbers : Bool) (s : Integer) (k : ElementKind) (y : u.Vector) →
    numbers_of numbers (integer_view s) (elements k y) ≡ found numbers (is_number k) (integer_view s, elements Unsigned y)
integer_beside numbers (i.Static s) k y = refl
integer_beside numbers (i.Computed s) k y = refl

pub beside_integer : (numbers : Bool) (j : ElementKind) (x : u.Vector) (y b : Typed) → integer_of y ≡ Some b →
    numbers_of numbers (elements j x) y ≡ found numbers (is_number j) (elements Unsigned x, b)
beside_integer numbers j x (integer s) b h = ap (λ (y : Typed). found numbers (is_number j) (elements Unsigned x, y)) (some_is (integer s) b h)
beside_integer numbers j x (computed s) b h = ap (λ (y : Typed). found numbers (is_number j) (elements Unsigned x, y)) (some_is (computed s) b h)
beside_integer numbers j x y b h = absurd cc

pub beside_other : (numbers : Bool) (j : ElementKind) (x : u.Vector) (y : Typed) → is_elements y ≡ false → integer_of y ≡ None → numbers_of numbers (elements j x) y ≡ None
beside_other numbers j x (elements k y) e h = absurd (true≢false e)
beside_other numbers j x (integer s) e h = absurd cc
beside_other numbers j x (computed s) e h = absurd cc
beside_other numbers j x y e h = refl

integers_are : (numbers : Bool) (x y : Typed) → is_elements x ≡ false → is_elements y ≡ false → numbers_of numbers x y ≡ integers_of x y
integers_are numbers (elements j x) y e f = absurd (true≢false e)
integers_are numbers x (elements k y) e f = absurd (true≢false f)
integers_are numbers x y e f = refl

pub both_integers : (numbers : Bool) (x y a b : Typed) → integer_of x ≡ Some a → integer_of y ≡ Some b → numbers_of numbers x y ≡ Some (a, b)
both_integers numbers x y a b h g =
    integers_are numbers x y (integer_alone x a h) (integer_alone y b g)
    ∙ ap (λ (o : Option Typed). o >>= λ a. (integer_of y >>= λ b. Some (a, b))) h
    ∙ ap (λ (o : Option Typed). o >>= λ b. Some (a, b)) g

pub right_other : (numbers : Bool) (x y a : Typed) → integer_of x ≡ Some a → is_elements y ≡ false → integer_of y ≡ None → numbers_of numbers x y ≡ None
right_other numbers x y a h e g =
    integers_are numbers x y (integer_alone x a h) e
    ∙ ap (λ (o : Option Typed). o >>= λ a. (integer_of y >>= λ b. Some (a, b))) h
    ∙ ap (λ (o : Option Typed). o >>= λ b. Some (a, b)) g

pub left_other : (numbers : Bool) (x y : Typed) → is_elements x ≡ false → integer_of x ≡ None → numbers_of numbers x y ≡ None
left_other numbers (elements j x) y e h = absurd (true≢false e)
left_other numbers (integer s) y e h = absurd cc
left_other numbers (computed s) y e h = absurd cc
left_other numbers x y e h = refl

pub integers_beside : (numbers : Bool) (s : Integer) (y b : Typed) → integer_of y ≡ Some b → numbers_of numbers (integer_view s) y ≡ Some (integer_view s, b)
integers_beside numbers (i.Static s) y b h = both_integers numbers (integer_view (i.Static s)) y (integer_view (i.Static s)) b refl h
integers_beside numbers (i.Computed s) y b h = both_integers numbers (integer_view (i.Computed s)) y (integer_view (i.Computed s)) b refl h

pub no_integer_beside : (numbers : Bool) (s : Integer) (y : Typed) → is_elements y ≡ false → integer_of y ≡ None → numbers_of numbers (integer_view s) y ≡ None
no_integer_beside numbers (i.Static s) y e h = right_other numbers (integer_view (i.Static s)) y (integer_view (i.Static s)) refl e h
no_integer_beside numbers (i.Computed s) y e h = right_other numbers (integer_view (i.Computed s)) y (integer_view (i.Computed s)) refl e h

pub integer_numeric : (x a : Typed) → integer_of x ≡ Some a → is_numeric x ≡ true
integer_numeric (integer s) a h = refl
integer_numeric (computed s) a h = refl
integer_numeric x a h = absurd cc

pub other_numeric : (x : Typed) → is_elements x ≡ false → integer_of x ≡ None → is_numeric x ≡ false
other_numeric (elements k x) e h = absurd (true≢false e)
other_numeric (integer s) e h = absurd cc
other_numeric (computed s) e h = absurd cc
other_numeric x e h = refl

-- ---- what is told where operands are numbers, and where they aren't

pub numeric_told : {X : Type 0} (a b : Bool) (problem : NameProblem) (at : ℕ) (r : Result X NameFault) → a ≡ b → IfErr r (Tells (refused (if a then NotVisible else problem) at))
    → IfErr r (Tells (refused (if b then NotVisible else problem) at))
numeric_told a b problem at r e told = subst (λ v. IfErr r (Tells (refused (if v then NotVisible else problem) at))) e told

pub told_at : (b : Bool) (problem : NameProblem) (at : ℕ) (fault : NameFault) → b ≡ false → fault ≡ At problem at → Tells (refused (if b then NotVisible else problem) at) fault
told_at b problem at fault e h = subst (Tells (refused (if b then NotVisible else problem) at)) (sym h) (ap (λ x. refused (if x then NotVisible else problem) at) e)

pub mismatch_told : (at : ℕ) (fault : NameFault) → fault ≡ At TypeMismatch at → Tells (refused TypeMismatch at) fault
mismatch_told at fault h = subst (Tells (refused TypeMismatch at)) (sym h) refl

-- ---- = and /=

module _ (at : ℕ) (op : Cmp) (same : u.Value → u.Value → u.Test) where
  pub number_equals : (x : u.Vector) (y b : Typed) → integer_of y ≡ Some b → equality at op same (elements Unsigned x) y ≡ option_map truth (number_beside at op x b)
  number_equals x (integer s) b h = ap (λ (y : Typed). option_map truth (number_beside at op x y)) (some_is (integer s) b h)
  number_equals x (computed s) b h = ap (λ (y : Typed). option_map truth (number_beside at op x y)) (some_is (computed s) b h)
  number_equals x y b h = absurd cc

  pub no_number : (j : ElementKind) (x : u.Vector) (y b : Typed) → (j ≡ Unsigned → ⊥) → integer_of y ≡ Some b → equality at op same (elements j x) y ≡ None
  no_number Unsigned x y b not_unsigned h = absurd (not_unsigned refl)
  no_number j x (integer s) b not_unsigned h = refl
  no_number j x (computed s) b not_unsigned h = refl
  no_number j x y b not_unsigned h = absurd cc

  pub behind_elements : (j : ElementKind) (x : u.Vector) (y : Typed) → is_plain y ≡ true → is_elements y ≡ false → integer_of y ≡ None → equality at op same (elements j x) y ≡ None
  behind_elements j x (elements k y) plain e h = absurd (true≢false e)
  behind_elements j x (integer s) plain e h = absurd cc
  behind_elements j x (computed s) plain e h = absurd cc
  behind_elements j x (composite p es) plain e h = absurd (true≢false (sym plain))
  behind_elements Element x y plain e h = refl
  behind_elements j x y plain e h = refl

  pub equals_number : (s : Integer) (y : u.Vector) → equality at op same (integer_view s) (elements Unsigned y) ≡ option_map truth (beside_number at op (integer_view s) y)
  equals_number (i.Static s) y = refl
  equals_number (i.Computed s) y = refl

  pub equals_no_number : (s : Integer) (k : ElementKind) (y : u.Vector) → (k ≡ Unsigned → ⊥) → equality at op same (integer_view s) (elements k y) ≡ None
  equals_no_number s Unsigned y not_unsigned = absurd (not_unsigned refl)
  equals_no_number (i.Static s) k y not_unsigned = refl
  equals_no_number (i.Computed s) k y not_unsigned = refl

  pub integers_equal : (s : Integer) (y b : Typed) → integer_of y ≡ Some b → equality at op same (integer_view s) y ≡ integers_related at op (integer_view s) b
  integers_equal (i.Static s) (integer r) b h = ap (integers_related at op (integer_view (i.Static s))) (some_is (integer r) b h)
  integers_equal (i.Static s) (computed r) b h = ap (integers_related at op (integer_view (i.Static s))) (some_is (computed r) b h)
  integers_equal (i.Computed s) (integer r) b h = ap (integers_related at op (integer_view (i.Computed s))) (some_is (integer r) b h)
  integers_equal (i.Computed s) (computed r) b h = ap (integers_related at op (integer_view (i.Computed s))) (some_is (computed r) b h)
  integers_equal s y b h = absurd cc

  pub behind_integer : (s : Integer) (y : Typed) → is_elements y ≡ false → integer_of y ≡ None → equality at op same (integer_view s) y ≡ None
  behind_integer s (elements k y) e h = absurd (true≢false e)
  behind_integer s (integer r) e h = absurd cc
  behind_integer s (computed r) e h = absurd cc
  behind_integer (i.Static s) y e h = refl
  behind_integer (i.Computed s) y e h = refl

  pub before_any : (x y : Typed) → is_plain x ≡ true → is_elements x ≡ false → is_enumerated x ≡ false → integer_of x ≡ None → equality at op same x y ≡ None
  before_any (elements k x) y plain e d h = absurd (true≢false e)
  before_any (enumerated a m x) y plain e d h = absurd (true≢false d)
  before_any (composite p es) y plain e d h = absurd (true≢false (sym plain))
  before_any (integer s) y plain e d h = absurd cc
  before_any (computed s) y plain e d h = absurd cc
  before_any x y plain e d h = refl
