-- What constants declare, by the class of their type.
use Rattle.std.proofs.Common.{◌≡◌, ℕ, true, false, List, Option, Some, None, refl, sym, ap, ◌∙◌}
use Rattle.std.specs.Prelude.{not, is_some, is_none, option_map}
use Rattle.vhdl_tree.specs.Tree as t
use Rattle.vhdl_tree.specs.Tree.{Ident, Expr}
use Rattle.vhdl_names_rules.specs.declared.fault.NameProblem.TheVariants.{LeftOut}
use Rattle.vhdl_names_rules.specs.declared.kind.ElementKind.{ElementKind}
use Rattle.vhdl_names_rules.specs.units.Expressions.{Static, Range, StaticTest}
use Rattle.vhdl_names_rules.specs.units.Units as u
use Rattle.vhdl_names_rules.specs.units.Units.{Fixed, IntegerSubtype}
use Rattle.vhdl_names_rules.specs.Rules.{◌>>=◌, rule, if_any}
use Rattle.vhdl_names_rules.specs.Visibility as visibility
use Rattle.vhdl_names_rules.specs.Visibility.{Sight, Declared, Declares, declaration, declared_here, with_declared, with_variables, names_of, numbered, ranged, global_if, count_of, ranges_count}
use Rattle.vhdl_names_rules.specs.Expressions.{static}
use Rattle.vhdl_names_rules.specs.Subtypes as subtypes
use Rattle.vhdl_names_rules.specs.Subtypes.{Subtype, subtype, integers_of, integer_subtype, value_range, form_range, form_direction, fixed_value, declaring_literal, class_of}
use Rattle.vhdl_names_rules.specs.Declarations as rules
use Rattle.vhdl_names_rules.specs.Declarations.{within, within_variables, as_kind, static_test, single_expression, is_global, constant_is_global, constants_by, constants_in, constants, for_each}
use Rattle.vhdl_names_rules.specs.problems.Broken.{Broken, refused, unless}
use Rattle.vhdl_names_rules.specs.problems.Declarations.{of_single}
use Rattle.vhdl_names_rules.specs.problems.Subtypes as subtypes_broken
use Rattle.vhdl_names_rules.proofs.Telling.{IsKept, unless_kept}
use Rattle.vhdl_names_rules.proofs.kept.Values.{integer_subtype_kept}
use Rattle.vhdl_names_rules.proofs.kept.Keeping.{mapped}
use Rattle.vhdl_names_values.specs.Marking.{integers_with}
use Rattle.vhdl_names_values.proofs.Valued.{is_single}
use Rattle.vhdl_names_declarations.specs.declared.counts.Counts.{Counts}
use Rattle.vhdl_names_declarations.specs.Constants as c
use Rattle.vhdl_names_declarations.specs.Constants.{Constants, of_integers, of_truths, of_values}
use Rattle.vhdl_names_declarations.specs.Counts.{AreCounts}
use Rattle.vhdl_names_declarations.specs.Entered.{entering, entering_variables}
use Rattle.vhdl_names_declarations.proofs.Turns.{declares_all, enters}

abbrev integers_in : u.Integers → Option (ℕ × Range) → IntegerSubtype
integers_in base range = record { base = base; range = range }

module _ (inner : Sight) (before : List Declared) (d : t.Constants) (counts : Counts) (h : AreCounts counts before) where
  abbrev pub constants_of : Option Constants → Option (Declares u.Declaration)
  constants_of o = declares_all counts (names_of d.names) c.standing (c.declarations d.names) o

  -- ---- integers

  abbrev integers_from : ℕ → IntegerSubtype → Expr → Static → Option (Declares u.Declaration)
  integers_from number type e value = Some (record {
    declared = global_if (constant_is_global inner d e) (numbered visibility.integer_constant number (names_of d.names));
    analysed = for_each (λ n. u.Declaration.integer (rules.told_at type n e) type value) d.names;
  })

  abbrev typed_integers : IntegerSubtype → Expr → Static → Constants
  typed_integers type e value = record { value = of_integers (c.told_at type e) type value; is_global = constant_is_global inner d e }

  same_bytes : (base : u.Integers) (range : Option (ℕ × Range)) (e : Expr) (value : Static) →
      integers_from counts.integers (integers_in base range) e value ≡ constants_of (Some (typed_integers (integers_in base range) e value))
  same_bytes (u.of_type w) None e value = refl
  same_bytes (u.of_type w) (Some r) e value = refl
  same_bytes (u.of_range k) None e value = refl
  same_bytes (u.of_range k) (Some r) e value = refl

  module _ (base : u.Integers) (range : Option (ℕ × Range)) where
    integer_last : (e : Expr) (o : Option Static) → (o >>= λ value. integers_from (count_of visibility.is_integer_constant before) (integers_in base range) e value)
        ≡ constants_of (o >>= λ value. Some (typed_integers (integers_in base range) e value))
    integer_last e None = refl
    integer_last e (Some value) = ap (λ n. integers_from n (integers_in base range) e value) (sym h.integers) ∙ same_bytes base range e value

    integer_next : (o : Option Expr) → (o >>= λ e. (static inner e >>= λ value. integers_from (count_of visibility.is_integer_constant before) (integers_in base range) e value))
        ≡ constants_of (o >>= λ e. (static inner e >>= λ value. Some (typed_integers (integers_in base range) e value)))
    integer_next None = refl
    integer_next (Some e) = integer_last e (static inner e)

  integers_case : (mark : Declared) → declaration inner d.subtype.mark.text ≡ Some mark → constants_by inner before d subtypes.integers ≡ constants_of (integers_of mark >>= λ base. c.integer inner base d)
  unfolding integer_subtype
  integers_case mark is =
      ap (λ o. (if_any (value_range inner) d.subtype.constraint >>= λ range. (o >>= λ m. (integers_of m >>= λ base. Some (integers_in base range))))
      >>= λ type. (single_expression d.value >>= λ e. (static inner e >>= λ value. integers_from (count_of visibility.is_integer_constant before) type e value))) is
      ∙ turned (if_any (value_range inner) d.subtype.constraint) (integers_of mark)
    where
      turned : (r : Option (Option (ℕ × Range))) (b : Option u.Integers) →
          ((r >>= λ range. (b >>= λ base. Some (integers_in base range))) >>= λ type. (single_expression d.value >>= λ e. (static inner e >>= λ value. integers_from (count_of visibility.is_integer_constant before) type e value)))
          ≡ constants_of (b >>= λ base. (option_map (integers_in base) r >>= λ type. (single_expression d.value >>= λ e. (static inner e >>= λ value. Some (typed_integers type e value)))))
      turned None None = refl
      turned None (Some base) = refl
      turned (Some range) None = refl
      turned (Some range) (Some base) = integer_next base range (single_expression d.value)

  -- ---- booleans

  abbrev truths_from : ℕ → Expr → StaticTest → Option (Declares u.Declaration)
  truths_from number e value = Some (record {
    declared = global_if (constant_is_global inner d e) (numbered visibility.boolean_constant number (names_of d.names));
    analysed = for_each (λ n. u.Declaration.truth n.at value) d.names;
  })

  abbrev typed_truths : Expr → StaticTest → Constants
  typed_truths e value = record { value = of_truths value; is_global = constant_is_global inner d e }

  booleans_case : constants_by inner before d subtypes.booleans ≡ constants_of (c.boolean inner d)
  booleans_case = first (rule LeftOut (not (is_some d.subtype.constraint)))
    where
      last : (e : Expr) (o : Option StaticTest) → (o >>= λ value. truths_from (count_of visibility.is_integer_constant before) e value) ≡ constants_of (o >>= λ value. Some (typed_truths e value))
      last e None = refl
      last e (Some value) = ap (λ n. truths_from n e value) (sym h.integers)

      next : (o : Option Expr) → (o >>= λ e. (static_test inner e >>= λ value. truths_from (count_of visibility.is_integer_constant before) e value))
          ≡ constants_of (o >>= λ e. (static_test inner e >>= λ value. Some (typed_truths e value)))
      next None = refl
      next (Some e) = last e (static_test inner e)

      first : (o : Option (Unit {0})) → (o >>= λ _. (single_expression d.value >>= λ e. (static_test inner e >>= λ value. truths_from (count_of visibility.is_integer_constant before) e value)))
          ≡ constants_of (o >>= λ _. (single_expression d.value >>= λ e. (static_test inner e >>= λ value. Some (typed_truths e value))))
      first None = refl
      first (Some x) = next (single_expression d.value)

  -- ---- the nine values

  abbrev values_from : ℕ → ℕ → Subtype → ElementKind → Fixed → Option (Declares u.Declaration)
  values_from number ranges s kind value = Some (record {
    declared = global_if (is_global inner d.subtype) (ranged (form_direction s.form) ranges (numbered (λ k. visibility.constant k kind (declaring_literal value)) number (names_of d.names)));
    analysed = for_each (λ n. u.Declaration.constant n.at s.form value) d.names;
  })

  abbrev typed_values : Subtype → ElementKind → Fixed → Constants
  typed_values s kind value = record { value = of_values kind s.form value; is_global = is_global inner d.subtype }

  others_case : constants_by inner before d subtypes.others ≡ constants_of (c.other inner d)
  others_case = first (subtype inner d.subtype)
    where
      last : (s : Subtype) (kind : ElementKind) (o : Option Fixed) → (o >>= λ value. values_from (count_of visibility.is_constant before) (ranges_count before) s kind value)
          ≡ constants_of (o >>= λ value. Some (typed_values s kind value))
      last s kind None = refl
      last s kind (Some value) =
          ap (λ n. values_from n (ranges_count before) s kind value) (sym h.constants) ∙ ap (λ r. values_from counts.constants r s kind value) (sym h.ranges)

      next : (s : Subtype) (o : Option ElementKind) → (o >>= λ kind. (fixed_value inner s.type (form_range s.form) d.value >>= λ value. values_from (count_of visibility.is_constant before) (ranges_count before) s kind value))
          ≡ constants_of (o >>= λ kind. (fixed_value inner s.type (form_range s.form) d.value >>= λ value. Some (typed_values s kind value)))
      next s None = refl
      next s (Some kind) = last s kind (fixed_value inner s.type (form_range s.form) d.value)

      first : (o : Option Subtype) → (o >>= λ s. (as_kind s.type >>= λ kind. (fixed_value inner s.type (form_range s.form) d.value >>= λ value. values_from (count_of visibility.is_constant before) (ranges_count before) s kind value)))
          ≡ constants_of (o >>= λ s. (as_kind s.type >>= λ kind. (fixed_value inner s.type (form_range s.form) d.value >>= λ value. Some (typed_values s kind value))))
      first None = refl
      first (Some s) = next s (as_kind s.type)

  -- ---- all

  pub constants_are : constants_in inner before d ≡ constants_of (c.constant inner d)
  unfolding constants_in
  constants_are = go (declaration inner d.subtype.mark.text) refl
    where
      by : (mark : Declared) → declaration inner d.subtype.mark.text ≡ Some mark → (k : subtypes.TypeClass) → constants_by inner before d k ≡ constants_of (c.by_class inner d mark k)
      by mark is subtypes.integers = integers_case mark is
      by mark is subtypes.booleans = booleans_case
      by mark is subtypes.others = others_case

      go : (o : Option Declared) → declaration inner d.subtype.mark.text ≡ o →
          (option_map (λ (x : Declared). x.meaning) o >>= λ mark. constants_by inner before d (class_of mark)) ≡ constants_of (o >>= λ mark. c.by_class inner d mark (class_of mark.meaning))
      go None is = refl
      go (Some mark) is = by mark is (class_of mark.meaning)

-- of a region, and of a process
pub constants_is : (s : Sight) (d : t.Constants) (counts : Counts) → AreCounts counts s.region →
    entering constants s d ≡ (declares_all counts (names_of d.names) c.standing (c.declarations d.names) (c.constant (within s d.names) d) >>= enters (λ s. s.region) with_declared s)
constants_is s d counts h = ap (λ o. o >>= enters (λ s. s.region) with_declared s) (constants_are (within s d.names) s.region d counts h)

pub process_constants_is : (s : Sight) (d : t.Constants) (counts : Counts) → AreCounts counts (declared_here s) →
    entering_variables c.of_process s d ≡ (declares_all counts (names_of d.names) c.standing (c.declarations d.names) (c.constant (within_variables s d.names) d) >>= enters (λ s. s.variables) with_variables s)
process_constants_is s d counts h = ap (λ o. o >>= enters (λ s. s.variables) with_variables s) (constants_are (within_variables s d.names) (declared_here s) d counts h)

-- ---- what is told of them

-- of one expression it is told as of the value
pub of_single_is : (b : Expr → Broken) (v : t.Value) (e : Expr) → single_expression v ≡ Some e → b e ≡ of_single b v
of_single_is b v e h = sym (ap (of_single b) (is_single v e h))

-- what is told of a subtype of integers that is given
pub integers_kept : (s : Sight) (i : t.Subtype) (base : u.Integers) (type : IntegerSubtype) → integers_with s base i.constraint ≡ Some type → IsKept (subtypes_broken.integer_subtype s i)
integers_kept s i base type h =
    let m = mapped (integers_in base) (if_any (value_range s) i.constraint) type h in
    integer_subtype_kept s i m.value m.from

-- where a constraint stands behind booleans, and where none does
pub constrained : (mark : Ident) (o : Option t.Constraint) → is_some o ≡ true → unless LeftOut mark.at (is_none o) ≡ refused LeftOut mark.at
constrained mark None h = absurd cc
constrained mark (Some x) h = refl

pub unconstrained : (i : t.Subtype) → is_some i.constraint ≡ false → IsKept (subtypes_broken.boolean_subtype i)
unconstrained i h = unless_kept LeftOut i.mark.at (is_none i.constraint) (by i.constraint h)
  where
    by : (o : Option t.Constraint) → is_some o ≡ false → is_none o ≡ true
    by None h = refl
    by (Some x) h = absurd cc
