-- Each constant, type and subtype fits with the declarations before it in sight (IEEE 1076-2008, 5.2.2, 6.3 and 6.4.2.2).
use Rattle.std.proofs.Common.{◌≡◌, ℕ, suc, ◌+◌, ◌<◌, ◌≤◌, Bool, true, false, not, cond, List, [], ◌∷◌, ◌++◌, length, Option, Some, None, refl, ap, sym, ◌∙◌, subst, arith, append_assoc}
use Rattle.std.specs.Prelude.{nat_lt, nat_le, is_some, if◌then◌else◌}
use Rattle.std.specs.List.{slice_get, AllByRecursion}
use Rattle.std.proofs.lemmas.Bool.{and_from, lt-ltb}
use Rattle.std.proofs.lemmas.List.{length-map}
use Rattle.vhdl_tree.specs.Tree as t
use Rattle.vhdl_tree.specs.Tree.{Ident}
use Rattle.vhdl_tree.specs.Pieces.{IsAny, IsList}
use Rattle.vhdl_tree.specs.declared.operator.Direction.{Direction}
use Rattle.vhdl_names_rules.specs.declared.kind.ElementKind.{ElementKind}
use Rattle.vhdl_names_rules.specs.declared.kind.ObjectType.TheVariants.{Elements}
use Rattle.vhdl_names_rules.specs.units.Expressions.{Range}
use Rattle.vhdl_names_rules.specs.units.Units as u
use Rattle.vhdl_names_rules.specs.units.Units.{Form, Fixed}
use Rattle.vhdl_names_rules.specs.Rules.{if_any}
use Rattle.vhdl_names_rules.specs.Visibility as visibility
use Rattle.vhdl_names_rules.specs.Visibility.{Name, Meaning, DeclaredRange, Declared, declare, names_of, count_of, ranges_count, Sight, declaration, meaning, Declares}
use Rattle.vhdl_names_rules.specs.Expressions.{static}
use Rattle.vhdl_names_rules.specs.Subtypes as subtypes
use Rattle.vhdl_names_rules.specs.Subtypes.{Subtype, marked, one_range, index_range, subtype, form_range, form_direction, integer_subtype, numbers_direction, TypeClass, class_of, fixed_value, declaring_literal}
use Rattle.vhdl_names_rules.specs.Declarations.{is_global, as_kind, single_expression, constant_is_global, static_test, told_at, integer_constants, boolean_constants, other_constants, constants_by, constants_in, if_ranged, is_open, others_declared, as_it_was, subtype_by, subtype_in, literals, enumeration_in}
use Rattle.vhdl_names_rules.specs.sound.Expressions.{Inside, static_fits, range_fits, static_test_fits, shape_of}
use Rattle.vhdl_names_rules.specs.sound.Units as w
use Rattle.vhdl_names_rules.specs.sound.Units.{form_fits, fixed_fits, subtype_fits, declaration_fits, with_declaration}
use Rattle.vhdl_names_laws.specs.Meanings.{Counts, kind_shape, MeaningFits, DeclaredFits, AllFit, IsInside}
use Rattle.vhdl_names_laws.proofs.Statics.{some_same, get_last, HasMore, more_of, keeps_all, keeps_before, same_numbers, static_more, literal_of_more, meaning_more, found}
use Rattle.vhdl_names_laws.proofs.Served.{served}
use Rattle.vhdl_names_laws.proofs.Expressions.{static_integer_fits}
use Rattle.vhdl_names_laws.proofs.More.{test_more}
use Rattle.vhdl_names_laws.proofs.Subtypes.{form_more, fixed_more, integer_subtype_more, subtype_is, form_range_fits, integer_subtype_is, fixed_value_fits, declaring_fits}
use Rattle.vhdl_names_laws.proofs.InOrder as r
use Rattle.vhdl_names_laws.proofs.InOrder.{range_at, next_range, declared_one}
use Rattle.vhdl_names_rules.proofs.laws.Rules.{comes, kept}
use Rattle.vhdl_names_laws.proofs.Known.{Place, AreCounted, IsKnown, IsUncounted, uncounted, known_more, known_one, counted_one, within, inside_within, last_form, form_counts, last_form_range, one_range_more, last_range, one_longer, one_more, ranges_more}
use Rattle.vhdl_names_laws.proofs.Ports.{elements_kind, more_constants, test_is}

abbrev pub DeclarationStep : Place → Inside → Sight → Declares u.Declaration → Type 0
DeclarationStep p = r.Step with_declaration declaration_fits p.with_more (IsKnown p)

-- ---- constants

more_integers : (i : Inside) (counts : Counts) → HasMore i (record i { integers = suc i.integers }) counts counts
more_integers i counts =
    more_of i (record i { integers = suc i.integers }) counts (record { generics = omega arith; integers = omega arith; ranges = omega arith; generates = omega arith; loops = omega arith })
    (keeps_all i.constants) (keeps_all i.ports) (keeps_all i.signals) (keeps_all i.variables)

module _ (p : Place) where
  -- one more constant among the integers
  integer_known : (f : ℕ → Meaning) → ((k : ℕ) → visibility.is_integer_constant (f k) ≡ true) → ((k n : ℕ) → cond (visibility.is_generic (f k)) (suc n) n ≡ n)
      → ((k n : ℕ) → cond (visibility.is_constant (f k)) (suc n) n ≡ n) → ((k n : ℕ) → cond (visibility.is_port (f k)) (suc n) n ≡ n) → ((k n : ℕ) → cond (visibility.is_signal (f k)) (suc n) n ≡ n)
      → ((k n : ℕ) → cond (visibility.is_variable (f k)) (suc n) n ≡ n) → ((k n : ℕ) → cond (visibility.is_enumeration_type (f k)) (suc n) n ≡ n)
      → ((i : Inside) (counts : Counts) (k : ℕ) → nat_lt k i.integers ≡ true → MeaningFits i counts (f k))
      → (g : Bool) (i : Inside) (counts : Counts) (sight : Sight) (n : Name) → IsKnown p i counts sight
      → IsKnown p (record i { integers = suc i.integers }) counts
      (p.with_more sight (declared_one g None (ranges_count (p.before sight)) (f (count_of visibility.is_integer_constant (p.before sight))) n ∷ []))
  integer_known f is generic constant port signal variable enumeration fits g i counts sight n k =
      let ds = p.before sight in
      let b = count_of visibility.is_integer_constant ds in
      let j = record i { integers = suc i.integers } in
      let d = declared_one g None (ranges_count ds) (f b) n in
      let e = k.counted.integers in
      known_one p i j counts sight d (more_integers i counts) refl refl (record { meaning = fits j counts b (lt-ltb b (suc i.integers) (omega (arith, e))); range = tt })
      (counted_one i j counts counts ds d (generic b i.generics) (ap (λ b. cond b (suc i.integers) i.integers) (is b)) refl (constant b (length i.constants)) (port b (length i.ports)) (signal b (length i.signals))
      (variable b (length i.variables)) (enumeration b (length counts)) k.counted) k

  integers_step : (i : Inside) (counts : Counts) (sight : Sight) (d : t.Constants) (x : Declares u.Declaration) → IsKnown p i counts sight
      → integer_constants (within p sight d.names) (p.before sight) d ≡ Some x → DeclarationStep p i sight x
  integers_step i counts sight d x h q =
      let inner = within p sight d.names in
      let in' = served i counts inner (inside_within p i counts sight d.names h.inside) in
      let a = comes (integer_subtype inner d.subtype) _ x q in
      let b = comes (single_expression d.value) _ x a.rest in
      let c = comes (static inner b.value) _ x b.rest in
      let make : Ident → u.Declaration = λ n. u.Declaration.integer (told_at a.value n b.value) a.value c.value in
      let global = constant_is_global inner d b.value in
      subst (DeclarationStep p i sight) (some_same _ x c.rest)
      (r.names_step with_declaration declaration_fits p.with_more (IsKnown p) p.none p.twice global None visibility.integer_constant
      (λ (s : Sight). count_of visibility.is_integer_constant (p.before s)) (λ (s : Sight). ranges_count (p.before s)) make
      (λ i counts. (subtype_fits i a.value ≡ true) × (static_fits i c.value ≡ true))
      (λ i counts sight n ok k. integer_known visibility.integer_constant (λ k. refl) (λ k n. refl) (λ k n. refl) (λ k n. refl) (λ k n. refl) (λ k n. refl) (λ k n. refl) (λ i counts k l. l) global i counts sight n.text k)
      (λ i counts n ok. and_from (subtype_fits i a.value) (static_fits i c.value) ok.0 ok.1)
      (λ i counts n ok. (
        integer_subtype_more i (record i { integers = suc i.integers }) (more_integers i counts).numbers a.value ok.0,
        static_more i (record i { integers = suc i.integers }) (more_integers i counts).numbers c.value ok.1,
      ))
      (λ sight n. one_more p visibility.is_integer_constant sight (declared_one global None (ranges_count (p.before sight)) (visibility.integer_constant (count_of visibility.is_integer_constant (p.before sight))) n.text) refl)
      (λ sight n. ranges_more p sight global None (ranges_count (p.before sight)) (visibility.integer_constant (count_of visibility.is_integer_constant (p.before sight))) n.text)
      d.names i counts sight (integer_subtype_is i counts inner d.subtype a.value in' a.is, static_integer_fits i counts inner b.value c.value in' c.is) h)

  booleans_step : (i : Inside) (counts : Counts) (sight : Sight) (d : t.Constants) (x : Declares u.Declaration) → IsKnown p i counts sight
      → boolean_constants (within p sight d.names) (p.before sight) d ≡ Some x → DeclarationStep p i sight x
  booleans_step i counts sight d x h q =
      let inner = within p sight d.names in
      let in' = served i counts inner (inside_within p i counts sight d.names h.inside) in
      let a = kept (not (is_some d.subtype.constraint)) _ x q in
      let b = comes (single_expression d.value) _ x a.1 in
      let c = comes (static_test inner b.value) _ x b.rest in
      let make : Ident → u.Declaration = λ n. u.Declaration.truth n.at c.value in
      let global = constant_is_global inner d b.value in
      subst (DeclarationStep p i sight) (some_same _ x c.rest)
      (r.names_step with_declaration declaration_fits p.with_more (IsKnown p) p.none p.twice global None visibility.boolean_constant
      (λ (s : Sight). count_of visibility.is_integer_constant (p.before s)) (λ (s : Sight). ranges_count (p.before s)) make
      (λ i counts. static_test_fits i c.value ≡ true)
      (λ i counts sight n ok k. integer_known visibility.boolean_constant (λ k. refl) (λ k n. refl) (λ k n. refl) (λ k n. refl) (λ k n. refl) (λ k n. refl) (λ k n. refl) (λ i counts k l. l) global i counts sight n.text k)
      (λ i counts n ok. ok)
      (λ i counts n ok. test_more i (record i { integers = suc i.integers }) (more_integers i counts).numbers c.value ok)
      (λ sight n. one_more p visibility.is_integer_constant sight (declared_one global None (ranges_count (p.before sight)) (visibility.boolean_constant (count_of visibility.is_integer_constant (p.before sight))) n.text) refl)
      (λ sight n. ranges_more p sight global None (ranges_count (p.before sight)) (visibility.boolean_constant (count_of visibility.is_integer_constant (p.before sight))) n.text)
      d.names i counts sight (test_is i counts inner in' b.value c.value c.is) h)

  others_step : (i : Inside) (counts : Counts) (sight : Sight) (d : t.Constants) (x : Declares u.Declaration) → IsKnown p i counts sight
      → other_constants (within p sight d.names) (p.before sight) d ≡ Some x → DeclarationStep p i sight x
  others_step i counts sight d x h q =
      let inner = within p sight d.names in
      let in' = served i counts inner (inside_within p i counts sight d.names h.inside) in
      let a = comes (subtype inner d.subtype) _ x q in
      let b = comes (as_kind a.value.type) _ x a.rest in
      let c = comes (fixed_value inner a.value.type (form_range a.value.form) d.value) _ x b.rest in
      let f = subtype_is i counts inner d.subtype a.value in' a.is in
      let shape = f.shape ∙ elements_kind a.value.type b.value b.is in
      let v = fixed_value_fits i counts inner a.value.type (form_range a.value.form) d.value c.value in' (form_range_fits i a.value.form f.form) f.counted c.is in
      let make : Ident → u.Declaration = λ n. u.Declaration.constant n.at a.value.form c.value in
      let global = is_global inner d.subtype in
      let direction = form_direction a.value.form in
      subst (DeclarationStep p i sight) (some_same _ x c.rest)
      (r.names_step with_declaration declaration_fits p.with_more (IsKnown p) p.none p.twice global direction (λ k. visibility.constant k b.value (declaring_literal c.value))
      (λ (s : Sight). count_of visibility.is_constant (p.before s)) (λ (s : Sight). ranges_count (p.before s)) make
      (λ i counts. (form_fits i a.value.form ≡ true) × (fixed_fits i (shape_of a.value.form) c.value ≡ true))
      (λ i counts sight n ok k. single global i counts sight n.text a.value.form b.value c.value shape (ap (λ z. fixed_fits i z c.value) (sym shape) ∙ ok.1) k)
      (λ i counts n ok. and_from (form_fits i a.value.form) (fixed_fits i (shape_of a.value.form) c.value) ok.0 ok.1)
      (λ i counts n ok. (
        form_more i (w.with_constant i a.value.form) (more_constants i counts a.value.form).numbers a.value.form ok.0,
        fixed_more i (w.with_constant i a.value.form) (more_constants i counts a.value.form).numbers (keeps_before i.constants (a.value.form ∷ [])) (shape_of a.value.form) c.value ok.1,
      ))
      (λ sight n. one_more p visibility.is_constant sight (declared_one global direction (ranges_count (p.before sight)) (visibility.constant (count_of visibility.is_constant (p.before sight)) b.value (declaring_literal c.value)) n.text) refl)
      (λ sight n. ranges_more p sight global direction (ranges_count (p.before sight)) (visibility.constant (count_of visibility.is_constant (p.before sight)) b.value (declaring_literal c.value)) n.text)
      d.names i counts sight (f.form, ap (λ z. fixed_fits i z c.value) f.shape ∙ v) h)
    where
      single : (g : Bool) (i : Inside) (counts : Counts) (sight : Sight) (n : Name) (form : Form) (kind : ElementKind) (v : Fixed) → shape_of form ≡ kind_shape kind → fixed_fits i (kind_shape kind) v ≡ true
          → IsKnown p i counts sight → IsKnown p (w.with_constant i form) counts
          (p.with_more sight (declared_one g (form_direction form) (ranges_count (p.before sight)) (visibility.constant (count_of visibility.is_constant (p.before sight)) kind (declaring_literal v)) n ∷ []))
      single g i counts sight n form kind v s f k =
          let ds = p.before sight in
          let m = ranges_count ds in
          let b = count_of visibility.is_constant ds in
          let d = declared_one g (form_direction form) m (visibility.constant b kind (declaring_literal v)) n in
          let j = w.with_constant i form in
          known_one p i j counts sight d (more_constants i counts form) refl refl
          (record {
            meaning = (last_form counts (Elements kind) form i.constants b k.counted.constants s tt, literal_of_more i j kind (declaring_literal v) (declaring_fits i kind v f));
            range = last_form_range j form m i.ranges refl k.counted.ranges;
          })
          (counted_one i j counts counts ds d refl refl (form_counts form m i.ranges) (sym (one_longer i.constants form)) refl refl refl refl k.counted) k

  constants_by_step : (i : Inside) (counts : Counts) (sight : Sight) (d : t.Constants) (class : TypeClass) (x : Declares u.Declaration) → IsKnown p i counts sight
      → constants_by (within p sight d.names) (p.before sight) d class ≡ Some x → DeclarationStep p i sight x
  constants_by_step i counts sight d subtypes.integers x h q = integers_step i counts sight d x h q
  constants_by_step i counts sight d subtypes.booleans x h q = booleans_step i counts sight d x h q
  constants_by_step i counts sight d subtypes.others x h q = others_step i counts sight d x h q

  pub constants_step : (i : Inside) (counts : Counts) (sight : Sight) (d : t.Constants) (x : Declares u.Declaration) → IsKnown p i counts sight
      → constants_in (within p sight d.names) (p.before sight) d ≡ Some x → DeclarationStep p i sight x
  unfolding constants_in
  constants_step i counts sight d x h q =
      let a = comes (meaning (within p sight d.names) d.subtype.mark.text) _ x q in
      constants_by_step i counts sight d (class_of a.value) x h a.rest

  -- ---- subtypes

  more_counts : (i : Inside) (counts : Counts) (count : ℕ) → HasMore i i counts (counts ++ count ∷ [])
  more_counts i counts count = record {
    numbers = same_numbers i;
    constants = keeps_all i.constants;
    ports = keeps_all i.ports;
    signals = keeps_all i.signals;
    variables = keeps_all i.variables;
    counts = keeps_before counts (count ∷ []);
  }

  abbrev with_range : Inside → Option Direction → Inside
  with_range i direction = record i { ranges = next_range direction i.ranges }

  next_after : (direction : Option Direction) (n : ℕ) → n ≤ next_range direction n
  next_after None n = omega arith
  next_after (Some d) n = omega arith

  more_ranges : (i : Inside) (direction : Option Direction) (counts more : Counts) → HasMore i i counts more → HasMore i (with_range i direction) counts more
  more_ranges i direction counts more h = record {
    numbers = record { generics = omega arith; integers = omega arith; ranges = next_after direction i.ranges; generates = omega arith; loops = omega arith };
    constants = h.constants;
    ports = h.ports;
    signals = h.signals;
    variables = h.variables;
    counts = h.counts;
  }

  abbrev is_type : Meaning → Bool
  is_type (visibility.integer_type w) = true
  is_type visibility.boolean_type = true
  is_type (visibility.element_type b) = true
  is_type (visibility.vector_type k b) = true
  is_type (visibility.enumeration_type e count) = true
  is_type _ = false

  -- a type by one more name, with a range or without
  record TypeKnown (i : Inside) (sight : Sight) (d : Declared) : Type 0 where
    more : Counts
    known : IsKnown p i more (p.with_more sight (d ∷ []))

  module _ (i : Inside) (counts : Counts) (sight : Sight) (h : IsKnown p i counts sight) (g : Bool) (direction : Option Direction) (n : Name) where
    abbrev named : Meaning → Declared
    named m = declared_one g direction (ranges_count (p.before sight)) m n

    abbrev ranged_inside : Inside
    ranged_inside = with_range i direction

    range_is : cond (is_some (range_at direction (ranges_count (p.before sight)))) (suc i.ranges) i.ranges ≡ next_range direction i.ranges
    range_is = one_range_more direction (ranges_count (p.before sight)) i.ranges

    type_more : (m : Meaning) (more : Counts) → HasMore i i counts more → MeaningFits i counts m → AreCounted ranged_inside more (p.before sight ++ named m ∷ [])
        → TypeKnown ranged_inside sight (named m)
    type_more m more c f k = record {
      more = more;
      known =
          known_more p i ranged_inside counts more sight (named m ∷ []) (more_ranges i direction counts more c) refl refl (
            record {
              meaning = meaning_more i ranged_inside counts more (more_ranges i direction counts more c) m f;
              range = last_range ranged_inside direction (ranges_count (p.before sight)) (ap (next_range direction) (sym h.counted.ranges));
            },
            tt,
          ) k h;
    }

    same_counts : HasMore i i counts counts
    same_counts = more_of i i counts (same_numbers i) (keeps_all i.constants) (keeps_all i.ports) (keeps_all i.signals) (keeps_all i.variables)

    type_known : (m : Meaning) → is_type m ≡ true → MeaningFits i counts m → TypeKnown ranged_inside sight (named m)
    type_known (visibility.integer_type b) is f =
        type_more (visibility.integer_type b) counts same_counts f
        (counted_one i ranged_inside counts counts (p.before sight) (named (visibility.integer_type b)) refl refl range_is refl refl refl refl refl h.counted)
    type_known visibility.boolean_type is f =
        type_more visibility.boolean_type counts same_counts f
        (counted_one i ranged_inside counts counts (p.before sight) (named visibility.boolean_type) refl refl range_is refl refl refl refl refl h.counted)
    type_known (visibility.element_type b) is f =
        type_more (visibility.element_type b) counts same_counts f
        (counted_one i ranged_inside counts counts (p.before sight) (named (visibility.element_type b)) refl refl range_is refl refl refl refl refl h.counted)
    type_known (visibility.vector_type k b) is f =
        type_more (visibility.vector_type k b) counts same_counts f
        (counted_one i ranged_inside counts counts (p.before sight) (named (visibility.vector_type k b)) refl refl range_is refl refl refl refl refl h.counted)
    type_known (visibility.enumeration_type e count) is f =
        type_more (visibility.enumeration_type e count) (counts ++ count ∷ []) (more_counts i counts count) f
        (counted_one i ranged_inside counts (counts ++ count ∷ []) (p.before sight) (named (visibility.enumeration_type e count)) refl refl range_is refl refl refl refl (sym (one_longer counts count)) h.counted)
    type_known _ is f = absurd cc

  -- what is declared of it, if it has a range
  type_step : (i : Inside) (counts : Counts) (sight : Sight) (g : Bool) (direction : Option Direction) (n : Name) (m : Meaning) (ds : List u.Declaration) → IsKnown p i counts sight
      → is_type m ≡ true → MeaningFits i counts m → r.all_fit with_declaration declaration_fits p.with_more (IsKnown p) i ds ≡ true
      → r.all_added with_declaration declaration_fits p.with_more (IsKnown p) i ds ≡ with_range i direction
      → DeclarationStep p i sight (record { declared = r.declared_all g direction (ranges_count (p.before sight)) (λ k. m) 0 (record { at = 0; text = n } ∷ []); analysed = ds })
  type_step i counts sight g None n m ds h is f fit added =
      let k = type_known i counts sight h g None n m is f in
      record { more = k.more; fit = fit; after = subst (λ j. IsKnown p j k.more (p.with_more sight (declared_one g None (ranges_count (p.before sight)) m n ∷ []))) (sym added) k.known }
  type_step i counts sight g (Some e) n m ds h is f fit added =
      let k = type_known i counts sight h g (Some e) n m is f in
      record { more = k.more; fit = fit; after = subst (λ j. IsKnown p j k.more (p.with_more sight (declared_one g (Some e) (ranges_count (p.before sight)) m n ∷ []))) (sym added) k.known }

  module _ (i : Inside) (counts : Counts) (sight : Sight) (d : t.SubtypeDeclaration) (h : IsKnown p i counts sight) where
    abbrev inner : Sight
    inner = within p sight (d.name ∷ [])

    inside_inner : IsInside i counts inner
    inside_inner = inside_within p i counts sight (d.name ∷ []) h.inside

    -- with a range of integers
    integers_added : (mark : Declared) (s : u.IntegerSubtype) → is_type mark.meaning ≡ true → MeaningFits i counts mark.meaning → subtype_fits i s ≡ true
        → DeclarationStep p i sight (record {
          declared = r.declared_all (is_global inner d.subtype) (numbers_direction mark s) (ranges_count (p.before sight)) (λ k. mark.meaning) 0 (d.name ∷ []);
          analysed = if_ranged (λ x. u.integer_subtype d.name.at s) (numbers_direction mark s);
        })
    integers_added mark s is f fits = by (numbers_direction mark s)
      where
        by : (o : Option Direction) → DeclarationStep p i sight (record {
          declared = r.declared_all (is_global inner d.subtype) o (ranges_count (p.before sight)) (λ k. mark.meaning) 0 (d.name ∷ []);
          analysed = if_ranged (λ x. u.integer_subtype d.name.at s) o;
        })
        by None = type_step i counts sight (is_global inner d.subtype) None d.name.text mark.meaning [] h is f refl refl
        by (Some e) =
            type_step i counts sight (is_global inner d.subtype) (Some e) d.name.text mark.meaning (u.integer_subtype d.name.at s ∷ []) h is f
            (and_from (subtype_fits i s) true fits refl) refl

    -- with a range of indexes
    vectors_added : (mark : Declared) (form : Form) → is_type mark.meaning ≡ true → MeaningFits i counts mark.meaning → form_fits i form ≡ true
        → DeclarationStep p i sight (record {
          declared = r.declared_all (is_global inner d.subtype) (form_direction form) (ranges_count (p.before sight)) (λ k. mark.meaning) 0 (d.name ∷ []);
          analysed = if_ranged (u.vector_subtype d.name.at) (form_range form);
        })
    vectors_added mark (u.vector x) is f fits =
        type_step i counts sight (is_global inner d.subtype) (Some x.direction) d.name.text mark.meaning (u.vector_subtype d.name.at x ∷ []) h is f (and_from (range_fits i x) true fits refl) refl
    vectors_added mark _ is f fits = type_step i counts sight (is_global inner d.subtype) None d.name.text mark.meaning [] h is f refl refl

    -- of which class a type is
    of_integers : (m : Meaning) → class_of m ≡ subtypes.integers → is_type m ≡ true
    of_integers (visibility.integer_type b) e = refl
    of_integers _ e = absurd cc

    of_booleans : (m : Meaning) → class_of m ≡ subtypes.booleans → is_type m ≡ true
    of_booleans visibility.boolean_type e = refl
    of_booleans _ e = absurd cc

    of_mark : (m : Meaning) (y : Option Range) (s : Subtype) → marked m y ≡ Some s → is_type m ≡ true
    of_mark (visibility.element_type b) y s q = refl
    of_mark (visibility.vector_type k b) y s q = refl
    of_mark (visibility.enumeration_type e count) y s q = refl
    of_mark _ y s q = absurd cc

    others_by : (mark : Declared) (x : Declares u.Declaration) → MeaningFits i counts mark.meaning → declaration inner d.subtype.mark.text ≡ Some mark
        → others_declared inner (p.before sight) d mark ≡ Some x → DeclarationStep p i sight x
    unfolding subtype
    others_by mark x f m q =
        let a = comes (subtype inner d.subtype) _ x q in
        let s = subtype_is i counts inner d.subtype a.value (served i counts inner inside_inner) a.is in
        let c = comes (if_any (index_range inner) d.subtype.constraint) _ a.value a.is in
        let e = comes (declaration inner d.subtype.mark.text) _ a.value c.rest in
        let y = comes (one_range e.value.range c.value) _ a.value e.rest in
        let same : e.value ≡ mark = some_same e.value mark (sym e.is ∙ m) in
        let is : is_type mark.meaning ≡ true = subst (λ (d : Declared). is_type d.meaning ≡ true) same (of_mark e.value.meaning y.value a.value y.rest) in
        subst (DeclarationStep p i sight) (some_same _ x a.rest) (vectors_added mark a.value.form is f s.form)

    as_before : (mark : Declared) (x : Declares u.Declaration) → is_type mark.meaning ≡ true → MeaningFits i counts mark.meaning → as_it_was inner (p.before sight) d mark ≡ Some x → DeclarationStep p i sight x
    as_before mark x is f q =
        subst (DeclarationStep p i sight) (some_same _ x q) (type_step i counts sight (is_global inner d.subtype) None d.name.text mark.meaning [] h is f refl refl)

    open_type : (m : Meaning) (r : Option DeclaredRange) (name : Name) (g : Bool) → is_open (record { name = name; meaning = m; range = r; is_global = g }) d.subtype ≡ true → is_type m ≡ true
    open_type (visibility.vector_type k b) r name g e = refl
    open_type _ r name g e = absurd cc

    subtype_by_step : (mark : Declared) (class : TypeClass) (x : Declares u.Declaration) → class_of mark.meaning ≡ class → MeaningFits i counts mark.meaning → declaration inner d.subtype.mark.text ≡ Some mark
        → subtype_by inner (p.before sight) d mark class ≡ Some x → DeclarationStep p i sight x
    subtype_by_step mark subtypes.integers x e f m q =
        let s = comes (integer_subtype inner d.subtype) _ x q in
        subst (DeclarationStep p i sight) (some_same _ x s.rest)
        (integers_added mark s.value (of_integers mark.meaning e) f (integer_subtype_is i counts inner d.subtype s.value (served i counts inner inside_inner) s.is))
    subtype_by_step mark subtypes.booleans x e f m q =
        let a = kept (not (is_some d.subtype.constraint)) _ x q in
        as_before mark x (of_booleans mark.meaning e) f a.1
    subtype_by_step mark subtypes.others x e f m q = by (is_open mark d.subtype) refl q
      where
        by : (b : Bool) → is_open mark d.subtype ≡ b → (if b then as_it_was inner (p.before sight) d mark else others_declared inner (p.before sight) d mark) ≡ Some x → DeclarationStep p i sight x
        by true k q = as_before mark x (open_type mark.meaning mark.range mark.name mark.is_global k) f q
        by false k q = others_by mark x f m q

    pub subtype_step : (x : Declares u.Declaration) → subtype_in inner (p.before sight) d ≡ Some x → DeclarationStep p i sight x
    unfolding subtype_in
    subtype_step x q =
        let a = comes (declaration inner d.subtype.mark.text) _ x q in
        subtype_by_step a.value (class_of a.value.meaning) x refl (found i counts inner inside_inner d.subtype.mark.text a.value a.is).meaning a.is a.rest

  -- ---- enumerations

  literals_fit : (i : Inside) (counts : Counts) (e count k : ℕ) (ns : List Name) → k + length ns ≡ count → slice_get counts e ≡ Some count → AllFit i counts (literals e count k ns)
  literals_fit i counts e count k [] l h = tt
  literals_fit i counts e count k (n ∷ ns) l h = (record { meaning = (lt-ltb k count (omega (arith, l)), h); range = tt }, literals_fit i counts e count (suc k) ns (omega (arith, l)) h)

  literals_uncounted : (e count k : ℕ) (ns : List Name) → AllByRecursion IsUncounted (literals e count k ns)
  literals_uncounted e count k [] = tt
  literals_uncounted e count k (n ∷ ns) =
      (record { generics = refl; integers = refl; ranges = refl; constants = refl; ports = refl; signals = refl; variables = refl; enumerations = refl }, literals_uncounted e count (suc k) ns)

  -- an enumeration of the parser has a literal
  has_literal : (ns : List Ident) → IsList IsAny ns → 0 < length ns
  has_literal [] h = absurd h
  has_literal (n ∷ ns) h = omega arith

  enumeration_known : (i : Inside) (counts : Counts) (sight : Sight) (n : Name) (ns : List Ident) → IsList IsAny ns → nat_le (length ns) 256 ≡ true → IsKnown p i counts sight
      → IsKnown p i (counts ++ length ns ∷ [])
      (p.with_more sight (declare n (visibility.enumeration_type (count_of visibility.is_enumeration_type (p.before sight)) (length ns))
      ∷ literals (count_of visibility.is_enumeration_type (p.before sight)) (length ns) 0 (names_of ns)))
  enumeration_known i counts sight n ns some few k =
      let ds = p.before sight in
      let e = count_of visibility.is_enumeration_type ds in
      let count = length ns in
      let more = counts ++ count ∷ [] in
      let d = declare n (visibility.enumeration_type e count) in
      let at : slice_get more e ≡ Some count = ap (slice_get more) k.counted.enumerations ∙ get_last counts count in
      let all : length (names_of ns) ≡ count = length-map ns visibility.name_of in
      let fit : DeclaredFits i more d = record { meaning = (and_from (nat_lt 0 count) (nat_le count 256) (lt-ltb 0 count (has_literal ns some)) few, at); range = tt } in
      known_more p i i counts more sight (d ∷ literals e count 0 (names_of ns)) (more_counts i counts count) refl refl
      (fit, literals_fit i more e count 0 (names_of ns) (omega (arith, all)) at)
      (subst (AreCounted i more) (append_assoc ds (d ∷ []) (literals e count 0 (names_of ns)))
      (uncounted i more (ds ++ d ∷ []) (literals e count 0 (names_of ns)) (literals_uncounted e count 0 (names_of ns)) (counted_one i i counts more ds d refl refl refl refl refl refl refl (sym (one_longer counts count)) k.counted))) k

  pub enumeration_step : (i : Inside) (counts : Counts) (sight : Sight) (d : t.Enumeration) (x : Declares u.Declaration) → IsList IsAny d.literals → IsKnown p i counts sight
      → enumeration_in (p.before sight) d ≡ Some x → DeclarationStep p i sight x
  unfolding enumeration_in
  enumeration_step i counts sight d x some h q =
      let a = kept (nat_le (length d.literals) 256) _ x q in
      subst (DeclarationStep p i sight) (some_same _ x a.1)
      (record { more = counts ++ length d.literals ∷ []; fit = refl; after = enumeration_known i counts sight d.name.text d.literals some a.0 h })
