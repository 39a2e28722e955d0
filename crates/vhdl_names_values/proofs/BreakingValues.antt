-- What the value of a constant breaks first, form by form; names of objects, and subtype indications.
use Rattle.std.proofs.Common.{◌≡◌, ℕ, Bool, true, false, true≢false, List, [], ◌∷◌, Option, Some, None, Result, Ok, Err, IfErr, Box, Global, refl, sym, ap, ◌∙◌}
use Rattle.std.specs.Prelude.{is_some, option_map}
use Rattle.vhdl_values.specs.declared.scalar.Nine.{Nine}
use Rattle.vhdl_tree.specs.Tree as t
use Rattle.vhdl_tree.specs.View.{view}
use Rattle.vhdl_tree.specs.declared.expression.Expr.{Expr}
use Rattle.vhdl_tree.specs.declared.expression.Expr.TheVariants as x
use Rattle.vhdl_tree.specs.declared.expression.Chain.{Chain}
use Rattle.vhdl_names_rules.specs.declared.fault.NameFault.{NameFault}
use Rattle.vhdl_names_rules.specs.declared.fault.NameFault.TheVariants.{At, NoMemory}
use Rattle.vhdl_names_rules.specs.declared.fault.NameProblem.{NameProblem}
use Rattle.vhdl_names_rules.specs.declared.fault.NameProblem.TheVariants.{TypeMismatch, LeftOut}
use Rattle.vhdl_names_rules.specs.declared.kind.ElementKind.{ElementKind}
use Rattle.vhdl_names_rules.specs.declared.kind.ElementKind.TheVariants.{Element, Unsigned}
use Rattle.vhdl_names_rules.specs.declared.kind.ObjectType.{ObjectType}
use Rattle.vhdl_names_rules.specs.declared.kind.ObjectType.TheVariants.{Elements}
use Rattle.vhdl_names_rules.specs.Gives.{Gives}
use Rattle.vhdl_names_rules.specs.Visibility as visibility
use Rattle.vhdl_names_rules.specs.Visibility.{Sight, Meaning, Declared, DeclaredRange, declaration}
use Rattle.vhdl_names_rules.specs.Literals.{nine_of, values_of_string, values_of_bits}
use Rattle.vhdl_names_rules.specs.Names as names
use Rattle.vhdl_names_rules.specs.Names.{Suffix}
use Rattle.vhdl_names_rules.specs.Expressions as are
use Rattle.vhdl_names_rules.specs.Operators.{is_vector}
use Rattle.vhdl_names_rules.specs.Declarations.{as_kind}
use Rattle.vhdl_names_rules.specs.Rules.{◌>>=◌, ◌>>◌, met}
use Rattle.vhdl_names_rules.specs.units.Units.{Fixed}
use Rattle.vhdl_names_rules.specs.problems.Broken.{Broken, Tells, refused, ◌▸◌, unless, lacking, where_given, of_any}
use Rattle.vhdl_names_rules.specs.problems.Places.{start}
use Rattle.vhdl_names_rules.specs.problems.Operators.{string_problem}
use Rattle.vhdl_names_rules.specs.problems.Expressions.{meaning, no_attribute, typed_suffix, is_vector_type}
use Rattle.vhdl_names_rules.specs.problems.Statements.{named}
use Rattle.vhdl_names_rules.specs.problems.Subtypes.{fixed, is_element_type, literal, value_of, suffixed_problem, subtype, mark_problem, marked_by, is_marked, constraint}
use Rattle.vhdl_names_rules.proofs.Telling.{told_same, told_left, told_right, told_on, at_is_told}
use Rattle.vhdl_names_rules.proofs.kept.Expressions.{declared_kept}
use Rattle.vhdl_names_sight.specs.declared.meaning.Meaning.{Meaning as DeclaredMeaning}
use Rattle.vhdl_names_sight.specs.declared.meaning.Meaning.TheVariants as d
use Rattle.vhdl_names_sight.specs.Views.{meaning_view}
use Rattle.vhdl_names_rules.specs.Instances.{as_name}
use Rattle.vhdl_names_expressions.specs.Chosen.{is_literal, character_values}
use Rattle.vhdl_names_rules.specs.Subtypes.{marked, one_range}
use Rattle.vhdl_names_values.specs.Fixing.{suffixed_value, filled_with}
use Rattle.vhdl_names_values.specs.Marking.{marked_alone}
use Rattle.vhdl_names_expressions.proofs.Breaking.{told_fault, in_turn}
use Rattle.vhdl_names_asked.proofs.Filling.{no_vectors, of_vectors}
use Rattle.vhdl_names_asked.proofs.ObjectNames.{behind_name}
use Rattle.vhdl_names_expressions.proofs.Choosing.{chain_is_no_literal}

-- ---- literals

-- a character that is no value of the kind is of another type, or none of the nine values
pub character_literal : (k : ElementKind) (at c : ℕ) → character_values k c ≡ None → literal (Elements k) (t.character at c) ≡ refused TypeMismatch at
unfolding ◌▸◌
character_literal Element at c h = none_of (nine_of c) h
  where
    none_of : (o : Option Nine) → option_map (λ v. v ∷ []) o ≡ None → lacking TypeMismatch at o ≡ refused TypeMismatch at
    none_of None h = refl
    none_of (Some v) h = absurd cc
character_literal Unsigned at c h = refl
character_literal x at c h = refl

pub string_literal : (k : ElementKind) (at : ℕ) (text : List ℕ) → is_vector k ≡ true → literal (Elements k) (t.string at text) ≡ lacking (string_problem text) at (values_of_string text)
unfolding ◌▸◌
string_literal k at text h = ap (λ b. unless TypeMismatch at b ▸ lacking (string_problem text) at (values_of_string text)) h

pub no_string : (k : ElementKind) (at : ℕ) (text : List ℕ) → is_vector k ≡ false → literal (Elements k) (t.string at text) ≡ refused TypeMismatch at
unfolding ◌▸◌
no_string k at text h = ap (λ b. unless TypeMismatch at b ▸ lacking (string_problem text) at (values_of_string text)) h

pub bits_literal : (k : ElementKind) (at : ℕ) (text : List ℕ) → is_vector k ≡ true → literal (Elements k) (t.bits at text) ≡ lacking LeftOut at (values_of_bits text)
unfolding ◌▸◌
bits_literal k at text h = ap (λ b. unless TypeMismatch at b ▸ lacking LeftOut at (values_of_bits text)) h

pub no_bits : (k : ElementKind) (at : ℕ) (text : List ℕ) → is_vector k ≡ false → literal (Elements k) (t.bits at text) ≡ refused TypeMismatch at
unfolding ◌▸◌
no_bits k at text h = ap (λ b. unless TypeMismatch at b ▸ lacking LeftOut at (values_of_bits text)) h

pub character_told : {X : Type 0} (k : ElementKind) (at c : ℕ) (see : X → List Nine) (r : Result X NameFault) → Gives see (character_values k c) r →
    IfErr r (Tells (refused TypeMismatch at)) → IfErr r (Tells (literal (Elements k) (t.character at c)))
character_told k at c see (Ok x) h j = tt
character_told k at c see (Err NoMemory) h j = tt
character_told k at c see (Err (At p place)) h j = told_same (refused TypeMismatch at) _ (At p place) (sym (character_literal k at c (h (at_is_told p place)))) j

-- a literal is no value of what is of no elements
pub no_element_type : (type : ObjectType) → as_kind type ≡ None → is_element_type type ≡ false
no_element_type (Elements k) h = absurd cc
no_element_type type h = refl

pub no_vector_type : (type : ObjectType) → as_kind type ≡ None → is_vector_type type ≡ false
no_vector_type (Elements k) h = absurd cc
no_vector_type type h = refl

pub other_character : (type : ObjectType) (at c : ℕ) → as_kind type ≡ None → literal type (t.character at c) ≡ refused TypeMismatch at
unfolding ◌▸◌
other_character type at c h = ap (λ b. unless TypeMismatch at b ▸ lacking TypeMismatch at (nine_of c)) (no_element_type type h)

pub other_string : (type : ObjectType) (at : ℕ) (text : List ℕ) → as_kind type ≡ None → literal type (t.string at text) ≡ refused TypeMismatch at
unfolding ◌▸◌
other_string type at text h = ap (λ b. unless TypeMismatch at b ▸ lacking (string_problem text) at (values_of_string text)) (no_vector_type type h)

pub other_bits : (type : ObjectType) (at : ℕ) (text : List ℕ) → as_kind type ≡ None → literal type (t.bits at text) ≡ refused TypeMismatch at
unfolding ◌▸◌
other_bits type at text h = ap (λ b. unless TypeMismatch at b ▸ lacking LeftOut at (values_of_bits text)) (no_vector_type type h)

-- what is no literal is left out
pub other_literal : (type : ObjectType) (e : t.Expr) → is_literal e ≡ false → literal type e ≡ refused LeftOut (start e)
other_literal type (t.character at c) h = absurd (true≢false h)
other_literal type (t.string at s) h = absurd (true≢false h)
other_literal type (t.bits at s) h = absurd (true≢false h)
other_literal type e h = refl

pub chain_literal : (type : ObjectType) (e : Expr) (box : Box Chain Global) → e ≡ x.Chain box → literal type (view e) ≡ refused LeftOut (start (view e))
chain_literal type e box is = other_literal type (view e) (chain_is_no_literal e box is)

-- ---- values of constants

pub value_is : (type : ObjectType) (d : Meaning) (s : Suffix) → suffixed_value type d s ≡ value_of type d s
value_is type d names.plain = refl
value_is type d s = refl

pub fixed_literal : (sight : Sight) (type : ObjectType) (e : t.Expr) → None ≡ as_name e → literal type e ≡ fixed sight type e
fixed_literal sight type (t.named n y a) h = cc
fixed_literal sight type e h = refl

-- ---- (others => e)

abbrev filled_by : ObjectType → ℕ → ℕ → Option ℕ → Broken
filled_by type at place o = unless LeftOut place (is_some o) ▸ unless TypeMismatch at (is_vector_type type) ▸ lacking TypeMismatch place (filled_with type o)

pub no_character : (type : ObjectType) (at place : ℕ) (o : Option ℕ) → o ≡ None → filled_by type at place o ≡ refused LeftOut place
unfolding ◌▸◌
no_character type at place o h = ap (filled_by type at place) h

a_character : (type : ObjectType) (at place : ℕ) (o : Option ℕ) (c : ℕ) → o ≡ Some c →
    filled_by type at place o ≡ (unless TypeMismatch at (is_vector_type type) ▸ lacking TypeMismatch place (filled_with type (Some c)))
unfolding ◌▸◌
a_character type at place o c h = ap (filled_by type at place) h

pub no_vector : (type : ObjectType) (at place : ℕ) (o : Option ℕ) (c : ℕ) → o ≡ Some c → is_vector_type type ≡ false → filled_by type at place o ≡ refused TypeMismatch at
no_vector type at place o c is h = a_character type at place o c is ∙ no_vectors type at (lacking TypeMismatch place (filled_with type (Some c))) h

none_with : (b : Bool) (o : Option Nine) → o ≡ None → (met b >> (o >>= λ v. Some (Fixed.filled v))) ≡ None
none_with true o h = ap (λ p. p >>= λ v. Some (Fixed.filled v)) h
none_with false o h = refl

pub none_of_nine : (type : ObjectType) (k : ElementKind) (at place : ℕ) (o : Option ℕ) (c : ℕ) → type ≡ Elements k → o ≡ Some c → is_vector k ≡ true → nine_of c ≡ None →
    filled_by type at place o ≡ refused TypeMismatch place
none_of_nine type k at place o c of_kind is h none =
    a_character type at place o c is
    ∙ of_vectors type k at (lacking TypeMismatch place (filled_with type (Some c))) of_kind h
    ∙ ap (lacking TypeMismatch place) (ap (λ t. filled_with t (Some c)) of_kind ∙ none_with (is_vector k) (nine_of c) none)

-- ---- names of objects

grouped : (a b c d : Broken) → (a ▸ b ▸ c ▸ d) ≡ ((a ▸ b ▸ c) ▸ d)
grouped a b c d = sym (in_turn a (b ▸ c) d ∙ ap (λ z. a ▸ z) (in_turn b c d))

-- what is asked of a meaning is asked of a declaration by it
by_meaning : {A B : Type 0} (f : A → B) (o : Option A) (g : B → Broken) → where_given o (λ d. g (f d)) ≡ where_given (option_map f o) g
by_meaning f None g = refl
by_meaning f (Some d) g = refl

-- the name of a value
pub fixed_as : (sight : Sight) (type : ObjectType) (n : t.Name) →
    (named sight n ▸ behind_name sight n (λ d s. lacking (suffixed_problem type d.meaning s) n.identifier.at (value_of type d.meaning s)))
    ≡ fixed sight type (t.named n.identifier n.suffix n.attribute)
fixed_as sight type n =
    ap (λ b. named sight n ▸ b)
    (by_meaning (λ (d : Declared). d.meaning) (declaration sight n.identifier.text)
    (λ m. where_given (are.typed_suffix sight n.suffix) (λ s. lacking (suffixed_problem type m s) n.identifier.at (value_of type m s))))
    ∙ sym (grouped (meaning sight n.identifier) (typed_suffix sight n.suffix) (no_attribute n.attribute) _)

-- ---- subtype indications

module _ (sight : Sight) (i : t.Subtype) where
  abbrev mark : Broken
  mark = where_given (declaration sight i.mark.text) (λ d. unless (mark_problem d.meaning) i.mark.at (is_marked d i.constraint))

  subtype_behind : (d : Declared) (f : NameFault) → declaration sight i.mark.text ≡ Some d → Tells (mark ▸ of_any (constraint sight) i.constraint) f → Tells (subtype sight i) f
  subtype_behind d f e h = told_right (meaning sight i.mark) (mark ▸ of_any (constraint sight) i.constraint) f (declared_kept sight i.mark d e) h

  mark_is : (d : Declared) (o : Option t.Constraint) → declaration sight i.mark.text ≡ Some d → i.constraint ≡ o → mark ≡ unless (mark_problem d.meaning) i.mark.at (is_marked d o)
  mark_is d o e is =
      ap (λ p. where_given p (λ d. unless (mark_problem d.meaning) i.mark.at (is_marked d i.constraint))) e ∙ ap (λ q. unless (mark_problem d.meaning) i.mark.at (is_marked d q)) is

  pub subtype_alone : {X : Type 0} (d : Declared) (r : Result X NameFault) → declaration sight i.mark.text ≡ Some d → i.constraint ≡ None →
      IfErr r (Tells (unless (mark_problem d.meaning) i.mark.at (is_marked d None))) → IfErr r (Tells (subtype sight i))
  subtype_alone d r e none =
      told_on _ _ r (λ f h. subtype_behind d f e (told_left mark (of_any (constraint sight) i.constraint) f (told_same _ mark f (sym (mark_is d None e none)) h)))

  pub subtype_ranged : {X : Type 0} (d : Declared) (x : t.Constraint) (r : Result X NameFault) → declaration sight i.mark.text ≡ Some d → i.constraint ≡ Some x →
      IfErr r (Tells (unless (mark_problem d.meaning) i.mark.at (is_marked d (Some x)) ▸ constraint sight x)) → IfErr r (Tells (subtype sight i))
  subtype_ranged d x r e some =
      told_on _ _ r (λ f h. subtype_behind d f e
      (told_same _ _ f (sym (ap (λ m. m ▸ of_any (constraint sight) i.constraint) (mark_is d (Some x) e some) ∙ ap (λ o. unless (mark_problem d.meaning) i.mark.at (is_marked d (Some x)) ▸ of_any (constraint sight) o) some)) h))

-- what is no type of vectors takes no range, one that has its own takes none, and `range` stands behind none
pub unmarked : (m : DeclaredMeaning) → ((kind : ElementKind) (is_resolved : Bool) → m ≡ d.VectorType kind is_resolved → ⊥) → (own : Option DeclaredRange) (x : t.Constraint) →
    marked_by (meaning_view m) own (Some x) ≡ false
unmarked (d.VectorType kind r) other own x = absurd (other kind r refl)
unmarked m other None x = refl
unmarked m other (Some own) x = refl

pub marked_twice : (m : Meaning) (own : DeclaredRange) (x : t.Constraint) → marked_by m (Some own) (Some x) ≡ false
marked_twice (visibility.vector_type k r) own (t.index_range y) = refl
marked_twice (visibility.vector_type k r) own (t.value_range y) = refl
marked_twice m own x = refl

pub marked_behind_range : (m : Meaning) (own : Option DeclaredRange) (y : t.DiscreteRange) → marked_by m own (Some (t.value_range y)) ≡ false
marked_behind_range (visibility.vector_type k r) None y = refl
marked_behind_range (visibility.vector_type k r) (Some own) y = refl
marked_behind_range m None y = refl
marked_behind_range m (Some own) y = refl

pub marked_range : (m : DeclaredMeaning) (kind : ElementKind) (is_resolved : Bool) → m ≡ d.VectorType kind is_resolved → (y : t.DiscreteRange) →
    marked_by (meaning_view m) None (Some (t.index_range y)) ≡ true
marked_range m kind is_resolved is y = ap (λ n. marked_by (meaning_view n) None (Some (t.index_range y))) is

pub unmarked_alone : (m : Declared) → marked_alone m ≡ None → is_marked m None ≡ false
unmarked_alone m h = go m.meaning m.range h
  where
    go : (m : Meaning) (own : Option DeclaredRange) → (one_range own None >>= λ x. marked m x) ≡ None → marked_by m own None ≡ false
    go (visibility.element_type r) None h = absurd cc
    go (visibility.vector_type k r) (Some own) h = absurd cc
    go (visibility.enumeration_type e count) None h = absurd cc
    go m own h = refl

-- a problem that is told where a condition doesn't hold
pub misfit : (p q : NameProblem) (b : Bool) (at : ℕ) (f : NameFault) → b ≡ false → q ≡ p → f ≡ At q at → Tells (unless p at b) f
misfit p q b at f broken same e =
    told_fault (unless p at b) (At q at) f e (ap (unless p at) broken ∙ ap (λ z. refused z at) (sym same))
