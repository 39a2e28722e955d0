-- An expression that breaks no rule has a type (IEEE 1076-2008, clauses 8 and 9).
use Rattle.std.proofs.Common.{◌≡◌, ℕ, Bool, true, false, cond, [], ◌∷◌, Option, Some, None, refl, ap, ◌∙◌}
use Rattle.std.specs.Prelude.{◌&&◌}
use Rattle.std.specs.Option.{option_or}
use Rattle.vhdl_lexer.specs.declared.language.Language.{Language}
use Rattle.vhdl_lexer.specs.declared.language.Language.TheVariants.{Profile, Wide}
use Rattle.vhdl_tree.specs.declared.operator.Direction.{Direction}
use Rattle.vhdl_tree.specs.declared.operator.Sign.{Sign}
use Rattle.vhdl_tree.specs.declared.operator.Sign.TheVariants.{Plus, Minus}
use Rattle.vhdl_tree.specs.Tree as t
use Rattle.vhdl_tree.specs.Tree.{Expr, Exprs, Ident, Attribute}
use Rattle.vhdl_names_rules.specs.declared.kind.ObjectType.{ObjectType}
use Rattle.vhdl_names_rules.specs.declared.kind.ObjectType.TheVariants.{Elements, Enumeration, Integers, Booleans}
use Rattle.vhdl_names_rules.specs.declared.kind.ElementKind.TheVariants.{Element, OpenVector}
use Rattle.vhdl_names_rules.specs.declared.operator.Arithmetic.TheVariants.{Power}
use Rattle.vhdl_names_rules.specs.declared.fault.NameProblem.TheVariants.{TypeMismatch, LeftOut}
use Rattle.vhdl_names_rules.specs.units.Expressions as u
use Rattle.vhdl_names_rules.specs.units.Expressions.{Range}
use Rattle.vhdl_names_rules.specs.Rules.{◌>>=◌, wider}
use Rattle.vhdl_names_rules.specs.Visibility as visibility
use Rattle.vhdl_names_rules.specs.Visibility.{Meaning, DeclaredRange, Declared, Sight, declaration}
use Rattle.vhdl_names_rules.specs.Literals.{number_of, nine_of, values_of_string, values_of_bits}
use Rattle.vhdl_names_rules.specs.Types as types
use Rattle.vhdl_names_rules.specs.Types.{TypedElements}
use Rattle.vhdl_names_rules.specs.Operators as o
use Rattle.vhdl_names_rules.specs.Operators.{Typed, as_computed, inverse, raised, truths_related, operated}
use Rattle.vhdl_names_rules.specs.Aggregates.{aggregate}
use Rattle.vhdl_names_rules.specs.Names as names
use Rattle.vhdl_names_rules.specs.Names.{Suffix, denoted, attributed, edge_signal}
use Rattle.vhdl_names_rules.specs.Ranges.{Ranged, ranged, declared_range, named_range, range_attribute, sized_by}
use Rattle.vhdl_names_rules.specs.Local.{is_local}
use Rattle.vhdl_names_rules.specs.Expressions as are
use Rattle.vhdl_names_rules.specs.Expressions.{valued, as_integer, enclosed, in_parentheses, beside, is_one_name, suffix_of, fits, as_index, as_range, as_test, as_static_test, as_value, as_filled, as_boolean}
use Rattle.vhdl_names_rules.specs.problems.Broken.{nothing, ◌▸◌, unless, lacking, where_given, of_any}
use Rattle.vhdl_names_rules.specs.problems.Places.{start}
use Rattle.vhdl_names_rules.specs.problems.Missing.{problem_of}
use Rattle.vhdl_names_rules.specs.problems.Operators.{string_problem, operator_problem, edge_problem, name_problem}
use Rattle.vhdl_names_rules.specs.problems.Expressions as broken
use Rattle.vhdl_names_rules.specs.problems.Expressions.{attribute_start, is_event, is_of_range, is_range, fits_kind, no_range, is_vector_type}
use Rattle.vhdl_names_rules.proofs.Telling.{IsKept}
use Rattle.vhdl_names_rules.proofs.laws.Ranged.{named_by_range, named_alone, named_valued, range_alone}
use Rattle.vhdl_names_laws.proofs.given.Giving.{IsGiven, this, bound, ruled, same_given, unmapped, some_of, that_given, mapped_given, parts, holds, fails, either_fails, given, of_given}
use Rattle.vhdl_names_laws.proofs.given.Aggregates.{aggregate_given, composite_given}

-- ---- names

pub meaning_given : (sight : Sight) (n : Ident) → IsKept (broken.meaning sight n) → IsGiven (visibility.meaning sight n.text)
meaning_given sight n h = given (problem_of sight.language n.text) n.at (visibility.meaning sight n.text) h

pub declaration_given : (sight : Sight) (n : Ident) → IsKept (broken.meaning sight n) → IsGiven (declaration sight n.text)
declaration_given sight n h = unmapped (λ (d : Declared). d.meaning) (declaration sight n.text) (meaning_given sight n h)

attributed_given : (at : ℕ) (a : Option Attribute) (x : Typed) → IsKept (broken.attributed at a x) → IsGiven (attributed a x)
attributed_given at None x h = this x
attributed_given at (Some (t.of_range p)) x h = absurd (fails LeftOut p (lacking (edge_problem x) at (edge_signal x)) h)
attributed_given at (Some (t.called a)) x h =
    let k = parts _ _ h in
    let g = given (edge_problem x) at (edge_signal x) k.1 in
    ruled (is_event (t.called a)) _ (holds LeftOut a.at (is_event (t.called a)) k.0)
    (bound (edge_signal x) (λ p. Some (o.truth (u.event p))) g.value g.is (this (o.truth (u.event g.value))))

valued_given : (at : ℕ) (a : Option Attribute) (m : Meaning) (r : Option DeclaredRange) (s : Suffix) → IsKept (broken.with_suffix at a m r s) → IsGiven (valued at a m r s)
valued_given at a m r s h =
    let k = parts (broken.of_no_value m s a) _ h in
    let l = parts (lacking (name_problem m s) at (denoted at m s)) (where_given (denoted at m s) (λ x. broken.attributed at a (sized_by at m r x))) k.1 in
    let x = given (name_problem m s) at (denoted at m s) l.0 in
    let y = attributed_given at a (sized_by at m r x.value) (of_given (λ x. broken.attributed at a (sized_by at m r x)) (denoted at m s) x.value x.is l.1) in
    bound (denoted at m s) (λ x. attributed a (sized_by at m r x)) x.value x.is y

ranged_given : (at : ℕ) (a : Attribute) (d : Declared) (s : Suffix) (r : Option Ranged) → IsKept (broken.of_ranged at a d s r) → IsGiven (range_attribute at (Some a) d s)
ranged_given at a d s None h = absurd (either_fails _ _ _ h)
ranged_given at a d s (Some r) h = given LeftOut (attribute_start a) (range_attribute at (Some a) d s) h

by_range_given : (language : Language) (at : ℕ) (a : Option Attribute) (d : Declared) (s : Suffix) → is_of_range language a ≡ true → IsKept (of_any (λ x. broken.of_range at x d s) a)
    → IsGiven (are.named language at a d s)
by_range_given Profile at a d s e h = absurd cc
by_range_given Wide at None d s e h = absurd cc
by_range_given Wide at (Some a) d s e h = same_given _ (range_attribute at (Some a) d s) (named_by_range Wide at a d s e) (ranged_given at a d s (ranged d s) h)

alone_given : (language : Language) (at : ℕ) (a : Option Attribute) (d : Declared) (s : Suffix) → is_range language a d s ≡ true → IsGiven (are.named language at a d s)
alone_given Profile at None d s e = absurd cc
alone_given Wide at None d s e = let r = some_of (named_range None d s) e in record { value = o.interval r.value; is = named_alone at d s r.value r.is }
alone_given language at (Some a) d s e = absurd cc

by_declaration_given : (language : Language) (at : ℕ) (a : Option Attribute) (d : Declared) (s : Suffix) → IsKept (broken.by_declaration language at a d s) → IsGiven (are.named language at a d s)
by_declaration_given language at a d s h = go (is_of_range language a) refl (is_range language a d s) refl h
  where
    go : (b : Bool) → is_of_range language a ≡ b → (c : Bool) → is_range language a d s ≡ c
        → IsKept (cond b (of_any (λ x. broken.of_range at x d s) a) (cond c nothing (broken.with_suffix at a d.meaning d.range s))) → IsGiven (are.named language at a d s)
    go true e c f h = by_range_given language at a d s e h
    go false e true f h = alone_given language at a d s f
    go false e false f h = same_given _ (valued at a d.meaning d.range s) (named_valued language at a d s e f) (valued_given at a d.meaning d.range s h)

named_given : (sight : Sight) (n : Ident) (a : Option Attribute) (q : Option Suffix) (s : Suffix) → q ≡ Some s → IsKept (broken.meaning sight n) → IsKept (broken.named sight n q a)
    → IsGiven (declaration sight n.text >>= λ d. are.named sight.language n.at a d s)
named_given sight n a q s e m h =
    let d = declaration_given sight n m in
    let k = of_given (broken.by_declaration sight.language n.at a d.value) q s e
    (of_given (λ d. where_given q (broken.by_declaration sight.language n.at a d)) (declaration sight n.text) d.value d.is h) in
    bound (declaration sight n.text) (λ d. are.named sight.language n.at a d s) d.value d.is (by_declaration_given sight.language n.at a d.value s k)

-- ---- qualified expressions

qualified_given : (at p : ℕ) (m : Meaning) (r : Option DeclaredRange) (es : TypedElements) → IsKept (broken.qualified_by at p m r es) → IsGiven (are.qualified_by at p m r es)
qualified_given at p (visibility.element_type b) r (types.element [] q (o.elements Element x) types.no_elements) h = this (enclosed (o.elements Element x))
qualified_given at p (visibility.element_type b) r (types.element [] q x types.no_elements) h = absurd cc
qualified_given at p (visibility.element_type b) r es h = absurd cc
qualified_given at p (visibility.vector_type k b) r (types.element [] q (o.elements j x) types.no_elements) h =
    that_given (fits k j) (sized_by at (visibility.vector_type k b) r (o.elements k x)) (holds TypeMismatch q (fits_kind k (o.elements j x)) h)
qualified_given at p (visibility.vector_type k b) r (types.element [] q x types.no_elements) h = absurd cc
qualified_given at p (visibility.vector_type k b) None es h = mapped_given (o.elements k) (aggregate k p None es) (aggregate_given k p None es h)
qualified_given at p (visibility.vector_type k b) (Some r) es h = mapped_given (o.elements k) (aggregate k p (Some (declared_range r)) es) (aggregate_given k p (Some (declared_range r)) es h)
qualified_given at p m r es h = absurd cc

-- ---- expressions

wanted_given : (at : ℕ) (q : Option Typed) (x : Typed) → q ≡ Some x → IsKept (broken.integer_wanted at q) → IsGiven (as_integer x)
wanted_given at q x e h = given TypeMismatch at (as_integer x) (of_given (λ x. lacking TypeMismatch at (as_integer x)) q x e h)

raised_given : (at : ℕ) (x y : Typed) → IsGiven (as_integer x) → IsGiven (as_integer y) → IsGiven (raised at x y)
raised_given at (o.integer s) (o.integer r) g h = this (o.integer (u.Static.binary at Power s r))
raised_given at (o.integer s) y g h = let none = h.is in absurd cc
raised_given at x y g h = let none = g.is in absurd cc

-- an integer, which a run may compute
computed_given : (at : ℕ) (q : Option Typed) (x : Typed) → q ≡ Some x → IsKept (broken.computed_wanted at q) → IsGiven (as_computed x)
computed_given at q x e h = given TypeMismatch at (as_computed x) (of_given (λ x. lacking TypeMismatch at (as_computed x)) q x e h)

absolute_given : (at : ℕ) (x : Typed) → IsGiven (as_computed x) → IsGiven (are.absolute at x)
absolute_given at (o.integer s) g = this (o.integer (u.absolute at s))
absolute_given at (o.computed y) g = this (o.computed (u.magnitude at y))
absolute_given at x g = let none = g.is in absurd cc

signed_given : (at : ℕ) (sign : Sign) (x : Typed) → IsGiven (as_computed x) → IsGiven (are.signed at sign x)
signed_given at Plus (o.integer s) g = this (o.integer s)
signed_given at Plus (o.computed y) g = this (o.computed y)
signed_given at Minus (o.integer s) g = this (o.integer (u.Static.negated at s))
signed_given at Minus (o.computed y) g = this (o.computed (u.Computed.negated at y))
signed_given at Plus x g = let none = g.is in absurd cc
signed_given at Minus x g = let none = g.is in absurd cc

sliced_given : (x y : Typed) (direction : Direction) → IsGiven (as_computed x) → IsGiven (as_computed y) → IsGiven (are.sliced x direction y)
sliced_given (o.integer l) (o.integer r) direction g h = this (names.range (record { left = l; direction = direction; right = r }))
sliced_given x y direction g h =
    bound (as_computed x) (λ l. as_computed y >>= λ r. Some (names.computed_range l direction r)) g.value g.is
    (bound (as_computed y) (λ r. Some (names.computed_range g.value direction r)) h.value h.is (this (names.computed_range g.value direction h.value)))

mutual
  unfolding are.typed broken.typed

  pub typed_given : (e : Expr) (sight : Sight) → IsKept (broken.typed sight e) → IsGiven (are.typed sight e)
  typed_given (t.integer at text) sight h = mapped_given (λ n. o.integer (u.number n)) (number_of text) (given LeftOut at (number_of text) h)
  typed_given (t.character at c) sight h = mapped_given (λ v. o.elements Element (u.character v)) (nine_of c) (given TypeMismatch at (nine_of c) h)
  typed_given (t.string at text) sight h =
      mapped_given (λ vs. o.elements OpenVector (u.Vector.literal at vs)) (values_of_string text) (given (string_problem text) at (values_of_string text) h)
  typed_given (t.bits at text) sight h =
      mapped_given (λ vs. o.elements OpenVector (u.Vector.literal at vs)) (values_of_bits text) (given LeftOut at (values_of_bits text) h)
  typed_given (t.named n suffix a) sight h =
      let k = parts _ _ h in
      let l = parts _ _ k.1 in
      let s = suffix_given suffix sight l.0 in
      bound (are.typed_suffix sight suffix) (λ s. declaration sight n.text >>= λ d. are.named sight.language n.at a d s) s.value s.is
      (named_given sight n a (are.typed_suffix sight suffix) s.value s.is k.0 l.1)
  typed_given (t.parens at e) sight h =
      let k = parts _ _ h in
      let x = typed_given e sight k.0 in
      bound (are.typed sight e) in_parentheses x.value x.is
      (given TypeMismatch (start e) (in_parentheses x.value) (of_given (λ x. lacking TypeMismatch (start e) (in_parentheses x)) (are.typed sight e) x.value x.is k.1))
  typed_given (t.negation at e) sight h =
      let k = parts _ _ h in
      let x = typed_given e sight k.0 in
      bound (are.typed sight e) inverse x.value x.is (given TypeMismatch at (inverse x.value) (of_given (λ x. lacking TypeMismatch at (inverse x)) (are.typed sight e) x.value x.is k.1))
  typed_given (t.absolute at e) sight h =
      let k = parts _ _ h in
      let x = typed_given e sight k.0 in
      bound (are.typed sight e) (are.absolute at) x.value x.is (absolute_given at x.value (computed_given at (are.typed sight e) x.value x.is k.1))
  typed_given (t.power d at e) sight h =
      let k = parts _ _ h in
      let l = parts _ _ k.1 in
      let m = parts _ _ l.1 in
      let x = typed_given d sight k.0 in
      let y = typed_given e sight l.0 in
      bound (are.typed sight d) (λ x. are.typed sight e >>= λ y. raised at x y) x.value x.is
      (bound (are.typed sight e) (λ y. raised at x.value y) y.value y.is
      (raised_given at x.value y.value (wanted_given at (are.typed sight d) x.value x.is m.0) (wanted_given at (are.typed sight e) y.value y.is m.1)))
  typed_given (t.signed sign at e) sight h =
      let k = parts _ _ h in
      let x = typed_given e sight k.0 in
      bound (are.typed sight e) (are.signed at sign) x.value x.is (signed_given at sign x.value (computed_given at (are.typed sight e) x.value x.is k.1))
  typed_given (t.binary begins op at d e) sight h =
      let k = parts _ _ h in
      let l = parts _ _ k.1 in
      let x = typed_given d sight k.0 in
      let y = typed_given e sight l.0 in
      let by : Typed → Typed → Option Typed = λ x y. option_or (operated sight.numbers at op x (beside d y)) (wider sight.language (truths_related op x y)) in
      let w = of_given (λ y. broken.operand op y x.value ▸ broken.operand op x.value y ▸ lacking (operator_problem op x.value (beside d y)) at (by x.value y)) (are.typed sight e) y.value y.is
      (of_given (λ x. where_given (are.typed sight e) (λ y. broken.operand op y x ▸ broken.operand op x y ▸ lacking (operator_problem op x (beside d y)) at (by x y)))
      (are.typed sight d) x.value x.is l.1) in
      let v = parts (broken.operand op y.value x.value) _ w in
      let z = parts (broken.operand op x.value y.value) _ v.1 in
      bound (are.typed sight d) (λ x. are.typed sight e >>= λ y. by x y) x.value x.is
      (bound (are.typed sight e) (λ y. by x.value y) y.value y.is (given (operator_problem op x.value (beside d y.value)) at (by x.value y.value) z.1))
  typed_given (t.aggregate at es) sight h = mapped_given (types.composite at) (are.typed_elements sight es) (elements_given es sight h)
  typed_given (t.qualified n at es) sight h =
      let k = parts _ _ h in
      let l = parts _ _ k.1 in
      let xs = elements_given es sight l.0 in
      let d = declaration_given sight n k.0 in
      let q = of_given (broken.qualified n.at at d.value) (are.typed_elements sight es) xs.value xs.is
      (of_given (λ d. where_given (are.typed_elements sight es) (broken.qualified n.at at d)) (declaration sight n.text) d.value d.is l.1) in
      bound (are.typed_elements sight es) (λ xs. declaration sight n.text >>= λ d. are.qualified n.at at d xs) xs.value xs.is
      (bound (declaration sight n.text) (λ d. are.qualified n.at at d xs.value) d.value d.is (qualified_given n.at at d.value.meaning d.value.range xs.value q))

  pub suffix_given : (s : t.Suffix) (sight : Sight) → IsKept (broken.typed_suffix sight s) → IsGiven (are.typed_suffix sight s)
  suffix_given t.plain sight h = this names.plain
  suffix_given (t.arguments es) sight h = mapped_given (suffix_of (is_one_name es)) (are.typed_each sight es) (each_typed_given es sight h)
  suffix_given (t.sliced d direction e) sight h =
      let k = parts _ _ h in
      let l = parts _ _ k.0 in
      let m = parts _ _ k.1 in
      let x = typed_given d sight l.0 in
      let left = computed_given (start d) (are.typed sight d) x.value x.is l.1 in
      let y = typed_given e sight m.0 in
      let right = computed_given (start e) (are.typed sight e) y.value y.is m.1 in
      bound (are.typed sight d) (λ x. are.typed sight e >>= λ y. are.sliced x direction y) x.value x.is
      (bound (are.typed sight e) (λ y. are.sliced x.value direction y) y.value y.is (sliced_given x.value y.value direction left right))

  pub each_typed_given : (es : Exprs) (sight : Sight) → IsKept (broken.typed_each sight es) → IsGiven (are.typed_each sight es)
  each_typed_given t.no_exprs sight h = this []
  each_typed_given (t.expr e es) sight h =
      let k = parts _ _ h in
      let x = typed_given e sight k.0 in
      let xs = each_typed_given es sight k.1 in
      bound (are.typed sight e) (λ x. are.typed_each sight es >>= λ xs. Some (x ∷ xs)) x.value x.is
      (bound (are.typed_each sight es) (λ xs. Some (x.value ∷ xs)) xs.value xs.is (this (x.value ∷ xs.value)))

  elements_given : (es : t.Elements) (sight : Sight) → IsKept (broken.typed_elements sight es) → IsGiven (are.typed_elements sight es)
  elements_given t.no_elements sight h = this types.no_elements
  elements_given (t.element cs e es) sight h =
      let k = parts _ _ h in
      let l = parts _ _ k.1 in
      let c = choices_given cs sight k.0 in
      let x = typed_given e sight l.0 in
      let xs = elements_given es sight l.1 in
      bound (are.typed_choices sight cs) _ c.value c.is
      (bound (are.typed sight e) _ x.value x.is
      (bound (are.typed_elements sight es) (λ xs. Some (types.element c.value (start e) x.value xs)) xs.value xs.is (this (types.element c.value (start e) x.value xs.value))))

  choices_given : (cs : t.Choices) (sight : Sight) → IsKept (broken.typed_choices sight cs) → IsGiven (are.typed_choices sight cs)
  choices_given t.no_choices sight h = this []
  choices_given (t.choice c cs) sight h =
      let k = parts _ _ h in
      let x = choice_given c sight k.0 in
      let xs = choices_given cs sight k.1 in
      bound (are.typed_choice sight c) _ x.value x.is (bound (are.typed_choices sight cs) (λ xs. Some (x.value ∷ xs)) xs.value xs.is (this (x.value ∷ xs.value)))

  pub choice_given : (c : t.Choice) (sight : Sight) → IsKept (broken.typed_choice sight c) → IsGiven (are.typed_choice sight c)
  choice_given (t.chosen e) sight h =
      let k = parts _ _ h in
      let x = typed_given e sight k.0 in
      let i = given TypeMismatch (start e) (as_index (start e) x.value) (of_given (λ x. lacking TypeMismatch (start e) (as_index (start e) x)) (are.typed sight e) x.value x.is k.1) in
      bound (are.typed sight e) _ x.value x.is
      (bound (as_index (start e) x.value) (λ i. Some (types.place (is_local sight e) i)) i.value i.is (this (types.place (is_local sight e) i.value)))
  choice_given (t.chosen_range d direction e) sight h =
      let k = parts _ _ h in
      let l = parts _ _ k.0 in
      let m = parts _ _ k.1 in
      let x = typed_given d sight l.0 in
      let left = wanted_given (start d) (are.typed sight d) x.value x.is l.1 in
      let y = typed_given e sight m.0 in
      let right = wanted_given (start e) (are.typed sight e) y.value y.is m.1 in
      let b = is_local sight d && is_local sight e in
      bound (are.typed sight d) _ x.value x.is
      (bound (as_integer x.value) _ left.value left.is
      (bound (are.typed sight e) _ y.value y.is
      (bound (as_integer y.value) (λ r. Some (types.place b (u.indexes (start d) (record { left = left.value; direction = direction; right = r })))) right.value right.is
      (this (types.place b (u.indexes (start d) (record { left = left.value; direction = direction; right = right.value })))))))
  choice_given (t.otherwise at) sight h = this (types.others at)

-- ---- what is asked of an expression

pub asked_given : {A : Type 0} (f : Typed → Option A) (sight : Sight) (e : Expr) → IsKept (broken.typed sight e ▸ where_given (are.typed sight e) (λ x. lacking TypeMismatch (start e) (f x)))
    → IsGiven (are.typed sight e >>= f)
asked_given f sight e h =
    let k = parts (broken.typed sight e) (where_given (are.typed sight e) (λ x. lacking TypeMismatch (start e) (f x))) h in
    let x = typed_given e sight k.0 in
    bound (are.typed sight e) f x.value x.is (given TypeMismatch (start e) (f x.value) (of_given (λ x. lacking TypeMismatch (start e) (f x)) (are.typed sight e) x.value x.is k.1))

pub static_given : (sight : Sight) (e : Expr) → IsKept (broken.static sight e) → IsGiven (are.static sight e)
unfolding are.static
static_given sight e h = asked_given as_integer sight e h

range_named_given : (sight : Sight) (n : t.Name) (a : Option Attribute) → IsKept (broken.range_named sight n a) → IsGiven (are.typed sight (t.named n.identifier n.suffix a) >>= as_range)
unfolding are.typed
range_named_given sight n None h =
    let i = n.identifier in
    let k = parts (broken.meaning sight i) _ h in
    let l = parts (broken.typed_suffix sight n.suffix) _ k.1 in
    let d = declaration_given sight i k.0 in
    let s = suffix_given n.suffix sight l.0 in
    let r = given (no_range d.value.meaning) i.at (wider sight.language (named_range None d.value s.value))
    (of_given (λ s. lacking (no_range d.value.meaning) i.at (wider sight.language (named_range None d.value s))) (are.typed_suffix sight n.suffix) s.value s.is
    (of_given (λ d. where_given (are.typed_suffix sight n.suffix) (λ s. lacking (no_range d.meaning) i.at (wider sight.language (named_range None d s)))) (declaration sight i.text) d.value d.is l.1)) in
    record {
      value = r.value;
      is = ap (λ o. (o >>= λ s. declaration sight i.text >>= λ d. are.named sight.language i.at None d s) >>= as_range) s.is
          ∙ ap (λ o. (o >>= λ d. are.named sight.language i.at None d s.value) >>= as_range) d.is
          ∙ range_alone sight.language i.at d.value s.value ∙ r.is;
    }
range_named_given sight n (Some a) h =
    let d = t.named n.identifier n.suffix (Some a) in
    let k = parts (broken.typed sight d) _ h in
    let x = typed_given d sight k.0 in
    bound (are.typed sight d) as_range x.value x.is
    (given TypeMismatch n.identifier.at (as_range x.value) (of_given (λ x. lacking TypeMismatch n.identifier.at (as_range x)) (are.typed sight d) x.value x.is k.1))

pub static_range_given : (sight : Sight) (r : t.DiscreteRange) → IsKept (broken.static_range sight r) → IsGiven (are.static_range sight r)
unfolding are.static_range
static_range_given sight (t.bounds r) h =
    let k = parts (broken.static sight r.left) (broken.static sight r.right) h in
    let a = static_given sight r.left k.0 in
    let b = static_given sight r.right k.1 in
    bound (are.static sight r.left) _ a.value a.is
    (bound (are.static sight r.right) (λ x. Some (record { left = a.value; direction = r.direction; right = x })) b.value b.is
    (this (record { left = a.value; direction = r.direction; right = b.value })))
static_range_given sight (t.range_named n) h = range_named_given sight n n.attribute h

pub condition_given : (sight : Sight) (e : Expr) → IsKept (broken.condition sight e) → IsGiven (are.condition sight e)
unfolding are.condition
condition_given sight e h = asked_given as_test sight e h

pub static_condition_given : (sight : Sight) (e : Expr) → IsKept (broken.static_condition sight e) → IsGiven (are.typed sight e >>= as_static_test)
static_condition_given sight e h = asked_given as_static_test sight e h

as_value_given : (type : ObjectType) (r : Option Range) (at : ℕ) (x : Typed) → IsKept (broken.given type r at x) → IsGiven (as_value type r x)
as_value_given (Elements k) r at (types.composite p es) h = composite_given (Elements k) p r es h
as_value_given (Enumeration e count) r at (types.composite p es) h = absurd cc
as_value_given Integers r at (types.composite p es) h = absurd cc
as_value_given Booleans r at (types.composite p es) h = absurd cc
as_value_given type r at x h = given TypeMismatch at (as_value type r x) h

pub value_given_given : (sight : Sight) (type : ObjectType) (r : Option Range) (v : t.Value) → IsKept (broken.value_given sight type r v) → IsGiven (are.value_given sight type r v)
unfolding are.value_given
value_given_given sight type r (t.single e) h =
    let k = parts _ _ h in
    let x = typed_given e sight k.0 in
    bound (are.typed sight e) (as_value type r) x.value x.is (as_value_given type r (start e) x.value (of_given (broken.given type r (start e)) (are.typed sight e) x.value x.is k.1))
value_given_given sight type r (t.others at e) h =
    let k = parts _ _ h in
    let x = typed_given e sight k.0 in
    let l = parts _ _ (of_given (λ x. unless TypeMismatch at (is_vector_type type) ▸ lacking TypeMismatch (start e) (as_filled type x)) (are.typed sight e) x.value x.is k.1) in
    bound (are.typed sight e) (as_filled type) x.value x.is (given TypeMismatch (start e) (as_filled type x.value) l.1)

pub value_assigned_given : (sight : Sight) (type : ObjectType) (r : Option Range) (v : t.Value) → IsKept (broken.value_assigned sight type r v) → IsGiven (are.value_assigned sight type r v)
unfolding are.value_assigned
value_assigned_given sight Booleans r (t.single e) h = asked_given as_boolean sight e h
value_assigned_given sight type r v h = mapped_given are.given (are.value_given sight type r v) (value_given_given sight type r v h)
