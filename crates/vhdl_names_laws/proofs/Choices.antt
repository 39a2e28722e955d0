-- Selectors and choices (IEEE 1076-2008, 10.9).
use Rattle.std.proofs.Common.{◌≡◌, ℕ, Bool, true, false, ◌&&◌, ◌==◌, ◌||◌, List, [], ◌∷◌, Option, Some, None, refl, ap, sym, ◌∙◌, subst}
use Rattle.std.specs.Prelude.{nat_lt, if◌then◌else◌, flat_map}
use Rattle.std.specs.List.{slice_get, list_all}
use Rattle.std.specs.Option.{is_some}
use Rattle.std.proofs.lemmas.Bool.{and_parts, and_from}
use Rattle.vhdl_lexer.specs.declared.language.Language.{Language}
use Rattle.vhdl_values.specs.declared.scalar.Nine.{Nine}
use Rattle.vhdl_tree.specs.Tree as t
use Rattle.vhdl_tree.specs.Tree.{Expr}
use Rattle.vhdl_names_rules.specs.declared.kind.ElementKind.{ElementKind}
use Rattle.vhdl_names_rules.specs.declared.kind.ElementKind.TheVariants.{Element, LogicVector, Unsigned, OpenVector}
use Rattle.vhdl_names_rules.specs.declared.kind.ObjectType.{ObjectType}
use Rattle.vhdl_names_rules.specs.declared.kind.ObjectType.TheVariants.{Elements, Enumeration, Integers, Booleans}
use Rattle.vhdl_names_rules.specs.units.Expressions as e
use Rattle.vhdl_names_rules.specs.units.Expressions.{Computed, Vector, Value, Test}
use Rattle.vhdl_names_rules.specs.units.Statements as s
use Rattle.vhdl_names_rules.specs.units.Statements.{Choice, Statements, Alternatives}
use Rattle.vhdl_names_rules.specs.units.Units as u
use Rattle.vhdl_names_rules.specs.Rules.{each, then_some}
use Rattle.vhdl_names_rules.specs.Visibility as visibility
use Rattle.vhdl_names_rules.specs.Visibility.{Meaning, Sight, meaning}
use Rattle.vhdl_names_rules.specs.Operators as o
use Rattle.vhdl_names_rules.specs.Operators.{Typed, negated}
use Rattle.vhdl_names_rules.specs.Names.{position_of}
use Rattle.vhdl_names_rules.specs.Types as types
use Rattle.vhdl_names_rules.specs.Types.{TypedChoice}
use Rattle.vhdl_names_rules.specs.Expressions.{typed_choice}
use Rattle.vhdl_names_rules.specs.Subtypes.{literal_values}
use Rattle.vhdl_names_rules.specs.Choices.{named_choice, literal_choice, chosen, numbers_of, choice, choices, covered, only_last_others, is_last_others, names_all, are_distinct_choices, Selector, value, truth, selector, last_by, arranged, always, branches_by, read_only, deciding, selecting}
use Rattle.vhdl_names_rules.specs.sound.Expressions.{Inside, Shape, state, number, computed_fits, vector_shape, value_shape, fits_shape, value_fits, test_fits}
use Rattle.vhdl_names_rules.specs.sound.Statements.{choice_fits, selector_fits, statement_fits, statements_fit, branches_fit, alternatives_fit}
use Rattle.vhdl_names_rules.specs.sound.Units.{fixed_fits}
use Rattle.vhdl_names_laws.specs.Meanings as meanings
use Rattle.vhdl_names_laws.specs.Meanings.{Counts, kind_shape, type_shape, IsCounted, MeaningFits, IsInside, TypedFits}
use Rattle.vhdl_names_laws.proofs.Statics.{some_same, meant}
use Rattle.vhdl_names_laws.proofs.Shapes as p
use Rattle.vhdl_names_laws.proofs.Shapes.{wider_is, same_shapes}
use Rattle.vhdl_names_rules.proofs.kept.Keeping.{mapped}
use Rattle.vhdl_names_rules.proofs.laws.Rules.{comes, kept}
use Rattle.vhdl_names_laws.proofs.Operators.{negated_fits}
use Rattle.vhdl_names_laws.proofs.Served.{served}
use Rattle.vhdl_names_laws.proofs.Expressions as expressions
use Rattle.vhdl_names_laws.proofs.Values.{literal_values_fit, same_count}

-- ---- selectors

-- A case on a value is on something of its type's shape, or on a literal of an enumeration, which has no shape; one on a
-- truth has none either.
abbrev pub Selects : Option Shape → ObjectType → Type 0
Selects (Some z) Booleans = ⊥
Selects (Some z) type = z ≡ type_shape type
Selects None (Enumeration n count) = Unit {0}
Selects None Booleans = Unit {0}
Selects None _ = ⊥

abbrev pub selected_shape : Inside → Selector → Option Shape
selected_shape i (value v) = value_shape i v
selected_shape i (truth t) = None

abbrev selected_fits : Inside → Selector → Bool
selected_fits i (value v) = selector_fits i v
selected_fits i (truth t) = test_fits i t

pub record Selected (i : Inside) (counts : Counts) (by : ObjectType × Selector) : Type 0 where
  pub selects : Selects (selected_shape i by.1) by.0
  pub fits : selected_fits i by.1 ≡ true
  pub counted : IsCounted counts by.0

shape_given : (z : Shape) (w : Option Shape) → fits_shape z w ≡ true → w ≡ Some z
shape_given z None h = absurd cc
shape_given z (Some y) h = ap Some (sym (same_shapes z y h))

of_elements : (i : Inside) (counts : Counts) (k : ElementKind) (y : Vector) → vector_shape i y ≡ Some (kind_shape k) → Selected i counts (Elements k, value (e.Value.elements y))
of_elements i counts k y h = record { selects = subst (λ w. Selects w (Elements k)) (sym h) refl; fits = ap is_some h; counted = tt }

of_number : (i : Inside) (counts : Counts) (y : Computed) → computed_fits i y ≡ true → Selected i counts (Integers, value (e.Value.computed y))
of_number i counts y h =
    let g : value_shape i (e.Value.computed y) ≡ Some number = ap (λ b. then_some b number) h in
    record { selects = subst (λ w. Selects w Integers) (sym g) refl; fits = ap is_some g; counted = tt }

of_shape : (i : Inside) (counts : Counts) (n count : ℕ) (w : Option Shape) → w ≡ Some (state count) → Selects w (Enumeration n count)
of_shape i counts n count w h = subst (λ w. Selects w (Enumeration n count)) (sym h) refl

of_enumeration : (i : Inside) (counts : Counts) (n count : ℕ) (y : Value) → value_fits i (state count) y ≡ true → slice_get counts n ≡ Some count
    → Selected i counts (Enumeration n count, value y)
of_enumeration i counts n count (e.Value.position q) h c = record { selects = tt; fits = refl; counted = c }
of_enumeration i counts n count (e.Value.elements y) h c =
    let g = shape_given (state count) (vector_shape i y) h in
    record { selects = of_shape i counts n count (vector_shape i y) g; fits = ap is_some g; counted = c }
of_enumeration i counts n count y h c =
    let g = shape_given (state count) (value_shape i y) h in
    record { selects = of_shape i counts n count (value_shape i y) g; fits = ap is_some g; counted = c }

pub selector_is : (language : Language) (i : Inside) (counts : Counts) (y : Typed) (by : ObjectType × Selector) → TypedFits i counts y → selector language y ≡ Some by → Selected i counts by
selector_is language i counts (o.elements OpenVector y) by h q =
    subst (Selected i counts) (some_same (Elements LogicVector, value (e.Value.elements y)) by q) (of_elements i counts LogicVector y h)
selector_is language i counts (o.elements Element y) by h q = subst (Selected i counts) (some_same (Elements Element, value (e.Value.elements y)) by q) (of_elements i counts Element y h)
selector_is language i counts (o.elements LogicVector y) by h q =
    subst (Selected i counts) (some_same (Elements LogicVector, value (e.Value.elements y)) by q) (of_elements i counts LogicVector y h)
selector_is language i counts (o.elements Unsigned y) by h q = subst (Selected i counts) (some_same (Elements Unsigned, value (e.Value.elements y)) by q) (of_elements i counts Unsigned y h)
selector_is language i counts (o.enumerated n count y) by h q = subst (Selected i counts) (some_same (Enumeration n count, value y) by q) (of_enumeration i counts n count y h.0 h.1)
selector_is language i counts (o.integer s) by h q =
    let x : ObjectType × Selector = (Integers, value (e.Value.computed (e.static s))) in
    subst (Selected i counts) (some_same x by (wider_is language (Some x) by q)) (of_number i counts (e.static s) h)
selector_is language i counts (o.computed y) by h q = subst (Selected i counts) (some_same (Integers, value (e.Value.computed y)) by q) (of_number i counts y h)
selector_is language i counts (o.truth t) by h q =
    let x : ObjectType × Selector = (Booleans, truth t) in
    subst (Selected i counts) (some_same x by (wider_is language (Some x) by q)) (record { selects = tt; fits = h; counted = tt })
selector_is language i counts _ by h q = absurd cc

-- ---- choices

values_chosen : (i : Inside) (kind : ElementKind) (vs : List Nine) → fixed_fits i (kind_shape kind) (u.Fixed.literal vs) ≡ true → choice_fits i (Some (kind_shape kind)) (s.values vs) ≡ true
values_chosen i Element (v ∷ []) h = refl
values_chosen i LogicVector (v ∷ vs) h = refl
values_chosen i Unsigned (v ∷ vs) h = refl
values_chosen i OpenVector (v ∷ vs) h = refl
values_chosen i _ _ h = absurd cc

-- a choice of values, and of a literal, by what is selected
of_values : (i : Inside) (w : Option Shape) (kind : ElementKind) (vs : List Nine) → Selects w (Elements kind) → fixed_fits i (kind_shape kind) (u.Fixed.literal vs) ≡ true
    → choice_fits i w (s.values vs) ≡ true
of_values i None kind vs k h = absurd k
of_values i (Some z) kind vs k h = ap (λ z. choice_fits i (Some z) (s.values vs)) k ∙ values_chosen i kind vs h

of_position : (i : Inside) (w : Option Shape) (n count q : ℕ) → Selects w (Enumeration n count) → nat_lt q count ≡ true → choice_fits i w (s.Choice.position q) ≡ true
of_position i None n count q k h = refl
of_position i (Some z) n count q k h = ap (λ z. choice_fits i (Some z) (s.Choice.position q)) k ∙ h

of_boolean : (i : Inside) (w : Option Shape) (q : ℕ) → Selects w Booleans → choice_fits i w (s.Choice.position q) ≡ true
of_boolean i None q k = refl
of_boolean i (Some z) q k = absurd k

named_fits : (i : Inside) (counts : Counts) (w : Option Shape) (type : ObjectType) (d : Meaning) (c : Choice) → Selects w type → IsCounted counts type → MeaningFits i counts d
    → named_choice type d ≡ Some c → choice_fits i w c ≡ true
named_fits i counts w (Elements Element) (visibility.constant k Element (Some vs)) c f n h q =
    subst (λ c. choice_fits i w c ≡ true) (some_same (s.values vs) c q) (of_values i w Element vs f h.1)
named_fits i counts w (Elements LogicVector) (visibility.constant k LogicVector (Some vs)) c f n h q =
    subst (λ c. choice_fits i w c ≡ true) (some_same (s.values vs) c q) (of_values i w LogicVector vs f h.1)
named_fits i counts w (Elements Unsigned) (visibility.constant k Unsigned (Some vs)) c f n h q =
    subst (λ c. choice_fits i w c ≡ true) (some_same (s.values vs) c q) (of_values i w Unsigned vs f h.1)
named_fits i counts w (Enumeration d count) (visibility.literal b size z) c f n h q =
    let a = p.given (b == d) (s.Choice.position z) c q in
    let g = same_count counts b d size count a.holds h.1 n in
    subst (λ c. choice_fits i w c ≡ true) a.is (of_position i w d count z f (ap (nat_lt z) (sym g) ∙ h.0))
named_fits i counts w Booleans (visibility.boolean_literal b) c f n h q =
    subst (λ c. choice_fits i w c ≡ true) (some_same (s.Choice.position (position_of b)) c q) (of_boolean i w (position_of b) f)
named_fits i counts w _ _ c f n h q = absurd cc

literal_fits : (i : Inside) (w : Option Shape) (type : ObjectType) (d : Expr) (c : Choice) → Selects w type → literal_choice type d ≡ Some c → choice_fits i w c ≡ true
literal_fits i w (Elements k) d c f q =
    let a = mapped s.values (literal_values k d) c q in
    subst (λ c. choice_fits i w c ≡ true) a.is (of_values i w k a.value f (literal_values_fit i k d a.value a.from))
literal_fits i w _ d c f q = absurd cc

chosen_fits : (i : Inside) (counts : Counts) (sight : Sight) → IsInside i counts sight → (w : Option Shape) (type : ObjectType) → Selects w type → IsCounted counts type
    → (d : Expr) (c : Choice) → chosen sight type d ≡ Some c → choice_fits i w c ≡ true
chosen_fits i counts sight h w type f n (t.named a t.plain None) c q =
    let b = comes (meaning sight a.text) (named_choice type) c q in
    named_fits i counts w type b.value c f n (meant i counts sight h a.text b.value b.is) b.rest
chosen_fits i counts sight h w type f n d c q = literal_fits i w type d c f q

-- integers
of_numbers : (i : Inside) (w : Option Shape) (x : TypedChoice) (c : Choice) → Selects w Integers → meanings.choice_fits i x ≡ true → numbers_of x ≡ Some c → choice_fits i w c ≡ true
of_numbers i None x c f h q = absurd f
of_numbers i (Some z) (types.others at) c f h q = absurd cc
of_numbers i (Some z) (types.place is_local k) c f h q =
    let a = p.given is_local (s.numbers k) c q in
    ap (λ z. choice_fits i (Some z) c) f ∙ subst (λ c. choice_fits i (Some number) c ≡ true) a.is h

choice_is : (i : Inside) (counts : Counts) (sight : Sight) → IsInside i counts sight → (w : Option Shape) (type : ObjectType) → Selects w type → IsCounted counts type
    → (d : t.Choice) (c : Choice) → choice sight type d ≡ Some c → choice_fits i w c ≡ true
choice_is i counts sight h w Integers f n d c q =
    let a = comes (typed_choice sight d) numbers_of c q in
    of_numbers i w a.value c f (expressions.choice_is d i counts sight a.value (served i counts sight h) a.is) a.rest
choice_is i counts sight h w type f n (t.chosen d) c q = chosen_fits i counts sight h w type f n d c q
choice_is i counts sight h w type f n (t.chosen_range d direction g) c q = absurd cc
choice_is i counts sight h w type f n (t.otherwise at) c q = absurd cc

pub each_all : {A B : Type 0} (f : A → Option B) (test : B → Bool) → ((x : A) (y : B) → f x ≡ Some y → test y ≡ true)
    → (xs : List A) (ys : List B) → each f xs ≡ Some ys → list_all test ys ≡ true
each_all f test each_passes [] ys q = subst (λ ys. list_all test ys ≡ true) (some_same [] ys q) refl
each_all f test each_passes (x ∷ xs) ys q =
    let a = comes (f x) _ ys q in
    let b = comes (each f xs) _ ys a.rest in
    subst (λ ys. list_all test ys ≡ true) (some_same (a.value ∷ b.value) ys b.rest)
    (and_from (test a.value) (list_all test b.value) (each_passes x a.value a.is) (each_all f test each_passes xs b.value b.is))

choices_fit : (i : Inside) (counts : Counts) (sight : Sight) → IsInside i counts sight → (w : Option Shape) (type : ObjectType) → Selects w type → IsCounted counts type
    → (ds : List t.Choice) (cs : List Choice) → choices sight type ds ≡ Some cs → list_all (choice_fits i w) cs ≡ true
choices_fit i counts sight h w type f n (t.otherwise at ∷ []) cs q = subst (λ cs. list_all (choice_fits i w) cs ≡ true) (some_same [] cs q) refl
choices_fit i counts sight h w type f n ds cs q = each_all (choice sight type) (choice_fits i w) (choice_is i counts sight h w type f n) ds cs q

pub covered_fits : (i : Inside) (counts : Counts) (sight : Sight) → IsInside i counts sight → (w : Option Shape) (type : ObjectType) → Selects w type → IsCounted counts type
    → (dss : List (List t.Choice)) (css : List (List Choice)) → covered sight type dss ≡ Some css → list_all (list_all (choice_fits i w)) css ≡ true
covered_fits i counts sight h w type f n dss css q =
    let a = kept (only_last_others dss) _ css q in
    let b = comes (each (choices sight type) dss) _ css a.1 in
    let c = kept (are_distinct_choices (flat_map (λ cs. cs) b.value)) _ css b.rest in
    let d = kept (is_last_others dss || names_all type (flat_map (λ cs. cs) b.value)) _ css c.1 in
    subst (λ css. list_all (list_all (choice_fits i w)) css ≡ true) (some_same b.value css d.1)
    (each_all (choices sight type) (list_all (choice_fits i w)) (choices_fit i counts sight h w type f n) dss b.value b.is)

last_fits : (i : Inside) (w : Option Shape) (cs : List Choice) (b : Statements) → list_all (choice_fits i w) cs ≡ true → statements_fit i b ≡ true → alternatives_fit i w (last_by cs b) ≡ true
unfolding alternatives_fit
last_fits i w (s.numbers k ∷ cs) b f h = and_from (list_all (choice_fits i w) (s.numbers k ∷ cs)) (statements_fit i b) f h
last_fits i w _ b f h = h

pub arranged_fits : (i : Inside) (w : Option Shape) (css : List (List Choice)) (bodies : List Statements) (alts : Alternatives) → list_all (list_all (choice_fits i w)) css ≡ true
    → list_all (statements_fit i) bodies ≡ true → arranged css bodies ≡ Some alts → alternatives_fit i w alts ≡ true
unfolding alternatives_fit
arranged_fits i w (cs ∷ []) (b ∷ []) alts f h q =
    subst (λ alts. alternatives_fit i w alts ≡ true) (some_same (last_by cs b) alts q)
    (last_fits i w cs b (and_parts (list_all (choice_fits i w) cs) true f).0 (and_parts (statements_fit i b) true h).0)
arranged_fits i w (cs ∷ ds ∷ css) (b ∷ bs) alts f h q =
    let a = mapped (s.alternative cs b) (arranged (ds ∷ css) bs) alts q in
    let c = and_parts (list_all (choice_fits i w) cs) (list_all (list_all (choice_fits i w)) (ds ∷ css)) f in
    let g = and_parts (statements_fit i b) (list_all (statements_fit i) bs) h in
    subst (λ alts. alternatives_fit i w alts ≡ true) a.is
    (and_from (list_all (choice_fits i w) cs && statements_fit i b) (alternatives_fit i w a.value) (and_from (list_all (choice_fits i w) cs) (statements_fit i b) c.0 g.0)
    (arranged_fits i w (ds ∷ css) bs a.value c.1 g.1 a.from))
arranged_fits i w _ _ alts f h q = absurd cc

-- ---- the statement that selects

branches_by_fit : (i : Inside) (at : ℕ) (w : Option Shape) (alts : Alternatives) (r : Test) → test_fits i r ≡ true → alternatives_fit i w alts ≡ true → branches_fit i (branches_by at r alts) ≡ true
unfolding alternatives_fit
branches_by_fit i at w (s.others b) r h f = f
branches_by_fit i at w (s.complete cs b) r h f = (and_parts (list_all (choice_fits i w) cs) (statements_fit i b) f).1
branches_by_fit i at w (s.alternative cs b alts) r h f =
    let a = and_parts (list_all (choice_fits i w) cs && statements_fit i b) (alternatives_fit i w alts) f in
    let c = and_parts (list_all (choice_fits i w) cs) (statements_fit i b) a.0 in
    and_from (test_fits i r && statements_fit i b) (branches_fit i (branches_by at (always at) alts)) (and_from (test_fits i r) (statements_fit i b) h c.1)
    (branches_by_fit i at w alts (always at) refl a.1)

either_fits : (i : Inside) (counts : Counts) (b : Bool) (r : Test) → test_fits i r ≡ true → test_fits i (if b then r else negated r) ≡ true
either_fits i counts true r h = h
either_fits i counts false r h = negated_fits i counts r h

read_only_fits : (i : Inside) (at : ℕ) (r : Test) → test_fits i r ≡ true → statement_fits i (read_only at r) ≡ true
unfolding alternatives_fit
read_only_fits i at r h = ap (λ b. b && true && true) h

deciding_fits : (i : Inside) (counts : Counts) (at : ℕ) (w : Option Shape) (r : Test) (alts : Alternatives) → test_fits i r ≡ true → alternatives_fit i w alts ≡ true
    → statement_fits i (deciding at r alts) ≡ true
unfolding alternatives_fit
deciding_fits i counts at w r (s.alternative (s.Choice.position q ∷ []) b alts) h f =
    branches_by_fit i at w (s.alternative (s.Choice.position q ∷ []) b alts) (if q == 1 then r else negated r) (either_fits i counts (q == 1) r h) f
deciding_fits i counts at w r alts h f =
    let done = branches_fit i (branches_by at (always at) alts) in
    and_from (statement_fits i (read_only at r)) (done && true) (read_only_fits i at r h) (and_from done true (branches_by_fit i at w alts (always at) refl f) refl)

pub selecting_fits : (i : Inside) (counts : Counts) (at : ℕ) (by : Selector) (alts : Alternatives) → selected_fits i by ≡ true → alternatives_fit i (selected_shape i by) alts ≡ true
    → statement_fits i (selecting at by alts) ≡ true
unfolding alternatives_fit
selecting_fits i counts at (value v) alts h f = and_from (selector_fits i v) (alternatives_fit i (value_shape i v) alts) h f
selecting_fits i counts at (truth r) alts h f = deciding_fits i counts at None r alts h f
