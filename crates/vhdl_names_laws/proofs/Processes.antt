-- Each process fits: its variables, what it is sensitive to and its body (IEEE 1076-2008, 11.3 and 11.6).
use Rattle.std.proofs.Common.{◌≡◌, ℕ, Bool, true, false, ◌&&◌, ◌||◌, not, List, [], ◌∷◌, ◌++◌, length, map, Option, Some, None, refl, ap, sym, ◌∙◌, subst, arith, append-nil}
use Rattle.std.specs.Prelude.{nat_le, if◌then◌else◌}
use Rattle.std.specs.List.{list_all, list_any, AllByRecursion}
use Rattle.std.specs.Option.{option_map, is_some}
use Rattle.std.proofs.lemmas.Bool.{and_parts, and_from}
use Rattle.vhdl_lexer.specs.declared.language.Language.TheVariants.{Wide}
use Rattle.vhdl_tree.specs.Tree as t
use Rattle.vhdl_tree.specs.Tree.{Ident}
use Rattle.vhdl_tree.specs.Pieces.{IsEach}
use Rattle.vhdl_tree.specs.grammar.Process.{IsProcessDeclarationIn, IsProcessIn}
use Rattle.vhdl_names_rules.specs.units.Expressions.{Static, StaticTest, Range, SignalPart}
use Rattle.vhdl_names_rules.specs.units.Statements as s
use Rattle.vhdl_names_rules.specs.units.Units as u
use Rattle.vhdl_names_rules.specs.units.Units.{Form, Fixed, Units}
use Rattle.vhdl_names_rules.specs.Rules.{each, if_any}
use Rattle.vhdl_names_rules.specs.Visibility.{Declared, Sight, declared_here, declaration, meaning, with_variables, Declares}
use Rattle.vhdl_names_rules.specs.Subtypes as subtypes'
use Rattle.vhdl_names_rules.specs.Subtypes.{subtype, object_subtype, form_range, integer_subtype, numbers_direction, TypeClass, class_of, fixed_value, object}
use Rattle.vhdl_names_rules.specs.Declarations.{in_order, within_variables, variables, as_kind, single_expression, static_test, told_at, constants_by, constants_in, if_ranged, is_open, others_declared, as_it_was, subtype_by, subtype_in, enumeration_in, process_declaration}
use Rattle.vhdl_names_rules.specs.Expressions.{static, condition}
use Rattle.vhdl_names_rules.specs.Edges.{Edge, waited_edge}
use Rattle.vhdl_names_rules.specs.Statements as sequential
use Rattle.vhdl_names_rules.specs.Statements.{SignalName, signal, signal_target, conditional, alone}
use Rattle.vhdl_names_rules.specs.Choices.{selecting}
use Rattle.vhdl_names_rules.specs.Concurrent.{assigning, assignment, selected, sensitivity, awaited, resumed_by, behind_wait, process}
use Rattle.vhdl_names_rules.specs.sound.Expressions.{Inside, Shape, edge_fits, place_shape}
use Rattle.vhdl_names_rules.specs.sound.Statements.{statement_fits, statements_fit}
use Rattle.vhdl_names_rules.specs.sound.Units.{sensitivity_fits, process_fits, concurrent_fits, is_signal, declaration_fits, with_declaration, declarations_fit, with_declarations}
use Rattle.vhdl_names_laws.specs.Meanings.{Counts, IsInside}
use Rattle.vhdl_names_laws.proofs.Statics.{some_same, HasNumbers, Keeps, keeps_all, keeps_before}
use Rattle.vhdl_names_rules.proofs.kept.Keeping.{mapped}
use Rattle.vhdl_names_rules.proofs.laws.Edges.{waited_fits}
use Rattle.vhdl_names_rules.proofs.laws.Rules.{comes, kept, neither}
use Rattle.vhdl_names_rules.proofs.laws.Parts.{process_parts, selected_parts}
use Rattle.vhdl_names_laws.proofs.More.{place_more}
use Rattle.vhdl_names_laws.proofs.Served.{served}
use Rattle.vhdl_names_laws.proofs.Expressions.{typed_fits}
use Rattle.vhdl_names_laws.proofs.Values.{condition_fits}
use Rattle.vhdl_names_laws.proofs.Awaiting.{level_fits, edge_is_place}
use Rattle.vhdl_names_laws.proofs.Choices.{selected_shape, selector_is, each_all, covered_fits, arranged_fits, selecting_fits}
use Rattle.vhdl_names_laws.proofs.Statements.{signal_fits, target_is, conditional_is, alone_fits, statements_are}
use Rattle.vhdl_names_laws.proofs.Statements.{assignment_is as one_assigned}
use Rattle.vhdl_names_laws.proofs.InOrder as r
use Rattle.vhdl_names_laws.proofs.Known.{Place, in_process, AreCounted, IsKnown}
use Rattle.vhdl_names_laws.proofs.Declarations.{process_step}

-- ---- declarations one after another

module _ (p : Place) where
  pub declarations_are : (ds : List u.Declaration) (i : Inside) → r.all_fit with_declaration declaration_fits p.with_more (IsKnown p) i ds ≡ true → declarations_fit i ds ≡ true
  declarations_are [] i h = refl
  declarations_are (d ∷ ds) i h =
      let a = and_parts (declaration_fits i d) (r.all_fit with_declaration declaration_fits p.with_more (IsKnown p) (with_declaration i d) ds) h in
      and_from (declaration_fits i d) (declarations_fit (with_declaration i d) ds) a.0 (declarations_are ds (with_declaration i d) a.1)

  pub added_declarations : (ds : List u.Declaration) (i : Inside) → r.all_added with_declaration declaration_fits p.with_more (IsKnown p) i ds ≡ with_declarations i ds
  added_declarations [] i = refl
  added_declarations (d ∷ ds) i = added_declarations ds (with_declaration i d)

-- with declarations no less is inside
numbers_after : (d : u.Declaration) (i : Inside) → HasNumbers i (with_declaration i d)
numbers_after (u.Declaration.integer at s n) i = record { generics = omega arith; integers = omega arith; ranges = omega arith; generates = omega arith; loops = omega arith }
numbers_after (u.Declaration.truth at x) i = record { generics = omega arith; integers = omega arith; ranges = omega arith; generates = omega arith; loops = omega arith }
numbers_after (u.Declaration.constant at f x) i = record { generics = omega arith; integers = omega arith; ranges = omega arith; generates = omega arith; loops = omega arith }
numbers_after (u.Declaration.signal o) i = record { generics = omega arith; integers = omega arith; ranges = omega arith; generates = omega arith; loops = omega arith }
numbers_after (u.Declaration.variable o) i = record { generics = omega arith; integers = omega arith; ranges = omega arith; generates = omega arith; loops = omega arith }
numbers_after (u.vector_subtype at x) i = record { generics = omega arith; integers = omega arith; ranges = omega arith; generates = omega arith; loops = omega arith }
numbers_after (u.integer_subtype at s) i = record { generics = omega arith; integers = omega arith; ranges = omega arith; generates = omega arith; loops = omega arith }

signals_after : (d : u.Declaration) (i : Inside) → Keeps i.signals (with_declaration i d).signals
signals_after (u.Declaration.signal o) i = keeps_before i.signals (o.form ∷ [])
signals_after _ i = keeps_all i.signals

-- a place of a signal stays
place_after : (ds : List u.Declaration) (i : Inside) (p : SignalPart) (z : Shape) → place_shape i p ≡ Some z → place_shape (with_declarations i ds) p ≡ Some z
place_after [] i p z h = h
place_after (d ∷ ds) i p z h = place_after ds (with_declaration i d) p z (place_more i (with_declaration i d) (numbers_after d i) (ports d) (signals_after d i) p z h)
  where
    ports : (d : u.Declaration) → Keeps i.ports (with_declaration i d).ports
    ports (u.Declaration.signal o) = keeps_all i.ports
    ports _ = keeps_all i.ports

places_after : (ds : List u.Declaration) (i : Inside) (ps : List SignalPart) → list_all (λ p. is_some (place_shape i p)) ps ≡ true → list_all (λ p. is_some (place_shape (with_declarations i ds) p)) ps ≡ true
places_after ds i [] h = refl
places_after ds i (p ∷ ps) h =
    let a = and_parts (is_some (place_shape i p)) (list_all (λ p. is_some (place_shape i p)) ps) h in
    and_from (is_some (place_shape (with_declarations i ds) p)) (list_all (λ p. is_some (place_shape (with_declarations i ds) p)) ps) (go (place_shape i p) refl a.0) (places_after ds i ps a.1)
  where
    go : (o : Option Shape) → place_shape i p ≡ o → is_some o ≡ true → is_some (place_shape (with_declarations i ds) p) ≡ true
    go None e h = absurd cc
    go (Some z) e h = ap is_some (place_after ds i p z e)

sensitivity_after : (ds : List u.Declaration) (i : Inside) (x : u.Sensitivity) → sensitivity_fits i x ≡ true → sensitivity_fits (with_declarations i ds) x ≡ true
sensitivity_after ds i (u.listed ps) h = places_after ds i ps h
sensitivity_after ds i u.every h = refl
sensitivity_after ds i u.as_read h = refl

-- ---- what isn't declared

any_append : (q : u.Declaration → Bool) (xs ys : List u.Declaration) → list_any q xs ≡ false → list_any q ys ≡ false → list_any q (xs ++ ys) ≡ false
any_append q [] ys h k = k
any_append q (x ∷ xs) ys h k = let a = neither (q x) (list_any q xs) h in ap (λ b. b || list_any q (xs ++ ys)) a.0 ∙ any_append q xs ys a.1 k

pub any_named : (q : u.Declaration → Bool) (f : Ident → u.Declaration) → ((n : Ident) → q (f n) ≡ false) → (ns : List Ident) → list_any q (map f ns) ≡ false
any_named q f none [] = refl
any_named q f none (n ∷ ns) = ap (λ b. b || list_any q (map f ns)) (none n) ∙ any_named q f none ns

any_ranged : {A : Type 0} (q : u.Declaration → Bool) (f : A → u.Declaration) → ((x : A) → q (f x) ≡ false) → (o : Option A) → list_any q (if_ranged f o) ≡ false
any_ranged q f none None = refl
any_ranged q f none (Some x) = ap (λ b. b || false) (none x)

pub each_lacks : {A : Type 0} (q : u.Declaration → Bool) (with_more : Sight → List Declared → Sight) (declares : Sight → A → Option (Declares u.Declaration))
    → ((sight : Sight) (d : A) (x : Declares u.Declaration) → declares sight d ≡ Some x → list_any q x.analysed ≡ false)
    → (ds : List A) (sight : Sight) (x : Declares u.Declaration) → in_order with_more declares sight ds ≡ Some x → list_any q x.analysed ≡ false
each_lacks q with_more declares one [] sight x h = ap (λ (x : Declares u.Declaration). list_any q x.analysed) (sym (some_same _ x h))
each_lacks q with_more declares one (d ∷ ds) sight x h =
    let c = comes (declares sight d) _ x h in
    let e = comes (in_order with_more declares (with_more sight c.value.declared) ds) _ x c.rest in
    ap (λ (x : Declares u.Declaration). list_any q x.analysed) (sym (some_same _ x e.rest))
    ∙ any_append q c.value.analysed e.value.analysed (one sight d c.value c.is) (each_lacks q with_more declares one ds (with_more sight c.value.declared) e.value e.is)

-- what constants and subtypes aren't
pub record Lacks (q : u.Declaration → Bool) : Type 0 where
  pub integers : (at : ℕ) (s : u.IntegerSubtype) (n : Static) → q (u.Declaration.integer at s n) ≡ false
  pub truths : (at : ℕ) (x : StaticTest) → q (u.Declaration.truth at x) ≡ false
  pub constants : (at : ℕ) (f : Form) (x : Fixed) → q (u.Declaration.constant at f x) ≡ false
  pub vectors : (at : ℕ) (x : Range) → q (u.vector_subtype at x) ≡ false
  pub subtypes : (at : ℕ) (s : u.IntegerSubtype) → q (u.integer_subtype at s) ≡ false

module _ (q : u.Declaration → Bool) (none : Lacks q) where
  abbrev LacksIt : Declares u.Declaration → Type 0
  LacksIt x = list_any q x.analysed ≡ false

  module _ (inner : Sight) (before : List Declared) where
    constants_by_lack : (d : t.Constants) (class : TypeClass) (x : Declares u.Declaration) → constants_by inner before d class ≡ Some x → LacksIt x
    constants_by_lack d subtypes'.integers x h =
        let a = comes (integer_subtype inner d.subtype) _ x h in
        let b = comes (single_expression d.value) _ x a.rest in
        let c = comes (static inner b.value) _ x b.rest in
        subst LacksIt (some_same _ x c.rest) (any_named q (λ n. u.Declaration.integer (told_at a.value n b.value) a.value c.value) (λ n. none.integers (told_at a.value n b.value) a.value c.value) d.names)
    constants_by_lack d subtypes'.booleans x h =
        let a = kept (not (is_some d.subtype.constraint)) _ x h in
        let b = comes (single_expression d.value) _ x a.1 in
        let c = comes (static_test inner b.value) _ x b.rest in
        subst LacksIt (some_same _ x c.rest) (any_named q (λ n. u.Declaration.truth n.at c.value) (λ n. none.truths n.at c.value) d.names)
    constants_by_lack d subtypes'.others x h =
        let a = comes (subtype inner d.subtype) _ x h in
        let b = comes (as_kind a.value.type) _ x a.rest in
        let c = comes (fixed_value inner a.value.type (form_range a.value.form) d.value) _ x b.rest in
        subst LacksIt (some_same _ x c.rest) (any_named q (λ n. u.Declaration.constant n.at a.value.form c.value) (λ n. none.constants n.at a.value.form c.value) d.names)

    pub constants_lack : (d : t.Constants) (x : Declares u.Declaration) → constants_in inner before d ≡ Some x → LacksIt x
    unfolding constants_in
    constants_lack d x h = let a = comes (meaning inner d.subtype.mark.text) _ x h in constants_by_lack d (class_of a.value) x a.rest

    as_it_was_lacks : (d : t.SubtypeDeclaration) (mark : Declared) (x : Declares u.Declaration) → as_it_was inner before d mark ≡ Some x → LacksIt x
    as_it_was_lacks d mark x h = subst LacksIt (some_same _ x h) refl

    subtype_by_lacks : (d : t.SubtypeDeclaration) (mark : Declared) (class : TypeClass) (x : Declares u.Declaration) → subtype_by inner before d mark class ≡ Some x → LacksIt x
    subtype_by_lacks d mark subtypes'.integers x h =
        let s = comes (integer_subtype inner d.subtype) _ x h in
        subst LacksIt (some_same _ x s.rest) (any_ranged q (λ e. u.integer_subtype d.name.at s.value) (λ e. none.subtypes d.name.at s.value) (numbers_direction mark s.value))
    subtype_by_lacks d mark subtypes'.booleans x h = let a = kept (not (is_some d.subtype.constraint)) _ x h in as_it_was_lacks d mark x a.1
    subtype_by_lacks d mark subtypes'.others x h = by (is_open mark d.subtype) h
      where
        by : (b : Bool) → (if b then as_it_was inner before d mark else others_declared inner before d mark) ≡ Some x → LacksIt x
        by true h = as_it_was_lacks d mark x h
        by false h =
            let s = comes (subtype inner d.subtype) _ x h in
            subst LacksIt (some_same _ x s.rest) (any_ranged q (u.vector_subtype d.name.at) (λ e. none.vectors d.name.at e) (form_range s.value.form))

    pub subtype_lacks : (d : t.SubtypeDeclaration) (x : Declares u.Declaration) → subtype_in inner before d ≡ Some x → LacksIt x
    unfolding subtype_in
    subtype_lacks d x h = let a = comes (declaration inner d.subtype.mark.text) _ x h in subtype_by_lacks d a.value (class_of a.value.meaning) x a.rest

  pub enumeration_lacks : (before : List Declared) (d : t.Enumeration) (x : Declares u.Declaration) → enumeration_in before d ≡ Some x → LacksIt x
  unfolding enumeration_in
  enumeration_lacks before d x h = let a = kept (nat_le (length d.literals) 256) _ x h in subst LacksIt (some_same _ x a.1) refl

-- a process declares no signal
no_signal : Lacks is_signal
no_signal = record { integers = λ at s n. refl; truths = λ at x. refl; constants = λ at f x. refl; vectors = λ at x. refl; subtypes = λ at s. refl }

variables_lack : (sight : Sight) (d : t.Variables) (x : Declares u.Declaration) → variables sight d ≡ Some x → list_any is_signal x.analysed ≡ false
unfolding variables
variables_lack sight d x h =
    let s = comes (object_subtype (within_variables sight d.names) d.subtype) _ x h in
    let c = comes (if_any (fixed_value (within_variables sight d.names) s.value.type (form_range s.value.form)) d.default) _ x s.rest in
    subst (LacksIt is_signal no_signal) (some_same _ x c.rest) (any_named is_signal (λ n. u.Declaration.variable (object s.value c.value n)) (λ n. refl) d.names)

process_lacks : (sight : Sight) (d : t.ProcessDeclaration) (x : Declares u.Declaration) → process_declaration sight d ≡ Some x → list_any is_signal x.analysed ≡ false
process_lacks sight (t.variables d) x h = variables_lack sight d x h
process_lacks sight (t.process_constants d) x h = constants_lack is_signal no_signal (within_variables sight d.names) (declared_here sight) d x h
process_lacks sight (t.process_enumeration d) x h = enumeration_lacks is_signal no_signal (declared_here sight) d x h
process_lacks sight (t.process_subtype d) x h = subtype_lacks is_signal no_signal (within_variables sight (d.name ∷ [])) (declared_here sight) d x h

-- ---- what a process is sensitive to

-- outside processes no variable is in sight
pub record IsOutside (i : Inside) (counts : Counts) (sight : Sight) : Type 0 where
  pub inside : IsInside i counts sight
  pub counted : AreCounted i counts sight.region
  pub none_in_sight : sight.variables ≡ []

mapped_all : {A B : Type 0} (f : A → B) (test : B → Bool) (xs : List A) → list_all (λ x. test (f x)) xs ≡ true → list_all test (map f xs) ≡ true
mapped_all f test [] h = refl
mapped_all f test (x ∷ xs) h = let a = and_parts (test (f x)) (list_all (λ x. test (f x)) xs) h in and_from (test (f x)) (list_all test (map f xs)) a.0 (mapped_all f test xs a.1)

sensitivity_is : (i : Inside) (counts : Counts) (sight : Sight) (w : t.Sensitivity) (waits : Bool) (x : u.Sensitivity) → IsInside i counts sight → sensitivity sight w waits ≡ Some x
    → sensitivity_fits i x ≡ true
sensitivity_is i counts sight t.absent true x h q = subst (λ x. sensitivity_fits i x ≡ true) (some_same (u.listed []) x q) refl
sensitivity_is i counts sight t.absent false x h q = absurd cc
sensitivity_is i counts sight t.every waits x h q = subst (λ x. sensitivity_fits i x ≡ true) (some_same u.every x q) refl
sensitivity_is i counts sight (t.listed ns) waits x h q =
    let place : SignalName → SignalPart = λ x. x.place in
    let a = mapped (λ xs. u.listed (map place xs)) (each (signal sight) ns) x q in
    subst (λ x. sensitivity_fits i x ≡ true) a.is
    (mapped_all place (λ p. is_some (place_shape i p)) a.value
    (each_all (signal sight) (λ x. is_some (place_shape i x.place)) (λ n y g. ap is_some (signal_fits i counts sight n y h g).shape) ns a.value a.from))

-- what a process waits for is the place of an edge
abbrev EdgeFits : Inside → Option Edge → Type 0
EdgeFits i None = Unit {0}
EdgeFits i (Some edge) = edge_fits i edge.place ≡ true

awaited_is : (i : Inside) (counts : Counts) (sight : Sight) (o : t.Sensitivity) (wait : Option t.Wait) (edge : Option Edge) → IsInside i counts sight → awaited sight o wait ≡ Some edge → EdgeFits i edge
awaited_is i counts sight o None edge h q = subst (EdgeFits i) (some_same None edge q) tt
awaited_is i counts sight t.absent (Some w) edge h q =
    let c = comes (condition sight w.condition) _ edge q in
    let m = mapped Some (waited_edge c.value) edge c.rest in
    let fits = condition_fits i counts sight w.condition c.value (served i counts sight h) c.is in
    subst (EdgeFits i) m.is (waited_fits i c.value m.value fits (λ f g. level_fits i counts c.value f fits g) m.from)
awaited_is i counts sight _ (Some w) edge h q = absurd cc

resumed_is : (i : Inside) (edge : Option Edge) (on : u.Sensitivity) → EdgeFits i edge → sensitivity_fits i on ≡ true → sensitivity_fits i (resumed_by edge on) ≡ true
resumed_is i None on h g = g
resumed_is i (Some edge) on h g = and_from (is_some (place_shape i edge.place)) true (edge_is_place i i.variables edge.place h) refl

behind_is : (i : Inside) (wait : Option t.Wait) (edge : Option Edge) (xs : s.Statements) → EdgeFits i edge → statements_fit i xs ≡ true → statements_fit i (behind_wait wait edge xs) ≡ true
unfolding statements_fit
behind_is i None edge xs h g = g
behind_is i (Some w) None xs h g = g
behind_is i (Some w) (Some edge) xs h g =
    and_from (edge_fits i edge.place && statements_fit i xs && true) true (and_from (edge_fits i edge.place && statements_fit i xs) true (and_from (edge_fits i edge.place) (statements_fit i xs) h g) refl) refl

-- ---- processes

each_process : (ds : List t.ProcessDeclaration) → IsEach (IsProcessDeclarationIn Wide) ds → AllByRecursion (IsProcessDeclarationIn Wide) ds
each_process [] h = tt
each_process (d ∷ ds) h = (h.0, each_process ds h.1)

-- outside a process no variables are among what is declared
known_outside : (i : Inside) (counts : Counts) (sight : Sight) → IsOutside i counts sight → IsKnown in_process i counts sight
known_outside i counts sight h = record {
  inside = h.inside;
  counted = subst (AreCounted i counts) (sym (ap (λ vs. sight.region ++ vs) h.none_in_sight ∙ append-nil sight.region)) h.counted;
}

pub process_is : (i : Inside) (counts : Counts) (sight : Sight) (label : Option Ident) (p : t.Process) (x : u.Process) → IsProcessIn Wide p → IsOutside i counts sight → process sight label p ≡ Some x
    → process_fits i x ≡ true
process_is i counts sight label p x is h q =
    let d = process_parts sight label p x q in
    let ds = d.own.value.analysed in
    let inner = with_variables sight d.own.value.declared in
    let step =
    r.steps with_declaration declaration_fits in_process.with_more (IsKnown in_process) in_process.none in_process.twice (IsProcessDeclarationIn Wide) process_declaration process_step
    p.declarations (each_process p.declarations is.1) i counts sight d.own.value (known_outside i counts sight h) d.own.is in
    let j = with_declarations i ds in
    let in' : IsInside j step.more inner = subst (λ j. IsInside j step.more inner) (added_declarations in_process ds i) step.after.inside in
    let edge = awaited_is j step.more inner p.sensitivity p.wait d.edge.value in' d.edge.is in
    let on = resumed_by d.edge.value d.on.value in
    let body = behind_wait p.wait d.edge.value d.body.value in
    subst (λ x. process_fits i x ≡ true) d.is
    (and_from (sensitivity_fits j on && declarations_fit i ds && not (list_any is_signal ds)) (statements_fit j body)
    (and_from (sensitivity_fits j on && declarations_fit i ds) (not (list_any is_signal ds))
    (and_from (sensitivity_fits j on) (declarations_fit i ds)
    (resumed_is j d.edge.value d.on.value edge (sensitivity_after ds i d.on.value (sensitivity_is i counts sight p.sensitivity (is_some p.wait) d.on.value h.inside d.on.is)))
    (declarations_are in_process ds i step.fit))
    (ap not (each_lacks is_signal with_variables process_declaration process_lacks p.declarations sight d.own.value d.own.is)))
    (behind_is j p.wait d.edge.value d.body.value edge (statements_are (t.statements_of p.statements) j step.more inner d.body.value in' d.body.is)))

-- ---- assignments

-- a process of one statement
assigning_fits : (units : Units) (i : Inside) (at : ℕ) (label : Option Ident) (x : s.Statement) → statement_fits i x ≡ true → concurrent_fits units i (assigning at label x) ≡ true
unfolding concurrent_fits statements_fit
assigning_fits units i at label x h = and_from (statement_fits i x) true h refl

pub assignment_is : (units : Units) (i : Inside) (counts : Counts) (sight : Sight) (a : t.Assignment) (x : u.Concurrent) → IsOutside i counts sight → assignment sight a ≡ Some x
    → concurrent_fits units i x ≡ true
unfolding assignment
assignment_is units i counts sight a x h q =
    let b = comes (signal_target sight a.target) _ x q in
    let c = comes (conditional sight b.value a.branches a.otherwise) _ x b.rest in
    subst (λ x. concurrent_fits units i x ≡ true) (some_same _ x c.rest)
    (assigning_fits units i a.target.identifier.at a.label c.value
    (conditional_is i counts sight h.inside b.value (target_is i counts sight false a.target b.value h.inside b.is) a.branches a.otherwise c.value c.is))

pub selected_is : (units : Units) (i : Inside) (counts : Counts) (sight : Sight) (label : Option Ident) (a : t.SelectedAssignment) (x : u.Concurrent) → IsOutside i counts sight
    → selected sight label a ≡ Some x → concurrent_fits units i x ≡ true
selected_is units i counts sight label a x h q =
    let p = selected_parts sight label a x q in
    let f = selector_is sight.language i counts p.chosen.operand.value p.chosen.by.value (typed_fits a.selector i counts sight p.chosen.operand.value (served i counts sight h.inside) p.chosen.operand.is) p.chosen.by.is in
    let g = target_is i counts sight false a.target p.to.value h.inside p.to.is in
    subst (λ x. concurrent_fits units i x ≡ true) p.is
    (assigning_fits units i a.at label (selecting a.at p.chosen.by.value.1 p.chosen.all.value)
    (selecting_fits i counts a.at p.chosen.by.value.1 p.chosen.all.value f.fits
    (arranged_fits i (selected_shape i p.chosen.by.value.1) p.chosen.choices.value p.chosen.bodies.value p.chosen.all.value
    (covered_fits i counts sight h.inside (selected_shape i p.chosen.by.value.1) p.chosen.by.value.0 f.selects f.counted (map (λ (w : t.Waveform). w.choices) a.waveforms) p.chosen.choices.value p.chosen.choices.is)
    (each_all (λ (w : t.Waveform). option_map alone (sequential.assignment sight p.to.value w.value)) (statements_fit i) (λ w y k.
    let b = mapped alone (sequential.assignment sight p.to.value w.value) y k in
    subst (λ y. statements_fit i y ≡ true) b.is
    (alone_fits i counts sight h.inside p.to.value g b.value (one_assigned i counts sight h.inside p.to.value g w.value b.value b.from))) a.waveforms p.chosen.bodies.value p.chosen.bodies.is)
    p.chosen.all.is)))
