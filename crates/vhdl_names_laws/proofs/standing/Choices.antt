-- The bytes of choices and of what is chosen by are those of pieces of a case.
use Rattle.std.proofs.Common.{◌≡◌, ℕ, Bool, true, false, ◌==◌, List, [], ◌∷◌, ◌++◌, Some, None, subst}
use Rattle.std.specs.Prelude.{if◌then◌else◌}
use Rattle.std.specs.List.{AllByRecursion, flat_map}
use Rattle.vhdl_lexer.specs.declared.language.Language.{Language}
use Rattle.vhdl_tree.specs.Tree as t
use Rattle.vhdl_tree.specs.Tree.{Expr}
use Rattle.vhdl_tree.specs.grammar.Expressions.{spell_choice}
use Rattle.vhdl_names_rules.specs.declared.kind.ElementKind.TheVariants.{Element, LogicVector, Unsigned, OpenVector}
use Rattle.vhdl_names_rules.specs.declared.kind.ObjectType.{ObjectType}
use Rattle.vhdl_names_rules.specs.declared.kind.ObjectType.TheVariants.{Elements, Enumeration, Integers, Booleans}
use Rattle.vhdl_names_rules.specs.units.Expressions as e
use Rattle.vhdl_names_rules.specs.units.Expressions.{Test}
use Rattle.vhdl_names_rules.specs.units.Statements as s
use Rattle.vhdl_names_rules.specs.units.Bytes.{value_bytes, test_bytes, choice_bytes, statement_bytes, statements_bytes, branches_bytes, alternatives_bytes}
use Rattle.vhdl_names_rules.specs.Rules.{each}
use Rattle.vhdl_names_rules.specs.Visibility as visibility
use Rattle.vhdl_names_rules.specs.Visibility.{Meaning, Sight, meaning}
use Rattle.vhdl_names_rules.specs.Types as types
use Rattle.vhdl_names_rules.specs.Types.{TypedChoice}
use Rattle.vhdl_names_rules.specs.Operators as o
use Rattle.vhdl_names_rules.specs.Operators.{Typed, negated}
use Rattle.vhdl_names_rules.specs.Names.{position_of}
use Rattle.vhdl_names_rules.specs.Expressions.{typed_choice}
use Rattle.vhdl_names_rules.specs.Subtypes.{literal_values}
use Rattle.vhdl_names_rules.specs.Choices.{named_choice, literal_choice, chosen, numbers_of, choice, choices, covered, Selector, value, truth, selector, last_by, arranged, always, branches_by, read_only, deciding, selecting}
use Rattle.vhdl_names_rules.proofs.laws.Rules.{comes}
use Rattle.vhdl_names_rules.proofs.kept.Keeping.{mapped}
use Rattle.vhdl_names_rules.proofs.kept.Covered.{choices_of_covered}
use Rattle.vhdl_names_laws.proofs.Statics.{some_same}
use Rattle.vhdl_names_laws.proofs.Shapes.{given, wider_is}
use Rattle.vhdl_names_laws.proofs.placed.Told.{Stand}
use Rattle.vhdl_names_laws.proofs.placed.Choices.{ChoicesStand}
use Rattle.vhdl_names_laws.proofs.standing.Holding.{Hold, hold_both, first_part, last_part, ChoiceHolds, TypedHolds}
use Rattle.vhdl_names_laws.proofs.standing.Operators.{negated_hold}
use Rattle.vhdl_names_laws.proofs.standing.Expressions as expressions

-- ---- selectors

abbrev pub selector_bytes : Selector → List ℕ
selector_bytes (value v) = value_bytes v
selector_bytes (truth r) = test_bytes r

abbrev SelectorHolds : (ℕ → Type 0) → ObjectType × Selector → Type 0
SelectorHolds P by = Hold P (selector_bytes by.1)

pub selector_holds : (P : ℕ → Type 0) (language : Language) (y : Typed) (by : ObjectType × Selector) → TypedHolds P y → selector language y ≡ Some by → Hold P (selector_bytes by.1)
selector_holds P language (o.elements OpenVector x) by h q = subst (SelectorHolds P) (some_same (Elements LogicVector, value (e.Value.elements x)) by q) h
selector_holds P language (o.elements Element x) by h q = subst (SelectorHolds P) (some_same (Elements Element, value (e.Value.elements x)) by q) h
selector_holds P language (o.elements LogicVector x) by h q = subst (SelectorHolds P) (some_same (Elements LogicVector, value (e.Value.elements x)) by q) h
selector_holds P language (o.elements Unsigned x) by h q = subst (SelectorHolds P) (some_same (Elements Unsigned, value (e.Value.elements x)) by q) h
selector_holds P language (o.enumerated d count x) by h q = subst (SelectorHolds P) (some_same (Enumeration d count, value x) by q) h
selector_holds P language (o.integer n) by h q =
    let x : ObjectType × Selector = (Integers, value (e.Value.computed (e.static n))) in
    subst (SelectorHolds P) (some_same x by (wider_is language (Some x) by q)) h
selector_holds P language (o.computed x) by h q = subst (SelectorHolds P) (some_same (Integers, value (e.Value.computed x)) by q) h
selector_holds P language (o.truth r) by h q =
    let x : ObjectType × Selector = (Booleans, truth r) in
    subst (SelectorHolds P) (some_same x by (wider_is language (Some x) by q)) h
selector_holds _ language _ by h q = absurd cc

-- ---- choices

named_holds : (P : ℕ → Type 0) (type : ObjectType) (d : Meaning) (c : s.Choice) → named_choice type d ≡ Some c → Hold P (choice_bytes c)
named_holds P (Elements Element) (visibility.constant k Element (Some vs)) c q = subst (λ c. Hold P (choice_bytes c)) (some_same (s.values vs) c q) tt
named_holds P (Elements LogicVector) (visibility.constant k LogicVector (Some vs)) c q = subst (λ c. Hold P (choice_bytes c)) (some_same (s.values vs) c q) tt
named_holds P (Elements Unsigned) (visibility.constant k Unsigned (Some vs)) c q = subst (λ c. Hold P (choice_bytes c)) (some_same (s.values vs) c q) tt
named_holds P (Enumeration n count) (visibility.literal d size p) c q =
    let a = given (d == n) (s.Choice.position p) c q in
    subst (λ c. Hold P (choice_bytes c)) a.is tt
named_holds P Booleans (visibility.boolean_literal b) c q = subst (λ c. Hold P (choice_bytes c)) (some_same (s.Choice.position (position_of b)) c q) tt
named_holds _ _ _ c q = absurd cc

literal_holds : (P : ℕ → Type 0) (type : ObjectType) (d : Expr) (c : s.Choice) → literal_choice type d ≡ Some c → Hold P (choice_bytes c)
literal_holds P (Elements k) d c q =
    let a = mapped s.values (literal_values k d) c q in
    subst (λ c. Hold P (choice_bytes c)) a.is tt
literal_holds _ _ d c q = absurd cc

chosen_holds : (P : ℕ → Type 0) (sight : Sight) (type : ObjectType) (d : Expr) (c : s.Choice) → chosen sight type d ≡ Some c → Hold P (choice_bytes c)
chosen_holds P sight type (t.named n t.plain None) c q =
    let a = comes (meaning sight n.text) (named_choice type) c q in
    named_holds P type a.value c a.rest
chosen_holds P sight type d c q = literal_holds P type d c q

numbers_hold : (P : ℕ → Type 0) (x : TypedChoice) (c : s.Choice) → ChoiceHolds P x → numbers_of x ≡ Some c → Hold P (choice_bytes c)
numbers_hold P (types.others at) c h q = absurd cc
numbers_hold P (types.place is_local i) c h q =
    let a = given is_local (s.numbers i) c q in
    subst (λ c. Hold P (choice_bytes c)) a.is h

choice_holds : (P : ℕ → Type 0) (sight : Sight) (type : ObjectType) (d : t.Choice) (c : s.Choice) → Stand P (spell_choice d) → choice sight type d ≡ Some c → Hold P (choice_bytes c)
choice_holds P sight Integers d c h q =
    let a = comes (typed_choice sight d) numbers_of c q in
    numbers_hold P a.value c (expressions.choice_holds d P sight a.value h a.is) a.rest
choice_holds P sight type (t.chosen d) c h q = chosen_holds P sight type d c q
choice_holds P sight type (t.chosen_range d direction f) c h q = absurd cc
choice_holds P sight type (t.otherwise at) c h q = absurd cc

each_holds : (P : ℕ → Type 0) (sight : Sight) (type : ObjectType) (ds : List t.Choice) (cs : List s.Choice) → ChoicesStand P ds → each (choice sight type) ds ≡ Some cs
    → Hold P (flat_map choice_bytes cs)
each_holds P sight type [] cs h q = subst (λ cs. Hold P (flat_map choice_bytes cs)) (some_same [] cs q) tt
each_holds P sight type (d ∷ ds) cs h q =
    let a = comes (choice sight type d) _ cs q in
    let b = comes (each (choice sight type) ds) _ cs a.rest in
    subst (λ cs. Hold P (flat_map choice_bytes cs)) (some_same (a.value ∷ b.value) cs b.rest)
    (hold_both P (choice_bytes a.value) (flat_map choice_bytes b.value) (choice_holds P sight type d a.value h.0 a.is) (each_holds P sight type ds b.value h.1 b.is))

choices_hold : (P : ℕ → Type 0) (sight : Sight) (type : ObjectType) (ds : List t.Choice) (cs : List s.Choice) → ChoicesStand P ds → choices sight type ds ≡ Some cs
    → Hold P (flat_map choice_bytes cs)
choices_hold P sight type (t.otherwise at ∷ []) cs h q = subst (λ cs. Hold P (flat_map choice_bytes cs)) (some_same [] cs q) tt
choices_hold P sight type ds cs h q = each_holds P sight type ds cs h q

abbrev pub ListsHold : (ℕ → Type 0) → List (List s.Choice) → Type 0
ListsHold P = AllByRecursion (λ (cs : List s.Choice). Hold P (flat_map choice_bytes cs))

lists_hold : (P : ℕ → Type 0) (sight : Sight) (type : ObjectType) (dss : List (List t.Choice)) (css : List (List s.Choice)) → AllByRecursion (ChoicesStand P) dss
    → each (choices sight type) dss ≡ Some css → ListsHold P css
lists_hold P sight type [] css h q = subst (ListsHold P) (some_same [] css q) tt
lists_hold P sight type (ds ∷ dss) css h q =
    let a = comes (choices sight type ds) _ css q in
    let b = comes (each (choices sight type) dss) _ css a.rest in
    subst (ListsHold P) (some_same (a.value ∷ b.value) css b.rest) (choices_hold P sight type ds a.value h.0 a.is, lists_hold P sight type dss b.value h.1 b.is)

pub covered_holds : (P : ℕ → Type 0) (sight : Sight) (type : ObjectType) (dss : List (List t.Choice)) (css : List (List s.Choice)) → AllByRecursion (ChoicesStand P) dss
    → covered sight type dss ≡ Some css → ListsHold P css
covered_holds P sight type dss css h q = lists_hold P sight type dss css h (choices_of_covered sight type dss css q)

-- ---- alternatives

abbrev pub BodiesHold : (ℕ → Type 0) → List s.Statements → Type 0
BodiesHold P = AllByRecursion (λ (b : s.Statements). Hold P (statements_bytes b))

last_holds : (P : ℕ → Type 0) (cs : List s.Choice) (b : s.Statements) → Hold P (flat_map choice_bytes cs) → Hold P (statements_bytes b) → Hold P (alternatives_bytes (last_by cs b))
last_holds P (s.numbers i ∷ cs) b h g = hold_both P (flat_map choice_bytes (s.numbers i ∷ cs)) (statements_bytes b) h g
last_holds _ _ b h g = g

pub arranged_holds : (P : ℕ → Type 0) (css : List (List s.Choice)) (bodies : List s.Statements) (alts : s.Alternatives) → ListsHold P css → BodiesHold P bodies → arranged css bodies ≡ Some alts
    → Hold P (alternatives_bytes alts)
arranged_holds P (cs ∷ []) (b ∷ []) alts g h q = subst (λ alts. Hold P (alternatives_bytes alts)) (some_same (last_by cs b) alts q) (last_holds P cs b g.0 h.0)
arranged_holds P (cs ∷ ds ∷ css) (b ∷ bs) alts g h q =
    let a = mapped (s.alternative cs b) (arranged (ds ∷ css) bs) alts q in
    subst (λ alts. Hold P (alternatives_bytes alts)) a.is
    (hold_both P (flat_map choice_bytes cs) (statements_bytes b ++ alternatives_bytes a.value) g.0
    (hold_both P (statements_bytes b) (alternatives_bytes a.value) h.0 (arranged_holds P (ds ∷ css) bs a.value g.1 h.1 a.from)))
arranged_holds _ _ _ alts g h q = absurd cc

-- ---- the statement that selects

branches_by_hold : (P : ℕ → Type 0) (at : ℕ) (alts : s.Alternatives) (r : Test) → P at → Hold P (test_bytes r) → Hold P (alternatives_bytes alts) → Hold P (branches_bytes (branches_by at r alts))
branches_by_hold P at (s.others b) r h g f = f
branches_by_hold P at (s.complete cs b) r h g f = last_part P (flat_map choice_bytes cs) (statements_bytes b) f
branches_by_hold P at (s.alternative cs b alts) r h g f =
    let a = last_part P (flat_map choice_bytes cs) (statements_bytes b ++ alternatives_bytes alts) f in
    let rest = branches_bytes (branches_by at (always at) alts) in
    hold_both P (test_bytes r) (statements_bytes b ++ rest) g
    (hold_both P (statements_bytes b) rest (first_part P (statements_bytes b) (alternatives_bytes alts) a)
    (branches_by_hold P at alts (always at) h (h, tt) (last_part P (statements_bytes b) (alternatives_bytes alts) a)))

either_holds : (P : ℕ → Type 0) (b : Bool) (r : Test) → Hold P (test_bytes r) → Hold P (test_bytes (if b then r else negated r))
either_holds P true r h = h
either_holds P false r h = negated_hold P r h

deciding_holds : (P : ℕ → Type 0) (at : ℕ) (r : Test) (alts : s.Alternatives) → P at → Hold P (test_bytes r) → Hold P (alternatives_bytes alts) → Hold P (statement_bytes (deciding at r alts))
deciding_holds P at r (s.alternative (s.Choice.position q ∷ []) b alts) h g f =
    (h, branches_by_hold P at (s.alternative (s.Choice.position q ∷ []) b alts) (if q == 1 then r else negated r) h (either_holds P (q == 1) r g) f)
deciding_holds P at r alts h g f =
    let rest = branches_by at (always at) alts in
    let read : Hold P (statement_bytes (read_only at r)) = (h, hold_both P (test_bytes r) [] g tt) in (
      h,
      hold_both P (statement_bytes (read_only at r)) ((at ∷ branches_bytes rest) ++ []) read
          (hold_both P (at ∷ branches_bytes rest) [] (h, branches_by_hold P at alts (always at) h (h, tt) f) tt),
    )

pub selecting_holds : (P : ℕ → Type 0) (at : ℕ) (by : Selector) (alts : s.Alternatives) → P at → Hold P (selector_bytes by) → Hold P (alternatives_bytes alts) → Hold P (statement_bytes (selecting at by alts))
selecting_holds P at (value v) alts h g f = (h, hold_both P (value_bytes v) (alternatives_bytes alts) g f)
selecting_holds P at (truth r) alts h g f = deciding_holds P at r alts h g f
