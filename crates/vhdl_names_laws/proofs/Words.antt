-- The names of declarations are identifiers of the file.
use Rattle.std.proofs.Common.{◌≡◌, Bool, true, false, not, List, [], ◌∷◌, ◌++◌, map, Option, Some, refl, subst}
use Rattle.std.specs.List.{list_all, list_any, AllByRecursion}
use Rattle.std.proofs.lemmas.Bool.{and_from}
use Rattle.vhdl_lexer.specs.declared.token.TokenKind.{TokenKind}
use Rattle.vhdl_lexer.specs.declared.token.TokenKind.TheVariants as k
use Rattle.vhdl_tree.specs.Tree as t
use Rattle.vhdl_tree.specs.Tree.{Ident}
use Rattle.vhdl_tree.specs.Pieces as p
use Rattle.vhdl_tree.specs.Pieces.{Piece, spell_ident, spell_idents, spell_each, spell_list}
use Rattle.vhdl_tree.specs.grammar.Declarations.{spell_declaration}
use Rattle.vhdl_tree.specs.grammar.Process.{spell_process_declaration}
use Rattle.vhdl_names_rules.specs.units.Units as u
use Rattle.vhdl_names_rules.specs.Rules.{if_any}
use Rattle.vhdl_names_rules.specs.Visibility.{Declared, Sight, declared_here, Declares}
use Rattle.vhdl_names_rules.specs.Subtypes.{object_subtype, form_range, fixed_value}
use Rattle.vhdl_names_rules.specs.Declarations.{in_order, within, within_variables, as_port_type, without_ports, port, signals, variables, process_declaration}
use Rattle.vhdl_names_rules.specs.Interfaces.{EntityView, component}
use Rattle.vhdl_names_rules.specs.Files.{declaration}
use Rattle.vhdl_names_rules.specs.sound.Named.{has_text, objects_are_named, declaration_is_named}
use Rattle.vhdl_names_laws.specs.Words.{IsWord, AreWords}
use Rattle.vhdl_names_laws.proofs.Statics.{some_same}
use Rattle.vhdl_names_laws.proofs.Processes.{Lacks, constants_lack, subtype_lacks, enumeration_lacks}
use Rattle.vhdl_names_rules.proofs.laws.Rules.{comes, neither}
use Rattle.vhdl_names_rules.proofs.laws.Parts.{component_parts}

-- ---- pieces

pub left : (ps qs : List Piece) → AreWords (ps ++ qs) → AreWords ps
left [] qs h = tt
left (x ∷ ps) qs h = (h.0, left ps qs h.1)

pub right : (ps qs : List Piece) → AreWords (ps ++ qs) → AreWords qs
right [] qs h = h
right (x ∷ ps) qs h = right ps qs h.1

pub each_piece : {A : Type 0} (spell : A → List Piece) (P : A → Type 0) → ((x : A) → AreWords (spell x) → P x) → (xs : List A) → AreWords (spell_each spell xs) → AllByRecursion P xs
each_piece spell P of [] h = tt
each_piece spell P of (x ∷ xs) h = (of x (left (spell x) (spell_each spell xs) h), each_piece spell P of xs (right (spell x) (spell_each spell xs) h))

pub list_piece : {A : Type 0} (separator : TokenKind) (spell : A → List Piece) (P : A → Type 0) → ((x : A) → AreWords (spell x) → P x) → (xs : List A) → AreWords (spell_list separator spell xs) → AllByRecursion P xs
list_piece separator spell P of [] h = tt
list_piece separator spell P of (x ∷ xs) h =
    let rest = spell_each (λ y. p.some separator ∷ spell y) xs in
    (of x (left (spell x) rest h), each_piece (λ y. p.some separator ∷ spell y) P (λ y g. of y g.1) xs (right (spell x) rest h))

abbrev pub NamesAreWords : List Ident → Type 0
NamesAreWords = AllByRecursion (λ (i : Ident). IsWord i.text)

pub idents_are : (ns : List Ident) → AreWords (spell_idents ns) → NamesAreWords ns
idents_are ns h = list_piece k.Comma spell_ident (λ (i : Ident). IsWord i.text) (λ i g. g.0) ns h

-- ---- names of objects

-- what is declared one after another
pub all_in_order : {A B : Type 0} (with_more : Sight → List Declared → Sight) (declares : Sight → A → Option (Declares B)) (P : A → Type 0) (Q : B → Type 0)
    → ((sight : Sight) (a : A) (x : Declares B) → P a → declares sight a ≡ Some x → AllByRecursion Q x.analysed)
    → (as' : List A) (sight : Sight) (x : Declares B) → AllByRecursion P as' → in_order with_more declares sight as' ≡ Some x → AllByRecursion Q x.analysed
all_in_order {A} {B} with_more declares P Q each_is [] sight x h q = subst (λ x. AllByRecursion Q x.analysed) (some_same _ x q) tt
all_in_order {A} {B} with_more declares P Q each_is (a ∷ as') sight x h q =
    let c = comes (declares sight a) _ x q in
    let d = comes (in_order with_more declares (with_more sight c.value.declared) as') _ x c.rest in
    subst (λ x. AllByRecursion Q x.analysed) (some_same _ x d.rest)
    (both c.value.analysed d.value.analysed (each_is sight a c.value h.0 c.is) (all_in_order with_more declares P Q each_is as' (with_more sight c.value.declared) d.value h.1 d.is))
  where
    both : (xs ys : List B) → AllByRecursion Q xs → AllByRecursion Q ys → AllByRecursion Q (xs ++ ys)
    both [] ys h g = g
    both (x ∷ xs) ys h g = (h.0, both xs ys h.1 g)

for_names : {B : Type 0} (f : Ident → B) (Q : B → Type 0) → ((n : Ident) → IsWord n.text → Q (f n)) → (ns : List Ident) → NamesAreWords ns → AllByRecursion Q (map f ns)
for_names f Q is [] h = tt
for_names f Q is (n ∷ ns) h = (is n h.0, for_names f Q is ns h.1)

abbrev pub PortIsWord : u.Port → Type 0
PortIsWord p = IsWord p.object.name

pub port_named : (sight : Sight) (d : t.Port) (x : Declares u.Port) → NamesAreWords d.names → port sight d ≡ Some x → AllByRecursion PortIsWord x.analysed
unfolding port
port_named sight d x h q =
    let a = comes (object_subtype (without_ports sight) d.subtype) _ x q in
    let b = comes (as_port_type a.value.type) _ x a.rest in
    let c = comes (if_any (fixed_value (without_ports sight) a.value.type (form_range a.value.form)) d.default) _ x b.rest in
    subst (λ x. AllByRecursion PortIsWord x.analysed) (some_same _ x c.rest) (for_names _ PortIsWord (λ n g. g) d.names h)

abbrev pub IsNamed : u.Declaration → Type 0
IsNamed d = declaration_is_named d ≡ true

variables_named : (sight : Sight) (d : t.Variables) (x : Declares u.Declaration) → NamesAreWords d.names → variables sight d ≡ Some x → AllByRecursion IsNamed x.analysed
unfolding variables
variables_named sight d x h q =
    let a = comes (object_subtype (within_variables sight d.names) d.subtype) _ x q in
    let c = comes (if_any (fixed_value (within_variables sight d.names) a.value.type (form_range a.value.form)) d.default) _ x a.rest in
    subst (λ x. AllByRecursion IsNamed x.analysed) (some_same _ x c.rest) (for_names _ IsNamed (λ n g. g.some) d.names h)

signals_named : (sight : Sight) (d : t.Signals) (x : Declares u.Declaration) → NamesAreWords d.names → signals sight d ≡ Some x → AllByRecursion IsNamed x.analysed
unfolding signals
signals_named sight d x h q =
    let a = comes (object_subtype (within sight d.names) d.subtype) _ x q in
    let c = comes (if_any (fixed_value (within sight d.names) a.value.type (form_range a.value.form)) d.default) _ x a.rest in
    subst (λ x. AllByRecursion IsNamed x.analysed) (some_same _ x c.rest) (for_names _ IsNamed (λ n g. g.some) d.names h)

-- constants and subtypes have no names behind analysis
abbrev is_nameless : u.Declaration → Bool
is_nameless d = not (declaration_is_named d)

none_nameless : Lacks is_nameless
none_nameless = record { integers = λ at s n. refl; truths = λ at x. refl; constants = λ at f x. refl; vectors = λ at x. refl; subtypes = λ at s. refl }

all_named : (ds : List u.Declaration) → list_any is_nameless ds ≡ false → AllByRecursion IsNamed ds
all_named [] h = tt
all_named (d ∷ ds) h = let a = neither (is_nameless d) (list_any is_nameless ds) h in (is_so (declaration_is_named d) a.0, all_named ds a.1)
  where
    is_so : (b : Bool) → not b ≡ false → b ≡ true
    is_so true h = refl
    is_so false h = absurd cc

component_named : (entities : List EntityView) (sight : Sight) (c : t.Component) (x : Declares u.Declaration) → component entities sight c ≡ Some x → AllByRecursion IsNamed x.analysed
component_named entities sight c x q = subst (λ x. AllByRecursion IsNamed x.analysed) (component_parts entities sight c x q).is tt

pub declaration_named : (entities : List EntityView) (sight : Sight) (d : t.Declaration) (x : Declares u.Declaration) → AreWords (spell_declaration d) → declaration entities sight d ≡ Some x
    → AllByRecursion IsNamed x.analysed
declaration_named entities sight (t.signals d) x h q = signals_named sight d x (idents_are d.names (left (spell_idents d.names) _ h.1)) q
declaration_named entities sight (t.constants d) x h q = all_named x.analysed (constants_lack is_nameless none_nameless (within sight d.names) sight.region d x q)
declaration_named entities sight (t.enumeration d) x h q = all_named x.analysed (enumeration_lacks is_nameless none_nameless sight.region d x q)
declaration_named entities sight (t.component c) x h q = component_named entities sight c x q
declaration_named entities sight (t.subtype_of d) x h q = all_named x.analysed (subtype_lacks is_nameless none_nameless (within sight (d.name ∷ [])) sight.region d x q)
declaration_named entities sight (t.attribute_of text) x h q = subst (λ x. AllByRecursion IsNamed x.analysed) (some_same _ x q) tt

pub process_declaration_named : (sight : Sight) (d : t.ProcessDeclaration) (x : Declares u.Declaration) → AreWords (spell_process_declaration d) → process_declaration sight d ≡ Some x → AllByRecursion IsNamed x.analysed
process_declaration_named sight (t.variables d) x h q = variables_named sight d x (idents_are d.names (left (spell_idents d.names) _ h.1)) q
process_declaration_named sight (t.process_constants d) x h q = all_named x.analysed (constants_lack is_nameless none_nameless (within_variables sight d.names) (declared_here sight) d x q)
process_declaration_named sight (t.process_enumeration d) x h q = all_named x.analysed (enumeration_lacks is_nameless none_nameless (declared_here sight) d x q)
process_declaration_named sight (t.process_subtype d) x h q = all_named x.analysed (subtype_lacks is_nameless none_nameless (within_variables sight (d.name ∷ [])) (declared_here sight) d x q)

-- what each is, all are
pub all_true : {A : Type 0} (test : A → Bool) (xs : List A) → AllByRecursion (λ (x : A). test x ≡ true) xs → list_all test xs ≡ true
all_true test [] h = refl
all_true test (x ∷ xs) h = and_from (test x) (list_all test xs) h.0 (all_true test xs h.1)

pub port_objects_named : (ps : List u.Port) → AllByRecursion PortIsWord ps → objects_are_named (map (λ (p : u.Port). p.object) ps) ≡ true
port_objects_named [] h = refl
port_objects_named (p ∷ ps) h = and_from (has_text p.object.name) (objects_are_named (map (λ (p : u.Port). p.object) ps)) h.0.some (port_objects_named ps h.1)
