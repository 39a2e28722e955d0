-- What is told of an instance stands at a piece of it.
use Rattle.std.proofs.Common.{ℕ, Bool, true, false, not, ◌||◌, List, [], ◌∷◌, ◌++◌, map, Option, Some, None}
use Rattle.std.specs.Prelude.{drop, bytes_eq, codes}
use Rattle.std.specs.List.{slice_get, filter_map}
use Rattle.vhdl_lexer.specs.declared.token.TokenKind.{TokenKind}
use Rattle.vhdl_lexer.specs.declared.token.TokenKind.TheVariants as k
use Rattle.vhdl_tree.specs.Tree as t
use Rattle.vhdl_tree.specs.Tree.{Ident, Expr, Association}
use Rattle.vhdl_tree.specs.Pieces.{spell_ident, spell_option, spell_word}
use Rattle.vhdl_tree.specs.grammar.Expressions.{spell, spell_name, spell_actual, spell_formal, spell_association, spell_associations}
use Rattle.vhdl_tree.specs.grammar.Instance.{spell_chosen, spell_instantiated, spell_map, spell_instance}
use Rattle.vhdl_names_rules.specs.declared.kind.ElementKind.{ElementKind}
use Rattle.vhdl_names_rules.specs.declared.kind.ObjectType.TheVariants.{Elements}
use Rattle.vhdl_names_rules.specs.declared.fault.NameProblem.TheVariants.{Undeclared, Twice, WrongKind, TypeMismatch, WriteOfIn, LeftOut}
use Rattle.vhdl_names_rules.specs.Rules.{all_of}
use Rattle.vhdl_names_rules.specs.Visibility as visibility
use Rattle.vhdl_names_rules.specs.Visibility.{Name, Sight, is_among}
use Rattle.vhdl_names_rules.specs.Operators as o
use Rattle.vhdl_names_rules.specs.Operators.{Typed, is_vector}
use Rattle.vhdl_names_rules.specs.Expressions as expressions
use Rattle.vhdl_names_rules.specs.Expressions.{as_value}
use Rattle.vhdl_names_rules.specs.Interfaces.{EntityView, entity_named}
use Rattle.vhdl_names_rules.specs.Statements as statements
use Rattle.vhdl_names_rules.specs.Instances as are
use Rattle.vhdl_names_rules.specs.Instances.{Formal, is_named, formal_of, expression_of, as_name, is_type, may_join, is_architecture, as_component, GenericKind, GenericFormal, generic_formal, port_formal, value_as_actual}
use Rattle.vhdl_names_rules.specs.problems.Broken.{Broken, ◌▸◌, unless, lacking, where_given, of_any, any_of}
use Rattle.vhdl_names_rules.specs.problems.Places.{start, association_place}
use Rattle.vhdl_names_rules.specs.problems.Instances as broken
use Rattle.vhdl_names_rules.specs.problems.Instances.{names_value, ports_named, generics_named}
use Rattle.vhdl_names_laws.proofs.placed.Told.{Stand, EachStands, first, behind, Told, told_nothing, told_refused, told_unless, told_lacking, told_given, told_from, told_behind, told_if, told_absent, option_told, list_stands}
use Rattle.vhdl_names_laws.proofs.placed.Starts.{start_stands, association_stands}
use Rattle.vhdl_names_laws.proofs.placed.Aggregates.{aggregate_told}
use Rattle.vhdl_names_laws.proofs.placed.Expressions.{meaning_told, typed_told, static_told, static_condition_told}
use Rattle.vhdl_names_laws.proofs.placed.Statements.{named_told, signal_told}
use Rattle.vhdl_names_laws.proofs.standing.Holding.{TypedHolds}
use Rattle.vhdl_names_laws.proofs.standing.Expressions.{typed_holds}

-- ---- which unit is instantiated

instantiated_told : (P : ℕ → Type 0) (entities : List EntityView) (sight : Sight) (i : t.Instantiated) → Stand P (spell_instantiated i) → Told P (broken.instantiated entities sight i)
instantiated_told P entities sight (t.entity_unit library n a) h =
    told_behind (told_unless Undeclared library.at (bytes_eq library.text (codes "work")) h.1.0)
    (told_behind (told_lacking Undeclared n.at (entity_named entities n.text) h.1.1.1.0)
    (told_given (entity_named entities n.text) (λ e. broken.architecture a e.1.architecture)
    (λ e. option_told P spell_chosen (λ n. unless WrongKind n.at (is_architecture a e.1.architecture))
    (λ n g. told_unless WrongKind n.at (is_architecture a e.1.architecture) g.1.0) a h.1.1.1.1)))
instantiated_told P entities sight (t.component_unit word n) h =
    let g = behind P (spell_word k.Component word) (spell_ident n) h in
    told_behind (meaning_told P sight n g.0)
    (told_given (visibility.meaning sight n.text) (λ d. lacking WrongKind n.at (as_component d)) (λ d. told_lacking WrongKind n.at (as_component d) g.0))

-- ---- actuals of ports

-- the name that an expression is
name_stands : (P : ℕ → Type 0) (e : Expr) → Stand P (spell e) → (b : t.Name → Broken) → ((n : t.Name) → Stand P (spell_name n) → Told P (b n)) → Told P (where_given (as_name e) b)
name_stands P (t.named n suffix a) h b one = one (record { identifier = n; suffix = suffix; attribute = a }) h
name_stands _ _ h b one = told_nothing

actual_signal_told : (P : ℕ → Type 0) (sight : Sight) (n : t.Name) → Stand P (spell_name n) → Told P (broken.actual_signal sight n)
actual_signal_told P sight n h =
    told_if (names_value (visibility.meaning sight n.identifier.text) n.suffix) (told_behind (named_told P sight n h) (told_refused LeftOut n.identifier.at h.0)) (signal_told P sight n h)

port_actual_told : (P : ℕ → Type 0) (sight : Sight) (f : Formal) (e : Expr) → Stand P (spell e) → Told P (broken.port_actual sight f e)
port_actual_told P sight f e h =
    told_behind (told_lacking LeftOut (start e) (as_name e) (start_stands P e h))
    (name_stands P e h _
    (λ n g. told_behind (actual_signal_told P sight n g)
    (told_given (statements.signal sight n) (λ x. unless TypeMismatch n.identifier.at (is_type f.type x.type) ▸ unless WriteOfIn n.identifier.at (may_join f.mode x.mode))
    (λ x. told_behind (told_unless TypeMismatch n.identifier.at (is_type f.type x.type) g.0) (told_unless WriteOfIn n.identifier.at (may_join f.mode x.mode) g.0)))))

-- ---- maps

actual_told : (P : ℕ → Type 0) (f : Expr → Broken) → ((e : Expr) → Stand P (spell e) → Told P (f e)) → (a : t.Actual) → Stand P (spell_actual a) → Told P (of_any f (expression_of a))
actual_told P f one (t.actual e) h = one e h
actual_told P f one (t.left_open at) h = told_nothing

association_told : (P : ℕ → Type 0) (formals : List Name) (f : Name → Expr → Broken) → ((n : Name) (e : Expr) → Stand P (spell e) → Told P (f n e))
    → (left : List Name) (is_behind_named : Bool) (taken : List Name) (a : Association) → Stand P (spell_association a) → Told P (broken.association formals f left is_behind_named taken a)
association_told P formals f one left is_behind_named taken a h =
    let at = association_stands P a h in
    told_behind (told_unless WrongKind (association_place a) (not is_behind_named || is_named a) at)
    (told_behind (told_lacking WrongKind (association_place a) (formal_of left a.formal) at)
    (told_given (formal_of left a.formal) _
    (λ n. told_behind (told_unless Undeclared (association_place a) (is_among n formals) at)
    (told_behind (told_unless Twice (association_place a) (not (is_among n taken)) at)
    (actual_told P (f n) (one n) a.actual (behind P (spell_option spell_formal a.formal) (spell_actual a.actual) h))))))

associations_told : (P : ℕ → Type 0) (formals : List Name) (f : Name → Expr → Broken) → ((n : Name) (e : Expr) → Stand P (spell e) → Told P (f n e))
    → (as' : List Association) (left : List Name) (is_behind_named : Bool) (taken : List Name) → EachStands P spell_association as' → Told P (broken.associations formals f left is_behind_named taken as')
associations_told P formals f one [] left is_behind_named taken h = told_nothing
associations_told P formals f one (a ∷ as') left is_behind_named taken h =
    told_behind (association_told P formals f one left is_behind_named taken a h.0)
    (told_given (formal_of left a.formal) (λ n. broken.associations formals f (drop 1 left) (is_named a) (taken ++ n ∷ []) as')
    (λ n. associations_told P formals f one as' (drop 1 left) (is_named a) (taken ++ n ∷ []) h.1))

any_port_told : (P : ℕ → Type 0) (sight : Sight) (e : Expr) → Stand P (spell e) → (fs : List Formal) → Told P (any_of (λ f. broken.port_actual sight f e) fs)
any_port_told P sight e h [] = told_nothing
any_port_told P sight e h (f ∷ fs) = told_behind (port_actual_told P sight f e h) (any_port_told P sight e h fs)

-- ---- actuals of generics

given_told : (P : ℕ → Type 0) (k : ElementKind) (at : ℕ) (x : Typed) → P at → TypedHolds P x → Told P (broken.given_value k at x)
given_told P k at (o.composite p es) h g =
    told_behind (told_unless TypeMismatch p (is_vector k) g.0) (told_behind (aggregate_told P k true es g.1) (told_lacking LeftOut at (value_as_actual k (o.composite p es)) h))
given_told P k at x h g = told_behind (told_lacking TypeMismatch at (as_value (Elements k) None x) h) (told_lacking LeftOut at (value_as_actual k x) h)

value_actual_told : (P : ℕ → Type 0) (sight : Sight) (k : ElementKind) (e : Expr) → Stand P (spell e) → Told P (broken.value_actual sight k e)
value_actual_told P sight k e h =
    told_behind (typed_told e P sight h)
    (told_from (expressions.typed sight e) (broken.given_value k (start e)) (λ x q. given_told P k (start e) x (start_stands P e h) (typed_holds e P sight x h q)))

generic_actual_told : (P : ℕ → Type 0) (sight : Sight) (e : Expr) → Stand P (spell e) → (f : GenericFormal) → Told P (broken.generic_actual sight e f)
generic_actual_told P sight e h f = by f.name f.kind
  where
    by : (n : Name) (kind : GenericKind) → Told P (broken.generic_actual sight e (record { name = n; kind = kind }))
    by n are.integer = static_told P sight e h
    by n are.boolean = static_condition_told P sight e h
    by n (are.GenericKind.elements k) = value_actual_told P sight k e h

any_generic_told : (P : ℕ → Type 0) (sight : Sight) (e : Expr) → Stand P (spell e) → (fs : List GenericFormal) → Told P (any_of (broken.generic_actual sight e) fs)
any_generic_told P sight e h [] = told_nothing
any_generic_told P sight e h (f ∷ fs) = told_behind (generic_actual_told P sight e h f) (any_generic_told P sight e h fs)

-- ---- all associations

pub map_stands : (P : ℕ → Type 0) (word : TokenKind) (o : Option (List Association)) → Stand P (spell_option (spell_map word) o) → EachStands P spell_association (all_of o)
map_stands P word None h = tt
map_stands P word (Some as') h = list_stands P k.Comma spell_association as' (first P (spell_associations as') _ h.1.1.1)

maps_told : (P : ℕ → Type 0) (sight : Sight) (e : EntityView) (i : t.Instance) → EachStands P spell_association (all_of i.generics) → EachStands P spell_association (all_of i.ports)
    → Told P (broken.maps sight e i)
maps_told P sight e i h g =
    let generics = filter_map generic_formal e.interface.declared in
    let ports = filter_map port_formal e.interface.declared in
    told_behind
    (associations_told P (map (λ (f : GenericFormal). f.name) generics) (λ n e. any_of (broken.generic_actual sight e) (generics_named generics n)) (λ n e w. any_generic_told P sight e w (generics_named generics n))
    (all_of i.generics) (map (λ (f : GenericFormal). f.name) generics) false [] h)
    (associations_told P (map (λ (f : Formal). f.name) ports) (λ n e. any_of (λ f. broken.port_actual sight f e) (ports_named ports n)) (λ n e w. any_port_told P sight e w (ports_named ports n))
    (all_of i.ports) (map (λ (f : Formal). f.name) ports) false [] g)

-- ---- instances

pub instance_told : (P : ℕ → Type 0) (entities : List EntityView) (sight : Sight) (label : Ident) (i : t.Instance) → P label.at → Stand P (spell_instance i)
    → Told P (broken.instance entities sight label i)
instance_told P entities sight label i h g =
    let generics = behind P (spell_instantiated i.unit) _ g in
    let ports = behind P (spell_option (spell_map k.Generic) i.generics) _ generics in
    told_behind (instantiated_told P entities sight i.unit (first P (spell_instantiated i.unit) _ g))
    (told_given (are.instantiated entities sight i.unit) (λ n. lacking Undeclared label.at (slice_get entities n) ▸ of_any (λ e. broken.maps sight e i) (slice_get entities n))
    (λ n. told_behind (told_lacking Undeclared label.at (slice_get entities n) h)
    (told_absent (λ e. broken.maps sight e i) (slice_get entities n)
    (λ e. maps_told P sight e i (map_stands P k.Generic i.generics (first P (spell_option (spell_map k.Generic) i.generics) _ generics))
    (map_stands P k.Port i.ports (first P (spell_option (spell_map k.Port) i.ports) _ ports))))))
