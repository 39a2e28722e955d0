-- Trees of named units are named, by induction over concurrent statements and over the nesting.
use Rattle.std.proofs.Common.{◌≡◌, ℕ, Bool, true, ◌&&◌, List, [], ◌∷◌, ◌++◌, map, Option, Some, None, Ok, All, sym, ap, ◌∙◌, subst}
use Rattle.std.specs.Prelude.{◌≢◌, IfSome}
use Rattle.std.specs.List.{list_all}
use Rattle.std.proofs.lemmas.List.Folds.{list_all-map}
use Rattle.std.proofs.lemmas.Bool.{and_parts}
use Rattle.std.proofs.lemmas.List.Elements.{All-cons, All-nil, All-append, All-weaker}
use Rattle.vhdl_names_rules.specs.units.Expressions.{Range, StaticTest}
use Rattle.vhdl_names_rules.specs.units.Units as u
use Rattle.vhdl_names_rules.specs.units.Units.{Units, Port, Declaration, Architecture, Entity}
use Rattle.vhdl_names_rules.specs.sound.Named.{has_text, label_is_named, objects_are_named, declaration_is_named, concurrent_is_named, concurrents_are_named, architecture_is_named, entity_is_named, are_named}
use Rattle.vhdl_expand_rules.specs.Elab.{◌>>=◌}
use Rattle.vhdl_expand_rules.specs.Kinds.{kind_of}
use Rattle.vhdl_expand_rules.specs.Site.{Site}
use Rattle.vhdl_expand_rules.specs.Declarations.{starts, object, role_of, declared, variable, ProcessVariables, no_variables, process_declaration, process_declarations}
use Rattle.vhdl_expand_rules.specs.Tree.{Role, internal, Object, Variable, Instance, Parts, no_parts, inner, followed_by}
use Rattle.vhdl_expand_rules.specs.Tree as t
use Rattle.vhdl_expand_rules.specs.Expansion.{Spot, process, Design}
use Rattle.vhdl_expand_rules.specs.laws.Labels.{ProcessIsNamed, InstanceIsNamed, PartsAreNamed, EachTreeIsNamed}
use Rattle.vhdl_expand_rules.proofs.Steps.{given, ok, bound}
use Rattle.vhdl_expand_rules.proofs.Items.{all_pass, all_of_zip}
use Rattle.vhdl_expand_rules.proofs.laws.Made.{process_made}
use Rattle.vhdl_expand_rules.proofs.laws.Expanded.{object_made, OfObjects, OfSignal, OfParts, Filled, OfUnits, design_filled}

pub some_text : (xs : List ℕ) → has_text xs ≡ true → xs ≢ []
some_text [] h e = absurd cc
some_text (x ∷ xs) h e = absurd cc

pub more_text : (xs ys : List ℕ) → ys ≢ [] → xs ++ ys ≢ []
more_text [] ys h e = h e
more_text (x ∷ xs) ys h e = absurd cc

-- ---- objects

abbrev HasName : Object → Type 0
HasName o = o.name ≢ []

abbrev IsNamed : u.Object → Type 0
IsNamed o = has_text o.name ≡ true

object-named : (here : Site) (role : Role) (o : u.Object) (x : Object) → IsNamed o → object here role o ≡ Ok x → HasName x
object-named here role o x h e = subst HasName (object_made here role o x e).is (some_text o.name h)

abbrev PortHasName : Port → Object → Type 0
PortHasName p o = HasName o

objects : OfObjects IsNamed PortHasName HasName
objects = record {
  of_port = λ here p x n h. object-named here (role_of p.mode) p.object x n h;
  of_actual = λ p o es h e. h;
  of_signal = λ here o x n h. object-named here internal o x n h;
}

declared-named : (x : Declaration) → declaration_is_named x ≡ true → OfSignal IsNamed x
declared-named (u.Declaration.signal o) h = h
declared-named _ h = tt

-- ---- processes

abbrev HasVariableName : Variable → Type 0
HasVariableName v = v.name ≢ []

variable-named : (here : Site) (o : u.Object) (v : Variable) → IsNamed o → variable here o ≡ Ok v → HasVariableName v
unfolding variable
variable-named here o v n h =
    let k = bound (kind_of here.integers o.at o.form) _ v h in
    let ss = bound (starts here o.at k.x o.default) _ v k.then_gave in
    subst HasVariableName (ok _ v ss.then_gave) (some_text o.name n)

abbrev AreNamed : ProcessVariables → Type 0
AreNamed d = All HasVariableName d.variables

-- a constant or a subtype
plain-named : (x : Declaration) (d e : ProcessVariables) → AreNamed d → (declared d.site x >>= λ here. given (record d { site = here })) ≡ Ok e → AreNamed e
plain-named x d e h k = let here = bound (declared d.site x) _ e k in subst AreNamed (ok _ e here.then_gave) h

process-declared : (x : Declaration) (d e : ProcessVariables) → declaration_is_named x ≡ true → AreNamed d → process_declaration d x ≡ Ok e → AreNamed e
unfolding process_declaration
process-declared (u.Declaration.variable o) d e n h k =
    let v = bound (variable d.site o) _ e k in
    subst AreNamed (ok _ e v.then_gave)
    (All-append HasVariableName d.variables (v.x ∷ []) h (All-cons HasVariableName v.x [] (variable-named d.site o v.x n v.gave) (All-nil HasVariableName)))
process-declared x d e n h k = plain-named x d e h k

variables-named : (xs : List Declaration) (d e : ProcessVariables) → list_all declaration_is_named xs ≡ true → AreNamed d → process_declarations d xs ≡ Ok e → AreNamed e
unfolding process_declarations
variables-named [] d e n h k = subst AreNamed (ok d e k) h
variables-named (x ∷ xs) d e n h k =
    let both = and_parts (declaration_is_named x) (list_all declaration_is_named xs) n in
    let y = bound (process_declaration d x) _ e k in
    variables-named xs y.x e both.1 (process-declared x d y.x both.0 h y.gave) y.then_gave

label-named : (label : Option (List ℕ)) → label_is_named label ≡ true → IfSome label (λ l. l ≢ [])
label-named None h = tt
label-named (Some l) h = some_text l h

process-named : (here : Spot) (p : u.Process) (q : t.Process) → (label_is_named p.label && list_all declaration_is_named p.declarations) ≡ true → process here p ≡ Ok q → ProcessIsNamed q
process-named here p q n g =
    let both = and_parts (label_is_named p.label) (list_all declaration_is_named p.declarations) n in
    let m = process_made here p q g in
    subst ProcessIsNamed m.is (record {
      label = label-named p.label both.0;
      variables = variables-named p.declarations (no_variables here.site) m.declared both.1 (All-nil HasVariableName) m.declares;
    })

-- ---- concurrent statements

followed-named : (a b : Parts) → PartsAreNamed a → PartsAreNamed b → PartsAreNamed (followed_by a b)
followed-named no_parts b h k = k
followed-named (t.process p rest) b h k = (h.0, followed-named rest b h.1 k)
followed-named (inner label i rest) b h k = (h.0, h.1, followed-named rest b h.2 k)

abbrev pub StatementIsNamed : Spot → u.Concurrent → Type 0
StatementIsNamed here x = concurrent_is_named x ≡ true

abbrev pub StatementsAreNamed : Spot → u.Concurrents → Type 0
StatementsAreNamed here xs = concurrents_are_named xs ≡ true

pub split_named : (x : u.Concurrent) (rest : u.Concurrents) → concurrents_are_named (u.concurrent x rest) ≡ true → (concurrent_is_named x ≡ true) × (concurrents_are_named rest ≡ true)
unfolding concurrents_are_named
split_named x rest n = and_parts (concurrent_is_named x) (concurrents_are_named rest) n

pub for_named : (at : ℕ) (label : List ℕ) (r : Range) (body : u.Concurrents) → concurrent_is_named (u.generate_for at label r body) ≡ true → concurrents_are_named body ≡ true
unfolding concurrent_is_named
for_named at label r body n = (and_parts (has_text label) (concurrents_are_named body) n).1

pub if_named : (at : ℕ) (label : List ℕ) (r : StaticTest) (body : u.Concurrents) → concurrent_is_named (u.generate_if at label r body) ≡ true → (label ≢ []) × (concurrents_are_named body ≡ true)
unfolding concurrent_is_named
if_named at label r body n =
    let both = and_parts (has_text label) (concurrents_are_named body) n in
    (some_text label both.0, both.1)

process-parts : (p : u.Process) → concurrent_is_named (u.process p) ≡ true → (label_is_named p.label && list_all declaration_is_named p.declarations) ≡ true
unfolding concurrent_is_named
process-parts p n = n

instance-label : (x : u.Instance) → concurrent_is_named (u.instance x) ≡ true → x.label ≢ []
unfolding concurrent_is_named
instance-label x n = some_text x.label n

parts : OfParts StatementIsNamed StatementsAreNamed PartsAreNamed
parts = record {
  none = tt;
  followed = followed-named;
  split = λ here x rest n. split_named x rest n;
  of_process = λ here p q n h. (process-named here p q (process-parts p n) h, tt);
  in_for = λ here at label r body j turn n. for_named at label r body n;
  in_if = λ here at label r body n. (if_named at label r body n).1;
}

-- ---- units

abbrev pub EntityIsNamed : Entity → Type 0
EntityIsNamed unit = entity_is_named unit ≡ true

record EntityParts (unit : Entity) : Type 0 where
  name : has_text unit.name ≡ true
  ports : objects_are_named (map (λ (p : Port). p.object) unit.ports) ≡ true
  architecture : architecture_is_named unit.architecture ≡ true

entity-parts : (unit : Entity) → EntityIsNamed unit → EntityParts unit
entity-parts unit h =
    let ports : Bool = objects_are_named (map (λ (p : Port). p.object) unit.ports) in
    let a = and_parts (has_text unit.name && ports) (architecture_is_named unit.architecture) h in
    let b = and_parts (has_text unit.name) ports a.0 in
    record { name = b.0; ports = b.1; architecture = a.1 }

pub architecture_named : (unit : Entity) (a : Architecture) → EntityIsNamed unit → unit.architecture ≡ Some a → (list_all declaration_is_named a.declarations ≡ true) × (concurrents_are_named a.statements ≡ true)
architecture_named unit a n there =
    and_parts (list_all declaration_is_named a.declarations) (concurrents_are_named a.statements) (ap architecture_is_named (sym there) ∙ (entity-parts unit n).architecture)

ports-named : (unit : Entity) → EntityIsNamed unit → All (λ (p : Port). IsNamed p.object) unit.ports
ports-named unit n =
    all_pass (λ (p : Port). has_text p.object.name) unit.ports
    (sym (list_all-map (λ (o : u.Object). has_text o.name) (λ (p : Port). p.object) unit.ports) ∙ (entity-parts unit n).ports)

instance-named : (unit : Entity) (i : Instance) → Filled PortHasName HasName PartsAreNamed unit i → InstanceIsNamed i
instance-named unit i f =
    subst InstanceIsNamed {x = t.instance (f.ports ++ f.signals) f.turns f.parts} f.is
    (All-append HasName f.ports f.signals (all_of_zip PortHasName HasName (λ p o k. k) unit.ports f.ports f.of_ports) f.of_signals, f.of_parts)

each-unit : OfUnits EntityIsNamed IsNamed PortHasName HasName StatementIsNamed StatementsAreNamed PartsAreNamed
each-unit = record {
  objects = objects;
  parts = parts;
  of_unit = ports-named;
  of_architecture = λ unit a site n there.
      let both = architecture_named unit a n there in
      (All-weaker (λ (x : Declaration). declaration_is_named x ≡ true) (OfSignal IsNamed) declared-named a.declarations (all_pass declaration_is_named a.declarations both.0), both.1);
  of_instance = λ here x unit i n f. (more_text here.prefix x.label (instance-label x n), instance-named unit i f, tt);
}

pub units_named : (units : Units) → are_named units ≡ true → All EntityIsNamed units
unfolding are_named
units_named units h = all_pass entity_is_named units h

pub each-tree-is-named : EachTreeIsNamed
each-tree-is-named units top design h e =
    let m = design_filled EntityIsNamed IsNamed PortHasName HasName StatementIsNamed StatementsAreNamed PartsAreNamed each-unit units (units_named units h) top design e in
    subst (λ (x : Design). (x.name ≢ []) × InstanceIsNamed x.top) m.is (some_text m.unit.name (entity-parts m.unit m.known).name, instance-named m.unit m.tree m.filled)
