-- What the parts of a thing are analysed as, where the whole is.
use Rattle.std.proofs.Common.{◌≡◌, ℕ, true, ◌&&◌, List, [], ◌∷◌, ◌++◌, map, Option, Some, sym, ap}
use Rattle.std.specs.Option.{option_map, is_some}
use Rattle.std.specs.List.{slice_get, filter_map}
use Rattle.vhdl_lexer.specs.declared.language.Language.{Language}
use Rattle.vhdl_tree.specs.Tree as t
use Rattle.vhdl_tree.specs.Tree.{Ident, Expr, ContextItem, File}
use Rattle.vhdl_names_rules.specs.units.Statements as s
use Rattle.vhdl_names_rules.specs.units.Units as u
use Rattle.vhdl_names_rules.specs.units.Units.{Units}
use Rattle.vhdl_names_rules.specs.Rules.{each, all_of}
use Rattle.vhdl_names_rules.specs.Visibility as visibility
use Rattle.vhdl_names_rules.specs.Visibility.{Name, Declared, declare, are_distinct, ends, label_ends, Sight, with_declared, with_variables, Declares}
use Rattle.vhdl_names_rules.specs.Packages.{context, no_context, sight_of}
use Rattle.vhdl_names_rules.specs.Expressions.{typed}
use Rattle.vhdl_names_rules.specs.Choices.{covered, selector, arranged, selecting}
use Rattle.vhdl_names_rules.specs.Statements.{signal_target, assignment, alone, statement, statements, statement_labels, alternatives, choice_lists}
use Rattle.vhdl_names_rules.specs.Declarations.{in_order, process_declaration}
use Rattle.vhdl_names_rules.specs.Interfaces.{EntityView, declared_names, assertion_labels, with_labels, interface, entity, entity_named, component}
use Rattle.vhdl_names_rules.specs.SameText.{same_generics, same_ports}
use Rattle.vhdl_names_rules.specs.Instances.{Formal, GenericFormal, generic_formal, generic_actuals, port_formal, associated, port_actuals, instantiated, instance}
use Rattle.vhdl_names_rules.specs.Concurrent.{label_of, assigning, selected, sensitivity, awaited, resumed_by, behind_wait, process, concurrent_labels, concurrents}
use Rattle.vhdl_names_rules.specs.Files.{entity_names, described_names, stand_after, entities_of, viewed, declaration, labelled, architecture, unit, units_of}
use Rattle.vhdl_names_rules.proofs.laws.Rules.{Comes, comes, kept, some_is}

-- what is given
pub record Given {A : Type 0} (o : Option A) : Type 0 where
  pub value : A
  pub is : o ≡ Some value

abbrev given : {A B : Type 0} (o : Option A) (f : A → Option B) (y : B) → Comes o f y → Given o
given o f y c = record { value = c.value; is = c.is }

-- ---- statements

-- what is chosen by an expression, of these choices and what is done for them
pub record ChosenParts (sight : Sight) (e : Expr) (lists : List (List t.Choice)) (done : Option (List s.Statements)) : Type 0 where
  pub operand : Given (typed sight e)
  pub by : Given (selector sight.language operand.value)
  pub choices : Given (covered sight by.value.0 lists)
  pub bodies : Given done
  pub all : Given (arranged choices.value bodies.value)

pub record CaseParts (sight : Sight) (label : Option Ident) (at : ℕ) (e : Expr) (alts : t.Alternatives) (end : Option Ident) (x : s.Statement) : Type 0 where
  pub ended : label_ends label end ≡ true
  pub chosen : ChosenParts sight e (choice_lists alts) (alternatives sight alts)
  pub is : selecting at chosen.by.value.1 chosen.all.value ≡ x

pub case_parts : (sight : Sight) (label : Option Ident) (at : ℕ) (e : Expr) (alts : t.Alternatives) (end : Option Ident) (x : s.Statement)
    → statement sight label (t.case_of at e alts end) ≡ Some x → CaseParts sight label at e alts end x
unfolding statement
case_parts sight label at e alts end x h =
    let a = kept (label_ends label end) _ x h in
    let b = comes (typed sight e) _ x a.1 in
    let by = comes (selector sight.language b.value) _ x b.rest in
    let c = comes (covered sight by.value.0 (choice_lists alts)) _ x by.rest in
    let d = comes (alternatives sight alts) _ x c.rest in
    let all = comes (arranged c.value d.value) _ x d.rest in
    record {
      ended = a.0;
      chosen = record { operand = given _ _ _ b; by = given _ _ _ by; choices = given _ _ _ c; bodies = given _ _ _ d; all = given _ _ _ all };
      is = some_is _ x all.rest;
    }

pub record SelectedParts (sight : Sight) (label : Option Ident) (a : t.SelectedAssignment) (x : u.Concurrent) : Type 0 where
  pub to : Given (signal_target sight a.target)
  pub chosen : ChosenParts sight a.selector (map (λ (w : t.Waveform). w.choices) a.waveforms) (each (λ (w : t.Waveform). option_map alone (assignment sight to.value w.value)) a.waveforms)
  pub is : assigning a.at label (selecting a.at chosen.by.value.1 chosen.all.value) ≡ x

pub selected_parts : (sight : Sight) (label : Option Ident) (a : t.SelectedAssignment) (x : u.Concurrent) → selected sight label a ≡ Some x → SelectedParts sight label a x
unfolding selected
selected_parts sight label a x h =
    let b = comes (typed sight a.selector) _ x h in
    let by = comes (selector sight.language b.value) _ x b.rest in
    let to = comes (signal_target sight a.target) _ x by.rest in
    let c = comes (covered sight by.value.0 (map (λ (w : t.Waveform). w.choices) a.waveforms)) _ x to.rest in
    let d = comes (each (λ (w : t.Waveform). option_map alone (assignment sight to.value w.value)) a.waveforms) _ x c.rest in
    let all = comes (arranged c.value d.value) _ x d.rest in
    record {
      to = given _ _ _ to;
      chosen = record { operand = given _ _ _ b; by = given _ _ _ by; choices = given _ _ _ c; bodies = given _ _ _ d; all = given _ _ _ all };
      is = some_is _ x all.rest;
    }

pub record ProcessParts (sight : Sight) (label : Option Ident) (p : t.Process) (x : u.Process) : Type 0 where
  pub on : Given (sensitivity sight p.sensitivity (is_some p.wait))
  pub own : Given (in_order with_variables process_declaration sight p.declarations)
  pub own_distinct : are_distinct (declared_names own.value.declared) ≡ true
  pub labels_distinct : are_distinct (statement_labels (t.statements_of p.statements)) ≡ true
  pub edge : Given (awaited (with_variables sight own.value.declared) p.sensitivity p.wait)
  pub body : Given (statements (with_variables sight own.value.declared) (t.statements_of p.statements))
  pub ended : label_ends label p.end_label ≡ true
  pub is : record { at = p.at; label = label_of label; declarations = own.value.analysed; sensitivity = resumed_by edge.value on.value; body = behind_wait p.wait edge.value body.value } ≡ x

pub process_parts : (sight : Sight) (label : Option Ident) (p : t.Process) (x : u.Process) → process sight label p ≡ Some x → ProcessParts sight label p x
unfolding process
process_parts sight label p x h =
    let on = comes (sensitivity sight p.sensitivity (is_some p.wait)) _ x h in
    let own = comes (in_order with_variables process_declaration sight p.declarations) _ x on.rest in
    let a = kept (are_distinct (declared_names own.value.declared)) _ x own.rest in
    let b = kept (are_distinct (statement_labels (t.statements_of p.statements))) _ x a.1 in
    let edge = comes (awaited (with_variables sight own.value.declared) p.sensitivity p.wait) _ x b.1 in
    let body = comes (statements (with_variables sight own.value.declared) (t.statements_of p.statements)) _ x edge.rest in
    let c = kept (label_ends label p.end_label) _ x body.rest in
    record {
      on = given _ _ _ on;
      own = given _ _ _ own;
      own_distinct = a.0;
      labels_distinct = b.0;
      edge = given _ _ _ edge;
      body = given _ _ _ body;
      ended = c.0;
      is = some_is _ x c.1;
    }

-- ---- components and instances

pub record ComponentParts (entities : List EntityView) (sight : Sight) (c : t.Component) (x : Declares u.Declaration) : Type 0 where
  pub found : Given (entity_named entities c.name.text)
  pub alike : (same_generics c.generics found.value.1.generic_text && same_ports c.ports found.value.1.port_text) ≡ true
  pub own : Given (interface (record sight { region = []; enclosing = sight.region ++ sight.enclosing }) c.generics c.ports)
  pub ended : ends c.name.text c.end_name ≡ true
  pub is : record { declared = declare c.name.text (visibility.component found.value.0) ∷ []; analysed = [] } ≡ x

pub component_parts : (entities : List EntityView) (sight : Sight) (c : t.Component) (x : Declares u.Declaration) → component entities sight c ≡ Some x
    → ComponentParts entities sight c x
unfolding component
component_parts entities sight c x h =
    let a = comes (entity_named entities c.name.text) _ x h in
    let b = kept (same_generics c.generics a.value.1.generic_text && same_ports c.ports a.value.1.port_text) _ x a.rest in
    let i = comes (interface (record sight { region = []; enclosing = sight.region ++ sight.enclosing }) c.generics c.ports) _ x b.1 in
    let d = kept (ends c.name.text c.end_name) _ x i.rest in
    record { found = given _ _ _ a; alike = b.0; own = given _ _ _ i; ended = d.0; is = some_is _ x d.1 }

pub record InstanceParts (entities : List EntityView) (sight : Sight) (label : Ident) (i : t.Instance) (x : u.Instance) : Type 0 where
  pub place : Given (instantiated entities sight i.unit)
  pub view : Given (slice_get entities place.value)
  pub generics : Given (associated (map (λ (f : GenericFormal). f.name) (filter_map generic_formal view.value.interface.declared)) (all_of i.generics))
  pub values : Given (generic_actuals sight (filter_map generic_formal view.value.interface.declared) generics.value)
  pub ports : Given (associated (map (λ (f : Formal). f.name) (filter_map port_formal view.value.interface.declared)) (all_of i.ports))
  pub places : Given (port_actuals sight (filter_map port_formal view.value.interface.declared) ports.value)
  pub is : record { at = label.at; label = label.text; unit = place.value; generics = values.value; ports = places.value } ≡ x

pub instance_parts : (entities : List EntityView) (sight : Sight) (label : Ident) (i : t.Instance) (x : u.Instance) → instance entities sight label i ≡ Some x
    → InstanceParts entities sight label i x
unfolding instance
instance_parts entities sight label i x h =
    let k = comes (instantiated entities sight i.unit) _ x h in
    let e = comes (slice_get entities k.value) _ x k.rest in
    let gs = comes (associated (map (λ (f : GenericFormal). f.name) (filter_map generic_formal e.value.interface.declared)) (all_of i.generics)) _ x e.rest in
    let g = comes (generic_actuals sight (filter_map generic_formal e.value.interface.declared) gs.value) _ x gs.rest in
    let ps = comes (associated (map (λ (f : Formal). f.name) (filter_map port_formal e.value.interface.declared)) (all_of i.ports)) _ x g.rest in
    let p = comes (port_actuals sight (filter_map port_formal e.value.interface.declared) ps.value) _ x ps.rest in
    record { place = given _ _ _ k; view = given _ _ _ e; generics = given _ _ _ gs; values = given _ _ _ g; ports = given _ _ _ ps; places = given _ _ _ p; is = some_is _ x p.rest }

-- ---- entities, architectures and files

pub record EntityParts (language : Language) (items : List ContextItem) (e : t.Entity) (a : Option Name) (v : EntityView) : Type 0 where
  pub seen : Given (context (no_context language) items)
  pub own : Given (interface (sight_of seen.value []) e.generics e.ports)
  pub distinct : are_distinct (declared_names own.value.declared ++ assertion_labels e.statements) ≡ true
  pub ended : ends e.name.text e.end_name ≡ true
  pub is :
      record { at = e.name.at; name = e.name.text; context = seen.value; interface = with_labels own.value (assertion_labels e.statements); generic_text = e.generics; port_text = e.ports; architecture = a } ≡ v

pub entity_parts : (language : Language) (items : List ContextItem) (e : t.Entity) (a : Option Name) (v : EntityView) → entity language items e a ≡ Some v → EntityParts language items e a v
unfolding entity
entity_parts language items e a v h =
    let c = comes (context (no_context language) items) _ v h in
    let i = comes (interface (sight_of c.value []) e.generics e.ports) _ v c.rest in
    let d = kept (are_distinct (declared_names i.value.declared ++ assertion_labels e.statements)) _ v i.rest in
    let k = kept (ends e.name.text e.end_name) _ v d.1 in
    record { seen = given _ _ _ c; own = given _ _ _ i; distinct = d.0; ended = k.0; is = some_is _ v k.1 }

pub entity_name : (language : Language) (items : List ContextItem) (e : t.Entity) (a : Option Name) (v : EntityView) → entity language items e a ≡ Some v → v.name ≡ e.name.text
entity_name language items e a v h = ap (λ (v : EntityView). v.name) (sym (entity_parts language items e a v h).is)

-- the region of an entity and its architecture
abbrev pub region_of : EntityView → List Declared → t.Architecture → List Declared
region_of e ds a = e.interface.declared ++ (ds ++ labelled (concurrent_labels (t.concurrents_of a.statements)))

pub record ArchitectureParts (entities : List EntityView) (e : EntityView) (items : List ContextItem) (a : t.Architecture) (x : u.Architecture) : Type 0 where
  pub seen : Given (context e.context items)
  pub own : Given (in_order with_declared (declaration entities) (sight_of seen.value e.interface.declared) a.declarations)
  pub distinct : are_distinct (declared_names (region_of e own.value.declared a)) ≡ true
  pub body : Given (concurrents entities (sight_of seen.value (region_of e own.value.declared a)) (t.concurrents_of a.statements))
  pub ended : ends a.name.text a.end_name ≡ true
  pub is : record { declarations = own.value.analysed; statements = body.value } ≡ x

pub architecture_parts : (entities : List EntityView) (e : EntityView) (items : List ContextItem) (a : t.Architecture) (x : u.Architecture)
    → architecture entities e items a ≡ Some x → ArchitectureParts entities e items a x
unfolding architecture
architecture_parts entities e items a x h =
    let c = comes (context e.context items) _ x h in
    let ds = comes (in_order with_declared (declaration entities) (sight_of c.value e.interface.declared) a.declarations) _ x c.rest in
    let k = kept (are_distinct (declared_names (region_of e ds.value.declared a))) _ x ds.rest in
    let body = comes (concurrents entities (sight_of c.value (region_of e ds.value.declared a)) (t.concurrents_of a.statements)) _ x k.1 in
    let g = kept (ends a.name.text a.end_name) _ x body.rest in
    record { seen = given _ _ _ c; own = given _ _ _ ds; distinct = k.0; body = given _ _ _ body; ended = g.0; is = some_is _ x g.1 }

pub record FileParts (language : Language) (f : File) (units : Units) : Type 0 where
  pub once : are_distinct (entity_names f.units) ≡ true
  pub described_once : are_distinct (described_names f.units) ≡ true
  pub after : stand_after f.units ≡ true
  pub views : Given (each (viewed language f.units) (entities_of f.units))
  pub gives : each (unit views.value f.units) views.value ≡ Some units

pub file_parts : (language : Language) (f : File) (units : Units) → units_of language f ≡ Some units → FileParts language f units
unfolding units_of
file_parts language f units h =
    let a = kept (are_distinct (entity_names f.units)) _ units h in
    let b = kept (are_distinct (described_names f.units)) _ units a.1 in
    let c = kept (stand_after f.units) _ units b.1 in
    let v = comes (each (viewed language f.units) (entities_of f.units)) _ units c.1 in
    record { once = a.0; described_once = b.0; after = c.0; views = given _ _ _ v; gives = v.rest }
