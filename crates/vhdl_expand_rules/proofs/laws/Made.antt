-- What expansion made: a process, an instance of a unit, a unit's architecture, and the top with the actuals of its generics.
use Rattle.std.proofs.Common.{◌≡◌, ℕ, suc, List, [], Option, Some, Ok}
use Rattle.std.specs.Prelude.{slice_get}
use Rattle.std.specs.List.{list_all}
use Rattle.vhdl_names_rules.specs.units.Units as u
use Rattle.vhdl_names_rules.specs.units.Units.{Fixed, Architecture, Entity, Units}
use Rattle.rtl_model.specs.bodies.Body.{Stmts}
use Rattle.vhdl_expand_rules.specs.declared.fault.ElabProblem.TheVariants.{NoTop, NoGeneric}
use Rattle.vhdl_expand_rules.specs.Elab.{Elab, unless, item_or}
use Rattle.vhdl_expand_rules.specs.Site.{no_site}
use Rattle.vhdl_expand_rules.specs.Tops.{Top, actuals_of, is_generic, top_interface}
use Rattle.vhdl_expand_rules.specs.Tree.{Object, Sensitivity, Instance, Parts}
use Rattle.vhdl_expand_rules.specs.Tree as t
use Rattle.vhdl_expand_rules.specs.Declarations.{InstanceObjects, interface, declarations, ProcessVariables, no_variables, process_declarations, associations}
use Rattle.vhdl_expand_rules.specs.Statements.{statements, statements_turns}
use Rattle.vhdl_expand_rules.specs.Prefixes.{targets, prefixes_elements}
use Rattle.vhdl_expand_rules.specs.Expansion.{Spot, sensitivity, made_process, process, instance, concurrents, concurrents_turns, instance_of, entity_named, Design, expanded_design}
use Rattle.vhdl_expand_rules.proofs.Steps.{ok, bound}
use Rattle.vhdl_expand_rules.proofs.laws.Names.{was_found}

pub record MadeProcess (here : Spot) (p : u.Process) (q : t.Process) : Type 0 where
  pub declared : ProcessVariables
  pub declares : process_declarations (no_variables here.site) p.declarations ≡ Ok declared
  pub driven : List ℕ
  pub drives : prefixes_elements declared.site (targets p.body) ≡ Ok driven
  pub on : Sensitivity
  pub body : Stmts
  pub gave : statements declared.site p.body ≡ Ok body
  pub turns : ℕ
  pub is : made_process here p declared.variables driven on turns body ≡ q

pub process_made : (here : Spot) (p : u.Process) (q : t.Process) → process here p ≡ Ok q → MadeProcess here p q
unfolding process
process_made here p q h =
    let d = bound (process_declarations (no_variables here.site) p.declarations) _ q h in
    let ds = bound (prefixes_elements d.x.site (targets p.body)) _ q d.then_gave in
    let on = bound (sensitivity d.x.site p.sensitivity p.body) _ q ds.then_gave in
    let m = bound (statements_turns d.x.site p.body) _ q on.then_gave in
    let body = bound (statements d.x.site p.body) _ q m.then_gave in
    record {
      declared = d.x;
      declares = d.gave;
      driven = ds.x;
      drives = ds.gave;
      on = on.x;
      body = body.x;
      gave = body.gave;
      turns = m.x;
      is = ok _ q body.then_gave;
    }

-- an instance of a unit, with its ports declared and joined
pub record MadeInstance (units : Units) (go : ℕ → Entity → InstanceObjects → Elab Instance) (here : Spot) (x : u.Instance) (i : Instance) : Type 0 where
  pub unit : Entity
  pub there : slice_get units x.unit ≡ Some unit
  pub declared : InstanceObjects
  pub declares : interface here.site x.generics unit ≡ Ok declared
  pub objects : List Object
  pub joins : associations here.site x.at unit.ports x.ports declared.objects ≡ Ok objects
  pub gave : go x.at unit (record declared { objects = objects }) ≡ Ok i

pub instance_made : (units : Units) (go : ℕ → Entity → InstanceObjects → Elab Instance) (here : Spot) (x : u.Instance) (i : Instance) → instance units go here x ≡ Ok i → MadeInstance units go here x i
unfolding instance
instance_made units go here x i h =
    let unit = bound (item_or NoTop x.at (slice_get units x.unit)) _ i h in
    let d = bound (interface here.site x.generics unit.x) _ i unit.then_gave in
    let os = bound (associations here.site x.at unit.x.ports x.ports d.x.objects) _ i d.then_gave in
    record { unit = unit.x; there = was_found NoTop x.at (slice_get units x.unit) unit.x unit.gave; declared = d.x; declares = d.gave; objects = os.x; joins = os.gave; gave = os.then_gave }

-- a unit's architecture, with its declarations and its statements
pub record BuiltInstance (units : Units) (levels : ℕ) (unit : Entity) (d : InstanceObjects) (i : Instance) : Type 0 where
  pub architecture : Architecture
  pub there : unit.architecture ≡ Some architecture
  pub inside : InstanceObjects
  pub declares : declarations d architecture.declarations ≡ Ok inside
  pub parts : Parts
  pub gave : concurrents units (instance_of units levels) (record { site = inside.site; prefix = [] }) architecture.statements ≡ Ok parts
  pub turns : ℕ
  pub is : t.instance inside.objects turns parts ≡ i

pub instance_built : (units : Units) (levels at : ℕ) (unit : Entity) (d : InstanceObjects) (i : Instance) → instance_of units (suc levels) at unit d ≡ Ok i → BuiltInstance units levels unit d i
unfolding instance_of
instance_built units levels at unit d i k =
    let a = bound (item_or NoTop at unit.architecture) _ i k in
    let e = bound (declarations d a.x.declarations) _ i a.then_gave in
    let spot : Spot = record { site = e.x.site; prefix = [] } in
    let ps = bound (concurrents units (instance_of units levels) spot a.x.statements) _ i e.then_gave in
    let ts = bound (concurrents_turns spot a.x.statements) _ i ps.then_gave in
    record {
      architecture = a.x;
      there = was_found NoTop at unit.architecture a.x a.gave;
      inside = e.x;
      declares = e.gave;
      parts = ps.x;
      gave = ps.gave;
      turns = ts.x;
      is = ok (t.instance e.x.objects ts.x ps.x) i ts.then_gave;
    }

-- the unit of the top, with the actuals of its generics
pub record MadeDesign (units : Units) (top : Top) (design : Design) : Type 0 where
  pub unit : Entity
  pub there : entity_named units top.name ≡ Some unit
  pub actuals : List (Option Fixed)
  pub declared : InstanceObjects
  pub declares : interface no_site actuals unit ≡ Ok declared
  pub tree : Instance
  pub gave : instance_of units 32 unit.at unit declared ≡ Ok tree
  pub is : ◌≡◌ {A = Design} (record { name = unit.name; top = tree }) design

pub interface_made : (top : Top) (unit : Entity) (d : InstanceObjects) → top_interface top unit ≡ Ok d → interface no_site (actuals_of top.generics unit.generics) unit ≡ Ok d
unfolding top_interface
interface_made top unit d h =
    let known = bound (unless NoGeneric unit.at (list_all (is_generic unit.generics) top.generics)) _ d h in known.then_gave

pub design_made : (units : Units) (top : Top) (design : Design) → expanded_design units top ≡ Ok design → MadeDesign units top design
unfolding expanded_design
design_made units top design h =
    let unit = bound (item_or NoTop 0 (entity_named units top.name)) _ design h in
    let d = bound (top_interface top unit.x) _ design unit.then_gave in
    let i = bound (instance_of units 32 unit.x.at unit.x d.x) _ design d.then_gave in
    record {
      unit = unit.x;
      there = was_found NoTop 0 (entity_named units top.name) unit.x unit.gave;
      actuals = actuals_of top.generics unit.x.generics;
      declared = d.x;
      declares = interface_made top unit.x d.x d.gave;
      tree = i.x;
      gave = i.gave;
      is = ok (record { name = unit.x.name; top = i.x }) design i.then_gave;
    }
