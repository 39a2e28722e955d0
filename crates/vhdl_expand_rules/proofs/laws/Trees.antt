-- Trees that are expanded from sound units are sound: by induction over concurrent statements, and over the nesting.
use Rattle.std.proofs.Common.{◌≡◌, ℕ, zero, suc, ◌+◌, Bool, true, not, ◌&&◌, List, [], ◌∷◌, ◌++◌, map, Option, Some, None, Ok, All, refl, sym, ap, ◌∙◌, subst, append_assoc, append-nil}
use Rattle.std.specs.Prelude.{ℤ, slice_get, bytes_eq}
use Rattle.std.specs.List.{AllZip, list_all, list_any}
use Rattle.std.specs.Char.{to_ascii_lowercase}
use Rattle.std.proofs.lemmas.Bool.{and_parts}
use Rattle.std.proofs.lemmas.List.Elements.{All-cons, All-nil, All-head, All-tail, All-append, All-weaker}
use Rattle.vhdl_names_rules.specs.units.Expressions.{Range}
use Rattle.vhdl_names_rules.specs.units.Units as u
use Rattle.vhdl_names_rules.specs.units.Units.{Form, Fixed, Units, Port, Declaration, Entity}
use Rattle.vhdl_names_rules.specs.sound.Expressions.{Inside, range_fits, static_test_fits, port_form}
use Rattle.vhdl_names_rules.specs.sound.Units.{objects_fit, port_fits, ranges_of, generics_fit, with_ports, is_variable, declarations_fit, with_declarations, actuals_fit, generic_actuals_fit, instance_fits, within_generate, concurrent_fits, concurrents_fit, nothing_inside, architecture_fits, entity_fits, are_sound}
use Rattle.vhdl_expand_rules.specs.Elab.{Elab}
use Rattle.vhdl_expand_rules.specs.Site.{Site, no_site, in_generate}
use Rattle.vhdl_expand_rules.specs.Declarations.{role_of, InstanceObjects, interface}
use Rattle.vhdl_expand_rules.specs.Tree.{internal, Object, Instance, Parts, no_parts, inner, followed_by, objects_of}
use Rattle.vhdl_expand_rules.specs.Tree as t
use Rattle.vhdl_expand_rules.specs.Expansion.{Spot, instance, concurrents, instance_of}
use Rattle.vhdl_expand_rules.specs.laws.Sites.{IsOf, IsConstant, IsSite}
use Rattle.vhdl_expand_rules.specs.laws.Trees.{object_kinds, is_port, ObjectIsSound, InstanceIsSound, PartsAreSound, DesignIsSound, EachTreeIsSound}
use Rattle.vhdl_expand_rules.proofs.Items.{all_pass, all_get, all_found, all_of_zip}
use Rattle.vhdl_expand_rules.proofs.laws.Made.{instance_made, BuiltInstance, instance_built, design_made}
use Rattle.vhdl_expand_rules.proofs.Digits.{IsInteger}
use Rattle.vhdl_expand_rules.proofs.laws.Known.{turns_have}
use Rattle.vhdl_expand_rules.proofs.laws.KnownSites.{Knows, knows_nothing, generate_knows}
use Rattle.vhdl_expand_rules.proofs.laws.Expanded.{IsTurn, OfParts, concurrents_hold}
use Rattle.vhdl_expand_rules.proofs.laws.Driven.{IsDeclared}
use Rattle.vhdl_expand_rules.proofs.laws.Interfaces.{PortObject, Interface, before_ports, none_before, interface-stands}
use Rattle.vhdl_expand_rules.proofs.laws.Declared.{Joined, port-sound, associations-sound, Stands, Anywhere, declarations-stand}
use Rattle.vhdl_expand_rules.proofs.laws.Processes.{process-sound}

-- ---- concurrent statements

module _ (os : List Object) where
  followed-sound : (a c : Parts) → PartsAreSound os a → PartsAreSound os c → PartsAreSound os (followed_by a c)
  followed-sound no_parts c h k = k
  followed-sound (t.process p rest) c h k = (h.0, followed-sound rest c h.1 k)
  followed-sound (inner label i rest) c h k = (h.0, followed-sound rest c h.1 k)

-- in a turn of a generate, and in a branch
in-generate : (i : Inside) (here : Site) (j : ℤ) (ps ss : List Object) → IsInteger j → IsDeclared i here ps ss → IsDeclared (within_generate i) (in_generate here j) ps ss
in-generate i here j ps ss is h = record {
  site = record { constants = h.site.constants; ports = h.site.ports; signals = h.site.signals; variables = h.site.variables };
  known = generate_knows here j h.known is;
  ports = h.ports;
  signals = h.signals;
  roles = h.roles;
  internals = h.internals;
}

turn-has : (here : Spot) (at : ℕ) (r : Range) (j : ℤ) → Knows here.site → IsTurn here at r j → IsInteger j
turn-has here at r j h t = all_get IsInteger t.0 t.2.0 j (turns_have here.site.integers h at r t.0 t.1) t.2.1

-- what holds inside an entity before its architecture
abbrev inside : Entity → Inside
inside unit = with_ports (before_ports unit) unit.ports

-- the ports that are declared, and nothing else of what a site has
record WithPorts (i j : Inside) (ps : List Port) : Type 0 where
  ports : j.ports ≡ i.ports ++ ps
  constants : j.constants ≡ i.constants
  signals : j.signals ≡ i.signals
  variables : j.variables ≡ i.variables

with-ports : (ps : List Port) (i : Inside) → WithPorts i (with_ports i ps) ps
with-ports [] i = record { ports = sym (append-nil i.ports); constants = refl; signals = refl; variables = refl }
with-ports (p ∷ ps) i =
    let w = with-ports ps (record i { ports = i.ports ++ p ∷ []; ranges = i.ranges + ranges_of p.object.form }) in
    record { ports = w.ports ∙ append_assoc i.ports (p ∷ []) ps; constants = w.constants; signals = w.signals; variables = w.variables }

ports-inside : (unit : Entity) → (inside unit).ports ≡ unit.ports
ports-inside unit = (with-ports unit.ports (before_ports unit)).ports ∙ ap (λ (ps : List Port). ps ++ unit.ports) (none_before unit).0

alone-inside : (unit : Entity) → (inside unit).variables ≡ []
alone-inside unit = (with-ports unit.ports (before_ports unit)).variables ∙ (none_before unit).1

site-inside : (unit : Entity) (here : Site) → IsSite (record (before_ports unit) { ports = unit.ports }) here → IsSite (inside unit) here
site-inside unit here h =
    let w = with-ports unit.ports (before_ports unit) in
    record {
      constants = subst (λ (fs : List Form). AllZip IsConstant fs here.constants) (sym w.constants) h.constants;
      ports = subst (λ (ps : List Port). AllZip IsOf (map port_form ps) here.ports) (sym (ports-inside unit)) h.ports;
      signals = subst (λ (fs : List Form). AllZip IsOf fs here.signals) (sym w.signals) h.signals;
      variables = subst (λ (fs : List Form). AllZip IsOf fs here.variables) (sym w.variables) h.variables;
    }

-- an interface whose ports are joined to things above
record Begins (above : List Object) (unit : Entity) (d : InstanceObjects) : Type 0 where
  declared : IsDeclared (inside unit) d.site d.objects []
  sound : All (ObjectIsSound above) d.objects

roles-of : (above : List Object) (fs : List Port) (os : List Object) → AllZip (Joined above) fs os → AllZip (λ (p : Port) (o : Object). o.role ≡ role_of p.mode) fs os
roles-of above [] [] h = tt
roles-of above (f ∷ fs) (o ∷ os) h = (h.0.role_is, roles-of above fs os h.1)
roles-of above _ _ h = elim h [ ]

not-joined : (above : List Object) (fs : List Port) (os : List Object) → AllZip PortObject fs os → AllZip (Joined above) fs os
not-joined above [] [] h = tt
not-joined above (f ∷ fs) (o ∷ os) h = (port-sound above f o h.0, not-joined above fs os h.1)
not-joined above _ _ h = elim h [ ]

begins : (above : List Object) (unit : Entity) (d : InstanceObjects) (os : List Object) → Interface (before_ports unit) unit.ports d → object_kinds os ≡ object_kinds d.objects → AllZip (Joined above) unit.ports os
    → Begins above unit (record d { objects = os })
begins above unit d os h kinds joined = record {
  declared = record {
    site = site-inside unit d.site h.site;
    known = h.known;
    ports = kinds ∙ h.kinds;
    signals = sym h.no_signals;
    roles = subst (λ (ps : List Port). AllZip (λ (p : Port) (o : Object). o.role ≡ role_of p.mode) ps os) (sym (ports-inside unit)) (roles-of above unit.ports os joined);
    internals = All-nil (λ (o : Object). o.role ≡ internal);
  };
  sound = all_of_zip (Joined above) (ObjectIsSound above) (λ p o j. j.sound) unit.ports os joined;
}

-- the parts of a sound entity
record EntityFits (units : Units) (unit : Entity) : Type 0 where
  generics : generics_fit nothing_inside unit.generics ≡ true
  objects : objects_fit (before_ports unit) (map (λ (p : Port). p.object) unit.ports) ≡ true
  ports : list_all port_fits unit.ports ≡ true
  architecture : architecture_fits units (inside unit) unit.architecture ≡ true

entity-parts : (units : Units) (unit : Entity) → entity_fits units unit ≡ true → EntityFits units unit
entity-parts units unit h =
    let a : Bool = generics_fit nothing_inside unit.generics in
    let b : Bool = objects_fit (before_ports unit) (map (λ (p : Port). p.object) unit.ports) in
    let c : Bool = list_all port_fits unit.ports in
    let all = and_parts (a && b && c) (architecture_fits units (inside unit) unit.architecture) h in
    let ports = and_parts (a && b) c all.0 in
    let first = and_parts a b ports.0 in
    record { generics = first.0; objects = first.1; ports = ports.1; architecture = all.1 }

unit-begins : (units : Units) (above : Site) (actuals : List (Option Fixed)) (unit : Entity) (d : InstanceObjects) → Knows above → EntityFits units unit → interface above actuals unit ≡ Ok d
    → Interface (before_ports unit) unit.ports d
unit-begins units above actuals unit d known fit e = interface-stands above actuals unit d known fit.generics fit.objects fit.ports e

-- what fits, where these ports and signals are declared
record Fitting (os ss : List Object) (fits : Inside → Bool) (here : Spot) : Type 0 where
  known : Inside
  declared : IsDeclared known here.site os ss
  alone : known.variables ≡ []
  is : fits known ≡ true

module _ (units : Units) (sound : list_all (entity_fits units) units ≡ true) (go : ℕ → Entity → InstanceObjects → Elab Instance)
    (go-sound : (above : List Object) (at : ℕ) (unit : Entity) (d : InstanceObjects) (i : Instance) → entity_fits units unit ≡ true → Begins above unit d → go at unit d ≡ Ok i → InstanceIsSound above i) where
  fitting : (i : Inside) (x : u.Instance) (unit : Entity) → slice_get units x.unit ≡ Some unit → instance_fits i x (slice_get units x.unit) ≡ true → actuals_fit i unit.ports x.ports ≡ true
  fitting i x unit e h =
      let k : instance_fits i x (Some unit) ≡ true = ap (instance_fits i x) (sym e) ∙ h in
      (and_parts (generic_actuals_fit i unit.generics x.generics) (actuals_fit i unit.ports x.ports) k).1

  instance-sound : (i : Inside) (here : Spot) (os ss : List Object) (x : u.Instance) (y : Instance) → IsDeclared i here.site os ss → instance_fits i x (slice_get units x.unit) ≡ true
      → instance units go here x ≡ Ok y → InstanceIsSound (os ++ ss) y
  instance-sound i here os ss x y h fit e =
      let m = instance_made units go here x y e in
      let fits : entity_fits units m.unit ≡ true = all_get (λ (z : Entity). entity_fits units z ≡ true) units x.unit m.unit (all_pass (entity_fits units) units sound) m.there in
      let begun = unit-begins units here.site x.generics m.unit m.declared h.known (entity-parts units m.unit fits) m.declares in
      let joined = associations-sound i here.site x.at os ss m.unit.ports x.ports m.declared.objects m.objects h begun.objects (fitting i x m.unit m.there fit) m.joins in
      go-sound (os ++ ss) x.at m.unit (record m.declared { objects = m.objects }) y fits (begins (os ++ ss) m.unit m.declared m.objects begun joined.kinds joined.joined) m.gave

  abbrev OneFits : List Object → List Object → Spot → u.Concurrent → Type 0
  OneFits os ss here x = Fitting os ss (λ i. concurrent_fits units i x) here

  abbrev ManyFit : List Object → List Object → Spot → u.Concurrents → Type 0
  ManyFit os ss here xs = Fitting os ss (λ i. concurrents_fit units i xs) here

  parts-sound : (os ss : List Object) → OfParts (OneFits os ss) (ManyFit os ss) (PartsAreSound (os ++ ss))
  unfolding concurrent_fits
  parts-sound os ss = record {
    none = tt;
    followed = followed-sound (os ++ ss);
    split = λ here x rest f.
        let both = and_parts (concurrent_fits units f.known x) (concurrents_fit units f.known rest) f.is in
        (record { known = f.known; declared = f.declared; alone = f.alone; is = both.0 }, record { known = f.known; declared = f.declared; alone = f.alone; is = both.1 });
    of_process = λ here p q f h. (process-sound f.known here os ss p q f.declared f.alone f.is h, tt);
    in_for = λ here at label r body j turn f. record {
      known = within_generate f.known;
      declared = in-generate f.known here.site j os ss (turn-has here at r j f.declared.known turn) f.declared;
      alone = f.alone;
      is = (and_parts (range_fits f.known r) (concurrents_fit units (within_generate f.known) body) f.is).1;
    };
    in_if = λ here at label r body f.
        record { known = f.known; declared = f.declared; alone = f.alone; is = (and_parts (static_test_fits f.known r) (concurrents_fit units f.known body) f.is).1 };
  }

  one-sound : (os ss : List Object) (here : Spot) (x : u.Instance) (y : Instance) → OneFits os ss here (u.instance x) → instance units go here x ≡ Ok y → PartsAreSound (os ++ ss) (inner (here.prefix ++ x.label) y no_parts)
  unfolding concurrent_fits
  one-sound os ss here x y f e = (instance-sound f.known here os ss x y f.declared f.is e, tt)

  concurrents-sound : (xs : u.Concurrents) (i : Inside) (here : Spot) (os ss : List Object) (ps : Parts) → IsDeclared i here.site os ss → i.variables ≡ [] → concurrents_fit units i xs ≡ true
      → concurrents units go here xs ≡ Ok ps → PartsAreSound (os ++ ss) ps
  concurrents-sound xs i here os ss ps h alone fit e =
      concurrents_hold units go (OneFits os ss) (ManyFit os ss) (PartsAreSound (os ++ ss)) (parts-sound os ss) (one-sound os ss) xs here ps (record { known = i; declared = h; alone = alone; is = fit }) e

-- ---- instances

-- the architecture of a sound entity, with the signals that it declares
record Architected (units : Units) (levels : ℕ) (unit : Entity) (d : InstanceObjects) (i : Instance) : Type 0 where
  built : BuiltInstance units levels unit d i
  signals : Stands (with_declarations (inside unit) built.architecture.declarations) built.inside d.objects
  fits : concurrents_fit units (with_declarations (inside unit) built.architecture.declarations) built.architecture.statements ≡ true

architected : (units : Units) (levels : ℕ) (above : List Object) (at : ℕ) (unit : Entity) (d : InstanceObjects) (i : Instance) → entity_fits units unit ≡ true → Begins above unit d
    → instance_of units (suc levels) at unit d ≡ Ok i → Architected units levels unit d i
architected units levels above at unit d i fit h e =
    let m = instance_built units levels at unit d i e in
    let ds : List Declaration = m.architecture.declarations in
    let whole : architecture_fits units (inside unit) (Some m.architecture) ≡ true = ap (architecture_fits units (inside unit)) (sym m.there) ∙ (entity-parts units unit fit).architecture in
    let both = and_parts (declarations_fit (inside unit) ds && not (list_any is_variable ds)) (concurrents_fit units (with_declarations (inside unit) ds) m.architecture.statements) whole in
    let first = and_parts (declarations_fit (inside unit) ds) (not (list_any is_variable ds)) both.0 in
    let start : Stands (inside unit) d d.objects =
    record { signals = []; objects = sym (append-nil d.objects); declared = h.declared; sound = All-nil Anywhere; alone = alone-inside unit } in
    record { built = m; signals = declarations-stand ds (inside unit) d m.inside d.objects first.1 first.0 start m.declares; fits = both.1 }

instance_of-sound : (units : Units) (levels : ℕ) → list_all (entity_fits units) units ≡ true → (above : List Object) (at : ℕ) (unit : Entity) (d : InstanceObjects) (i : Instance) → entity_fits units unit ≡ true → Begins above unit d
    → instance_of units levels at unit d ≡ Ok i → InstanceIsSound above i
unfolding instance_of
instance_of-sound units zero sound above at unit d i fit h e = absurd cc
instance_of-sound units (suc n) sound above at unit d i fit h e =
    let a = architected units n above at unit d i fit h e in
    let m = a.built in
    let st = a.signals in
    let spot : Spot = record { site = m.inside.site; prefix = [] } in
    let parts : PartsAreSound (d.objects ++ st.signals) m.parts =
    concurrents-sound units sound (instance_of units n) (instance_of-sound units n sound) m.architecture.statements (with_declarations (inside unit) m.architecture.declarations) spot d.objects st.signals m.parts st.declared st.alone a.fits m.gave in
    subst (InstanceIsSound above) {x = t.instance m.inside.objects m.turns m.parts} m.is
    (subst (λ (os : List Object). All (ObjectIsSound above) os × PartsAreSound os m.parts) (sym st.objects)
    (All-append (ObjectIsSound above) d.objects st.signals h.sound (All-weaker Anywhere (ObjectIsSound above) (λ o w. w above) st.signals st.sound), parts))

-- ---- the top

abbrev NotJoined : Object → Type 0
NotJoined o = o.actual ≡ None

signals-alone : (os : List Object) → All Anywhere os → All (λ (o : Object). o.role ≡ internal) os → All NotJoined os
signals-alone [] h k = All-nil NotJoined
signals-alone (o ∷ os) h k =
    All-cons NotJoined o os ((All-head Anywhere o os h []).signals_have_none (ap is_port (All-head (λ (x : Object). x.role ≡ internal) o os k)))
    (signals-alone os (All-tail Anywhere o os h) (All-tail (λ (x : Object). x.role ≡ internal) o os k))

top-alone : (units : Units) (n at : ℕ) (unit : Entity) (d : InstanceObjects) (i : Instance) → entity_fits units unit ≡ true → Begins [] unit d → All NotJoined d.objects
    → instance_of units n at unit d ≡ Ok i → All NotJoined (objects_of i)
unfolding instance_of
top-alone units zero at unit d i fit h none e = absurd cc
top-alone units (suc n) at unit d i fit h none e =
    let a = architected units n [] at unit d i fit h e in
    let st = a.signals in
    subst (λ (x : Instance). All NotJoined (objects_of x)) {x = t.instance a.built.inside.objects a.built.turns a.built.parts} a.built.is
    (subst (All NotJoined) (sym st.objects) (All-append NotJoined d.objects st.signals none (signals-alone st.signals st.sound st.declared.internals)))

pub each-tree-is-sound : EachTreeIsSound
unfolding are_sound
each-tree-is-sound units top design h e =
    let sound : list_all (entity_fits units) units ≡ true = h in
    let m = design_made units top design e in
    let fit : entity_fits units m.unit ≡ true =
    all_found (λ (x : Entity). entity_fits units x ≡ true) (λ (x : Entity). bytes_eq x.name (map to_ascii_lowercase top.name)) units m.unit (all_pass (entity_fits units) units sound) m.there in
    let begun = unit-begins units no_site m.actuals m.unit m.declared knows_nothing (entity-parts units m.unit fit) m.declares in
    let start = begins [] m.unit m.declared m.declared.objects begun refl (not-joined [] m.unit.ports m.declared.objects begun.objects) in
    let none = all_of_zip PortObject NotJoined (λ p o j. j.plain.none) m.unit.ports m.declared.objects begun.objects in
    subst DesignIsSound m.is (record {
      top = instance_of-sound units 32 sound [] m.unit.at m.unit m.declared m.tree fit start m.gave;
      not_joined = top-alone units 32 m.unit.at m.unit m.declared m.tree fit start none m.gave;
    })
