-- What elaboration refuses of units is told at one of their bytes, or at 0: the objects of an expanded tree are declared at bytes of the units.
use Rattle.std.proofs.Common.{◌≡◌, ℕ, ◌+◌, Bool, true, false, cond, not, ◌||◌, List, [], ◌∷◌, ◌++◌, map, Option, Some, None, Ok, All, subst, inl, inr}
use Rattle.std.specs.Prelude.{find, flat_map, is_some, length, Contains}
use Rattle.std.specs.List.{AllZip, range_with_len}
use Rattle.std.proofs.lemmas.List.Elements.{All-append, All-cons, All-nil, All-head, All-tail, All-weaker, All-contains_itself, Contains-append_right}
use Rattle.vhdl_names_rules.specs.units.Expressions.{SignalPart}
use Rattle.vhdl_names_rules.specs.units.Units as u
use Rattle.vhdl_names_rules.specs.units.Units.{Fixed, Port, Declaration, Entity, Units, Architecture}
use Rattle.vhdl_names_rules.specs.units.Bytes.{if_any_bytes, form_bytes, fixed_bytes, port_bytes, declaration_bytes, concurrents_bytes, architecture_bytes, entity_bytes, units_bytes}
use Rattle.vhdl_expand_rules.specs.declared.fault.ElabProblem.TheVariants.{TooMany, TwoUnresolved, ReadOfShared, Unassociated, GenericRange}
use Rattle.vhdl_expand_rules.specs.Elab.{Told, unless, same_length}
use Rattle.vhdl_expand_rules.specs.Kinds.{size}
use Rattle.vhdl_expand_rules.specs.Site.{Site, place_elements, signal_kind}
use Rattle.vhdl_expand_rules.specs.Tree.{Role, internal, Object, Instance, Parts, no_parts, inner, EachInstance, EachInner}
use Rattle.vhdl_expand_rules.specs.Tree as t
use Rattle.vhdl_expand_rules.specs.Declarations.{first_of, rest_of, object, role_of, InstanceObjects, interface, declarations, is_input, may_flow, association, associations}
use Rattle.vhdl_expand_rules.specs.Expansion.{Design, expanded_design}
use Rattle.vhdl_expand_rules.specs.Tops.{Top}
use Rattle.vhdl_expand_rules.proofs.Steps.{ok, bound}
use Rattle.vhdl_expand_rules.proofs.Items.{all_of_zip}
use Rattle.vhdl_expand_rules.proofs.laws.Expanded.{object_made, OfObjects, interface_holds, with_signals, OfSignal, declarations_add, OfInstances, design_holds}
use Rattle.vhdl_expand_rules.proofs.Tells.{Tells, tells_none, tells_then, tells_with, tells_unless, tells_within, all_flat}
use Rattle.vhdl_expand_rules.proofs.laws.Targets.{all_left}
use Rattle.vhdl_expand_rules.proofs.laws.told.Declarations.{MayStand, EntityStands, entity_stands}
use Rattle.vhdl_expand_rules.proofs.laws.told.Designs.{designs_are_told}
use Rattle.vhdl_elab_rules.specs.Numbering.{Placed, Numbered, nothing_numbered, Above, above_top, above_parts, placed_instance, with_process, with_placed, with_instance, with_parts, numbered_design}
use Rattle.vhdl_elab_rules.specs.Wiring.{Element, element_of, elements_from, elements_of, flat_net}
use Rattle.vhdl_elab_rules.specs.Limits.{elements, declared_at, first_at, is_two_unresolved, has_two_unresolved, is_read_of_shared, has_read_of_shared, counts, is_within_limits}
use Rattle.vhdl_elab_rules.specs.Elaboration.{net_of, resolves, shares_unread, netlist_of, elaborated_net}
use Rattle.vhdl_elab_rules.specs.laws.Bytes.{EachRefusalStandsInUnits}

-- told at such a byte
abbrev IsAt : (ℕ → Type 0) → Told → Type 0
IsAt P told = P told.1

module _ (P : ℕ → Type 0) where
  -- ---- objects

  abbrev pub Stands : Object → Type 0
  Stands o = P o.at

  object-stands : (here : Site) (role : Role) (o : u.Object) (x : Object) → P o.at → object here role o ≡ Ok x → Stands x
  object-stands here role o x h g = subst Stands (object_made here role o x g).is h

  abbrev IsThere : u.Object → Type 0
  IsThere o = P o.at

  abbrev PortStands : Port → Object → Type 0
  PortStands p o = P o.at

  objects : OfObjects IsThere PortStands Stands
  objects = record {
    of_port = λ here p x s h. object-stands here (role_of p.mode) p.object x s h;
    of_actual = λ p o es h e. h;
    of_signal = λ here o x s h. object-stands here internal o x s h;
  }

  ports-there : (unit : Entity) → EntityStands P unit → All (λ (p : Port). IsThere p.object) unit.ports
  ports-there unit k =
      All-weaker (λ (p : Port). All P (port_bytes p)) (λ (p : Port). IsThere p.object)
      (λ p h. All-head P p.object.at (form_bytes p.object.form ++ if_any_bytes fixed_bytes p.object.default) h) unit.ports k.ports

  abbrev DeclarationStands : Declaration → Type 0
  DeclarationStands x = All P (declaration_bytes x)

  signal-there : (x : Declaration) → DeclarationStands x → OfSignal IsThere x
  signal-there (u.Declaration.signal o) h = All-head P o.at (form_bytes o.form ++ if_any_bytes fixed_bytes o.default) h
  signal-there _ h = tt

  ports-stand : (unit : Entity) (os : List Object) → AllZip PortStands unit.ports os → All Stands os
  ports-stand unit os h = all_of_zip PortStands Stands (λ p o s. s) unit.ports os h

  pub interface_stands : (above : Site) (actuals : List (Option Fixed)) (unit : Entity) (d : InstanceObjects) → EntityStands P unit → interface above actuals unit ≡ Ok d → All Stands d.objects
  interface_stands above actuals unit d k g = ports-stand unit d.objects (interface_holds IsThere PortStands Stands objects above actuals unit d (ports-there unit k) g)

  association-stands : (above : Site) (at : ℕ) (p : Port) (actual : Option SignalPart) (o x : Object) → Stands o → association above at p actual o ≡ Ok x → Stands x
  unfolding association
  association-stands above at p None o x h k =
      let a = bound (unless Unassociated at (not (is_input o.role) || is_some p.object.default)) _ x k in
      subst Stands (ok o x a.then_gave) h
  association-stands above at p (Some place) o x h k =
      let es = bound (place_elements above place) _ x k in
      let a = bound (same_length place.at (length es.x) (size o.kind)) _ x es.then_gave in
      let flows = bound (unless GenericRange place.at (may_flow o.role (signal_kind above place.signal) o.kind)) _ x a.then_gave in
      subst Stands (ok (record o { actual = Some es.x }) x flows.then_gave) h

  pub associations_stand : (above : Site) (at : ℕ) (ps : List Port) (actuals : List (Option SignalPart)) (os xs : List Object) → All Stands os → associations above at ps actuals os ≡ Ok xs → All Stands xs
  unfolding associations
  associations_stand above at [] actuals os xs h k = subst (All Stands) (ok [] xs k) (All-nil Stands)
  associations_stand above at (p ∷ ps) actuals [] xs h k = subst (All Stands) (ok [] xs k) (All-nil Stands)
  associations_stand above at (p ∷ ps) actuals (o ∷ os) xs h k =
      let y = bound (association above at p (first_of actuals) o) _ xs k in
      let ys = bound (associations above at ps (rest_of actuals) os) _ xs y.then_gave in
      subst (All Stands) (ok (y.x ∷ ys.x) xs ys.then_gave)
      (All-cons Stands y.x ys.x (association-stands above at p (first_of actuals) o y.x (All-head Stands o os h) y.gave)
      (associations_stand above at ps (rest_of actuals) os ys.x (All-tail Stands o os h) ys.gave))

  pub declarations_stand : (xs : List Declaration) (d e : InstanceObjects) → All Stands d.objects → All DeclarationStands xs → declarations d xs ≡ Ok e → All Stands e.objects
  declarations_stand xs d e h w k =
      with_signals Stands d.objects e.objects h (declarations_add IsThere PortStands Stands objects xs d e (All-weaker DeclarationStands (OfSignal IsThere) signal-there xs w) k)

  -- ---- the tree

  declarations-there : (unit : Entity) (a : Architecture) → EntityStands P unit → unit.architecture ≡ Some a → All (OfSignal IsThere) a.declarations
  declarations-there unit a k there =
      let ds : List ℕ = flat_map declaration_bytes a.declarations in
      let whole : All P (ds ++ concurrents_bytes a.statements) = subst (λ (o : Option Architecture). MayStand P architecture_bytes o) there k.architecture in
      All-weaker DeclarationStands (OfSignal IsThere) signal-there a.declarations (all_flat P declaration_bytes a.declarations (all_left P ds (concurrents_bytes a.statements) whole))

  instances : OfInstances (EntityStands P) IsThere PortStands Stands (All Stands)
  instances = record {
    objects = objects;
    of_unit = ports-there;
    of_architecture = declarations-there;
    of_instance = λ unit ports signals h k. All-append Stands ports signals (ports-stand unit ports h) k;
  }

  abbrev InstanceStands : Instance → Type 0
  InstanceStands i = EachInstance (All Stands) i

  design-stands : (units : Units) (top : Top) (design : Design) → All P (units_bytes units) → expanded_design units top ≡ Ok design → InstanceStands design.top
  design-stands units top design k h =
      let known : All (EntityStands P) units = All-weaker (λ (x : Entity). All P (entity_bytes x)) (EntityStands P) (entity_stands P) units (all_flat P entity_bytes units k) in
      design_holds (EntityStands P) IsThere PortStands Stands (All Stands) instances units known top design h

  -- ---- instances in order, and their elements

  abbrev PlacedStands : Placed → Type 0
  PlacedStands p = All Stands p.objects

  mutual
    numbered-stands : (i : Instance) (above : Above) (label : List ℕ) (d : Numbered) → InstanceStands i → All PlacedStands d.instances → All PlacedStands (with_instance above label i d).instances
    numbered-stands (t.instance os turns parts) above label d h k =
        let p : Placed = placed_instance above label d.nets (t.instance os turns parts) in
        parts-numbered parts (length d.instances) p (with_placed p d) h.1 (All-append PlacedStands d.instances (p ∷ []) k (All-cons PlacedStands p [] h.0 (All-nil PlacedStands)))

    parts-numbered : (ps : Parts) (number : ℕ) (round : Placed) (d : Numbered) → EachInner (All Stands) ps → All PlacedStands d.instances → All PlacedStands (with_parts number round ps d).instances
    parts-numbered no_parts number round d h k = k
    parts-numbered (t.process p rest) number round d h k = parts-numbered rest number round (with_process number round p d) h k
    parts-numbered (inner label i rest) number round d h k =
        parts-numbered rest number round (with_instance (above_parts number round) label i d) h.1 (numbered-stands i (above_parts number round) label d h.0 k)

  abbrev ElementStands : Element → Type 0
  ElementStands e = P e.at

  object-elements : (p : Placed) (o : Object) (first : ℕ) (ks : List ℕ) → Stands o → All ElementStands (map (λ k. element_of p o (first + k) k) ks)
  object-elements p o first [] h = All-nil ElementStands
  object-elements p o first (k ∷ ks) h = All-cons ElementStands (element_of p o (first + k) k) (map (λ k. element_of p o (first + k) k) ks) h (object-elements p o first ks h)

  elements-stand : (p : Placed) (first : ℕ) (os : List Object) → All Stands os → All ElementStands (elements_from p first os)
  elements-stand p first [] h = All-nil ElementStands
  elements-stand p first (o ∷ os) h =
      All-append ElementStands (map (λ k. element_of p o (first + k) k) (range_with_len 0 (size o.kind))) (elements_from p (first + size o.kind) os)
      (object-elements p o first (range_with_len 0 (size o.kind)) (All-head Stands o os h)) (elements-stand p (first + size o.kind) os (All-tail Stands o os h))

  all-elements : (ps : List Placed) → All PlacedStands ps → All ElementStands (flat_map elements_of ps)
  all-elements [] h = All-nil ElementStands
  all-elements (p ∷ ps) h =
      All-append ElementStands (elements_of p) (flat_map elements_of ps) (elements-stand p 0 p.objects (All-head PlacedStands p ps h)) (all-elements ps (All-tail PlacedStands p ps h))

  first-stands : P 0 → (is : Element → Bool) (es : List Element) → All ElementStands es → P (first_at is es)
  first-stands nought is [] h = nought
  first-stands nought is (e ∷ es) h = by (is e) (first-stands nought is es (All-tail ElementStands e es h))
    where
      by : (b : Bool) → P (first_at is es) → P (declared_at (cond b (Some e) (find is es)))
      by true later = All-head ElementStands e es h
      by false later = later

  -- ---- netlists

  netlist-tells : P 0 → (design : Design) → InstanceStands design.top → Tells (IsAt P) (netlist_of design)
  unfolding netlist_of numbered_design
  netlist-tells nought design h =
      let d : Numbered = numbered_design design in
      let all : All ElementStands (elements d) = all-elements d.instances (numbered-stands design.top above_top design.name nothing_numbered h (All-nil PlacedStands)) in
      tells_then (IsAt P) (unless TooMany 0 (is_within_limits (counts d))) _ (tells_within (IsAt P) 0 (is_within_limits (counts d)) nought) (λ limits.
      tells_then (IsAt P) (resolves d) _
      (tells_unless (IsAt P) TwoUnresolved tt (first_at is_two_unresolved (elements d)) (not (has_two_unresolved d))
      (λ problem own. first-stands nought is_two_unresolved (elements d) all)) (λ two.
      tells_then (IsAt P) (shares_unread d) _
      (tells_unless (IsAt P) ReadOfShared tt (first_at (is_read_of_shared (flat_net d)) (elements d)) (not (has_read_of_shared d (flat_net d)))
      (λ problem own. first-stands nought (is_read_of_shared (flat_net d)) (elements d) all)) (λ shared. tells_none (IsAt P) (net_of d))))

nought-in : (bytes : List ℕ) → Contains (0 ∷ bytes) 0
nought-in bytes = All-head (Contains (0 ∷ bytes)) 0 bytes (All-contains_itself (0 ∷ bytes))

bytes-in : (bytes : List ℕ) → All (Contains (0 ∷ bytes)) bytes
bytes-in bytes = All-tail (Contains (0 ∷ bytes)) 0 bytes (All-contains_itself (0 ∷ bytes))

net-tells : (units : Units) (top : Top) → Tells (IsAt (Contains (0 ∷ units_bytes units))) (elaborated_net units top)
unfolding elaborated_net
net-tells units top =
    let bytes : List ℕ = units_bytes units in
    tells_with (IsAt (Contains (0 ∷ bytes))) (expanded_design units top) _ (record { told_at = designs_are_told units top }) (λ design is.
    netlist-tells (Contains (0 ∷ bytes)) (nought-in bytes) design (design-stands (Contains (0 ∷ bytes)) units top design (bytes-in bytes) is))

pub refusals-stand : EachRefusalStandsInUnits
refusals-stand units top told (inl first) = (net-tells units top).told_at told first.1
refusals-stand units top told (inr cut) = Contains-append_right (0 ∷ []) (units_bytes units) told.1 cut.1.placed
