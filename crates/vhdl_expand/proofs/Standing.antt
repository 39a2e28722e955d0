-- The bytes of processes, instances and units, and of what stands in them.
use Rattle.std.proofs.Common.{◌≡◌, ◌<◌, ℕ, zero, suc, List, [], ◌∷◌, ◌++◌, length, map, get_or, Option, Some, Ok, All, sym, subst, arith}
use Rattle.std.specs.Prelude.{slice_get, flat_map, Contains}
use Rattle.std.proofs.lemmas.Option.{same_Some}
use Rattle.std.proofs.lemmas.List.Elements.{All-nil, All-cons, All-head, All-tail, All-append, All-map, All-weaker}
use Rattle.vhdl_names_rules.specs.units.Expressions.{SignalPart}
use Rattle.vhdl_names_rules.specs.units.Units as u
use Rattle.vhdl_names_rules.specs.units.Units.{Units, Entity, Architecture, Declaration, Fixed, Port}
use Rattle.vhdl_names_rules.specs.units.Bytes.{if_any_bytes, range_bytes, static_test_bytes, place_bytes, fixed_bytes, statements_bytes, sensitivity_bytes, process_bytes, instance_bytes, declaration_bytes, concurrent_bytes, concurrents_bytes, architecture_bytes, entity_bytes, units_bytes}
use Rattle.vhdl_names_trees.specs.views.Integers.{range_view}
use Rattle.vhdl_names_trees.specs.views.Tests.{static_test_view}
use Rattle.vhdl_names_units.specs.declared.concurrent.Concurrent.{Concurrent}
use Rattle.vhdl_names_units.specs.declared.concurrent.Scheme.{Scheme}
use Rattle.vhdl_names_units.specs.declared.concurrent.Scheme.TheVariants as k
use Rattle.vhdl_names_units.specs.views.Concurrent as views
use Rattle.vhdl_expand_rules.specs.declared.fault.ElabProblem.TheVariants.{TooDeep}
use Rattle.vhdl_expand_rules.specs.Elab.{Told}
use Rattle.vhdl_expand_rules.specs.Site.{Site, no_site}
use Rattle.vhdl_expand_rules.specs.Tops.{Top, actuals_of, top_interface}
use Rattle.vhdl_expand_rules.specs.Statements.{statements}
use Rattle.vhdl_expand_rules.specs.Tree.{Object}
use Rattle.vhdl_expand_rules.specs.Declarations.{InstanceObjects, ProcessVariables, interface, declarations, process_declarations, associations}
use Rattle.vhdl_expand_rules.proofs.Steps.{ok, bound}
use Rattle.vhdl_expand_rules.proofs.Tells.{At, tells_none, tells_then, all_flat}
use Rattle.vhdl_expand_rules.proofs.laws.Made.{interface_made}
use Rattle.vhdl_expand_rules.proofs.laws.Targets.{all_left, all_right}
use Rattle.vhdl_expand_rules.proofs.laws.told.Declarations.{MayStand, EntityStands, entity_stands, interface_tells, top_interface_tells, declarations_tell, process_declarations_tell, associations_tell}
use Rattle.vhdl_expand_rules.proofs.laws.told.Statements.{statements_tells}
use Rattle.vhdl_elab_rules.proofs.laws.Standing.{interface_stands, associations_stand, declarations_stand}
use Rattle.vhdl_expand_declarations.specs.Associations.{associated}
use Rattle.vhdl_expand.specs.Walks.{IsAmong}
use Rattle.vhdl_expand.proofs.Among.{Among, among_left, among_right, among_all, all_among, first_among, under, beside}
use Rattle.vhdl_expand.proofs.Telling.{IsPlaced, Places, tells_places, anywhere, all_anywhere, each_anywhere}

-- ---- a process

module _ (p : u.Process) where
  abbrev declarations-list : List ℕ
  declarations-list = flat_map declaration_bytes p.declarations

  abbrev body-list : List ℕ
  body-list = sensitivity_bytes p.sensitivity ++ statements_bytes p.body

  pub process_starts : Contains (process_bytes p) p.at
  process_starts = first_among p.at (declarations-list ++ body-list)

  pub body_among : Among (p.at ∷ statements_bytes p.body) (process_bytes p)
  body_among = under p.at (statements_bytes p.body) (declarations-list ++ body-list) (λ at c.
      among_right declarations-list body-list at (among_right (sensitivity_bytes p.sensitivity) (statements_bytes p.body) at c))

  pub declared_places : (d : ProcessVariables) → Places (process_bytes p) (process_declarations d p.declarations)
  declared_places d =
      let P : Told → Type 0 = IsPlaced (process_bytes p) in
      tells_places (process_bytes p) _ (process_declarations_tell P p.declarations d (each_anywhere (process_bytes p) declaration_bytes p.declarations))

  -- loops tell their turns
  pub body_places : (here : Site) → Places (process_bytes p) (statements here p.body)
  body_places here =
      let P : Told → Type 0 = λ told. Contains (process_bytes p) told.1 in
      let there : All (Contains (process_bytes p)) (statements_bytes p.body) =
      All-tail (Contains (process_bytes p)) p.at (statements_bytes p.body) (all_among (p.at ∷ statements_bytes p.body) (process_bytes p) body_among) in
      let told = statements_tells P (λ at h. h TooDeep tt) p.body here (All-weaker (Contains (process_bytes p)) (At P) (λ at h problem own. h) (statements_bytes p.body) there) in
      record { placed = λ other e too. told.told_at other e }

-- ---- concurrent statements

pub concurrent_among : (xs : List Concurrent) (i : ℕ) (x : Concurrent) → i < length xs → x ≡ get_or xs i x
    → Among (concurrent_bytes (views.concurrent_view x)) (concurrents_bytes (views.concurrents_of (map views.concurrent_view xs)))
concurrent_among [] i x h is at c = absurd (omega (arith, h))
concurrent_among (y ∷ xs) zero x h is at c =
    among_left (concurrent_bytes (views.concurrent_view y)) (concurrents_bytes (views.concurrents_of (map views.concurrent_view xs))) at
    (subst (λ (z : Concurrent). Contains (concurrent_bytes (views.concurrent_view z)) at) is c)
concurrent_among (y ∷ xs) (suc i) x h is at c =
    among_right (concurrent_bytes (views.concurrent_view y)) (concurrents_bytes (views.concurrents_of (map views.concurrent_view xs))) at (concurrent_among xs i x (omega (arith, h)) is at c)

pub generate_among : (label : List ℕ) (at : ℕ) (body : u.Concurrents) (scheme : Scheme) (more : List ℕ)
    → Among (at ∷ (concurrents_bytes body ++ more)) (concurrent_bytes (views.generated label at body scheme) ++ more)
generate_among label at body (k.For r) more =
    let range : List ℕ = range_bytes (range_view r) in
    under at (concurrents_bytes body ++ more) ((range ++ concurrents_bytes body) ++ more)
    (beside (concurrents_bytes body) (range ++ concurrents_bytes body) more (among_right range (concurrents_bytes body)))
generate_among label at body (k.If t) more =
    let test : List ℕ = static_test_bytes (static_test_view t) in
    under at (concurrents_bytes body ++ more) ((test ++ concurrents_bytes body) ++ more)
    (beside (concurrents_bytes body) (test ++ concurrents_bytes body) more (among_right test (concurrents_bytes body)))

-- ---- units

entity-among : (units : Units) (k : ℕ) (e : Entity) → slice_get units k ≡ Some e → Among (entity_bytes e) (units_bytes units)
entity-among [] k e h at c = absurd cc
entity-among (x ∷ units) zero e h at c = among_left (entity_bytes x) (units_bytes units) at (subst (λ (y : Entity). Contains (entity_bytes y) at) (sym (same_Some x e h)) c)
entity-among (x ∷ units) (suc k) e h at c = among_right (entity_bytes x) (units_bytes units) at (entity-among units k e h at c)

pub unit_stands : (units : Units) (unit : Entity) (bytes : List ℕ) → IsAmong units unit → Among (units_bytes units) bytes → EntityStands (Contains bytes) unit
unit_stands units unit bytes among whole =
    entity_stands (Contains bytes) unit (all_among (entity_bytes unit) bytes (λ at c. whole at (entity-among units among.0 unit among.1 at c)))

-- ---- the body of an instance

pub declarations_place : (bytes : List ℕ) (xs : List Declaration) (d : InstanceObjects) → Places bytes (declarations d xs)
declarations_place bytes xs d = tells_places bytes _ (declarations_tell (IsPlaced bytes) xs d (each_anywhere bytes declaration_bytes xs))

module _ (units : Units) (unit : Entity) (bytes : List ℕ) (among : IsAmong units unit) (whole : Among (units_bytes units) bytes) (a : Architecture) (there : unit.architecture ≡ Some a) where
  abbrev declared-list : List ℕ
  declared-list = flat_map declaration_bytes a.declarations

  architecture-stands : All (Contains bytes) (declared-list ++ concurrents_bytes a.statements)
  architecture-stands = subst (λ (o : Option Architecture). MayStand (Contains bytes) architecture_bytes o) there (unit_stands units unit bytes among whole).architecture

  declarations-there : All (λ (x : Declaration). All (Contains bytes) (declaration_bytes x)) a.declarations
  declarations-there = all_flat (Contains bytes) declaration_bytes a.declarations (all_left (Contains bytes) declared-list (concurrents_bytes a.statements) architecture-stands)

  pub nets_among : (d e : InstanceObjects) → All (λ (o : Object). Contains bytes o.at) d.objects → declarations d a.declarations ≡ Ok e → Among (map (λ (o : Object). o.at) e.objects) bytes
  nets_among d e h k =
      among_all (map (λ (o : Object). o.at) e.objects) bytes
      (All-map (Contains bytes) (λ (o : Object). o.at) e.objects (declarations_stand (Contains bytes) a.declarations d e h declarations-there k))

  pub inside_among : Among (concurrents_bytes a.statements ++ units_bytes units) bytes
  inside_among =
      among_all (concurrents_bytes a.statements ++ units_bytes units) bytes
      (All-append (Contains bytes) (concurrents_bytes a.statements) (units_bytes units)
      (all_right (Contains bytes) declared-list (concurrents_bytes a.statements) architecture-stands) (all_among (units_bytes units) bytes whole))

-- ---- an instance whose objects are declared

module _ (units : Units) (at : ℕ) (os : List Object) where
  abbrev objects-list : List ℕ
  objects-list = map (λ (o : Object). o.at) os

  abbrev pub instance_list : List ℕ
  instance_list = at ∷ (objects-list ++ units_bytes units)

  pub units_among : Among (units_bytes units) instance_list
  units_among b c = among_right (at ∷ []) (objects-list ++ units_bytes units) b (among_right objects-list (units_bytes units) b c)

  pub instance_starts : Contains instance_list at
  instance_starts = first_among at (objects-list ++ units_bytes units)

  pub instance_among : (bytes : List ℕ) → Contains bytes at → All (λ (o : Object). Contains bytes o.at) os → Among (units_bytes units) bytes → Among instance_list bytes
  instance_among bytes h k whole =
      among_all instance_list bytes
      (All-cons (Contains bytes) at (objects-list ++ units_bytes units) h
      (All-append (Contains bytes) objects-list (units_bytes units) (All-map (Contains bytes) (λ (o : Object). o.at) os k) (all_among (units_bytes units) bytes whole)))

unmapped : (P : ℕ → Type 0) (os : List Object) → All P (map (λ (o : Object). o.at) os) → All (λ (o : Object). P o.at) os
unmapped P [] h = All-nil (λ (o : Object). P o.at)
unmapped P (o ∷ os) h =
    All-cons (λ (x : Object). P x.at) o os (All-head P o.at (map (λ (x : Object). x.at) os) h) (unmapped P os (All-tail P o.at (map (λ (x : Object). x.at) os) h))

pub objects_there : (units : Units) (at : ℕ) (os : List Object) → All (λ (o : Object). Contains (instance_list units at os) o.at) os
objects_there units at os =
    let list : List ℕ = map (λ (o : Object). o.at) os in
    unmapped (Contains (instance_list units at os)) os
    (all_among list (instance_list units at os) (λ b c. among_right (at ∷ []) (list ++ units_bytes units) b (among_left list (units_bytes units) b c)))

-- ---- an instance in an instance

pub interface_places : (bytes : List ℕ) (above : Site) (actuals : List (Option Fixed)) (unit : Entity) → Places bytes (interface above actuals unit)
interface_places bytes above actuals unit =
    tells_places bytes _
    (interface_tells (IsPlaced bytes) above actuals unit (each_anywhere bytes (if_any_bytes fixed_bytes) actuals) (entity_stands (At (IsPlaced bytes)) unit (all_anywhere bytes (entity_bytes unit))))

pub associated_places : (bytes : List ℕ) (above : Site) (at : ℕ) (ps : List Port) (actuals : List (Option SignalPart)) (d : InstanceObjects) → Places bytes (associated above at ps actuals d)
associated_places bytes above at ps actuals d =
    tells_places bytes _
    (tells_then (IsPlaced bytes) (associations above at ps actuals d.objects) _
    (associations_tell (IsPlaced bytes) above at ps actuals d.objects (anywhere bytes at) (each_anywhere bytes (if_any_bytes place_bytes) actuals))
    (λ os. tells_none (IsPlaced bytes) _))

module _ (units : Units) (here : Site) (x : u.Instance) (unit : Entity) (found : slice_get units x.unit ≡ Some unit) where
  abbrev pub written_list : List ℕ
  written_list = instance_bytes x ++ units_bytes units

  units-behind : Among (units_bytes units) written_list
  units-behind = among_right (instance_bytes x) (units_bytes units)

  label-there : Contains written_list x.at
  label-there =
      let maps : List ℕ = flat_map (if_any_bytes fixed_bytes) x.generics ++ flat_map (if_any_bytes place_bytes) x.ports in
      among_left (instance_bytes x) (units_bytes units) x.at (first_among x.at maps)

  stands : EntityStands (Contains written_list) unit
  stands = unit_stands units unit written_list (x.unit, found) units-behind

  pub joined_among : (d e : InstanceObjects) → interface here x.generics unit ≡ Ok d → associated here x.at unit.ports x.ports d ≡ Ok e → Among (instance_list units x.at e.objects) written_list
  joined_among d e known joined =
      let os = bound (associations here x.at unit.ports x.ports d.objects) _ e joined in
      let all : All (λ (o : Object). Contains written_list o.at) os.x =
      associations_stand (Contains written_list) here x.at unit.ports x.ports d.objects os.x (interface_stands (Contains written_list) here x.generics unit d stands known) os.gave in
      instance_among units x.at e.objects written_list label-there
      (subst (λ (y : InstanceObjects). All (λ (o : Object). Contains written_list o.at) y.objects) (ok (record d { objects = os.x }) e os.then_gave) all) units-behind

-- ---- the top

module _ (units : Units) (top : Top) (unit : Entity) (among : IsAmong units unit) where
  top-stands : EntityStands (Contains (units_bytes units)) unit
  top-stands = unit_stands units unit (units_bytes units) among (λ at c. c)

  pub top_places : Places (units_bytes units) (top_interface top unit)
  top_places =
      tells_places (units_bytes units) _
      (top_interface_tells (IsPlaced (units_bytes units)) top unit (entity_stands (At (IsPlaced (units_bytes units))) unit (all_anywhere (units_bytes units) (entity_bytes unit))))

  pub top_among : (d : InstanceObjects) → top_interface top unit ≡ Ok d → Among (instance_list units unit.at d.objects) (units_bytes units)
  top_among d known =
      instance_among units unit.at d.objects (units_bytes units) top-stands.at
      (interface_stands (Contains (units_bytes units)) no_site (actuals_of top.generics unit.generics) unit d top-stands (interface_made top unit d known)) (λ at c. c)
