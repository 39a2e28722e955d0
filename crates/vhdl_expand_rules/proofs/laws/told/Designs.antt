-- What is refused of processes, instances and whole designs is told at one of their bytes, or at 0.
use Rattle.std.proofs.Common.{ℕ, zero, suc, Bool, true, false, cond, List, [], ◌∷◌, ◌++◌, map, Option, Ok, All, subst}
use Rattle.std.specs.Prelude.{slice_get, flat_map, bytes_eq, Contains}
use Rattle.std.specs.Char.{to_ascii_lowercase}
use Rattle.std.proofs.lemmas.List.Elements.{All-head, All-tail, All-weaker, All-contains_itself}
use Rattle.vhdl_names_rules.specs.units.Statements.{Statements}
use Rattle.vhdl_names_rules.specs.units.Units as u
use Rattle.vhdl_names_rules.specs.units.Units.{Units, Entity, Architecture}
use Rattle.vhdl_names_rules.specs.units.Bytes.{if_any_bytes, fixed_bytes, range_bytes, static_test_bytes, place_bytes, statements_bytes, declaration_bytes, sensitivity_bytes, process_bytes, instance_bytes, concurrent_bytes, concurrents_bytes, architecture_bytes, entity_bytes, units_bytes}
use Rattle.vhdl_expand_rules.specs.declared.fault.ElabProblem.TheVariants.{NoTop, TooDeep, TooMany}
use Rattle.vhdl_expand_rules.specs.Elab.{Told, Elab, item_or, each}
use Rattle.vhdl_expand_rules.specs.Integers.{decision, turns}
use Rattle.vhdl_expand_rules.specs.Site.{Site}
use Rattle.vhdl_expand_rules.specs.Tops.{Top, top_interface}
use Rattle.vhdl_expand_rules.specs.Tree.{Instance, no_parts}
use Rattle.vhdl_expand_rules.specs.Statements.{statements, statements_turns}
use Rattle.vhdl_expand_rules.specs.declared.prefix.Sought.TheVariants.{Read, Assigned}
use Rattle.vhdl_expand_rules.specs.Prefixes.{targets, names, names_elements, prefixes_elements}
use Rattle.vhdl_expand_rules.specs.Declarations.{InstanceObjects, interface, declarations, no_variables, process_declarations, associations}
use Rattle.vhdl_expand_rules.specs.Expansion.{Spot, in_turn, in_branch, sensitivity, process, instance, concurrent, concurrents, concurrent_turns, concurrents_turns, instance_of, entity_named, expanded_design}
use Rattle.vhdl_expand_rules.specs.laws.Bytes.{EachBodyIsToldAtItsBytes, EachProcessIsToldAtItsBytes, EachDesignIsToldAtBytesOfUnits}
use Rattle.vhdl_expand_rules.proofs.Tells.{Tells, At, tells_none, tells_refused, tells_then, tells_with, tells_item, tells_all, all_flat}
use Rattle.vhdl_expand_rules.proofs.laws.Names.{was_found}
use Rattle.vhdl_expand_rules.proofs.Items.{all_get, all_found}
use Rattle.vhdl_expand_rules.proofs.laws.Targets.{all_left, all_right}
use Rattle.vhdl_expand_rules.proofs.laws.told.Static.{turns_tells, decision_tells}
use Rattle.vhdl_expand_rules.proofs.laws.told.Statements.{statements_tells, turns_of_statements_tells}
use Rattle.vhdl_expand_rules.proofs.laws.told.Names.{names_stand, names_tell, prefixes_tell}
use Rattle.vhdl_expand_rules.proofs.laws.told.Declarations.{MayStand, EntityStands, entity_stands, interface_tells, top_interface_tells, declarations_tell, process_declarations_tell, associations_tell}

module _ (P : Told → Type 0) (many : (at : ℕ) → At P at → P (TooMany, at)) where
  chosen-tells : {A : Type 0} (test : Bool) (r : Elab A) (x : A) → Tells P r → Tells P (cond test r (Ok x))
  chosen-tells {A} true r x h = h
  chosen-tells {A} false r x h = tells_none P x

  -- ---- processes

  sensitivity-tells : At P 0 → (here : Site) (on : u.Sensitivity) (body : Statements) → All (At P) (sensitivity_bytes on) → All (At P) (statements_bytes body) → Tells P (sensitivity here on body)
  unfolding sensitivity
  sensitivity-tells nought here (u.listed ps) body h k = tells_then P (names_elements here ps) _ (names_tell P here ps (all_flat (At P) place_bytes ps h)) (λ es. tells_none P _)
  sensitivity-tells nought here u.every body h k = tells_then P (prefixes_elements here (names body)) _ (prefixes_tell P here (names body) (names_stand P nought Read body k)) (λ es. tells_none P _)
  sensitivity-tells nought here u.as_read body h k = tells_none P _

  process-tells : At P 0 → (here : Spot) (p : u.Process) → All (At P) (process_bytes p) → Tells P (process here p)
  unfolding process
  process-tells nought here p k =
      let vs : List ℕ = flat_map declaration_bytes p.declarations in
      let on : List ℕ = sensitivity_bytes p.sensitivity in
      let rest : All (At P) (vs ++ (on ++ statements_bytes p.body)) = All-tail (At P) p.at (vs ++ (on ++ statements_bytes p.body)) k in
      let more : All (At P) (on ++ statements_bytes p.body) = all_right (At P) vs (on ++ statements_bytes p.body) rest in
      let body : All (At P) (statements_bytes p.body) = all_right (At P) on (statements_bytes p.body) more in
      tells_then P (process_declarations (no_variables here.site) p.declarations) _
      (process_declarations_tell P p.declarations (no_variables here.site) (all_flat (At P) declaration_bytes p.declarations (all_left (At P) vs (on ++ statements_bytes p.body) rest))) (λ d.
      tells_then P (prefixes_elements d.site (targets p.body)) _ (prefixes_tell P d.site (targets p.body) (names_stand P nought Assigned p.body body)) (λ ds.
      tells_then P (sensitivity d.site p.sensitivity p.body) _ (sensitivity-tells nought d.site p.sensitivity p.body (all_left (At P) on (statements_bytes p.body) more) body) (λ es.
      tells_then P (statements_turns d.site p.body) _ (turns_of_statements_tells P many p.body d.site body) (λ n.
      tells_then P (statements d.site p.body) _ (statements_tells P many p.body d.site body) (λ b. tells_none P _)))))

  -- ---- concurrent statements

  module _ (nought : At P 0) (units : Units) (stand : All (λ unit. All (At P) (entity_bytes unit)) units) (go : ℕ → Entity → InstanceObjects → Elab Instance)
      (go-tells : (at : ℕ) (unit : Entity) (d : InstanceObjects) → At P at → EntityStands (At P) unit → Tells P (go at unit d)) where
    instance-tells : (here : Spot) (x : u.Instance) → All (At P) (instance_bytes x) → Tells P (instance units go here x)
    unfolding instance
    instance-tells here x k =
        let gs : List ℕ = flat_map (if_any_bytes fixed_bytes) x.generics in
        let ps : List ℕ = flat_map (if_any_bytes place_bytes) x.ports in
        let own : At P x.at = All-head (At P) x.at (gs ++ ps) k in
        let rest : All (At P) (gs ++ ps) = All-tail (At P) x.at (gs ++ ps) k in
        tells_with P (item_or NoTop x.at (slice_get units x.unit)) _ (tells_item P NoTop tt x.at (slice_get units x.unit) own) (λ unit is.
        let there : EntityStands (At P) unit = entity_stands (At P) unit (all_get (λ y. All (At P) (entity_bytes y)) units x.unit unit stand (was_found NoTop x.at (slice_get units x.unit) unit is)) in
        tells_then P (interface here.site x.generics unit) _ (interface_tells P here.site x.generics unit (all_flat (At P) (if_any_bytes fixed_bytes) x.generics (all_left (At P) gs ps rest)) there) (λ d.
        tells_then P (associations here.site x.at unit.ports x.ports d.objects) _ (associations_tell P here.site x.at unit.ports x.ports d.objects own (all_flat (At P) (if_any_bytes place_bytes) x.ports (all_right (At P) gs ps rest))) (λ os.
        go-tells x.at unit (record d { objects = os }) own there)))

    mutual
      unfolding concurrent

      concurrent-tells : (x : u.Concurrent) (here : Spot) → All (At P) (concurrent_bytes x) → Tells P (concurrent units go here x)
      concurrent-tells (u.process p) here k = tells_then P (process here p) _ (process-tells nought here p k) (λ q. tells_none P _)
      concurrent-tells (u.instance x) here k = tells_then P (instance units go here x) _ (instance-tells here x k) (λ i. tells_none P _)
      concurrent-tells (u.generate_for at label r body) here k =
          let own : At P at = All-head (At P) at (range_bytes r ++ concurrents_bytes body) k in
          let rest : All (At P) (range_bytes r ++ concurrents_bytes body) = All-tail (At P) at (range_bytes r ++ concurrents_bytes body) k in
          tells_then P (turns here.site.integers at r) _ (turns_tells P here.site.integers at r (many at own) own (all_left (At P) (range_bytes r) (concurrents_bytes body) rest)) (λ is.
          tells_then P (each (λ i. concurrents units go (in_turn here label i) body) is) _
          (tells_all P (λ i. concurrents units go (in_turn here label i) body) is (λ i. concurrents-tell body (in_turn here label i) (all_right (At P) (range_bytes r) (concurrents_bytes body) rest))) (λ ps.
          tells_none P _))
      concurrent-tells (u.generate_if at label t body) here k =
          let rest : All (At P) (static_test_bytes t ++ concurrents_bytes body) = All-tail (At P) at (static_test_bytes t ++ concurrents_bytes body) k in
          tells_then P (decision here.site.integers t) _ (decision_tells P here.site.integers t (all_left (At P) (static_test_bytes t) (concurrents_bytes body) rest)) (λ holds.
          chosen-tells holds (concurrents units go (in_branch here label) body) no_parts (concurrents-tell body (in_branch here label) (all_right (At P) (static_test_bytes t) (concurrents_bytes body) rest)))

      concurrents-tell : (xs : u.Concurrents) (here : Spot) → All (At P) (concurrents_bytes xs) → Tells P (concurrents units go here xs)
      concurrents-tell u.no_concurrents here k = tells_none P _
      concurrents-tell (u.concurrent x rest) here k =
          tells_then P (concurrent units go here x) _ (concurrent-tells x here (all_left (At P) (concurrent_bytes x) (concurrents_bytes rest) k)) (λ ps.
          tells_then P (concurrents units go here rest) _ (concurrents-tell rest here (all_right (At P) (concurrent_bytes x) (concurrents_bytes rest) k)) (λ qs. tells_none P _))

  mutual
    unfolding concurrent_turns

    concurrent-turns : (x : u.Concurrent) (here : Spot) → All (At P) (concurrent_bytes x) → Tells P (concurrent_turns here x)
    concurrent-turns (u.generate_for at label r body) here k =
        let own : At P at = All-head (At P) at (range_bytes r ++ concurrents_bytes body) k in
        let rest : All (At P) (range_bytes r ++ concurrents_bytes body) = All-tail (At P) at (range_bytes r ++ concurrents_bytes body) k in
        tells_then P (turns here.site.integers at r) _ (turns_tells P here.site.integers at r (many at own) own (all_left (At P) (range_bytes r) (concurrents_bytes body) rest)) (λ is.
        tells_then P (each (λ i. concurrents_turns (in_turn here label i) body) is) _
        (tells_all P (λ i. concurrents_turns (in_turn here label i) body) is (λ i. concurrents-turns body (in_turn here label i) (all_right (At P) (range_bytes r) (concurrents_bytes body) rest))) (λ ns.
        tells_none P _))
    concurrent-turns (u.generate_if at label t body) here k =
        let rest : All (At P) (static_test_bytes t ++ concurrents_bytes body) = All-tail (At P) at (static_test_bytes t ++ concurrents_bytes body) k in
        tells_then P (decision here.site.integers t) _ (decision_tells P here.site.integers t (all_left (At P) (static_test_bytes t) (concurrents_bytes body) rest)) (λ holds.
        chosen-tells holds (concurrents_turns (in_branch here label) body) 0 (concurrents-turns body (in_branch here label) (all_right (At P) (static_test_bytes t) (concurrents_bytes body) rest)))
    concurrent-turns _ here k = tells_none P _

    concurrents-turns : (xs : u.Concurrents) (here : Spot) → All (At P) (concurrents_bytes xs) → Tells P (concurrents_turns here xs)
    concurrents-turns u.no_concurrents here k = tells_none P _
    concurrents-turns (u.concurrent x rest) here k =
        tells_then P (concurrent_turns here x) _ (concurrent-turns x here (all_left (At P) (concurrent_bytes x) (concurrents_bytes rest) k)) (λ m.
        tells_then P (concurrents_turns here rest) _ (concurrents-turns rest here (all_right (At P) (concurrent_bytes x) (concurrents_bytes rest) k)) (λ n. tells_none P _))

  -- ---- instances and the top

  instance_of-tells : At P 0 → (units : Units) (levels : ℕ) → All (λ unit. All (At P) (entity_bytes unit)) units → (at : ℕ) (unit : Entity) (d : InstanceObjects) → At P at → EntityStands (At P) unit → Tells P (instance_of units levels at unit d)
  unfolding instance_of
  instance_of-tells nought units zero stand at unit d h k = tells_refused P TooDeep tt at h
  instance_of-tells nought units (suc n) stand at unit d h k =
      tells_with P (item_or NoTop at unit.architecture) _ (tells_item P NoTop tt at unit.architecture h) (λ a is.
      let ds : List ℕ = flat_map declaration_bytes a.declarations in
      let whole : All (At P) (ds ++ concurrents_bytes a.statements) = subst (λ (o : Option Architecture). MayStand (At P) architecture_bytes o) (was_found NoTop at unit.architecture a is) k.architecture in
      let body : All (At P) (concurrents_bytes a.statements) = all_right (At P) ds (concurrents_bytes a.statements) whole in
      tells_then P (declarations d a.declarations) _ (declarations_tell P a.declarations d (all_flat (At P) declaration_bytes a.declarations (all_left (At P) ds (concurrents_bytes a.statements) whole))) (λ e.
      tells_then P (concurrents units (instance_of units n) (record { site = e.site; prefix = [] }) a.statements) _
      (concurrents-tell nought units stand (instance_of units n) (instance_of-tells nought units n stand) a.statements (record { site = e.site; prefix = [] }) body) (λ parts.
      tells_then P (concurrents_turns (record { site = e.site; prefix = [] }) a.statements) _ (concurrents-turns a.statements (record { site = e.site; prefix = [] }) body) (λ ts.
      tells_none P _))))

  design-tells : At P 0 → (units : Units) (top : Top) → All (At P) (units_bytes units) → Tells P (expanded_design units top)
  unfolding expanded_design
  design-tells nought units top k =
      let stand : All (λ unit. All (At P) (entity_bytes unit)) units = all_flat (At P) entity_bytes units k in
      tells_with P (item_or NoTop 0 (entity_named units top.name)) _ (tells_item P NoTop tt 0 (entity_named units top.name) nought) (λ unit is.
      let there : EntityStands (At P) unit =
      entity_stands (At P) unit (all_found (λ y. All (At P) (entity_bytes y)) (λ (x : Entity). bytes_eq x.name (map to_ascii_lowercase top.name)) units unit stand (was_found NoTop 0 (entity_named units top.name) unit is)) in
      tells_then P (top_interface top unit) _ (top_interface_tells P top unit there) (λ d.
      tells_then P (instance_of units 32 unit.at unit d) _ (instance_of-tells nought units 32 stand unit.at unit d there.at there) (λ i. tells_none P _)))

-- ---- the laws

-- told at one of these bytes
abbrev IsAt : List ℕ → Told → Type 0
IsAt bytes told = Contains bytes told.1

nought_in : (bytes : List ℕ) → At (IsAt (0 ∷ bytes)) 0
nought_in bytes = λ problem own. All-head (Contains (0 ∷ bytes)) 0 bytes (All-contains_itself (0 ∷ bytes))

bytes_in : (bytes : List ℕ) → All (At (IsAt (0 ∷ bytes))) bytes
bytes_in bytes =
    All-weaker (Contains (0 ∷ bytes)) (At (IsAt (0 ∷ bytes))) (λ at h problem own. h) bytes (All-tail (Contains (0 ∷ bytes)) 0 bytes (All-contains_itself (0 ∷ bytes)))

many_in : (bytes : List ℕ) (at : ℕ) → At (IsAt bytes) at → IsAt bytes (TooMany, at)
many_in bytes at h = h TooDeep tt

pub bodies_are_told : EachBodyIsToldAtItsBytes
bodies_are_told here body told e =
    let bytes : List ℕ = statements_bytes body in
    (statements_tells (IsAt (0 ∷ bytes)) (many_in (0 ∷ bytes)) body here (bytes_in bytes)).told_at told e

pub processes_are_told : EachProcessIsToldAtItsBytes
processes_are_told here p told e =
    let bytes : List ℕ = process_bytes p in
    (process-tells (IsAt (0 ∷ bytes)) (many_in (0 ∷ bytes)) (nought_in bytes) here p (bytes_in bytes)).told_at told e

pub designs_are_told : EachDesignIsToldAtBytesOfUnits
designs_are_told units top told e =
    let bytes : List ℕ = units_bytes units in
    (design-tells (IsAt (0 ∷ bytes)) (many_in (0 ∷ bytes)) (nought_in bytes) units top (bytes_in bytes)).told_at told e
