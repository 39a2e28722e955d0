-- Where the expansion of an instance stops, what it tells may be told of the whole.
use Rattle.std.proofs.Common.{◌≡◌, ℕ, suc, List, ◌++◌, map, Some, None, option_map, Ok, Err, sym, ap, ◌∙◌, ◌<◌, length, get_or}
use Rattle.std.specs.Prelude.{slice_get}
use Rattle.std.proofs.lemmas.Option.{slice_get-map}
use Rattle.vhdl_names_rules.specs.units.Units as u
use Rattle.vhdl_names_rules.specs.units.Units.{Units, Entity, Architecture}
use Rattle.vhdl_names_rules.specs.units.Bytes.{instance_bytes, concurrents_bytes, units_bytes}
use Rattle.vhdl_names_units.specs.declared.concurrent.Concurrent.{Concurrent}
use Rattle.vhdl_names_units.specs.declared.unit.Entity as analysed
use Rattle.vhdl_names_units.specs.views.Concurrent.{concurrent_view, concurrents_of}
use Rattle.vhdl_names_units.specs.views.Units.{entity_view}
use Rattle.vhdl_expand_rules.specs.declared.fault.ElabFault.{ElabFault}
use Rattle.vhdl_expand_rules.specs.declared.fault.ElabFault.TheVariants.{At}
use Rattle.vhdl_expand_rules.specs.declared.fault.ElabProblem.TheVariants.{NoTop, TooDeep, TooMany}
use Rattle.vhdl_expand_rules.specs.Elab.{Elab, Told, MayTell, fault_told}
use Rattle.vhdl_expand_rules.specs.Tree as t
use Rattle.vhdl_expand_rules.specs.Tree.{Instance}
use Rattle.vhdl_expand_rules.specs.Declarations.{InstanceObjects, interface, declarations}
use Rattle.vhdl_expand_rules.specs.Expansion.{Spot, instance_of}
use Rattle.vhdl_elab_rules.specs.Limits.{Counts}
use Rattle.vhdl_elab_rules.specs.Numbering.{own_sizes}
use Rattle.vhdl_expand_operands.proofs.Several.{there}
use Rattle.vhdl_expand_tree.specs.declared.tree.Object.{Object}
use Rattle.vhdl_expand_tree.specs.Costs.{an_instance, nets, spent, charged, instance_costs}
use Rattle.vhdl_expand_tree.specs.Views.{object_view}
use Rattle.vhdl_expand_tree.proofs.Alike.{tells, tells_same, tells_among}
use Rattle.vhdl_expand_declarations.specs.declared.declared.InstanceObjects as code
use Rattle.vhdl_expand_declarations.specs.Associations.{associated}
use Rattle.vhdl_expand.specs.Making as made
use Rattle.vhdl_expand.specs.Making.{Progress, adding, nothing_yet}
use Rattle.vhdl_expand_declarations.specs.Views.{declared_view}
use Rattle.vhdl_expand.specs.Walks.{IsAmong}
use Rattle.vhdl_expand.proofs.Among.{same_among, then_among}
use Rattle.vhdl_expand.proofs.Nested.{outermost, too_deep, no_architecture, no_instance_left, no_declarations, no_nets_left, not_inside, not_expanded, no_interface, no_associations, instance_here, instance_refused}
use Rattle.vhdl_expand.proofs.OwnNets.{seen_among}
use Rattle.vhdl_expand.proofs.Spending.{told_where}
use Rattle.vhdl_expand.proofs.Standing.{instance_list, instance_starts, units_among, objects_there, declarations_place, nets_among, inside_among, interface_places, associated_places, joined_among}
use Rattle.vhdl_expand.proofs.Told.{other_told, no_top_other, too_deep_other}

-- ---- in its body

module _ (units : Units) (levels at : ℕ) (unit : Entity) (d : InstanceObjects) (before : Counts) where
  abbrev whole : Elab (Instance × Counts)
  whole = charged before instance_costs (instance_of units levels at unit d)

  abbrev bytes : List ℕ
  bytes = instance_list units at d.objects

  pub deep_told : levels ≡ 0 → MayTell bytes whole (TooDeep, at)
  deep_told zero = tells_same (ap (λ m. charged before instance_costs (instance_of units m at unit d)) zero) (other_told TooDeep at too_deep_other (too_deep units at unit d before))

  module _ (n : ℕ) (level : levels ≡ suc n) where
    leveled : {told : Told} → MayTell bytes (charged before instance_costs (instance_of units (suc n) at unit d)) told → MayTell bytes whole told
    leveled h = tells_same (ap (λ m. charged before instance_costs (instance_of units m at unit d)) level) h

    pub bare_told : unit.architecture ≡ None → MayTell bytes whole (NoTop, at)
    bare_told none = leveled (other_told NoTop at no_top_other (no_architecture units n at unit d before none))

    pub many_told : (fault : ElabFault) → spent at before an_instance ≡ Err (fault_told fault) → fault ≡ At TooMany at → MayTell bytes whole (fault_told fault)
    many_told fault h e = leveled (no_instance_left units n at unit d before h (told_where bytes at fault e (instance_starts units at d.objects)))

    module _ (among : IsAmong units unit) (a : Architecture) (found : unit.architecture ≡ Some a) where
      pub declared_told : {told : Told} → declarations d a.declarations ≡ Err told → MayTell bytes whole told
      declared_told {told} h =
          leveled (tells ((declarations_place bytes a.declarations d).placed told h) (no_declarations units n at unit d before a found h))

      module _ (e : code.InstanceObjects) (known : declarations d a.declarations ≡ Ok (declared_view e)) (first : Counts) (started : spent at before an_instance ≡ Ok first) where
        pub nets_told : {told : Told} → (os : List Object) → os ≡ e.objects.items → MayTell (map (λ (o : Object). o.at) os) (spent 0 first (nets (own_sizes (map object_view os)))) told → MayTell bytes whole told
        nets_told os same h =
            let all : List ℕ = map (λ (o : t.Object). o.at) (declared_view e).objects in
            leveled (no_nets_left units n at unit d before a (declared_view e) found known first started
            (tells_among (then_among (map (λ (o : Object). o.at) os) all bytes (seen_among os e.objects.items same)
            (nets_among units unit bytes among (units_among units at d.objects) a found d (declared_view e) (objects_there units at d.objects) known))
            (tells_same (ap (λ xs. spent 0 first (nets (own_sizes (map object_view xs)))) (sym same)) h)))

        pub inside_told : {told : Told} → (rest : Counts) → spent 0 first (nets (own_sizes (declared_view e).objects)) ≡ Ok rest → (xs : List Concurrent) → concurrents_of (map concurrent_view xs) ≡ a.statements
            → MayTell (concurrents_bytes (concurrents_of (map concurrent_view xs)) ++ units_bytes units)
            (adding (nothing_yet rest) (made.concurrents units n (outermost (declared_view e)) (concurrents_of (map concurrent_view xs)))) told
            → MayTell bytes whole told
        inside_told rest left xs same h =
            let within : u.Concurrents → List ℕ = λ ys. concurrents_bytes ys ++ units_bytes units in
            leveled (not_inside units n at unit d before a (declared_view e) found known first rest started left
            (tells_among (then_among (within (concurrents_of (map concurrent_view xs))) (within a.statements) bytes (same_among within _ _ same) (inside_among units unit bytes among (units_among units at d.objects) a found))
            (tells_same (ap (λ ys. adding (nothing_yet rest) (made.concurrents units n (outermost (declared_view e)) ys)) (sym same)) h)))

-- ---- in an instance

-- the unit of an instance, as it is looked up
pub unit_found : (es : List analysed.Entity) (n : ℕ) (unit : analysed.Entity) → n < length es → unit ≡ get_or es n unit → slice_get (map entity_view es) n ≡ Some (entity_view unit)
unit_found es n unit below is = slice_get-map entity_view es n ∙ ap (option_map entity_view) (there es n unit below is)

module _ (units : Units) (levels : ℕ) (at : Spot) (x : u.Instance) (so_far : Progress) (unit : Entity) (found : slice_get units x.unit ≡ Some unit) where
  abbrev written : Elab Progress
  written = adding so_far (made.instance units levels at x)

  abbrev written-bytes : List ℕ
  written-bytes = instance_bytes x ++ units_bytes units

  pub interface_told : {told : Told} → interface at.site x.generics unit ≡ Err told → MayTell written-bytes written told
  interface_told {told} h =
      tells ((interface_places written-bytes at.site x.generics unit).placed told h) (not_expanded (at.prefix ++ x.label) so_far _ (no_interface units levels at x unit found h))

  module _ (d : InstanceObjects) (known : interface at.site x.generics unit ≡ Ok d) where
    pub associated_told : {told : Told} → associated at.site x.at unit.ports x.ports d ≡ Err told → MayTell written-bytes written told
    associated_told {told} h =
        tells ((associated_places written-bytes at.site x.at unit.ports x.ports d).placed told h) (not_expanded (at.prefix ++ x.label) so_far _ (no_associations units levels at x unit d found known h))

    pub inner_told : {told : Told} → (f : InstanceObjects) → associated at.site x.at unit.ports x.ports d ≡ Ok f
        → MayTell (instance_list units x.at f.objects) (charged so_far.left instance_costs (instance_of units levels x.at unit f)) told → MayTell written-bytes written told
    inner_told f joined h =
        instance_refused (at.prefix ++ x.label) so_far _
        (tells_same (ap (λ r. charged so_far.left instance_costs r) (instance_here units levels at x unit d f found known joined)) (tells_among (joined_among units at.site x unit found d f known joined) h))
