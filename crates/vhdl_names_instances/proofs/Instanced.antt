-- What is told of an instance, over the table of entities.
use Rattle.std.proofs.Common.{◌≡◌, ℕ, List, map, Option, Some, None, Result, Ok, Err, IfErr, refl, ap, sym, ◌∙◌}
use Rattle.std.specs.Prelude.{bytes_eq, option_map, slice_get, codes}
use Rattle.std.specs.List.{position_from}
use Rattle.std.proofs.lemmas.Option.{slice_get-map}
use Rattle.vhdl_tree.specs.Tree as t
use Rattle.vhdl_tree.specs.Tree.{Ident}
use Rattle.vhdl_names_rules.specs.declared.fault.NameFault.{NameFault}
use Rattle.vhdl_names_rules.specs.declared.fault.NameProblem.TheVariants.{Undeclared}
use Rattle.vhdl_names_rules.specs.Rules.{◌>>=◌}
use Rattle.vhdl_names_rules.specs.Visibility.{Name, Sight}
use Rattle.vhdl_names_rules.specs.Instances as rules
use Rattle.vhdl_names_rules.specs.Interfaces.{EntityView}
use Rattle.vhdl_names_rules.proofs.laws.Rules.{some_is}
use Rattle.vhdl_names_units.specs.Once.{names_view}
use Rattle.vhdl_names_rules.specs.problems.Broken.{Broken, Tells, ◌▸◌, refused, unless, lacking, where_given, of_any}
use Rattle.vhdl_names_rules.specs.problems.Instances as broken
use Rattle.vhdl_names_rules.proofs.Telling.{lacking_kept, told_same, told_left, told_right, told_given, told_lacking}
use Rattle.vhdl_names_rules.proofs.kept.Instances.{instantiated_kept}
use Rattle.vhdl_names_instances.specs.declared.instances.InstanceEntities.{InstanceEntities}
use Rattle.vhdl_names_instances.specs.Table.{Seen, seen, seen_view, AreEntities}
use Rattle.vhdl_names_instances.specs.Breaking as breaking
use Rattle.vhdl_names_instances.specs.steps.Instances as steps
use Rattle.vhdl_names_instances.proofs.Instancing.{beside, found, instantiated_by}
use Rattle.vhdl_names_instances.proofs.Told.{told_along}

-- ---- an entity that is seen

pub record Shown (es : List EntityView) (k : ℕ) (s : Seen) : Type 0 where
  pub entity : EntityView
  pub at : slice_get es k ≡ Some entity
  pub is : s ≡ seen entity

shown : (es : List EntityView) (k : ℕ) (s : Seen) → slice_get (map seen es) k ≡ Some s → Shown es k s
shown es k s h = go (slice_get es k) refl (sym (slice_get-map seen es k) ∙ h)
  where
    go : (o : Option EntityView) → slice_get es k ≡ o → option_map seen o ≡ Some s → Shown es k s
    go None e h = cc
    go (Some x) e h = record { entity = x; at = e; is = sym (some_is (seen x) s h) }

unseen : (es : List EntityView) (k : ℕ) → slice_get (map seen es) k ≡ None → slice_get es k ≡ None
unseen es k h = go (slice_get es k) (sym (slice_get-map seen es k) ∙ h)
  where
    go : (o : Option EntityView) → option_map seen o ≡ None → o ≡ None
    go None h = refl
    go (Some x) h = cc

-- ---- which entity

module _ (es : List EntityView) where
  abbrev names : List Name
  names = map (λ (e : EntityView). e.name) es

  abbrev by_place : ℕ → Option Ident → Option ℕ → Broken
  by_place at a o = lacking Undeclared at o ▸ where_given o (breaking.with_architecture (map seen es) a at)

  abbrev by_name : ℕ → Option Ident → Option (ℕ × EntityView) → Broken
  by_name at a o = lacking Undeclared at o ▸ where_given o (λ e. broken.architecture a e.1.architecture)

  place_is : (at : ℕ) (a : Option Ident) (o : Option ℕ) → by_place at a o ≡ by_name at a (o >>= λ j. slice_get es j >>= beside j)
  unfolding ◌▸◌
  place_is at a None = refl
  place_is at a (Some j) = go (slice_get es j) (slice_get (map seen es) j) (slice_get-map seen es j)
    where
      go : (o : Option EntityView) (q : Option Seen) → q ≡ option_map seen o
          → (lacking Undeclared at q ▸ where_given q (λ (e : Seen). broken.architecture a e.architecture)) ≡ by_name at a (o >>= beside j)
      go None q h = ap (λ q. lacking Undeclared at q ▸ where_given q (λ (e : Seen). broken.architecture a e.architecture)) h
      go (Some e) q h = ap (λ q. lacking Undeclared at q ▸ where_given q (λ (e : Seen). broken.architecture a e.architecture)) h

  entity_is : (library n : Ident) (a : Option Ident) (sight : Sight)
      → breaking.entity_of names (map seen es) library n a ≡ broken.instantiated es sight (t.entity_unit library n a)
  entity_is library n a sight =
      ap (λ b. unless Undeclared library.at (bytes_eq library.text (codes "work")) ▸ b)
      (place_is n.at a (position_from (bytes_eq n.text) 0 names) ∙ ap (by_name n.at a) (sym (found es n.text)))

-- ---- the same over the table

module _ (table : InstanceEntities) (es : List EntityView) (are : AreEntities table es) (sight : Sight) where
  pub entity_of_told : (f : NameFault) (library n : Ident) (a : Option Ident) → Tells (breaking.entity_of (names_view table.names) (map seen_view table.formals.items) library n a) f
      → Tells (broken.instantiated es sight (t.entity_unit library n a)) f
  entity_of_told f library n a w =
      told_same (breaking.entity_of (names_view table.names) (map seen_view table.formals.items) library n a) (broken.instantiated es sight (t.entity_unit library n a)) f
      (ap (λ ns. breaking.entity_of ns (map seen_view table.formals.items) library n a) are.names
      ∙ ap (λ ss. breaking.entity_of (map (λ (e : EntityView). e.name) es) ss library n a) are.formals ∙ entity_is es library n a sight) w

  module _ (label : Ident) (i : t.Instance) (f : NameFault) where
    abbrev behind : ℕ → Broken
    behind k = lacking Undeclared label.at (slice_get es k) ▸ of_any (λ e. broken.maps sight e i) (slice_get es k)

    pub unit_told : Tells (broken.instantiated es sight i.unit) f → Tells (broken.instance es sight label i) f
    unit_told w = told_left (broken.instantiated es sight i.unit) (where_given (rules.instantiated es sight i.unit) behind) f w

    unit_is : (k : ℕ) → steps.instantiated (names_view table.names) (map seen_view table.formals.items) sight i.unit ≡ Some k → rules.instantiated es sight i.unit ≡ Some k
    unit_is k h =
        instantiated_by es sight i.unit ∙ ap (λ ns. steps.instantiated ns (map seen es) sight i.unit) (sym are.names)
        ∙ ap (λ ss. steps.instantiated (names_view table.names) ss sight i.unit) (sym are.formals) ∙ h

    of_unit : (k : ℕ) → steps.instantiated (names_view table.names) (map seen_view table.formals.items) sight i.unit ≡ Some k → Tells (behind k) f
        → Tells (broken.instance es sight label i) f
    of_unit k h w =
        told_right (broken.instantiated es sight i.unit) (where_given (rules.instantiated es sight i.unit) behind) f
        (instantiated_kept es sight i.unit k (unit_is k h))
        (told_given behind (rules.instantiated es sight i.unit) k f (unit_is k h) w)

    pub unseen_told : (k : ℕ) → steps.instantiated (names_view table.names) (map seen_view table.formals.items) sight i.unit ≡ Some k
        → slice_get (map seen_view table.formals.items) k ≡ None → Tells (refused Undeclared label.at) f → Tells (broken.instance es sight label i) f
    unseen_told k h q w =
        let e : slice_get es k ≡ None = unseen es k (ap (λ ss. slice_get ss k) (sym are.formals) ∙ q) in
        of_unit k h (told_left (lacking Undeclared label.at (slice_get es k)) (of_any (λ e. broken.maps sight e i) (slice_get es k)) f
        (told_lacking Undeclared label.at (slice_get es k) f (λ m. e) w))

    pub maps_told : (k : ℕ) (s : Seen) → steps.instantiated (names_view table.names) (map seen_view table.formals.items) sight i.unit ≡ Some k
        → slice_get (map seen_view table.formals.items) k ≡ Some s → ((e : EntityView) → s ≡ seen e → Tells (broken.maps sight e i) f) → Tells (broken.instance es sight label i) f
    maps_told k s h q w =
        let x = shown es k s (ap (λ ss. slice_get ss k) (sym are.formals) ∙ q) in
        of_unit k h (told_right (lacking Undeclared label.at (slice_get es k)) (of_any (λ e. broken.maps sight e i) (slice_get es k)) f
        (lacking_kept Undeclared label.at (slice_get es k) x.entity x.at)
        (told_along (of_any (λ e. broken.maps sight e i)) (Some x.entity) (slice_get es k) (sym x.at) f (w x.entity x.is)))

-- what is told of an entity that is seen so, whichever that is
pub of_each : {X : Type 0} (b : Broken) (r : Result X NameFault) {s : Seen} {c : EntityView → Broken} → ((f : NameFault) → ((e : EntityView) → s ≡ seen e → Tells (c e) f) → Tells b f)
    → ((e : EntityView) → s ≡ seen e → IfErr r (Tells (c e))) → IfErr r (Tells b)
of_each b (Ok x) more h = tt
of_each b (Err f) more h = more f h
