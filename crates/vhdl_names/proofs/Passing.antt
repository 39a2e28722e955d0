-- The units of a file at their places.
use Rattle.std.proofs.Common.{◌≡◌, ◌≢◌, ℕ, suc, ◌+◌, ◌<◌, ◌≤◌, arith, List, [], ◌∷◌, map, drop, length, get_or, Result, Ok, Err, IfErr, ap, sym, ◌∙◌, subst}
use Rattle.std.specs.Prelude.{OnErr}
use Rattle.std.proofs.Math.Seq.{drop-cons}
use Rattle.std.proofs.lemmas.List.{drop_all}
use Rattle.vhdl_lexer.specs.declared.language.Language.{Language}
use Rattle.vhdl_tree.specs.Tree as t
use Rattle.vhdl_tree.specs.View as view
use Rattle.vhdl_tree.specs.declared.unit.DesignUnit.{DesignUnit}
use Rattle.vhdl_names_rules.specs.declared.fault.NameFault.{NameFault}
use Rattle.vhdl_names_rules.specs.declared.fault.NameFault.TheVariants.{NoMemory}
use Rattle.vhdl_names_rules.specs.Gives.{Gives}
use Rattle.vhdl_names_rules.specs.Interfaces.{EntityView}
use Rattle.vhdl_names_rules.specs.Files.{entities_of}
use Rattle.vhdl_names_rules.specs.problems.Broken.{Tells, any_of}
use Rattle.vhdl_names.specs.Breaking.{one_unit}
use Rattle.vhdl_names.specs.Finding.{HasMemory, first_of}
use Rattle.vhdl_names.specs.Views.{Keyed, OutlineView}
use Rattle.vhdl_names.specs.steps.Outlines.{with_unit}
use Rattle.vhdl_names.specs.steps.Entities as steps
use Rattle.vhdl_names.proofs.Naming.{Named, next_named}
use Rattle.vhdl_names.proofs.Past.{Outlined, unit_gathered, unit_past}
use Rattle.vhdl_names.proofs.Entering.{Entered, broken, next_entered}

-- those that are left at a place
abbrev pub left_at : List DesignUnit → ℕ → List t.DesignUnit
left_at us i = map view.unit_view (drop i us)

pub none_left : (us : List DesignUnit) (i : ℕ) → length us ≤ i → left_at us i ≡ []
none_left us i le = ap (map view.unit_view) (drop_all i us le)

-- the unit at a place of a list that is lent
pub at_lent : (us lent : List DesignUnit) (i : ℕ) (d : DesignUnit) → lent ≡ us → i < length lent → d ≡ get_or lent i d → (i < length us) × (d ≡ get_or us i d)
at_lent us lent i d same lt is = subst (λ l. (i < length l) × (d ≡ get_or l i d)) same (lt, is)

module _ (us : List DesignUnit) (i : ℕ) (d : DesignUnit) (lt : i < length us) (is : d ≡ get_or us i d) where
  abbrev all : List t.DesignUnit
  all = map view.unit_view us

  abbrev unit : t.DesignUnit
  unit = view.unit_view d

  pub next : left_at us i ≡ view.unit_view d ∷ left_at us (i + 1)
  next =
      let s : suc i ≡ i + 1 = omega arith in
      ap (map view.unit_view) (drop-cons us i d lt) ∙ ap (λ e. view.unit_view e ∷ map view.unit_view (drop (suc i) us)) (sym is)
      ∙ ap (λ j. unit ∷ map view.unit_view (drop j us)) s

  -- ---- names

  pub name_next : (o : OutlineView) (told r : Result (Unit {0}) NameFault) (p : OutlineView) → Named (map view.unit_view us) o told (left_at us i)
      → Gives (λ _. p) (with_unit o (view.unit_view d)) r → IfErr r (Tells (one_unit o (view.unit_view d).unit)) → Named (map view.unit_view us) p (first_of told r) (left_at us (i + 1))
  name_next o told r p x g w =
      let P : List t.DesignUnit → Type 0 = λ ds. Named all o told ds in
      next_named all o unit.context (left_at us (i + 1)) unit.unit told r p (subst P next x) g w

  pub name_past : {A : Type 0} (o : OutlineView) (r : Result A NameFault) (p : OutlineView) → Outlined (map view.unit_view us) o (left_at us i)
      → Gives (λ _. p) (with_unit o (view.unit_view d)) r → OnErr r (p ≡ o) → HasMemory r → Outlined (map view.unit_view us) p (left_at us (i + 1))
  name_past o (Ok y) p x g k n =
      let P : List t.DesignUnit → Type 0 = λ ds. Outlined all o ds in
      unit_gathered all o unit.context (left_at us (i + 1)) unit.unit p (subst P next x) g
  name_past o (Err f) p x g k n =
      let P : List t.DesignUnit → Type 0 = λ ds. Outlined all o ds in
      let Q : OutlineView → Type 0 = λ o. Outlined all o (left_at us (i + 1)) in
      subst Q (sym k) (unit_past all o unit.context (left_at us (i + 1)) unit.unit (subst P next x) (g n))

  -- ---- entities

  pub entity_next : (language : Language) (as' : List Keyed) (es : List EntityView) (told r : Result (Unit {0}) NameFault) (vs : List EntityView) → Entered language as' (map view.unit_view us) es told (left_at us i)
      → Gives (λ _. vs) (steps.with_unit language as' es (view.unit_view d)) r → IfErr r (Tells (any_of (broken language) (entities_of (view.unit_view d ∷ []))))
      → IfErr r (λ f. f ≢ NoMemory → vs ≡ es) → Entered language as' (map view.unit_view us) vs (first_of told r) (left_at us (i + 1))
  entity_next language as' es told r vs x g w k =
      let P : List t.DesignUnit → Type 0 = λ ds. Entered language as' all es told ds in
      next_entered language as' all es unit.context unit.unit (left_at us (i + 1)) told r vs (subst P next x) g w k
