-- A file, of what its three readings find.
use Rattle.std.proofs.Common.{◌≡◌, ◌≢◌, Bool, true, false, not, List, [], map, length, Option, Some, None, Result, Ok, Err, refl, ap, sym, ◌∙◌}
use Rattle.std.specs.Prelude.{◌&&◌, replicate}
use Rattle.vhdl_lexer.specs.declared.language.Language.{Language}
use Rattle.vhdl_tree.specs.Tree.{DesignUnit, File}
use Rattle.vhdl_names_rules.specs.declared.fault.NameFault.{NameFault}
use Rattle.vhdl_names_rules.specs.declared.fault.NameFault.TheVariants.{NoMemory}
use Rattle.vhdl_names_rules.specs.units.Units as u
use Rattle.vhdl_names_rules.specs.Rules.{each}
use Rattle.vhdl_names_rules.specs.Visibility.{Name, is_among, are_distinct}
use Rattle.vhdl_names_rules.specs.Interfaces.{EntityView}
use Rattle.vhdl_names_rules.specs.Files.{entity_names, described_names, entities_of, architectures_of, stand_after, units_of}
use Rattle.vhdl_names_rules.proofs.laws.Rules.{kept, some_is}
use Rattle.vhdl_names_units.specs.Lists.{in_turn}
use Rattle.vhdl_names_rules.specs.problems.Broken.{Broken, Tells, any_of, earlier}
use Rattle.vhdl_names_rules.specs.problems.Files.{placed_architectures, is_hidden, described, names, file}
use Rattle.vhdl_names_rules.proofs.Telling.{told_same}
use Rattle.vhdl_names.specs.Finding.{Finds, HasMemory}
use Rattle.vhdl_names.specs.Views.{OutlineView}
use Rattle.vhdl_names.specs.steps.Outlines.{keyed, described_of, outline_of, outlined}
use Rattle.vhdl_names.specs.steps.Architectures.{own, with_unit}
use Rattle.vhdl_names.specs.steps.Units.{joined}
use Rattle.vhdl_names.proofs.Entering.{broken, given_behind, AllViewed}
use Rattle.vhdl_names.proofs.Filed.{given_seen, architectures_same}
use Rattle.vhdl_names.proofs.Filing.{all_given, viewed_names, units_given}
use Rattle.vhdl_names.proofs.Finding.{or_memory}
use Rattle.vhdl_names.proofs.Placing.{all_placed}
use Rattle.vhdl_names.proofs.Tabling.{names_in}

-- ---- what is told

-- what the reading of names, of entities and of architectures finds
pub record Read (language : Language) (f : File) (o : OutlineView) (es : List EntityView) {X : Type 0} (told interfaces : Result (Unit {0}) NameFault) (read : Result X NameFault) : Type 0 where
  pub names_found : Finds (names [] f.units) told
  pub names_are : HasMemory told → (n : Name) → is_among n o.entities ≡ is_among n (entity_names f.units)
  pub architectures_are : HasMemory told → (n : Name) → described_of n o.architectures ≡ described_of n (map keyed (placed_architectures f.units))
  pub entities_found : Finds (any_of (broken language) (entities_of f.units)) interfaces
  pub entities_are : HasMemory interfaces → es ≡ given_behind language o.architectures [] f.units
  pub found : Finds (any_of (described language o.entities es) (architectures_of f.units)) read

-- of two of them, and of these and the third, the earlier one is the first of the file
pub file_told : {X : Type 0} (language : Language) (f : File) (o : OutlineView) (es : List EntityView) (told interfaces : Result (Unit {0}) NameFault) (read inner : Result X NameFault) (x : NameFault)
    → Read language f o es told interfaces read
    → ((a b : Broken) → Finds a interfaces → Finds b read → Finds (earlier a b) inner) → (HasMemory inner → HasMemory interfaces × HasMemory read)
    → ((a b : Broken) → Finds a told → Finds b inner → Tells (earlier a b) x) → (x ≢ NoMemory → HasMemory told × HasMemory inner)
    → Tells (file language f) x
file_told language f o es told interfaces read inner x r inner_told inner_memory outer_told outer_memory =
    or_memory (file language f) x (λ n.
    let m = outer_memory n in
    let k = inner_memory m.1 in
    let given = r.entities_are k.0 ∙ given_seen language f.units o.architectures (r.architectures_are m.0) in
    let those = any_of (described language o.entities es) (architectures_of f.units) in
    let entities = any_of (broken language) (entities_of f.units) in
    told_same (earlier (names [] f.units) (earlier entities those)) (file language f) x
    (ap (λ b. earlier (names [] f.units) (earlier entities b)) (architectures_same language f.units o.entities es (r.names_are m.0) given))
    (outer_told (names [] f.units) (earlier entities those) r.names_found (inner_told entities those r.entities_found r.found)))

pub ok_memory : {X : Type 0} (r : Result X NameFault) (x : X) → r ≡ Ok x → HasMemory r
ok_memory (Ok y) x h = tt
ok_memory (Err f) x h = absurd cc

-- ---- what is given

-- what an outline has, where the names of units keep their rules
pub record Outlines (ds : List DesignUnit) (o : OutlineView) : Type 0 where
  pub is : outline_of ds ≡ o
  pub entities : are_distinct (entity_names ds) ≡ true
  pub architectures : are_distinct (described_names ds) ≡ true

pub outlines : (ds : List DesignUnit) (o : OutlineView) → outlined ds ≡ Some o → Outlines ds o
outlines ds o h =
    let a = kept (are_distinct (entity_names ds)) _ o h in
    let b = kept (are_distinct (described_names ds)) _ o a.1 in
    let c = kept (stand_after ds) (Some (outline_of ds)) o b.1 in
    record { is = some_is (outline_of ds) o c.1; entities = a.0; architectures = b.0 }

none_of_both : (b : Bool) → (b && not b) ≡ false
none_of_both true = refl
none_of_both false = refl

module _ (language : Language) (f : File) (o : OutlineView) (h : outlined f.units ≡ Some o) (es : List EntityView) (v : AllViewed language o.architectures f.units) (k : es ≡ given_behind language o.architectures [] f.units) where
  names_given : names_in es ≡ entity_names f.units
  names_given =
      let x = outlines f.units o h in
      ap names_in (k ∙ all_given language o.architectures f.units v x.entities) ∙ viewed_names language o.architectures f.units v

  -- each entity is given
  pub none_hidden : (n : Name) → is_hidden o.entities es n ≡ false
  none_hidden n =
      let x = outlines f.units o h in
      ap (λ ms. is_among n ms && not (is_among n (names_in es))) (sym (ap (λ (o : OutlineView). o.entities) x.is))
      ∙ ap (λ ms. is_among n (entity_names f.units) && not (is_among n ms)) names_given
      ∙ none_of_both (is_among n (entity_names f.units))

  pub file_given : (os : List (Option u.Architecture)) → in_turn (with_unit es) (replicate (length es) None) f.units ≡ Some os → units_of language f ≡ Some (joined es os)
  file_given os g =
      let x = outlines f.units o h in
      let is : map keyed (architectures_of f.units) ≡ o.architectures = ap (λ (o : OutlineView). o.architectures) x.is in
      units_given language f o h es v k os
      (ap (λ l. each (own es l) es) (sym is) ∙ all_placed es (ap are_distinct names_given ∙ x.entities) f.units x.architectures os g)
