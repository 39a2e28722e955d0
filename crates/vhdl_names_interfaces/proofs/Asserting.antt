-- Labels of an entity's assertions, and what they make of its interface.
use Rattle.std.proofs.Common.{◌≡◌, ℕ, ◌+◌, ◌<◌, ◌≤◌, Bool, true, false, List, [], ◌∷◌, ◌++◌, map, length, drop, get_or, Option, Some, None, Vec, Global, refl, sym, ap, ◌∙◌, append-nil}
use Rattle.std.specs.Prelude.{bytes_eq, option_map}
use Rattle.std.specs.List.{IsDistinct, cons_option}
use Rattle.std.specs.Map.{keys_of}
use Rattle.vhdl_tree.specs.Tree as t
use Rattle.vhdl_tree.specs.Tree.{Ident}
use Rattle.vhdl_tree.specs.View.{assertion_view}
use Rattle.vhdl_tree.specs.declared.concurrent.Assertion.{Assertion}
use Rattle.vhdl_names_rules.specs.Rules.{◌>>=◌, met}
use Rattle.vhdl_names_rules.specs.Visibility as visibility
use Rattle.vhdl_names_rules.specs.Visibility.{Name, Declared, names_of, are_distinct, ends}
use Rattle.vhdl_names_rules.specs.Interfaces.{Interface, EntityView, declared_names, with_labels}
use Rattle.vhdl_names_rules.specs.Files.{labelled}
use Rattle.vhdl_names_rules.specs.Statements.{label_names}
use Rattle.vhdl_names_rules.specs.Packages.{Context}
use Rattle.vhdl_names_rules.specs.declared.fault.NameFault.{NameFault}
use Rattle.vhdl_names_rules.specs.problems.Broken.{Tells}
use Rattle.vhdl_names_rules.specs.problems.Declarations.{standing_twice}
use Rattle.vhdl_names_rules.specs.problems.Labels.{label_if_any}
use Rattle.vhdl_names_sight.specs.declared.meaning.Entry.{Entry}
use Rattle.vhdl_names_sight.specs.Views.{entry_view}
use Rattle.vhdl_names_declarations.specs.Entered.{more}
use Rattle.vhdl_names_declarations.proofs.Labelling.{names_if_any}
use Rattle.vhdl_names_declarations.proofs.Naming.{one_told, one_behind, next_one, none_left}
use Rattle.vhdl_names_declarations.proofs.Regions.{names-append, names-all}
use Rattle.vhdl_names_interfaces.specs.Assertions.{names_in, labels_in}
use Rattle.vhdl_names_interfaces.specs.Views.{entity_of}

-- ---- assertion by assertion

abbrev pub names_of_these : List Assertion → List Name
names_of_these as' = names_in (map assertion_view as')

abbrev pub labels_of_these : List Assertion → List Ident
labels_of_these as' = labels_in (map assertion_view as')

abbrev one_name : Assertion → List Name
one_name a = label_names (assertion_view a).label

abbrev one_ident : Assertion → List Ident
one_ident a = label_if_any (assertion_view a).label

more_names : (a : Assertion) (as' : List Assertion) → names_of_these (a ∷ as') ≡ one_name a ++ names_of_these as'
more_names a as' = go (assertion_view a).label
  where
    go : (o : Option Ident) → cons_option (option_map (λ (l : Ident). l.text) o) (names_of_these as') ≡ label_names o ++ names_of_these as'
    go None = refl
    go (Some l) = refl

more_labels : (a : Assertion) (as' : List Assertion) → labels_of_these (a ∷ as') ≡ one_ident a ++ labels_of_these as'
more_labels a as' = go (assertion_view a).label
  where
    go : (o : Option Ident) → cons_option o (labels_of_these as') ≡ label_if_any o ++ labels_of_these as'
    go None = refl
    go (Some l) = refl

module _ (as' : List Assertion) (i : ℕ) (a : Assertion) (lt : i < length as') (is : a ≡ get_or as' i a) where
  pub label_told : (ds : List Declared) (f : NameFault) → Tells (standing_twice ds (one_ident a)) f → Tells (standing_twice ds (labels_of_these (drop i as'))) f
  label_told = one_told one_name names_of_these one_ident labels_of_these more_names more_labels (λ a. names_if_any (assertion_view a).label) as' i a lt is

  pub label_behind : (ds r : List Declared) → more ds (labelled (one_name a)) ≡ Some r → standing_twice ds (labels_of_these (drop i as')) ≡ standing_twice r (labels_of_these (drop (i + 1) as'))
  label_behind = one_behind one_name names_of_these one_ident labels_of_these more_names more_labels (λ a. names_if_any (assertion_view a).label) as' i a lt is

  pub next_label : (ds : List Declared) → more ds (labelled (names_of_these (drop i as'))) ≡ (more ds (labelled (one_name a)) >>= λ r. more r (labelled (names_of_these (drop (i + 1) as'))))
  next_label = next_one one_name names_of_these one_ident labels_of_these more_names more_labels (λ a. names_if_any (assertion_view a).label) as' i a lt is

pub no_labels : (es : List (Vec ℕ Global × Entry)) (as' : List Assertion) (i : ℕ) → length as' ≤ i → IsDistinct (λ a b. bytes_eq a.items b.items) (keys_of es) →
    more (map entry_view es) (labelled (names_of_these (drop i as'))) ≡ Some (map entry_view es)
no_labels = none_left names_of_these refl

-- labels with their bytes have these names
pub names_are : (as' : List t.Assertion) → names_of (labels_in as') ≡ names_in as'
names_are [] = refl
names_are (a ∷ as') = go a.label (names_are as')
  where
    go : (o : Option Ident) → names_of (labels_in as') ≡ names_in as' → names_of (cons_option o (labels_in as')) ≡ cons_option (option_map (λ (l : Ident). l.text) o) (names_in as')
    go None h = h
    go (Some l) h = ap (λ ns. l.text ∷ ns) h

-- ---- an interface with labels

labels_are : (i : Interface) (ls : List Name) → with_labels i ls ≡ record i { declared = i.declared ++ labelled ls }
labels_are i [] = ap (λ ds. record i { declared = ds }) (sym (append-nil i.declared))
labels_are i (l ∷ ls) = refl

stand_once : (i : Interface) (ls : List Name) → are_distinct (declared_names (i.declared ++ labelled ls)) ≡ are_distinct (declared_names i.declared ++ ls)
stand_once i ls = ap are_distinct (names-append i.declared (labelled ls) ∙ ap (λ ns. declared_names i.declared ++ ns) (names-all visibility.label ls))

module _ (c : Context) (e : t.Entity) (a : Option Name) (i : Interface) (ls : List Name) where
  abbrev ended : Interface → Option EntityView
  ended j = met (ends e.name.text e.end_name) >>= λ _. Some (entity_of c j e a)

  abbrev labels_then : Option EntityView
  labels_then = met (are_distinct (declared_names i.declared ++ ls)) >>= λ _. ended (with_labels i ls)

  pub labels_twice : more i.declared (labelled ls) ≡ None → labels_then ≡ None
  labels_twice h = ap (λ b. met b >>= λ _. ended (with_labels i ls)) (sym (stand_once i ls) ∙ go (are_distinct (declared_names (i.declared ++ labelled ls))) h)
    where
      go : (b : Bool) → (met b >>= λ _. Some (i.declared ++ labelled ls)) ≡ None → b ≡ false
      go true h = cc
      go false h = refl

  pub labels_stand : (r : List Declared) → more i.declared (labelled ls) ≡ Some r → labels_then ≡ ended (record i { declared = r })
  labels_stand r h =
      ap (λ b. met b >>= λ _. ended (with_labels i ls)) (sym (stand_once i ls) ∙ go (are_distinct (declared_names (i.declared ++ labelled ls))) h)
      ∙ ap ended (labels_are i ls ∙ ap (λ ds. record i { declared = ds }) (same (are_distinct (declared_names (i.declared ++ labelled ls))) h))
    where
      go : (b : Bool) → (met b >>= λ _. Some (i.declared ++ labelled ls)) ≡ Some r → b ≡ true
      go true h = refl
      go false h = cc

      same : (b : Bool) → (met b >>= λ _. Some (i.declared ++ labelled ls)) ≡ Some r → i.declared ++ labelled ls ≡ r
      same true h = cc
      same false h = cc
