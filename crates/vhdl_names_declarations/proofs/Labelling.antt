-- Labels of statements, statement by statement.
use Rattle.std.proofs.Common.{◌≡◌, ℕ, ◌+◌, ◌<◌, ◌≤◌, Bool, true, false, List, [], map, length, drop, get_or, Option, Some, None, Vec, Global, refl, sym, ap, ◌∙◌}
use Rattle.std.specs.Prelude.{bytes_eq}
use Rattle.std.specs.List.{IsDistinct}
use Rattle.std.specs.Map.{keys_of}
use Rattle.vhdl_tree.specs.Tree as t
use Rattle.vhdl_tree.specs.Tree.{Ident}
use Rattle.vhdl_tree.specs.View.{concurrent_view}
use Rattle.vhdl_tree.specs.declared.concurrent.Concurrent.{Concurrent}
use Rattle.vhdl_names_rules.specs.Rules.{◌>>=◌, met}
use Rattle.vhdl_names_rules.specs.Visibility as visibility
use Rattle.vhdl_names_rules.specs.Visibility.{Name, Declared, names_of, are_distinct}
use Rattle.vhdl_names_rules.specs.Interfaces.{declared_names}
use Rattle.vhdl_names_rules.specs.Files.{labelled}
use Rattle.vhdl_names_rules.specs.Concurrent.{concurrent_label, concurrent_labels}
use Rattle.vhdl_names_rules.specs.Statements.{label_names}
use Rattle.vhdl_names_rules.specs.declared.fault.NameFault.{NameFault}
use Rattle.vhdl_names_rules.specs.problems.Broken.{Tells}
use Rattle.vhdl_names_rules.specs.problems.Labels.{label_if_any, label_of, labels_of}
use Rattle.vhdl_names_rules.specs.problems.Declarations.{standing_twice}
use Rattle.vhdl_names_sight.specs.declared.meaning.Entry.{Entry}
use Rattle.vhdl_names_sight.specs.Views.{entry_view}
use Rattle.vhdl_names_declarations.specs.Entered.{more}
use Rattle.vhdl_names_declarations.proofs.Naming.{one_told, one_behind, next_one, none_left}
use Rattle.vhdl_names_declarations.proofs.Regions.{names-all}

abbrev pub label_names_of : List Concurrent → List Name
label_names_of cs = concurrent_labels (t.concurrents_of (map concurrent_view cs))

abbrev pub labels_in : List Concurrent → List Ident
labels_in cs = labels_of (t.concurrents_of (map concurrent_view cs))

-- labels with their bytes have the names that the rules speak of
pub names_if_any : (l : Option Ident) → names_of (label_if_any l) ≡ label_names l
names_if_any None = refl
names_if_any (Some l) = refl

pub names_of_label : (c : t.Concurrent) → names_of (label_of c) ≡ concurrent_label c
names_of_label (t.assignment a) = names_if_any a.label
names_of_label (t.selected label a) = names_if_any label
names_of_label (t.process label p) = names_if_any label
names_of_label (t.instance label i) = refl
names_of_label (t.generated label at scheme word cs end) = refl
names_of_label (t.assertion a) = names_if_any a.label

-- labels of one statement, and of those behind it
module _ (cs : List Concurrent) (i : ℕ) (c : Concurrent) (lt : i < length cs) (is : c ≡ get_or cs i c) where
  abbrev one_name : Concurrent → List Name
  one_name c = concurrent_label (concurrent_view c)

  abbrev one_ident : Concurrent → List Ident
  one_ident c = label_of (concurrent_view c)

  pub label_told : (ds : List Declared) (f : NameFault) → Tells (standing_twice ds (label_of (concurrent_view c))) f → Tells (standing_twice ds (labels_in (drop i cs))) f
  label_told = one_told one_name label_names_of one_ident labels_in (λ c cs. refl) (λ c cs. refl) (λ c. names_of_label (concurrent_view c)) cs i c lt is

  pub label_behind : (ds r : List Declared) → more ds (labelled (concurrent_label (concurrent_view c))) ≡ Some r → standing_twice ds (labels_in (drop i cs)) ≡ standing_twice r (labels_in (drop (i + 1) cs))
  label_behind = one_behind one_name label_names_of one_ident labels_in (λ c cs. refl) (λ c cs. refl) (λ c. names_of_label (concurrent_view c)) cs i c lt is

  pub next_label : (ds : List Declared) → more ds (labelled (label_names_of (drop i cs))) ≡ (more ds (labelled (concurrent_label (concurrent_view c))) >>= λ r. more r (labelled (label_names_of (drop (i + 1) cs))))
  next_label = next_one one_name label_names_of one_ident labels_in (λ c cs. refl) (λ c cs. refl) (λ c. names_of_label (concurrent_view c)) cs i c lt is

pub no_labels : (es : List (Vec ℕ Global × Entry)) (cs : List Concurrent) (i : ℕ) → length cs ≤ i → IsDistinct (λ a b. bytes_eq a.items b.items) (keys_of es) →
    more (map entry_view es) (labelled (label_names_of (drop i cs))) ≡ Some (map entry_view es)
no_labels = none_left label_names_of refl

-- labels of a region of their own
labels_distinct : (ns : List Name) → are_distinct (declared_names (labelled ns)) ≡ are_distinct ns
labels_distinct ns = ap are_distinct (names-all visibility.label ns)

pub distinct_none : (ns : List Name) → more [] (labelled ns) ≡ None → met (are_distinct ns) ≡ None
distinct_none ns h = ap met (sym (labels_distinct ns)) ∙ go (are_distinct (declared_names (labelled ns))) h
  where
    go : (b : Bool) → (met b >>= λ _. Some (labelled ns)) ≡ None → met b ≡ None
    go true h = cc
    go false h = refl

pub distinct_some : (ns : List Name) (r : List Declared) → more [] (labelled ns) ≡ Some r → met (are_distinct ns) ≡ Some tt
distinct_some ns r h = ap met (sym (labels_distinct ns)) ∙ go (are_distinct (declared_names (labelled ns))) h
  where
    go : (b : Bool) → (met b >>= λ _. Some (labelled ns)) ≡ Some r → met b ≡ Some tt
    go true h = refl
    go false h = cc
