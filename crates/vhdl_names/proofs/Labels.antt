-- Labels declared one after another, past those that stand twice.
use Rattle.std.proofs.Common.{◌≡◌, ◌≢◌, ℕ, suc, ◌+◌, ◌<◌, ◌≤◌, length, drop, get_or, map, arith, Bool, true, false, List, [], ◌∷◌, ◌++◌, Option, Some, None, Result, Ok, Err, IfOk, IfErr, refl, ap, sym, ◌∙◌, append-nil, true≢false}
use Rattle.std.specs.Prelude.{if◌then◌else◌}
use Rattle.std.proofs.Math.Seq.{drop-cons}
use Rattle.std.proofs.lemmas.List.{map-append, drop_all}
use Rattle.vhdl_tree.specs.Tree as t
use Rattle.vhdl_tree.specs.Tree.{Ident}
use Rattle.vhdl_tree.specs.View.{concurrent_view}
use Rattle.vhdl_tree.specs.declared.concurrent.Concurrent.{Concurrent}
use Rattle.vhdl_names_rules.specs.declared.fault.NameFault.{NameFault}
use Rattle.vhdl_names_rules.specs.declared.fault.NameFault.TheVariants.{At, NoMemory}
use Rattle.vhdl_names_rules.specs.declared.fault.NameProblem.TheVariants.{Twice}
use Rattle.vhdl_names_rules.specs.Rules.{◌>>=◌, met}
use Rattle.vhdl_names_rules.specs.Visibility.{Name, Declared, declare, label, is_among, are_distinct, name_of, names_of}
use Rattle.vhdl_names_rules.specs.Interfaces.{declared_names}
use Rattle.vhdl_names_rules.specs.Files.{labelled}
use Rattle.vhdl_names_rules.specs.Concurrent.{concurrent_labels}
use Rattle.vhdl_names_rules.specs.Gives.{Gives}
use Rattle.vhdl_names_rules.proofs.laws.Rules.{kept, some_is}
use Rattle.vhdl_names_rules.specs.problems.Broken.{Tells, refused}
use Rattle.vhdl_names_rules.specs.problems.Twice.{twice}
use Rattle.vhdl_names_rules.specs.problems.Labels.{label_if_any, label_of, labels_of}
use Rattle.vhdl_names_rules.specs.problems.Declarations.{standing_twice}
use Rattle.vhdl_names_rules.specs.problems.Files.{with_labels}
use Rattle.vhdl_names_rules.proofs.Telling.{told_same, at_is_told}
use Rattle.vhdl_names_rules.proofs.kept.Twice.{apart, distinct_next, names_append}
use Rattle.vhdl_names_rules.proofs.kept.Labels.{labels_named}
use Rattle.vhdl_names_rules.proofs.kept.Architectures.{names_labelled}
use Rattle.vhdl_names_declarations.specs.Entered.{more}
use Rattle.vhdl_names_declarations.proofs.Labelling.{labels_in}
use Rattle.vhdl_names_declarations.proofs.Regions.{more_split}
use Rattle.vhdl_names.specs.Finding.{Finds, HasMemory, first_of}

more_names : (ds : List Declared) (ls : List Name) → are_distinct (declared_names (ds ++ labelled ls)) ≡ are_distinct (declared_names ds ++ ls)
more_names ds ls = ap are_distinct (names_append ds (labelled ls) ∙ ap (λ ns. declared_names ds ++ ns) (names_labelled ls))

no_more : (ds : List Declared) (ls : List Name) → more ds (labelled ls) ≡ None → are_distinct (declared_names ds ++ ls) ≡ false
no_more ds ls h = sym (more_names ds ls) ∙ go (are_distinct (declared_names (ds ++ labelled ls))) h
  where
    go : (b : Bool) → (met b >>= λ _. Some (ds ++ labelled ls)) ≡ None → b ≡ false
    go true h = cc
    go false h = refl

-- ---- the labels of one statement, one or none

abbrev pub One : List Ident → Type 0
One [] = Unit {0}
One (l ∷ []) = Unit {0}
One (l ∷ m ∷ ls) = ⊥

still_distinct : (ds : List Declared) (ls : List Name) (r : List Declared) → more ds (labelled ls) ≡ Some r → are_distinct (declared_names r) ≡ true
still_distinct ds ls r h =
    let k = kept (are_distinct (declared_names (ds ++ labelled ls))) (Some (ds ++ labelled ls)) r h in
    ap (λ l. are_distinct (declared_names l)) (sym (some_is (ds ++ labelled ls) r k.1)) ∙ k.0

-- with a label whose name isn't there yet
record Pushed (ds : List Declared) (l : Name) (r : List Declared) : Type 0 where
  pub new : is_among l (declared_names ds) ≡ false
  pub is : ds ++ declare l label ∷ [] ≡ r

one_pushed : (ds : List Declared) (l : Name) (r : List Declared) → more ds (labelled (l ∷ [])) ≡ Some r → Pushed ds l r
one_pushed ds l r h =
    let k = kept (are_distinct (declared_names (ds ++ declare l label ∷ []))) (Some (ds ++ declare l label ∷ [])) r h in
    record { new = apart (declared_names ds) l [] (sym (more_names ds (l ∷ [])) ∙ k.0); is = some_is (ds ++ declare l label ∷ []) r k.1 }

none_pushed : (ds r : List Declared) → more ds [] ≡ Some r → ds ≡ r
none_pushed ds r h =
    let k = kept (are_distinct (declared_names (ds ++ []))) (Some (ds ++ [])) r h in
    sym (append-nil ds) ∙ some_is (ds ++ []) r k.1

next_given : (ds : List Declared) (is left : List Ident) → One is → (r : List Declared) → more ds (labelled (names_of is)) ≡ Some r
    → with_labels ds (names_of (is ++ left)) ≡ with_labels r (names_of left)
next_given ds [] left one r h = ap (λ d. with_labels d (names_of left)) (none_pushed ds r h)
next_given ds (l ∷ []) left one r h =
    let p = one_pushed ds l.text r h in
    ap (λ b. if b then with_labels ds (names_of left) else with_labels (ds ++ declare l.text label ∷ []) (names_of left)) p.new
    ∙ ap (λ d. with_labels d (names_of left)) p.is
next_given ds (l ∷ m ∷ ls) left one r h = absurd one

next_once : (ds : List Declared) (is left : List Ident) → One is → (r : List Declared) → more ds (labelled (names_of is)) ≡ Some r
    → standing_twice ds (is ++ left) ≡ standing_twice r left
next_once ds [] left one r h = ap (λ d. standing_twice d left) (none_pushed ds r h)
next_once ds (l ∷ []) left one r h =
    let p = one_pushed ds l.text r h in
    ap (λ b. if b then refused Twice l.at else twice (declared_names ds ++ l.text ∷ []) left) p.new
    ∙ ap (λ ns. twice ns left) (sym (names_append ds (declare l.text label ∷ [])))
    ∙ ap (λ d. standing_twice d left) p.is
next_once ds (l ∷ m ∷ ls) left one r h = absurd one

next_refused : (ds : List Declared) (is left : List Ident) → One is → are_distinct (declared_names ds) ≡ true → more ds (labelled (names_of is)) ≡ None
    → with_labels ds (names_of (is ++ left)) ≡ with_labels ds (names_of left)
next_refused ds [] left one d h = refl
next_refused ds (l ∷ []) left one d h = go (is_among l.text (declared_names ds)) refl
  where
    go : (b : Bool) → is_among l.text (declared_names ds) ≡ b → with_labels ds (l.text ∷ names_of left) ≡ with_labels ds (names_of left)
    go true e = ap (λ b. if b then with_labels ds (names_of left) else with_labels (ds ++ declare l.text label ∷ []) (names_of left)) e
    go false e = absurd (true≢false (sym (distinct_next (declared_names ds) l.text d e) ∙ no_more ds (l.text ∷ []) h))
next_refused ds (l ∷ m ∷ ls) left one d h = absurd one

-- what stands twice among the first stands twice among all
twice_front : (names : List Name) (is left : List Ident) (f : NameFault) → Tells (twice names is) f → Tells (twice names (is ++ left)) f
twice_front names [] left (At p at) h = absurd cc
twice_front names [] left NoMemory h = tt
twice_front names (i ∷ is) left f h = go (is_among i.text names) (twice_front (names ++ i.text ∷ []) is left f) h
  where
    go : (b : Bool) → (Tells (twice (names ++ i.text ∷ []) is) f → Tells (twice (names ++ i.text ∷ []) (is ++ left)) f)
        → Tells (if b then refused Twice i.at else twice (names ++ i.text ∷ []) is) f
        → Tells (if b then refused Twice i.at else twice (names ++ i.text ∷ []) (is ++ left)) f
    go true more h = h
    go false more h = more h

-- ---- one statement after another

-- the region so far, with what is told, and the labels that are left
pub record Labelled (old : List Declared) (all : List Ident) (region : List Declared) (told : Result (Unit {0}) NameFault) (left : List Ident) : Type 0 where
  pub given : IfOk told (λ _. more old (labelled (names_of all)) ≡ more region (labelled (names_of left)))
  pub once : IfOk told (λ _. standing_twice old all ≡ standing_twice region left)
  pub first : IfErr told (Tells (standing_twice old all))
  pub apart : HasMemory told → are_distinct (declared_names region) ≡ true
  pub past : HasMemory told → with_labels region (names_of left) ≡ with_labels old (names_of all)

pub none_labelled : (old : List Declared) (all : List Ident) → are_distinct (declared_names old) ≡ true → Labelled old all old (Ok tt) all
none_labelled old all h = record { given = refl; once = refl; first = tt; apart = λ _. h; past = λ _. refl }

module _ (old : List Declared) (all : List Ident) (region : List Declared) (is left : List Ident) (one : One is) where
  after : more region (labelled (names_of (is ++ left))) ≡ (more region (labelled (names_of is)) >>= λ r. more r (labelled (names_of left)))
  after =
      ap (λ ns. more region (labelled ns)) (map-append name_of is left) ∙ ap (more region) (map-append (λ n. declare n label) (names_of is) (names_of left))
      ∙ more_split region (labelled (names_of is)) (labelled (names_of left))

  pub one_more : (told : Result (Unit {0}) NameFault) → Labelled old all region told (is ++ left) → (r : Result (Unit {0}) NameFault) (region' : List Declared)
      → Gives (λ _. region') (more region (labelled (names_of is))) r → IfErr r (Tells (standing_twice region is)) → IfErr r (λ f. f ≢ NoMemory → region' ≡ region)
      → Labelled old all region' (first_of told r) left
  one_more (Ok u) x (Ok v) region' g t k = record {
    given = x.given ∙ after ∙ ap (λ o. o >>= λ r. more r (labelled (names_of left))) g;
    once = x.once ∙ next_once region is left one region' g;
    first = tt;
    apart = λ _. still_distinct region (names_of is) region' g;
    past = λ _. sym (next_given region is left one region' g) ∙ x.past tt;
  }
  one_more (Ok u) x (Err f) region' g t k = record {
    given = tt;
    once = tt;
    first = told_same (standing_twice region (is ++ left)) (standing_twice old all) f (sym x.once) (twice_front (declared_names region) is left f t);
    apart = λ n. ap (λ d. are_distinct (declared_names d)) (k n) ∙ x.apart tt;
    past = λ n. ap (λ d. with_labels d (names_of left)) (k n) ∙ sym (next_refused region is left one (x.apart tt) (g n)) ∙ x.past tt;
  }
  one_more (Err NoMemory) x r region' g t k =
      record { given = tt; once = tt; first = tt; apart = λ n. absurd (n refl); past = λ n. absurd (n refl) }
  one_more (Err (At p at)) x (Ok v) region' g t k = record {
    given = tt;
    once = tt;
    first = x.first;
    apart = λ _. still_distinct region (names_of is) region' g;
    past = λ n. sym (next_given region is left one region' g) ∙ x.past n;
  }
  one_more (Err (At p at)) x (Err NoMemory) region' g t k =
      record { given = tt; once = tt; first = tt; apart = λ n. absurd (n refl); past = λ n. absurd (n refl) }
  one_more (Err (At p at)) x (Err (At q place)) region' g t k = record {
    given = tt;
    once = tt;
    first = x.first;
    apart = λ n. ap (λ d. are_distinct (declared_names d)) (k (at_is_told q place)) ∙ x.apart n;
    past = λ n.
        ap (λ d. with_labels d (names_of left)) (k (at_is_told q place))
        ∙ sym (next_refused region is left one (x.apart n) (g (at_is_told q place))) ∙ x.past n;
  }

-- ---- the labels of statements

one_if_any : (o : Option Ident) → One (label_if_any o)
one_if_any None = tt
one_if_any (Some l) = tt

pub one_label : (c : t.Concurrent) → One (label_of c)
one_label (t.assignment a) = one_if_any a.label
one_label (t.selected l a) = one_if_any l
one_label (t.process l p) = one_if_any l
one_label (t.instance l i) = tt
one_label (t.generated l at s word cs end) = tt
one_label (t.assertion a) = one_if_any a.label

pub next_left : (cs : List Concurrent) (i : ℕ) (c : Concurrent) → i < length cs → c ≡ get_or cs i c
    → labels_in (drop i cs) ≡ label_of (concurrent_view c) ++ labels_in (drop (i + 1) cs)
next_left cs i c lt is =
    let s : suc i ≡ i + 1 = omega arith in
    ap labels_in (drop-cons cs i c lt)
    ∙ ap (λ k. label_of (concurrent_view k) ++ labels_in (drop (suc i) cs)) (sym is)
    ∙ ap (λ k. label_of (concurrent_view c) ++ labels_in (drop k cs)) s

-- ---- behind all of them

module _ (old : List Declared) (cs : List Concurrent) (region : List Declared) (i : ℕ) (le : length cs ≤ i) where
  abbrev all : t.Concurrents
  all = t.concurrents_of (map concurrent_view cs)

  gone : labels_in (drop i cs) ≡ []
  gone = ap labels_in (drop_all i cs le)

  pub all_told : (told : Result (Unit {0}) NameFault) → Labelled old (labels_in cs) region told (labels_in (drop i cs)) → Finds (standing_twice old (labels_of (t.concurrents_of (map concurrent_view cs)))) told
  all_told (Ok u) x = x.once ∙ ap (λ l. standing_twice region l) gone
  all_told (Err f) x = x.first

  pub all_past : (told : Result (Unit {0}) NameFault) → Labelled old (labels_in cs) region told (labels_in (drop i cs)) → HasMemory told
      → region ≡ with_labels old (concurrent_labels (t.concurrents_of (map concurrent_view cs)))
  all_past told x n = ap (λ l. with_labels region (names_of l)) (sym gone) ∙ x.past n ∙ ap (with_labels old) (labels_named all)

  pub all_given : (told : Result (Unit {0}) NameFault) → Labelled old (labels_in cs) region told (labels_in (drop i cs))
      → IfOk told (λ _. more old (labelled (concurrent_labels (t.concurrents_of (map concurrent_view cs)))) ≡ Some region)
  all_given (Ok u) x =
      ap (λ ns. more old (labelled ns)) (sym (labels_named all)) ∙ x.given ∙ ap (λ l. more region (labelled (names_of l))) gone
      ∙ ap (λ b. met b >>= λ _. let o : Option (List Declared) = Some (region ++ []) in o) (ap (λ l. are_distinct (declared_names l)) (append-nil region) ∙ x.apart tt)
      ∙ ap Some (append-nil region)
  all_given (Err f) x = tt
