-- A declaration of several names: its names enter the region, and what they mean is known thereafter.
use Rattle.std.proofs.Common.{◌≡◌, ℕ, ◌<◌, ◌≤◌, Bool, true, false, List, [], ◌∷◌, ◌++◌, map, length, drop, Option, Some, None, Vec, Global, refl, sym, ap, ◌∙◌, arith}
use Rattle.std.proofs.Math.Seq.{take-append_seam, drop-append_seam}
use Rattle.std.proofs.lemmas.List.{length-map, length-append}
use Rattle.vhdl_tree.specs.View.{ident_view}
use Rattle.vhdl_tree.specs.declared.expression.Identifier.{Identifier}
use Rattle.vhdl_names_rules.specs.Rules.{◌>>=◌, met}
use Rattle.vhdl_names_rules.specs.Visibility as visibility
use Rattle.vhdl_names_rules.specs.Visibility.{Name, Meaning, Declared, Sight, Declares, are_distinct, all_declared, names_of}
use Rattle.vhdl_names_rules.specs.Interfaces.{declared_names}
use Rattle.vhdl_names_sight.specs.declared.meaning.Entry.{Entry}
use Rattle.vhdl_names_sight.specs.Views.{entry_view}
use Rattle.vhdl_names_declarations.specs.declared.class.ObjectClass.{ObjectClass}
use Rattle.vhdl_names_declarations.specs.declared.class.ObjectClass.TheVariants as k
use Rattle.vhdl_names_declarations.specs.declared.counts.Counts.{Counts}
use Rattle.vhdl_names_declarations.specs.declared.region.Settled.{Settled}
use Rattle.vhdl_names_declarations.specs.Counts.{next_of}
use Rattle.vhdl_names_declarations.specs.Entered.{more}
use Rattle.vhdl_names_declarations.specs.Porting.{Standing, settled_view}
use Rattle.vhdl_names_declarations.specs.Settled.{class_view, settled_from}
use Rattle.vhdl_names_declarations.proofs.Regions.{names-append, names-all}
use Rattle.vhdl_names_declarations.proofs.Settling.{standing_names, names_stand}

-- ---- how names stand behind these counts

-- the number that the next object of a meaning's class takes
abbrev pub number_of : Counts → Meaning → ℕ
number_of c (visibility.generic n) = c.generics
number_of c (visibility.boolean_generic n) = c.generics
number_of c (visibility.port n mode kind) = c.ports
number_of c (visibility.integer_constant n) = c.integers
number_of c (visibility.boolean_constant n) = c.integers
number_of c (visibility.constant n kind values) = c.constants
number_of c (visibility.signal n type) = c.signals
number_of c (visibility.variable n type) = c.variables
number_of c _ = 0

pub number_is : (c : Counts) (class : ObjectClass) → next_of c class ≡ number_of c (class_view class 0)
number_is c k.Generic = refl
number_is c k.BooleanGeneric = refl
number_is c (k.Port mode kind) = refl
number_is c k.Integer = refl
number_is c k.Boolean = refl
number_is c (k.Constant kind values) = refl
number_is c (k.Signal type) = refl
number_is c (k.Variable type) = refl

abbrev pub stand_from : Counts → Standing → List Name → List Declared
stand_from c s ns = standing_names s.meaning s.direction s.is_global (number_of c (s.meaning 0)) c.ranges ns

pub stand_as : (c : Counts) (s : Standing) (ns : List Name) → declared_names (stand_from c s ns) ≡ ns
stand_as c s ns = names_stand s.meaning s.direction s.is_global (number_of c (s.meaning 0)) c.ranges ns

-- names that are hidden first and get their meaning then
pub settled_hidden : (c : Counts) (x : Settled) (s : Standing) (ds : List Declared) (ns : List Name) → settled_view x ≡ s →
    settled_from x c (length ds) (ds ++ all_declared visibility.unfinished ns) ≡ ds ++ stand_from c s ns
settled_hidden c x s ds ns is =
    ap (λ l. l ++ by (next_of c x.class) (declared_names (drop (length ds) (ds ++ all_declared visibility.unfinished ns)))) (take-append_seam ds (all_declared visibility.unfinished ns))
    ∙ ap (λ l. ds ++ by (next_of c x.class) (declared_names l)) (drop-append_seam ds (all_declared visibility.unfinished ns))
    ∙ ap (λ l. ds ++ by (next_of c x.class) l) (names-all visibility.unfinished ns)
    ∙ ap (λ n. ds ++ by n ns) (number_is c x.class)
    ∙ ap (λ t. ds ++ stand_from c t ns) is
  where
    by : ℕ → List Name → List Declared
    by n l = standing_names (class_view x.class) x.direction x.is_global n c.ranges l

-- what more makes of a region
pub more_is : (ds es r : List Declared) → more ds es ≡ Some r → r ≡ ds ++ es
more_is ds es r h = go (are_distinct (declared_names (ds ++ es))) h
  where
    go : (b : Bool) → (met b >>= λ _. Some (ds ++ es)) ≡ Some r → r ≡ ds ++ es
    go true h = cc
    go false h = cc

same_names : (c : Counts) (s : Standing) (ds : List Declared) (ns : List Name) →
    declared_names (ds ++ stand_from c s ns) ≡ declared_names (ds ++ all_declared visibility.unfinished ns)
same_names c s ds ns =
    names-append ds (stand_from c s ns) ∙ ap (λ l. declared_names ds ++ l) (stand_as c s ns ∙ sym (names-all visibility.unfinished ns))
    ∙ sym (names-append ds (all_declared visibility.unfinished ns))

pub not_more : (ds es : List Declared) → more ds es ≡ None → are_distinct (declared_names (ds ++ es)) ≡ false
not_more ds es h = go (are_distinct (declared_names (ds ++ es))) h
  where
    go : (b : Bool) → (met b >>= λ _. Some (ds ++ es)) ≡ None → b ≡ false
    go true h = cc
    go false h = refl

pub has_more : (ds es r : List Declared) → more ds es ≡ Some r → are_distinct (declared_names (ds ++ es)) ≡ true
has_more ds es r h = go (are_distinct (declared_names (ds ++ es))) h
  where
    go : (b : Bool) → (met b >>= λ _. Some (ds ++ es)) ≡ Some r → b ≡ true
    go true h = refl
    go false h = cc

abbrev pair : {A B : Type 0} → A → B → A × B
pair x y = (x, y)

-- what a declaration of names gives, by what is known of them
abbrev pub declares_all : {X B : Type 0} → Counts → List Name → (X → Standing) → (X → List B) → Option X → Option (Declares B)
declares_all c ns standing a o = o >>= λ x. Some (record { declared = stand_from c (standing x) ns; analysed = a x })

module _ (region : Sight → List Declared) (with_more : Sight → List Declared → Sight) where
  abbrev pub enters : {B : Type 0} → Sight → Declares B → Option (Sight × List B)
  enters s x = met (are_distinct (declared_names (region s ++ x.declared))) >>= λ _. Some (pair (with_more s x.declared) x.analysed)

  module _ {X B : Type 0} (s : Sight) (c : Counts) (ns : List Name) (standing : X → Standing) (a : X → List B) where
    pub refused : more (region s) (all_declared visibility.unfinished ns) ≡ None → (o : Option X) → (declares_all c ns standing a o >>= enters s) ≡ None
    refused h None = refl
    refused h (Some x) =
        ap (λ b. met b >>= λ _. Some (pair (with_more s (stand_from c (standing x) ns)) (a x)))
        (ap are_distinct (same_names c (standing x) (region s) ns) ∙ not_more (region s) (all_declared visibility.unfinished ns) h)

    pub unknown : (o : Option X) → o ≡ None → (declares_all c ns standing a o >>= enters s) ≡ None
    unknown o h = ap (λ o. declares_all c ns standing a o >>= enters s) h

    pub known : (r : List Declared) → more (region s) (all_declared visibility.unfinished ns) ≡ Some r → (o : Option X) (x : X) → o ≡ Some x →
        (declares_all c ns standing a o >>= enters s) ≡ Some (pair (with_more s (stand_from c (standing x) ns)) (a x))
    known r h o x e =
        ap (λ o. declares_all c ns standing a o >>= enters s) e
        ∙ ap (λ b. met b >>= λ _. Some (pair (with_more s (stand_from c (standing x) ns)) (a x)))
        (ap are_distinct (same_names c (standing x) (region s) ns) ∙ has_more (region s) (all_declared visibility.unfinished ns) r h)

-- a region once its last names have their meaning
settled_region : (c : Counts) (x : Settled) (s : Standing) (first : ℕ) (old hid new : List Declared) (ns : List Name) → settled_view x ≡ s → first ≡ length old →
    more old (all_declared visibility.unfinished ns) ≡ Some hid → new ≡ settled_from x c first hid → old ++ stand_from c s ns ≡ new
settled_region c x s first old hid new ns is size h e =
    sym (settled_hidden c x s old ns is)
    ∙ ap (λ n. settled_from x c n (old ++ all_declared visibility.unfinished ns)) (sym size)
    ∙ ap (settled_from x c first) (sym (more_is old (all_declared visibility.unfinished ns) hid h)) ∙ sym e

-- names that the code lends are hidden
pub hidden : (ds : List Declared) (xs ys : List Identifier) → xs ≡ ys → (r : List Declared) → more ds (all_declared visibility.unfinished (names_of (map ident_view xs))) ≡ Some r →
    more ds (all_declared visibility.unfinished (names_of (map ident_view ys))) ≡ Some r
hidden ds xs ys lent r h = ap (λ l. more ds (all_declared visibility.unfinished (names_of (map ident_view l)))) (sym lent) ∙ h

-- a declaration of names, once they have their meaning
pub settled_whole : {X B : Type 0} (region : Sight → List Declared) (with_region : Sight → List Declared → Sight) (s : Sight) (c : Counts) (ns : List Name) (standing : X → Standing) (a : X → List B)
    (o : Option X) (x : X) (y : Settled) (first : ℕ) (hid new : List Declared) (ys : List B) → settled_view y ≡ standing x → first ≡ length (region s) →
    more (region s) (all_declared visibility.unfinished ns) ≡ Some hid → o ≡ Some x → new ≡ settled_from y c first hid → a x ≡ ys →
    (declares_all c ns standing a o >>= enters region (λ s ds. with_region s (region s ++ ds)) s) ≡ Some (pair (with_region s new) ys)
settled_whole region with_region s c ns standing a o x y first hid new ys is size hides given settles made =
    known region (λ s ds. with_region s (region s ++ ds)) s c ns standing a hid hides o x given
    ∙ ap (λ r. Some (pair (with_region s r) (a x))) (settled_region c y (standing x) first (region s) hid new ns is size hides settles)
    ∙ ap (λ l. Some (pair (with_region s new) l)) made

-- a region that grows
grows_by : (es es' : List (Vec ℕ Global × Entry)) (ds : List Declared) → more (map entry_view es) ds ≡ Some (map entry_view es') → length es ≤ length es'
grows_by es es' ds h =
    let a = ap length (more_is (map entry_view es) ds (map entry_view es') h) in
    let b = length-append (map entry_view es) ds in
    let p = length-map es entry_view in
    let q = length-map es' entry_view in
    omega (arith, a, b, p, q)

pub first_within : (es es' : List (Vec ℕ Global × Entry)) (ds : List Declared) (first : ℕ) → more (map entry_view es) ds ≡ Some (map entry_view es') → first ≡ length es → first ≤ length es'
first_within es es' ds first h same =
    let grown = grows_by es es' ds h in
    omega (arith, grown, same)

-- one name more has its place
pub place_there : (es es' : List (Vec ℕ Global × Entry)) (d : Declared) (first : ℕ) → more (map entry_view es) (d ∷ []) ≡ Some (map entry_view es') → first ≡ length es → first < length es'
place_there es es' d first h same =
    let a = ap length (more_is (map entry_view es) (d ∷ []) (map entry_view es') h) in
    let b = length-append (map entry_view es) (d ∷ []) in
    let p = length-map es entry_view in
    let q = length-map es' entry_view in
    omega (arith, a, b, p, q, same)
