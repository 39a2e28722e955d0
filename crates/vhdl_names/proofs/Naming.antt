-- The names of a file's units one after another, and the first that is at fault.
use Rattle.std.proofs.Common.{◌≡◌, Bool, true, false, not, List, [], ◌∷◌, ◌++◌, map, Option, Some, Result, Ok, Err, IfOk, IfErr, refl, ap, sym, ◌∙◌, append_assoc, append-nil}
use Rattle.vhdl_tree.specs.Tree as t
use Rattle.vhdl_tree.specs.Tree.{ContextItem, DesignUnit, LibraryUnit}
use Rattle.vhdl_names_rules.specs.declared.fault.NameFault.{NameFault}
use Rattle.vhdl_names_rules.specs.declared.fault.NameFault.TheVariants.{At, NoMemory}
use Rattle.vhdl_names_rules.specs.declared.fault.NameProblem.TheVariants.{Undeclared, Twice, SecondArchitecture}
use Rattle.vhdl_names_rules.specs.Rules.{◌>>=◌, then_some}
use Rattle.vhdl_names_rules.specs.Gives.{Gives}
use Rattle.vhdl_names_rules.specs.Visibility.{is_among, are_distinct}
use Rattle.vhdl_names_rules.specs.Files.{entity_names, described_names, architectures_of, stand_after}
use Rattle.vhdl_names_rules.proofs.laws.Rules.{comes, kept, some_is}
use Rattle.vhdl_names_units.specs.Lists.{in_turn}
use Rattle.vhdl_names_rules.specs.problems.Broken.{Tells, ◌▸◌, unless}
use Rattle.vhdl_names_rules.specs.problems.Files.{name_of_unit, names}
use Rattle.vhdl_names_rules.proofs.Telling.{IsKept, both_kept, behind_kept, unless_kept, told_left, told_same}
use Rattle.vhdl_names.specs.Breaking.{one_unit}
use Rattle.vhdl_names.specs.Finding.{Finds, first_of}
use Rattle.vhdl_names.specs.Views.{OutlineView}
use Rattle.vhdl_names.specs.steps.Outlines.{keyed, names_of, one_described, with_unit, no_outline, outline_of, outlined}
use Rattle.vhdl_names.proofs.Outlining.{outlined_in_turn}

pub then_is : {A : Type 0} (b : Bool) (x y : A) → then_some b x ≡ Some y → y ≡ x
then_is true x y h = sym (some_is x y h)
then_is false x y h = cc

-- ---- one more unit

names_keyed : (as' : List (List ContextItem × t.Architecture)) → names_of (map keyed as') ≡ map (λ (a : List ContextItem × t.Architecture). a.1.entity.text) as'
names_keyed [] = refl
names_keyed (a ∷ as') = ap (λ ns. a.1.entity.text ∷ ns) (names_keyed as')

-- behind these units
same_name : (before : List DesignUnit) (o : OutlineView) → outline_of before ≡ o → (y : LibraryUnit) → one_unit o y ≡ name_of_unit before y
same_name before o h (t.LibraryUnit.entity e) = ap (λ (o : OutlineView). one_unit o (t.LibraryUnit.entity e)) (sym h)
same_name before o h (t.architecture a) =
    ap (λ (o : OutlineView). one_unit o (t.architecture a)) (sym h)
    ∙ ap (λ ns. unless Undeclared a.entity.at (is_among a.entity.text (entity_names before)) ▸ unless SecondArchitecture a.entity.at (not (is_among a.entity.text ns)))
    (names_keyed (architectures_of before))

then_true : {A B : Type 0} (b : Bool) (x : A) (f : A → Option B) (y : B) → (then_some b x >>= f) ≡ Some y → b ≡ true
then_true true x f y h = refl
then_true false x f y h = cc

-- one that is gathered breaks no rule
unit_kept : (o : OutlineView) (items : List ContextItem) (y : LibraryUnit) (p : OutlineView) → with_unit o (record { context = items; unit = y }) ≡ Some p → IsKept (one_unit o y)
unit_kept o items (t.LibraryUnit.entity e) p h =
    unless_kept Twice e.name.at (not (is_among e.name.text o.entities)) (then_true (not (is_among e.name.text o.entities)) (o.entities ++ e.name.text ∷ []) _ p h)
unit_kept o items (t.architecture a) p h =
    let k = kept (is_among a.entity.text o.entities) (one_described o.architectures (items, a) >>= λ l. let p : Option OutlineView = Some (record o { architectures = l }) in p) p h in
    both_kept (unless Undeclared a.entity.at (is_among a.entity.text o.entities)) (unless SecondArchitecture a.entity.at (not (is_among a.entity.text (names_of o.architectures))))
    (unless_kept Undeclared a.entity.at (is_among a.entity.text o.entities) k.0)
    (unless_kept SecondArchitecture a.entity.at (not (is_among a.entity.text (names_of o.architectures)))
    (then_true (not (is_among a.entity.text (names_of o.architectures))) (o.architectures ++ keyed (items, a) ∷ []) _ p k.1))

-- ---- unit by unit

turned_more : {A B : Type 0} (f : A → B → Option A) (x : A) (ys : List B) (y : B) (u v : A) → in_turn f x ys ≡ Some u → f u y ≡ Some v → in_turn f x (ys ++ y ∷ []) ≡ Some v
turned_more f x [] y u v h k = ap (λ z. f z y >>= λ w. Some w) (some_is x u h) ∙ ap (λ o. o >>= λ w. Some w) k
turned_more f x (z ∷ ys) y u v h k =
    let c = comes (f x z) (λ w. in_turn f w ys) u h in
    ap (λ o. o >>= λ w. in_turn f w (ys ++ y ∷ [])) c.is ∙ turned_more f c.value ys y u v c.rest k

-- the names that are gathered of the units before the rest, where none of them is at fault
pub record SoFar (ds : List DesignUnit) (o : OutlineView) (rest : List DesignUnit) : Type 0 where
  pub before : List DesignUnit
  pub units : before ++ rest ≡ ds
  pub gathered : in_turn with_unit no_outline before ≡ Some o
  pub left : names [] ds ≡ names before rest

-- or else the first that is
abbrev pub Named : List DesignUnit → OutlineView → Result (Unit {0}) NameFault → List DesignUnit → Type 0
Named ds o (Ok u) rest = SoFar ds o rest
Named ds o (Err f) rest = Tells (names [] ds) f

-- the whole of what is gathered
is_whole : (before : List DesignUnit) (o : OutlineView) → outlined before ≡ Some o → outline_of before ≡ o
is_whole before o h =
    let a = kept (are_distinct (entity_names before)) _ o h in
    let b = kept (are_distinct (described_names before)) _ o a.1 in
    let c = kept (stand_after before) (Some (outline_of before)) o b.1 in
    some_is (outline_of before) o c.1

module _ (ds : List DesignUnit) (o : OutlineView) (items : List ContextItem) (rest : List DesignUnit) where
  abbrev of_unit : LibraryUnit → DesignUnit
  of_unit y = record { context = items; unit = y }

  same : (y : LibraryUnit) (x : SoFar ds o (of_unit y ∷ rest)) → one_unit o y ≡ name_of_unit x.before y
  same y x = same_name x.before o (is_whole x.before o (outlined_in_turn x.before ∙ x.gathered)) y

  pub next_named : (y : LibraryUnit) (told r : Result (Unit {0}) NameFault) (p : OutlineView) → Named ds o told (of_unit y ∷ rest)
      → Gives (λ _. p) (with_unit o (of_unit y)) r → IfErr r (Tells (one_unit o y)) → Named ds p (first_of told r) rest
  next_named y (Ok u) (Ok v) p x g t = record {
    before = x.before ++ of_unit y ∷ [];
    units = append_assoc x.before (of_unit y ∷ []) rest ∙ x.units;
    gathered = turned_more with_unit no_outline x.before (of_unit y) o p x.gathered g;
    left = x.left ∙ behind_kept (name_of_unit x.before y) (names (x.before ++ of_unit y ∷ []) rest) (sym (same y x) ∙ unit_kept o items y p g);
  }
  next_named y (Ok u) (Err f) p x g t =
      told_same (names x.before (of_unit y ∷ rest)) (names [] ds) f (sym x.left)
      (told_left (name_of_unit x.before y) (names (x.before ++ of_unit y ∷ []) rest) f (told_same (one_unit o y) (name_of_unit x.before y) f (same y x) t))
  next_named y (Err NoMemory) r p x g t = tt
  next_named y (Err (At q at)) (Ok v) p x g t = x
  next_named y (Err (At q at)) (Err NoMemory) p x g t = tt
  next_named y (Err (At q at)) (Err (At r place)) p x g t = x

-- ---- behind all of them

all_units : (ds : List DesignUnit) (o : OutlineView) (x : SoFar ds o []) → x.before ≡ ds
all_units ds o x = sym (append-nil x.before) ∙ x.units

pub names_found : (ds : List DesignUnit) (o : OutlineView) (told : Result (Unit {0}) NameFault) → Named ds o told [] → Finds (names [] ds) told
names_found ds o (Ok u) x = x.left
names_found ds o (Err f) x = x

pub names_given : (ds : List DesignUnit) (o : OutlineView) (told : Result (Unit {0}) NameFault) → Named ds o told [] → IfOk told (λ _. outlined ds ≡ Some o)
names_given ds o (Ok u) x = ap outlined (sym (all_units ds o x)) ∙ outlined_in_turn x.before ∙ x.gathered
names_given ds o (Err f) x = tt
