-- A file that breaks no rule is well typed (IEEE 1076-2008, 3.2, 3.3 and clause 13).
use Rattle.std.proofs.Common.{◌≡◌, ℕ, zero, suc, ◌+◌, Bool, true, false, not, ◌&&◌, ◌||◌, cond, List, [], ◌∷◌, ◌++◌, map, take, length, Option, Some, None, refl, ap, sym, ◌∙◌}
use Rattle.std.specs.Prelude.{bytes_eq, find, option_map, nat_eq}
use Rattle.std.specs.List.{slice_get, list_all, list_any, enumerate_from, cons_option}
use Rattle.std.proofs.lemmas.Bool.{and_from}
use Rattle.std.proofs.lemmas.List.{append_assoc, append-nil, map-append}
use Rattle.std.proofs.lemmas.List.Elements.{filter_map-append}
use Rattle.std.proofs.lemmas.Option.{slice_get-map}
use Rattle.std.proofs.lemmas.Slice.Eq.{bytes_eq-Decides}
use Rattle.vhdl_lexer.specs.declared.language.Language.{Language}
use Rattle.vhdl_tree.specs.Tree as t
use Rattle.vhdl_tree.specs.Tree.{File, DesignUnit, LibraryUnit, Ident}
use Rattle.vhdl_names_rules.specs.declared.fault.NameProblem.{NameProblem}
use Rattle.vhdl_names_rules.specs.declared.fault.NameProblem.TheVariants.{Undeclared, Twice, SecondArchitecture}
use Rattle.vhdl_names_rules.specs.Rules.{◌>>=◌, each, if_any}
use Rattle.vhdl_names_rules.specs.Visibility.{Name, is_among, are_distinct}
use Rattle.vhdl_names_rules.specs.Packages.{no_context}
use Rattle.vhdl_names_rules.specs.Interfaces.{EntityView, declared_names, entity_named}
use Rattle.vhdl_names_rules.specs.Files as are
use Rattle.vhdl_names_rules.specs.Files.{as_entity, as_architecture, entities_of, architectures_of, entity_names, described_names, stands_after, stand_after, architecture_of, viewed, unit, units_of}
use Rattle.vhdl_names_rules.specs.problems.Broken.{Broken, refused, nothing, any_of}
use Rattle.vhdl_names_rules.specs.problems.Declarations as declarations
use Rattle.vhdl_names_rules.specs.problems.Interfaces.{entity}
use Rattle.vhdl_names_rules.specs.problems.Files as broken
use Rattle.vhdl_names_rules.specs.problems.Files.{entities_given, is_hidden, up_to_hidden, mentions, described, name_of_unit}
use Rattle.vhdl_names_rules.proofs.laws.Rules.{both, comes, some_is, not_true}
use Rattle.vhdl_names_rules.proofs.laws.Once.{differs}
use Rattle.vhdl_names_laws.specs.Laws.{IllTypedFilesBreakARule}
use Rattle.vhdl_names_rules.proofs.Telling.{IsKept}
use Rattle.vhdl_names_rules.proofs.kept.Keeping.{among_left, among_right}
use Rattle.vhdl_names_rules.proofs.kept.Twice.{distinct_next}
use Rattle.vhdl_names_rules.proofs.kept.Files as kept
use Rattle.vhdl_names_rules.proofs.kept.Files.{NamedEntity, NamedArchitecture, view_names, entity_text, text, unit_of_entity, unit_of_architecture, take_front, length_next}
use Rattle.vhdl_names_laws.proofs.given.Giving.{IsGiven, this, bound, ruled, parts, holds, each_given, any_at}
use Rattle.vhdl_names_laws.proofs.given.Interfaces.{entity_given, interface_distinct}
use Rattle.vhdl_names_laws.proofs.given.Architectures.{architecture_given}

-- ---- lists

each_at_given : {A B : Type 0} (g : A → Option B) (xs : List A) → ((k : ℕ) (x : A) → slice_get xs k ≡ Some x → IsGiven (g x)) → IsGiven (each g xs)
each_at_given g [] one = this []
each_at_given g (x ∷ xs) one =
    let y = one 0 x refl in
    let ys = each_at_given g xs (λ k. one (suc k)) in
    bound (g x) (λ y. each g xs >>= λ ys. Some (y ∷ ys)) y.value y.is (bound (each g xs) (λ ys. Some (y.value ∷ ys)) ys.value ys.is (this (y.value ∷ ys.value)))

-- an architecture that is found is of the entity
record IsThere (as' : List NamedArchitecture) (n : Name) (a : NamedArchitecture) : Type 0 where
  place : ℕ
  at : slice_get as' place ≡ Some a
  named : n ≡ a.1.entity.text

is_there : (as' : List NamedArchitecture) (n : Name) (a : NamedArchitecture) → find (λ (a : NamedArchitecture). bytes_eq n a.1.entity.text) as' ≡ Some a → IsThere as' n a
is_there [] n a h = absurd cc
is_there (b ∷ as') n a h = go (bytes_eq n b.1.entity.text) refl h (is_there as' n a)
  where
    go : (t : Bool) → bytes_eq n b.1.entity.text ≡ t → cond t (Some b) (find (λ (a : NamedArchitecture). bytes_eq n a.1.entity.text) as') ≡ Some a
        → (find (λ (a : NamedArchitecture). bytes_eq n a.1.entity.text) as' ≡ Some a → IsThere as' n a) → IsThere (b ∷ as') n a
    go true is h more = record {
      place = 0;
      at = h;
      named = (bytes_eq-Decides n b.1.entity.text).0 is ∙ ap (λ (a : NamedArchitecture). a.1.entity.text) (some_is b a h);
    }
    go false is h more = let m = more h in record { place = suc m.place; at = m.at; named = m.named }

-- the one entity of a name is found
entity_found : (es : List EntityView) (m k : ℕ) (e : EntityView) (n : Name) → are_distinct (view_names es) ≡ true → slice_get es k ≡ Some e → n ≡ e.name
    → (j : ℕ) × (find (λ (e : ℕ × EntityView). bytes_eq n e.1.name) (enumerate_from m es) ≡ Some (j, e))
entity_found [] m k e n d at is = absurd cc
entity_found (f ∷ es) m zero e n d at is =
    let same : f ≡ e = some_is f e at in
    let test : bytes_eq n f.name ≡ true = (bytes_eq-Decides n f.name).1 (is ∙ ap (λ (e : EntityView). e.name) (sym same)) in
    (m, ap (λ t. cond t (Some (m, f)) (find (λ (e : ℕ × EntityView). bytes_eq n e.1.name) (enumerate_from (m + 1) es))) test ∙ ap (λ f. Some (m, f)) same)
entity_found (f ∷ es) m (suc k) e n d at is =
    go (bytes_eq n f.name) refl (entity_found es (m + 1) k e n (both (not (is_among f.name (view_names es))) (are_distinct (view_names es)) d).1 at is)
  where
    go : (t : Bool) → bytes_eq n f.name ≡ t → (j : ℕ) × (find (λ (e : ℕ × EntityView). bytes_eq n e.1.name) (enumerate_from (m + 1) es) ≡ Some (j, e))
        → (j : ℕ) × (cond t (Some (m, f)) (find (λ (e : ℕ × EntityView). bytes_eq n e.1.name) (enumerate_from (m + 1) es)) ≡ Some (j, e))
    go true test more =
        let there : slice_get (view_names es) k ≡ Some e.name = slice_get-map (λ (e : EntityView). e.name) es k ∙ ap (option_map (λ (e : EntityView). e.name)) at in
        absurd (differs f.name e.name (view_names es) k d there (sym ((bytes_eq-Decides n f.name).0 test) ∙ is))
    go false test more = more

-- ---- the names of units

-- what the name of a unit keeps, behind those before it
record IsNamed (before : List DesignUnit) (d : DesignUnit) : Type 0 where
  once : are_distinct (entity_names (before ++ d ∷ [])) ≡ true
  single : are_distinct (described_names (before ++ d ∷ [])) ≡ true
  after : list_all (λ n. is_among n (entity_names before)) (described_names (d ∷ [])) ≡ true

no_entity : (d : DesignUnit) (a : t.Architecture) → d.unit ≡ t.architecture a → as_entity d ≡ None
no_entity d a is = ap (λ u. as_entity (record { context = d.context; unit = u })) is

no_architecture : (d : DesignUnit) (e : t.Entity) → d.unit ≡ t.LibraryUnit.entity e → as_architecture d ≡ None
no_architecture d e is = ap (λ u. as_architecture (record { context = d.context; unit = u })) is

-- the names of entities, with one more unit
entity_names_next : (before : List DesignUnit) (d : DesignUnit) (o : Option NamedEntity) → as_entity d ≡ o
    → entity_names (before ++ d ∷ []) ≡ entity_names before ++ map entity_text (cons_option o [])
entity_names_next before d o is =
    ap (map entity_text) (filter_map-append as_entity before (d ∷ [])) ∙ map-append entity_text (entities_of before) (entities_of (d ∷ []))
    ∙ ap (λ o. entity_names before ++ map entity_text (cons_option o [])) is

described_names_next : (before : List DesignUnit) (d : DesignUnit) (o : Option NamedArchitecture) → as_architecture d ≡ o
    → described_names (before ++ d ∷ []) ≡ described_names before ++ map text (cons_option o [])
described_names_next before d o is =
    ap (map text) (filter_map-append as_architecture before (d ∷ [])) ∙ map-append text (architectures_of before) (architectures_of (d ∷ []))
    ∙ ap (λ o. described_names before ++ map text (cons_option o [])) is

unit_named : (before : List DesignUnit) (d : DesignUnit) (unit : LibraryUnit) → d.unit ≡ unit → are_distinct (entity_names before) ≡ true
    → are_distinct (described_names before) ≡ true → IsKept (name_of_unit before unit) → IsNamed before d
unit_named before d (t.LibraryUnit.entity e) is once single h =
    let new = not_true (is_among e.name.text (entity_names before)) (holds Twice e.name.at (not (is_among e.name.text (entity_names before))) h) in
    record {
      once =
          ap are_distinct (entity_names_next before d (Some (d.context, e)) (unit_of_entity d e is)) ∙ distinct_next (entity_names before) e.name.text once new;
      single = ap are_distinct (described_names_next before d None (no_architecture d e is) ∙ append-nil (described_names before)) ∙ single;
      after = ap (λ o. list_all (λ n. is_among n (entity_names before)) (map text (cons_option o []))) (no_architecture d e is);
    }
unit_named before d (t.architecture a) is once single h =
    let k = parts _ _ h in
    let among = holds Undeclared a.entity.at (is_among a.entity.text (entity_names before)) k.0 in
    let new = not_true (is_among a.entity.text (described_names before)) (holds SecondArchitecture a.entity.at (not (is_among a.entity.text (described_names before))) k.1) in
    record {
      once = ap are_distinct (entity_names_next before d None (no_entity d a is) ∙ append-nil (entity_names before)) ∙ once;
      single =
          ap are_distinct (described_names_next before d (Some (d.context, a)) (unit_of_architecture d a is))
          ∙ distinct_next (described_names before) a.entity.text single new;
      after =
          ap (λ o. list_all (λ n. is_among n (entity_names before)) (map text (cons_option o []))) (unit_of_architecture d a is)
          ∙ and_from (is_among a.entity.text (entity_names before)) true among refl;
    }

record AreNamed (all : List DesignUnit) (n : ℕ) (ds : List DesignUnit) : Type 0 where
  once : are_distinct (entity_names all) ≡ true
  single : are_distinct (described_names all) ≡ true
  after : list_all (stands_after all) (enumerate_from n ds) ≡ true

names_given : (ds before all : List DesignUnit) (n : ℕ) → before ++ ds ≡ all → length before ≡ n → are_distinct (entity_names before) ≡ true
    → are_distinct (described_names before) ≡ true → IsKept (broken.names before ds) → AreNamed all n ds
names_given [] before all n is long once single h = record {
  once = ap (λ ds. are_distinct (entity_names ds)) (sym is ∙ append-nil before) ∙ once;
  single = ap (λ ds. are_distinct (described_names ds)) (sym is ∙ append-nil before) ∙ single;
  after = refl;
}
names_given (d ∷ ds) before all n is long once single h =
    let k = parts _ _ h in
    let u = unit_named before d d.unit refl once single k.0 in
    let rest = names_given ds (before ++ d ∷ []) all (n + 1) (append_assoc before (d ∷ []) ds ∙ is) (length_next before d ∙ ap (λ n. n + 1) long) u.once u.single k.1 in
    let front : take n all ≡ before = ap (λ n. take n all) (sym long) ∙ ap (take (length before)) (sym is) ∙ take_front before (d ∷ ds) in
    record {
      once = rest.once;
      single = rest.single;
      after =
          and_from (stands_after all (n, d)) (list_all (stands_after all) (enumerate_from (n + 1) ds))
          (ap (λ ds. list_all (λ n. is_among n (entity_names ds)) (described_names (d ∷ []))) front ∙ u.after) rest.after;
    }

-- ---- files

-- where nothing is hidden nothing is left out
none_hidden : (hidden : Name → Bool) (at : ℕ) (is : List Ident) → ((n : Name) → hidden n ≡ false) → list_any (λ i. nat_eq i.at at && hidden i.text) is ≡ false
none_hidden hidden at [] none = refl
none_hidden hidden at (i ∷ is) none =
    ap (λ t. (nat_eq i.at at && t) || list_any (λ i. nat_eq i.at at && hidden i.text) is) (none i.text)
    ∙ go (nat_eq i.at at) (none_hidden hidden at is none)
  where
    go : (t : Bool) → list_any (λ i. nat_eq i.at at && hidden i.text) is ≡ false → ((t && false) || list_any (λ i. nat_eq i.at at && hidden i.text) is) ≡ false
    go true h = h
    go false h = h

up_to_none : (hidden : Name → Bool) (a : t.Architecture) (b : Broken) → ((n : Name) → hidden n ≡ false) → IsKept (up_to_hidden hidden a b) → IsKept b
up_to_none hidden a None none h = refl
up_to_none hidden a (Some (Undeclared, at)) none h =
    let e : refused Undeclared at ≡ nothing =
    ap (λ t. cond t nothing (refused Undeclared at)) (sym (none_hidden hidden at (mentions a) none)) ∙ h in
    absurd cc
up_to_none hidden a (Some (p, at)) none h = absurd cc

-- all entities are given
not_hidden : (ns : List Name) (entities : List EntityView) → view_names entities ≡ ns → (n : Name) → is_hidden ns entities n ≡ false
not_hidden ns entities same n = ap (λ ms. is_among n ns && not (is_among n ms)) same ∙ go (is_among n ns)
  where
    go : (t : Bool) → (t && not t) ≡ false
    go true = refl
    go false = refl

-- what is described of an entity that is named
described_as : (language : Language) (ns : List Name) (entities : List EntityView) (a : NamedArchitecture) (k : ℕ) (e : EntityView) → view_names entities ≡ ns
    → entity_named entities a.1.entity.text ≡ Some (k, e) → IsKept (described language ns entities a) → IsKept (broken.architecture entities e a.0 a.1)
described_as language ns entities (items, a) k e same is h = up_to_none (is_hidden ns entities) a (broken.architecture entities e items a) (not_hidden ns entities same) (ap by (sym is) ∙ h)
  where
    by : Option (ℕ × EntityView) → Broken
    by None = declarations.context (record (no_context language) { has_ieee = true }) items
    by (Some (k, e)) = up_to_hidden (is_hidden ns entities) a (broken.architecture entities e items a)

-- what each of several things gives has what each of them gives it
each_has : {A B : Type 0} (P : B → Type 0) (f : A → Option B) → ((x : A) (y : B) → f x ≡ Some y → P y) → (xs : List A) (ys : List B) (k : ℕ) (y : B)
    → each f xs ≡ Some ys → slice_get ys k ≡ Some y → P y
each_has P f one [] ys k y h at =
    let none : None ≡ Some y = ap (λ ys. slice_get ys k) (some_is [] ys h) ∙ at in
    absurd cc
each_has P f one (x ∷ xs) ys zero y h at =
    let c = comes (f x) _ ys h in
    let d = comes (each f xs) _ ys c.rest in
    let same : c.value ≡ y = some_is c.value y (ap (λ ys. slice_get ys 0) (some_is (c.value ∷ d.value) ys d.rest) ∙ at) in
    one x y (c.is ∙ ap Some same)
each_has P f one (x ∷ xs) ys (suc k) y h at =
    let c = comes (f x) _ ys h in
    let d = comes (each f xs) _ ys c.rest in
    each_has P f one xs d.value k y d.is (ap (λ ys. slice_get ys (suc k)) (some_is (c.value ∷ d.value) ys d.rest) ∙ at)

module _ (language : Language) (ds : List DesignUnit) (entities : List EntityView) (same : view_names entities ≡ entity_names ds) (distinct : are_distinct (view_names entities) ≡ true)
    (own : (k : ℕ) (e : EntityView) → slice_get entities k ≡ Some e → are_distinct (declared_names e.interface.declared) ≡ true)
    (whole : IsKept (any_of (described language (entity_names ds) entities) (architectures_of ds))) where
  unit_given : (k : ℕ) (e : EntityView) → slice_get entities k ≡ Some e → IsGiven (unit entities ds e)
  unfolding unit
  unit_given k e at = let y = go (architecture_of e.name ds) refl in bound (if_any (λ (p : NamedArchitecture). are.architecture entities e p.0 p.1) (architecture_of e.name ds)) _ y.value y.is (this _)
    where
      go : (o : Option NamedArchitecture) → architecture_of e.name ds ≡ o → IsGiven (if_any (λ (p : NamedArchitecture). are.architecture entities e p.0 p.1) o)
      go None is = this None
      go (Some a) is =
          let there = is_there (architectures_of ds) e.name a is in
          let found = entity_found entities 0 k e a.1.entity.text distinct at (sym there.named) in
          let h = any_at (described language (entity_names ds) entities) (architectures_of ds) there.place a whole there.at in
          let x = architecture_given entities e a.0 a.1 (own k e at) (described_as language (entity_names ds) entities a found.0 e same found.1 h) in
          bound (are.architecture entities e a.0 a.1) (λ x. Some (Some x)) x.value x.is (this (Some x.value))

file_given : (language : Language) (f : File) → IsKept (broken.file language f) → IsGiven (units_of language f)
unfolding units_of
file_given language f h =
    let ds : List DesignUnit = f.units in
    let inner : Broken = any_of (λ (e : NamedEntity). entity language e.0 e.1) (entities_of ds) in
    let last : Broken = any_of (described language (entity_names ds) (entities_given language ds)) (architectures_of ds) in
    let rest = among_right (broken.names [] ds) _ h in
    let n = names_given ds [] ds 0 refl refl refl refl (among_left (broken.names [] ds) _ h) in
    let views = each_given (λ (e : NamedEntity). entity language e.0 e.1) (viewed language ds) (λ e h. entity_given language e.0 e.1 _ h) (entities_of ds) (among_left inner last rest) in
    let same = kept.names language ds views.value n.once n.after views.is in
    let whole : IsKept (any_of (described language (entity_names ds) views.value) (architectures_of ds)) =
    ap (λ es. any_of (described language (entity_names ds) es) (architectures_of ds)) (sym (kept.entities_are language ds views.value n.once n.after views.is)) ∙ among_right inner last rest in
    let own : (k : ℕ) (e : EntityView) → slice_get views.value k ≡ Some e → are_distinct (declared_names e.interface.declared) ≡ true =
    λ k e at. each_has (λ (e : EntityView). are_distinct (declared_names e.interface.declared) ≡ true) (viewed language ds) (λ x v h. interface_distinct language x.0 x.1 _ v h) (entities_of ds) views.value k e views.is at in
    ruled (are_distinct (entity_names ds)) _ n.once
    (ruled (are_distinct (described_names ds)) _ n.single
    (ruled (stand_after ds) _ n.after
    (bound (each (viewed language ds) (entities_of ds)) (λ es. each (unit es ds) es) views.value views.is
    (each_at_given (unit views.value ds) views.value (unit_given language ds views.value same (ap are_distinct same ∙ n.once) own whole)))))

-- ---- a rule that is broken

pub ill_typed_files_break_a_rule : IllTypedFilesBreakARule
ill_typed_files_break_a_rule language f none = go (broken.file language f) refl
  where
    go : (b : Broken) → broken.file language f ≡ b → (p : NameProblem) × (at : ℕ) × (broken.file language f ≡ Some (p, at))
    go None is =
        let g = file_given language f is in
        let e : None ≡ Some g.value = sym none ∙ g.is in
        absurd cc
    go (Some (p, at)) is = (p, at, is)
