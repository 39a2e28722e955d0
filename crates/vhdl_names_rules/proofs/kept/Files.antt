-- A well-typed file breaks no rule (IEEE 1076-2008, 3.2, 3.3 and clause 13).
use Rattle.std.proofs.Common.{◌≡◌, ℕ, zero, suc, ◌+◌, Bool, true, false, not, ◌||◌, cond, List, [], ◌∷◌, ◌++◌, map, take, length, Option, Some, None, refl, ap, sym, ◌∙◌, arith}
use Rattle.std.specs.Prelude.{bytes_eq, find, option_map}
use Rattle.std.specs.List.{slice_get, list_all, enumerate_from, filter_map, cons_option, flat_map}
use Rattle.std.proofs.lemmas.Bool.{and_parts, and_from}
use Rattle.std.proofs.lemmas.List.{append_assoc, append-nil, map-append}
use Rattle.std.proofs.lemmas.List.Elements.{filter_map-append}
use Rattle.std.proofs.lemmas.Option.{slice_get-map}
use Rattle.std.proofs.lemmas.Slice.Eq.{bytes_eq-Decides}
use Rattle.vhdl_lexer.specs.declared.language.Language.{Language}
use Rattle.vhdl_tree.specs.Tree as t
use Rattle.vhdl_tree.specs.Tree.{File, DesignUnit, LibraryUnit, ContextItem}
use Rattle.vhdl_names_rules.specs.declared.fault.NameProblem.TheVariants.{Undeclared, Twice, SecondArchitecture}
use Rattle.vhdl_names_rules.specs.units.Units as u
use Rattle.vhdl_names_rules.specs.Rules.{each, if_any}
use Rattle.vhdl_names_rules.specs.Visibility.{Name, is_among, are_distinct}
use Rattle.vhdl_names_rules.specs.Packages.{no_context}
use Rattle.vhdl_names_rules.specs.Interfaces as interfaces
use Rattle.vhdl_names_rules.specs.Interfaces.{EntityView}
use Rattle.vhdl_names_rules.specs.Files as are
use Rattle.vhdl_names_rules.specs.Files.{as_entity, as_architecture, entities_of, architectures_of, entity_names, described_names, stands_after, stand_after, architecture_of, viewed, unit, units_of}
use Rattle.vhdl_names_rules.specs.problems.Broken.{Broken, any_of}
use Rattle.vhdl_names_rules.specs.problems.Declarations as declarations
use Rattle.vhdl_names_rules.specs.problems.Interfaces.{entity}
use Rattle.vhdl_names_rules.specs.problems.Files as broken
use Rattle.vhdl_names_rules.specs.problems.Files.{with_entities, entities_given, is_hidden, up_to_hidden, described, name_of_unit}
use Rattle.vhdl_names_rules.proofs.laws.Rules.{comes, both, some_is, each_passes, each_keeps, made}
use Rattle.vhdl_names_rules.proofs.laws.Parts.{entity_name, file_parts}
use Rattle.vhdl_names_rules.proofs.laws.Once.{differs}
use Rattle.vhdl_names_rules.proofs.Telling.{IsKept, both_kept, unless_kept}
use Rattle.vhdl_names_rules.proofs.kept.Keeping.{nothing_kept, each_kept, at_each_kept, among_kept}
use Rattle.vhdl_names_rules.proofs.kept.Twice.{apart}
use Rattle.vhdl_names_rules.proofs.kept.Covered.{each_given}
use Rattle.vhdl_names_rules.proofs.kept.Interfaces.{entity_kept}
use Rattle.vhdl_names_rules.proofs.kept.Architectures.{architecture_kept}

abbrev pub NamedEntity : Type 0
NamedEntity = List ContextItem × t.Entity

abbrev pub NamedArchitecture : Type 0
NamedArchitecture = List ContextItem × t.Architecture

abbrev pub entity_text : NamedEntity → Name
entity_text e = e.1.name.text

abbrev pub text : NamedArchitecture → Name
text a = a.1.entity.text

-- ---- architectures that stand after their entities

pub one_behind : {A : Type 0} (o : Option A) (xs : List A) → cons_option o [] ++ xs ≡ cons_option o xs
one_behind None xs = refl
one_behind (Some x) xs = refl

pub all_placed : (ds rest : List DesignUnit) (n : ℕ) → list_all (stands_after ds) (enumerate_from n rest) ≡ true
    → flat_map (λ (d : ℕ × DesignUnit). cond (stands_after ds d) (architectures_of (d.1 ∷ [])) []) (enumerate_from n rest) ≡ architectures_of rest
all_placed ds [] n h = refl
all_placed ds (d ∷ rest) n h =
    let a = and_parts (stands_after ds (n, d)) (list_all (stands_after ds) (enumerate_from (n + 1) rest)) h in
    ap (λ t. cond t (architectures_of (d ∷ [])) [] ++ flat_map (λ (d : ℕ × DesignUnit). cond (stands_after ds d) (architectures_of (d.1 ∷ [])) []) (enumerate_from (n + 1) rest)) a.0
    ∙ ap (λ as'. architectures_of (d ∷ []) ++ as') (all_placed ds rest (n + 1) a.1)
    ∙ one_behind (as_architecture d) (architectures_of rest)

-- each is of an entity of the file
among_taken : (n : Name) (ds : List DesignUnit) (k : ℕ) → is_among n (entity_names (take k ds)) ≡ true → is_among n (entity_names ds) ≡ true
among_taken n ds zero h = absurd cc
among_taken n [] (suc k) h = absurd cc
among_taken n (d ∷ ds) (suc k) h = go (as_entity d) (among_taken n ds k) h
  where
    go : (o : Option (List ContextItem × t.Entity)) → (is_among n (entity_names (take k ds)) ≡ true → is_among n (entity_names ds) ≡ true)
        → is_among n (map entity_text (cons_option o (entities_of (take k ds)))) ≡ true → is_among n (map entity_text (cons_option o (entities_of ds))) ≡ true
    go None more h = more h
    go (Some e) more h = here (bytes_eq n (entity_text e)) more h
      where
        here : (b : Bool) → (is_among n (entity_names (take k ds)) ≡ true → is_among n (entity_names ds) ≡ true)
            → (b || is_among n (entity_names (take k ds))) ≡ true → (b || is_among n (entity_names ds)) ≡ true
        here true more h = refl
        here false more h = more h

all_among : (ds : List DesignUnit) (k : ℕ) (ns : List Name) → list_all (λ n. is_among n (entity_names (take k ds))) ns ≡ true → list_all (λ n. is_among n (entity_names ds)) ns ≡ true
all_among ds k [] h = refl
all_among ds k (n ∷ ns) h =
    let a = and_parts (is_among n (entity_names (take k ds))) (list_all (λ n. is_among n (entity_names (take k ds))) ns) h in
    and_from (is_among n (entity_names ds)) (list_all (λ n. is_among n (entity_names ds)) ns) (among_taken n ds k a.0) (all_among ds k ns a.1)

pub described_among : (ds rest : List DesignUnit) (n : ℕ) → list_all (stands_after ds) (enumerate_from n rest) ≡ true
    → list_all (λ m. is_among m (entity_names ds)) (described_names rest) ≡ true
described_among ds [] n h = refl
described_among ds (d ∷ rest) n h = go (as_architecture d) (all_among ds n (described_names (d ∷ [])) a.0) (described_among ds rest (n + 1) a.1)
  where
    a : (stands_after ds (n, d) ≡ true) × (list_all (stands_after ds) (enumerate_from (n + 1) rest) ≡ true)
    a = and_parts (stands_after ds (n, d)) (list_all (stands_after ds) (enumerate_from (n + 1) rest)) h

    go : (o : Option NamedArchitecture) → list_all (λ m. is_among m (entity_names ds)) (map text (cons_option o [])) ≡ true
        → list_all (λ m. is_among m (entity_names ds)) (described_names rest) ≡ true
        → list_all (λ m. is_among m (entity_names ds)) (map text (cons_option o (architectures_of rest))) ≡ true
    go None one more = more
    go (Some x) one more =
        and_from (is_among (text x) (entity_names ds)) (list_all (λ m. is_among m (entity_names ds)) (described_names rest))
        (and_parts (is_among (text x) (entity_names ds)) true one).0 more

-- ---- entities

abbrev pub view_names : List EntityView → List Name
view_names = map (λ (e : EntityView). e.name)

-- entities of names of their own are all taken
pub all_entities : (ds es : List EntityView) → are_distinct (view_names es ++ view_names ds) ≡ true → with_entities es ds ≡ es ++ ds
all_entities [] es h = sym (append-nil es)
all_entities (d ∷ ds) es h =
    let names : view_names (es ++ d ∷ []) ++ view_names ds ≡ view_names es ++ d.name ∷ view_names ds =
    ap (λ ns. ns ++ view_names ds) (map-append (λ (e : EntityView). e.name) es (d ∷ [])) ∙ append_assoc (view_names es) (d.name ∷ []) (view_names ds) in
    ap (λ t. cond t (with_entities es ds) (with_entities (es ++ d ∷ []) ds)) (apart (view_names es) d.name (view_names ds) h)
    ∙ all_entities ds (es ++ d ∷ []) (ap are_distinct names ∙ h) ∙ append_assoc es (d ∷ []) ds

-- the entity of a name is found
pub record IsFound (es : List EntityView) (n : Name) (m : ℕ) : Type 0 where
  pub number : ℕ
  pub view : EntityView
  pub place : ℕ
  pub found : find (λ (e : ℕ × EntityView). bytes_eq n e.1.name) (enumerate_from m es) ≡ Some (number, view)
  pub at : slice_get es place ≡ Some view
  pub named : view.name ≡ n

pub is_found : (es : List EntityView) (n : Name) (m : ℕ) → is_among n (view_names es) ≡ true → IsFound es n m
is_found [] n m h = absurd cc
is_found (e ∷ es) n m h = go (bytes_eq n e.name) refl h (is_found es n (m + 1))
  where
    go : (b : Bool) → bytes_eq n e.name ≡ b → (b || is_among n (view_names es)) ≡ true → (is_among n (view_names es) ≡ true → IsFound es n (m + 1)) → IsFound (e ∷ es) n m
    go true is h more = record {
      number = m;
      view = e;
      place = 0;
      found =
          ap (λ t. cond t (Some (m, e)) (find (λ (e : ℕ × EntityView). bytes_eq n e.1.name) (enumerate_from (m + 1) es))) is;
      at = refl;
      named = sym ((bytes_eq-Decides n e.name).0 is);
    }
    go false is h more =
        let r = more h in
        record {
          number = r.number;
          view = r.view;
          place = suc r.place;
          found =
              ap (λ t. cond t (Some (m, e)) (find (λ (e : ℕ × EntityView). bytes_eq n e.1.name) (enumerate_from (m + 1) es))) is ∙ r.found;
          at = r.at;
          named = r.named;
        }

-- ---- the one architecture of an entity

pub architecture_found : (as' : List NamedArchitecture) (k : ℕ) (a : NamedArchitecture) (n : Name) → are_distinct (map (λ (a : NamedArchitecture). a.1.entity.text) as') ≡ true
    → slice_get as' k ≡ Some a → n ≡ a.1.entity.text → find (λ (a : NamedArchitecture). bytes_eq n a.1.entity.text) as' ≡ Some a
architecture_found [] k a n e p h = absurd cc
architecture_found (b ∷ as') zero a n e p h =
    let same : b ≡ a = some_is b a p in
    ap (λ t. cond t (Some b) (find (λ (a : NamedArchitecture). bytes_eq n a.1.entity.text) as'))
    ((bytes_eq-Decides n b.1.entity.text).1 (h ∙ ap (λ (a : NamedArchitecture). a.1.entity.text) (sym same))) ∙ p
architecture_found (b ∷ as') (suc k) a n e p h = go (bytes_eq n b.1.entity.text) refl (architecture_found as' k a n d.1 p h)
  where
    d : (not (is_among (text b) (map text as')) ≡ true) × (are_distinct (map text as') ≡ true)
    d = both (not (is_among (text b) (map text as'))) (are_distinct (map text as')) e

    go : (t : Bool) → bytes_eq n b.1.entity.text ≡ t → find (λ (a : NamedArchitecture). bytes_eq n a.1.entity.text) as' ≡ Some a
        → cond t (Some b) (find (λ (a : NamedArchitecture). bytes_eq n a.1.entity.text) as') ≡ Some a
    go true is more =
        let at : slice_get (map text as') k ≡ Some (text a) = slice_get-map text as' k ∙ ap (option_map text) p in
        absurd (differs (text b) (text a) (map text as') k e at (sym ((bytes_eq-Decides n (text b)).0 is) ∙ h))
    go false is more = more

-- ---- the names of units

pub unit_of_entity : (d : DesignUnit) (e : t.Entity) → d.unit ≡ t.LibraryUnit.entity e → as_entity d ≡ Some (d.context, e)
unit_of_entity d e is = ap (λ u. as_entity (record { context = d.context; unit = u })) is

pub unit_of_architecture : (d : DesignUnit) (a : t.Architecture) → d.unit ≡ t.architecture a → as_architecture d ≡ Some (d.context, a)
unit_of_architecture d a is = ap (λ u. as_architecture (record { context = d.context; unit = u })) is

-- the names of entities, where one stands among the units
pub entity_names_at : (before ds : List DesignUnit) (d : DesignUnit) (e : NamedEntity) → as_entity d ≡ Some e
    → entity_names (before ++ d ∷ ds) ≡ entity_names before ++ entity_text e ∷ entity_names ds
entity_names_at before ds d e is =
    ap (map entity_text) (filter_map-append as_entity before (d ∷ ds)) ∙ map-append entity_text (entities_of before) (entities_of (d ∷ ds))
    ∙ ap (λ o. entity_names before ++ map entity_text (cons_option o (entities_of ds))) is

pub described_names_at : (before ds : List DesignUnit) (d : DesignUnit) (a : NamedArchitecture) → as_architecture d ≡ Some a
    → described_names (before ++ d ∷ ds) ≡ described_names before ++ text a ∷ described_names ds
described_names_at before ds d a is =
    ap (map text) (filter_map-append as_architecture before (d ∷ ds)) ∙ map-append text (architectures_of before) (architectures_of (d ∷ ds))
    ∙ ap (λ o. described_names before ++ map text (cons_option o (architectures_of ds))) is

pub take_front : {A : Type 0} (xs ys : List A) → take (length xs) (xs ++ ys) ≡ xs
take_front [] ys = refl
take_front (x ∷ xs) ys = ap (λ xs. x ∷ xs) (take_front xs ys)

pub length_next : {A : Type 0} (xs : List A) (x : A) → length (xs ++ x ∷ []) ≡ length xs + 1
length_next [] x = refl
length_next (y ∷ xs) x = let e = length_next xs x in omega (arith, e)

unit_named : (before ds : List DesignUnit) (d : DesignUnit) (unit : LibraryUnit) → d.unit ≡ unit → are_distinct (entity_names (before ++ d ∷ ds)) ≡ true
    → are_distinct (described_names (before ++ d ∷ ds)) ≡ true → list_all (λ n. is_among n (entity_names before)) (described_names (d ∷ [])) ≡ true
    → IsKept (name_of_unit before unit)
unit_named before ds d (t.LibraryUnit.entity e) is once single after =
    unless_kept Twice e.name.at (not (is_among e.name.text (entity_names before)))
    (ap not (apart (entity_names before) e.name.text (entity_names ds)
    (ap are_distinct (sym (entity_names_at before ds d (d.context, e) (unit_of_entity d e is))) ∙ once)))
unit_named before ds d (t.architecture a) is once single after =
    let same = unit_of_architecture d a is in
    let among : list_all (λ n. is_among n (entity_names before)) (a.entity.text ∷ []) ≡ true =
    ap (λ o. list_all (λ n. is_among n (entity_names before)) (map text (cons_option o []))) (sym same) ∙ after in
    both_kept _ _ (unless_kept Undeclared a.entity.at (is_among a.entity.text (entity_names before)) (and_parts (is_among a.entity.text (entity_names before)) true among).0)
    (unless_kept SecondArchitecture a.entity.at (not (is_among a.entity.text (described_names before)))
    (ap not (apart (described_names before) a.entity.text (described_names ds)
    (ap are_distinct (sym (described_names_at before ds d (d.context, a) same)) ∙ single))))

pub names_kept : (ds before all : List DesignUnit) (n : ℕ) → before ++ ds ≡ all → length before ≡ n → list_all (stands_after all) (enumerate_from n ds) ≡ true
    → are_distinct (entity_names all) ≡ true → are_distinct (described_names all) ≡ true → IsKept (broken.names before ds)
names_kept [] before all n is long after once single = nothing_kept
names_kept (d ∷ ds) before all n is long after once single =
    let a = and_parts (stands_after all (n, d)) (list_all (stands_after all) (enumerate_from (n + 1) ds)) after in
    let front : take n all ≡ before = ap (λ n. take n all) (sym long) ∙ ap (take (length before)) (sym is) ∙ take_front before (d ∷ ds) in
    both_kept _ _
    (unit_named before ds d d.unit refl (ap (λ ds. are_distinct (entity_names ds)) is ∙ once) (ap (λ ds. are_distinct (described_names ds)) is ∙ single)
    (ap (λ ds. list_all (λ n. is_among n (entity_names ds)) (described_names (d ∷ []))) (sym front) ∙ a.0))
    (names_kept ds (before ++ d ∷ []) all (n + 1) (append_assoc before (d ∷ []) ds ∙ is) (length_next before d ∙ ap (λ n. n + 1) long) a.1 once single)

-- ---- files

-- what the entity of an architecture gives
unit_kept : (entities : List EntityView) (ds : List DesignUnit) (e : EntityView) (x : u.Entity) (a : NamedArchitecture) → unit entities ds e ≡ Some x
    → architecture_of e.name ds ≡ Some a → IsKept (broken.architecture entities e a.0 a.1)
unfolding unit
unit_kept entities ds e x a h g =
    let y = comes (if_any (λ (p : NamedArchitecture). are.architecture entities e p.0 p.1) (architecture_of e.name ds)) _ x h in
    let is : if_any (λ (p : NamedArchitecture). are.architecture entities e p.0 p.1) (Some a) ≡ Some y.value =
    ap (if_any (λ (p : NamedArchitecture). are.architecture entities e p.0 p.1)) (sym g) ∙ y.is in
    let z = comes (are.architecture entities e a.0 a.1) _ y.value is in
    architecture_kept entities e a.0 a.1 z.value z.is

module _ (language : Language) (ds : List DesignUnit) (entities : List EntityView) (distinct : are_distinct (entity_names ds) ≡ true) (after : stand_after ds ≡ true)
    (views : each (viewed language ds) (entities_of ds) ≡ Some entities) where
  pub names : view_names entities ≡ entity_names ds
  names = each_keeps (viewed language ds) entity_text (λ (e : EntityView). e.name) (λ e x h. entity_name language e.0 e.1 _ x h) (entities_of ds) entities views

  -- all entities are given
  pub entities_are : entities_given language ds ≡ entities
  entities_are =
      ap (λ as'. with_entities [] (filter_map (λ (e : NamedEntity). interfaces.entity language e.0 e.1 (option_map (λ (a : NamedArchitecture). a.1.name.text)
      (find (λ (a : NamedArchitecture). bytes_eq e.1.name.text a.1.entity.text) as'))) (entities_of ds))) (all_placed ds ds 0 after)
      ∙ ap (with_entities []) (each_given (viewed language ds) (entities_of ds) entities views)
      ∙ all_entities entities [] (ap are_distinct names ∙ distinct)

  described_kept : (units : List u.Entity) → are_distinct (described_names ds) ≡ true → each (unit entities ds) entities ≡ Some units → (k : ℕ) (a : NamedArchitecture)
      → slice_get (architectures_of ds) k ≡ Some a → IsKept (described language (entity_names ds) entities a)
  described_kept units once whole k (items, a) at =
      let named : slice_get (described_names ds) k ≡ Some a.entity.text = slice_get-map text (architectures_of ds) k ∙ ap (option_map text) at in
      let among : is_among a.entity.text (view_names entities) ≡ true =
      ap (is_among a.entity.text) names ∙ each_passes (λ m. is_among m (entity_names ds)) (described_names ds) k a.entity.text (described_among ds ds 0 after) named in
      let r = is_found entities a.entity.text 0 among in
      let m = made (unit entities ds) entities units r.place r.view whole r.at in
      let one = architecture_found (architectures_of ds) k (items, a) r.view.name once at r.named in
      ap by r.found ∙ ap (up_to_hidden (is_hidden (entity_names ds) entities) a) (unit_kept entities ds r.view m.value (items, a) m.is one)
    where
      by : Option (ℕ × EntityView) → Broken
      by None = declarations.context (record (no_context language) { has_ieee = true }) items
      by (Some (k, e)) = up_to_hidden (is_hidden (entity_names ds) entities) a (broken.architecture entities e items a)

pub file_kept : (language : Language) (f : File) (units : List u.Entity) → units_of language f ≡ Some units → IsKept (broken.file language f)
file_kept language f units e =
    let p = file_parts language f units e in
    among_kept _ _ (names_kept f.units [] f.units 0 refl refl p.after p.once p.described_once)
    (among_kept _ _ (each_kept (λ (e : NamedEntity). entity language e.0 e.1) (viewed language f.units) (λ e v h. entity_kept language e.0 e.1 _ v h) (entities_of f.units) p.views.value p.views.is)
    (ap (λ es. any_of (described language (entity_names f.units) es) (architectures_of f.units)) (entities_are language f.units p.views.value p.once p.after p.views.is)
    ∙ at_each_kept (described language (entity_names f.units) p.views.value) (architectures_of f.units)
    (described_kept language f.units p.views.value p.once p.after p.views.is units p.described_once p.gives)))
