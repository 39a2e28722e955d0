-- What is told of a file stands at a piece of it.
use Rattle.std.proofs.Common.{ℕ, Bool, true, not, ◌&&◌, List, [], ◌∷◌, ◌++◌, Option, Some, None, subst}
use Rattle.std.specs.Prelude.{nat_eq}
use Rattle.std.specs.List.{AllByRecursion, cons_option, list_any}
use Rattle.vhdl_lexer.specs.declared.token.TokenKind.TheVariants as k
use Rattle.vhdl_lexer.specs.declared.language.Language.{Language}
use Rattle.vhdl_lexer.specs.declared.language.Language.TheVariants.{Wide}
use Rattle.vhdl_tree.specs.Tree as t
use Rattle.vhdl_tree.specs.Tree.{File, DesignUnit, LibraryUnit, ContextItem}
use Rattle.vhdl_tree.specs.Pieces.{spell_each, IsEach}
use Rattle.vhdl_tree.specs.grammar.Declarations.{spell_declaration}
use Rattle.vhdl_tree.specs.grammar.Concurrent.{spell_concurrent, spell_concurrents}
use Rattle.vhdl_tree.specs.grammar.Units.{spell_context, spell_entity, spell_architecture, spell_library_unit, spell_unit, spell_file, IsContext, IsUnitIn, IsFileIn}
use Rattle.vhdl_names_rules.specs.declared.fault.NameProblem.TheVariants.{Undeclared, Twice, SecondArchitecture}
use Rattle.vhdl_names_rules.specs.Visibility.{Name, Sight, is_among, with_declared}
use Rattle.vhdl_names_rules.specs.Packages as packages
use Rattle.vhdl_names_rules.specs.Packages.{Context, no_context, sight_of}
use Rattle.vhdl_names_rules.specs.Declarations as declarations
use Rattle.vhdl_names_rules.specs.Interfaces.{EntityView, entity_named}
use Rattle.vhdl_names_rules.specs.Concurrent.{concurrent_labels}
use Rattle.vhdl_names_rules.specs.Files as are
use Rattle.vhdl_names_rules.specs.Files.{as_entity, as_architecture, entity_names, described_names, entities_of, architectures_of}
use Rattle.vhdl_names_rules.specs.problems.Broken.{Broken}
use Rattle.vhdl_names_rules.specs.problems.Labels.{labels_of}
use Rattle.vhdl_names_rules.specs.problems.Declarations.{context}
use Rattle.vhdl_names_rules.specs.problems.Interfaces.{entity}
use Rattle.vhdl_names_rules.specs.problems.Files as broken
use Rattle.vhdl_names_rules.specs.problems.Files.{with_labels, mentions, up_to_hidden, is_hidden, entities_given, described}
use Rattle.vhdl_names_laws.proofs.Labels.{spelled_alike}
use Rattle.vhdl_names_laws.proofs.placed.Told.{Stand, EachStands, first, behind, Told, told_nothing, told_unless, told_given, told_behind, told_if, told_earlier, told_any, each_stands}
use Rattle.vhdl_names_laws.proofs.placed.Declarations.{ItemsStand, standing_told, context_told, in_order_told, signals_told, constants_told, subtype_declaration_told, enumeration_told}
use Rattle.vhdl_names_laws.proofs.placed.Interfaces.{unit_end_told, entity_told, component_told}
use Rattle.vhdl_names_laws.proofs.placed.Labels.{labels_stand}
use Rattle.vhdl_names_laws.proofs.placed.Concurrent.{concurrents_told}

-- ---- architectures

declaration_told : (P : ℕ → Type 0) (entities : List EntityView) (sight : Sight) (d : t.Declaration) → Stand P (spell_declaration d) → Told P (broken.declaration entities sight d)
declaration_told P entities sight (t.signals d) h = signals_told P sight d h
declaration_told P entities sight (t.constants d) h = constants_told P sight d h
declaration_told P entities sight (t.enumeration d) h = enumeration_told P sight.region d h
declaration_told P entities sight (t.component c) h = component_told P entities sight c h
declaration_told P entities sight (t.subtype_of d) h = subtype_declaration_told P sight d h
declaration_told P entities sight (t.attribute_of text) h = told_nothing

body_told : (P : ℕ → Type 0) (entities : List EntityView) (sight : Sight) (cs : t.Concurrents) → Stand P (spell_concurrents cs) → Told P (broken.body entities sight cs)
body_told P entities sight cs h =
    told_earlier (standing_told P sight.region (labels_of cs) (labels_stand P cs h))
    (concurrents_told cs P entities (record sight { region = with_labels sight.region (concurrent_labels cs) }) h)

architecture_in_told : (P : ℕ → Type 0) (entities : List EntityView) (e : EntityView) (c : Context) (a : t.Architecture) → EachStands P spell_declaration a.declarations
    → Stand P (spell_concurrents (t.concurrents_of a.statements)) → Told P (broken.architecture_in entities e c a)
architecture_in_told P entities e c a h g =
    told_behind
    (in_order_told P (λ d. Stand P (spell_declaration d)) with_declared (are.declaration entities) (broken.declaration entities) (declaration_told P entities) a.declarations (sight_of c e.interface.declared) h)
    (told_given (declarations.in_order with_declared (are.declaration entities) (sight_of c e.interface.declared) a.declarations)
    (λ ds. broken.body entities (sight_of c (e.interface.declared ++ ds.declared)) (t.concurrents_of a.statements))
    (λ ds. body_told P entities (sight_of c (e.interface.declared ++ ds.declared)) (t.concurrents_of a.statements) g))

architecture_told : (P : ℕ → Type 0) (entities : List EntityView) (e : EntityView) (items : List ContextItem) (a : t.Architecture) → ItemsStand P items → Stand P (spell_architecture a)
    → Told P (broken.architecture entities e items a)
architecture_told P entities e items a h g =
    let inner = g.1.1.1.1.1 in
    let begun = (behind P (spell_each spell_declaration a.declarations) _ inner).1 in
    told_behind (context_told P items e.context h)
    (told_behind (told_given (packages.context e.context items) (λ c. broken.architecture_in entities e c a)
    (λ c. architecture_in_told P entities e c a (each_stands P spell_declaration a.declarations (first P (spell_each spell_declaration a.declarations) _ inner))
    (subst (Stand P) (spelled_alike a.statements) (first P (spell_each spell_concurrent a.statements) _ begun))))
    (unit_end_told P k.Architecture a.end_word a.name a.end_name (behind P (spell_each spell_concurrent a.statements) _ begun)))

-- what is left out isn't told, and what isn't left out stays where it is
up_to_told : (P : ℕ → Type 0) (hidden : Name → Bool) (a : t.Architecture) (b : Broken) → Told P b → Told P (up_to_hidden hidden a b)
up_to_told P hidden a None h = told_nothing
up_to_told P hidden a (Some (Undeclared, at)) h = told_if (list_any (λ i. nat_eq i.at at && hidden i.text) (mentions a)) told_nothing h
up_to_told P hidden a (Some (p, at)) h = h

-- ---- the units of a file

abbrev EntityStands : (ℕ → Type 0) → List ContextItem × t.Entity → Type 0
EntityStands P e = ItemsStand P e.0 × Stand P (spell_entity e.1)

abbrev ArchitectureStands : (ℕ → Type 0) → List ContextItem × t.Architecture → Type 0
ArchitectureStands P a = ItemsStand P a.0 × Stand P (spell_architecture a.1)

-- a unit with its context items
record UnitStands (P : ℕ → Type 0) (d : DesignUnit) : Type 0 where
  items : ItemsStand P d.context
  unit : Stand P (spell_library_unit d.unit)

items_stand : (P : ℕ → Type 0) (items : List ContextItem) → IsEach IsContext items → Stand P (spell_each spell_context items) → ItemsStand P items
items_stand P [] well h = tt
items_stand P (c ∷ items) well h =
    ((well.0, first P (spell_context c) (spell_each spell_context items) h), items_stand P items well.1 (behind P (spell_context c) (spell_each spell_context items) h))

units_stand : (P : ℕ → Type 0) (ds : List DesignUnit) → IsEach (IsUnitIn Wide) ds → Stand P (spell_each spell_unit ds) → AllByRecursion (UnitStands P) ds
units_stand P [] well h = tt
units_stand P (d ∷ ds) well h =
    let g = first P (spell_unit d) (spell_each spell_unit ds) h in (
      record { items = items_stand P d.context well.0.0 (first P (spell_each spell_context d.context) (spell_library_unit d.unit) g); unit = behind P (spell_each spell_context d.context) (spell_library_unit d.unit) g },
      units_stand P ds well.1 (behind P (spell_unit d) (spell_each spell_unit ds) h),
    )

entity_at : (P : ℕ → Type 0) (items : List ContextItem) (x : LibraryUnit) (es : List (List ContextItem × t.Entity)) → ItemsStand P items → Stand P (spell_library_unit x) → AllByRecursion (EntityStands P) es
    → AllByRecursion (EntityStands P) (cons_option (as_entity (record { context = items; unit = x })) es)
entity_at P items (t.LibraryUnit.entity e) es c h g = ((c, h), g)
entity_at P items (t.LibraryUnit.architecture a) es c h g = g

architecture_at : (P : ℕ → Type 0) (items : List ContextItem) (x : LibraryUnit) (as' : List (List ContextItem × t.Architecture)) → ItemsStand P items → Stand P (spell_library_unit x)
    → AllByRecursion (ArchitectureStands P) as' → AllByRecursion (ArchitectureStands P) (cons_option (as_architecture (record { context = items; unit = x })) as')
architecture_at P items (t.LibraryUnit.entity e) as' c h g = g
architecture_at P items (t.LibraryUnit.architecture a) as' c h g = ((c, h), g)

entities_stand : (P : ℕ → Type 0) (ds : List DesignUnit) → AllByRecursion (UnitStands P) ds → AllByRecursion (EntityStands P) (entities_of ds)
entities_stand P [] h = tt
entities_stand P (d ∷ ds) h = entity_at P d.context d.unit (entities_of ds) h.0.items h.0.unit (entities_stand P ds h.1)

architectures_stand : (P : ℕ → Type 0) (ds : List DesignUnit) → AllByRecursion (UnitStands P) ds → AllByRecursion (ArchitectureStands P) (architectures_of ds)
architectures_stand P [] h = tt
architectures_stand P (d ∷ ds) h = architecture_at P d.context d.unit (architectures_of ds) h.0.items h.0.unit (architectures_stand P ds h.1)

-- ---- the names of units

name_told : (P : ℕ → Type 0) (before : List DesignUnit) (x : LibraryUnit) → Stand P (spell_library_unit x) → Told P (broken.name_of_unit before x)
name_told P before (t.LibraryUnit.entity e) h = told_unless Twice e.name.at (not (is_among e.name.text (entity_names before))) h.1.0
name_told P before (t.LibraryUnit.architecture a) h =
    told_behind (told_unless Undeclared a.entity.at (is_among a.entity.text (entity_names before)) h.1.1.1.0)
    (told_unless SecondArchitecture a.entity.at (not (is_among a.entity.text (described_names before))) h.1.1.1.0)

names_told : (P : ℕ → Type 0) (ds before : List DesignUnit) → AllByRecursion (UnitStands P) ds → Told P (broken.names before ds)
names_told P [] before h = told_nothing
names_told P (d ∷ ds) before h = told_behind (name_told P before d.unit h.0.unit) (names_told P ds (before ++ (d ∷ [])) h.1)

-- ---- files

described_told : (P : ℕ → Type 0) (language : Language) (ns : List Name) (entities : List EntityView) (a : List ContextItem × t.Architecture) → ArchitectureStands P a
    → Told P (described language ns entities a)
described_told P language ns entities (items, a) h = by_told (entity_named entities a.entity.text)
  where
    by : Option (ℕ × EntityView) → Broken
    by None = context (record (no_context language) { has_ieee = true }) items
    by (Some (k, e)) = up_to_hidden (is_hidden ns entities) a (broken.architecture entities e items a)

    by_told : (o : Option (ℕ × EntityView)) → Told P (by o)
    by_told None = context_told P items (record (no_context language) { has_ieee = true }) h.0
    by_told (Some (n, e)) = up_to_told P (is_hidden ns entities) a (broken.architecture entities e items a) (architecture_told P entities e items a h.0 h.1)

pub file_told : (P : ℕ → Type 0) (language : Language) (f : File) → IsFileIn Wide f → Stand P (spell_file f) → Told P (broken.file language f)
file_told P language f well h =
    let units = units_stand P f.units well h in
    let ns = entity_names f.units in
    let entities = entities_given language f.units in
    told_earlier (names_told P f.units [] units)
    (told_earlier (told_any (EntityStands P) (λ e. entity language e.0 e.1) (λ e g. entity_told P language e.0 e.1 g.0 g.1) (entities_of f.units) (entities_stand P f.units units))
    (told_any (ArchitectureStands P) (described language ns entities) (described_told P language ns entities) (architectures_of f.units) (architectures_stand P f.units units)))
