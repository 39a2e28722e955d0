-- Which rule a file breaks first in order of its text (IEEE 1076-2008, 3.2, 3.3 and clause 13).
use Rattle.std.specs.Prelude.{ℕ, Bool, true, ◌&&◌, not, if◌then◌else◌, nat_eq, List, [], ◌∷◌, ◌++◌, map, find, flat_map, filter_map, Option, Some, None, option_map, bytes_eq}
use Rattle.std.specs.List.{list_any, enumerate_from}
use Rattle.vhdl_lexer.specs.declared.language.Language.{Language}
use Rattle.vhdl_tree.specs.Tree as t
use Rattle.vhdl_tree.specs.Tree.{File, DesignUnit, LibraryUnit, ContextItem, Ident}
use Rattle.vhdl_names_rules.specs.declared.fault.NameProblem.TheVariants.{Undeclared, Twice, SecondArchitecture}
use Rattle.vhdl_names_rules.specs.Visibility as visibility
use Rattle.vhdl_names_rules.specs.Visibility.{Name, Declared, Sight, declare, is_among, with_declared}
use Rattle.vhdl_names_rules.specs.Packages as packages
use Rattle.vhdl_names_rules.specs.Packages.{Context, no_context, sight_of}
use Rattle.vhdl_names_rules.specs.Declarations as declarations
use Rattle.vhdl_names_rules.specs.Interfaces as interfaces
use Rattle.vhdl_names_rules.specs.Interfaces.{EntityView, declared_names, entity_named}
use Rattle.vhdl_names_rules.specs.Concurrent.{concurrent_labels}
use Rattle.vhdl_names_rules.specs.Files as are
use Rattle.vhdl_names_rules.specs.Files.{entity_names, described_names, stands_after, entities_of, architectures_of}
use Rattle.vhdl_names_rules.specs.problems.Broken.{Broken, nothing, refused, ◌▸◌, unless, where_given, any_of, earlier}
use Rattle.vhdl_names_rules.specs.problems.Labels.{labels_of}
use Rattle.vhdl_names_rules.specs.problems.Declarations.{standing_twice, end_name, context, in_order, signals, constants, subtype_declaration, enumeration}
use Rattle.vhdl_names_rules.specs.problems.Interfaces.{entity, component}
use Rattle.vhdl_names_rules.specs.problems.Concurrent.{concurrents}

-- ---- architectures

abbrev pub declaration : List EntityView → Sight → t.Declaration → Broken
declaration entities sight (t.signals d) = signals sight d
declaration entities sight (t.constants d) = constants sight d
declaration entities sight (t.enumeration d) = enumeration sight d
declaration entities sight (t.component c) = component entities sight c
declaration entities sight (t.subtype_of d) = subtype_declaration sight d
declaration entities sight (t.attribute_of text) = nothing

-- the labels of statements in a region, of names that stand twice the first alone
abbrev pub with_labels : List Declared → List Name → List Declared
with_labels region [] = region
with_labels region (l ∷ ls) =
    if is_among l (declared_names region) then with_labels region ls
    else with_labels (region ++ (declare l visibility.label ∷ [])) ls

-- of a label that stands twice and a fault of the statements, which have all of the region in sight, the earlier one
abbrev pub body : List EntityView → Sight → t.Concurrents → Broken
body entities sight cs =
    earlier (standing_twice sight.region (labels_of cs))
    (concurrents entities (record sight { region = with_labels sight.region (concurrent_labels cs) }) cs)

-- the declarations, and the statements behind them
abbrev pub architecture_in : List EntityView → EntityView → Context → t.Architecture → Broken
architecture_in entities e c a =
    in_order with_declared (are.declaration entities)
    (declaration entities) (sight_of c e.interface.declared) a.declarations
    ▸ where_given
    (declarations.in_order with_declared (are.declaration entities) (sight_of c e.interface.declared) a.declarations)
    (λ ds. body entities (sight_of c (e.interface.declared ++ ds.declared)) (t.concurrents_of a.statements))

abbrev pub architecture : List EntityView → EntityView → List ContextItem → t.Architecture → Broken
architecture entities e items a =
    context e.context items
    ▸ where_given (packages.context e.context items) (λ c. architecture_in entities e c a)
    ▸ end_name a.name a.end_name

-- ---- the entities that an architecture names

abbrev pub of_declaration : t.Declaration → List Ident
of_declaration (t.component c) = c.name ∷ []
of_declaration d = []

abbrev pub of_instantiated : t.Instantiated → List Ident
of_instantiated (t.entity_unit library n architecture) = n ∷ []
of_instantiated (t.component_unit word n) = []

-- by the instances among its statements, however deep
abbrev mutual
  pub of_concurrent : t.Concurrent → List Ident
  of_concurrent (t.assignment a) = []
  of_concurrent (t.selected label a) = []
  of_concurrent (t.process label p) = []
  of_concurrent (t.instance label i) = of_instantiated i.unit
  of_concurrent (t.generated label at s word cs end) = of_concurrents cs
  of_concurrent (t.assertion a) = []

  pub of_concurrents : t.Concurrents → List Ident
  of_concurrents t.no_concurrents = []
  of_concurrents (t.concurrent c cs) = of_concurrent c ++ of_concurrents cs

-- by its components, and by its instances
abbrev pub mentions : t.Architecture → List Ident
mentions a = flat_map of_declaration a.declarations ++ of_concurrents (t.concurrents_of a.statements)

-- Where it names an entity of the file that isn't given, which is Undeclared there, nothing is told behind this name.
abbrev pub up_to_hidden : (Name → Bool) → t.Architecture → Broken → Broken
up_to_hidden is_hidden a None = nothing
up_to_hidden is_hidden a (Some (Undeclared, at)) =
    if list_any (λ i. nat_eq i.at at && is_hidden i.text) (mentions a) then nothing else refused Undeclared at
up_to_hidden is_hidden a (Some (p, at)) = refused p at

-- ---- the names of units

-- No two entities have one name; each architecture stands after its entity, which no other is of.
abbrev pub name_of_unit : List DesignUnit → LibraryUnit → Broken
name_of_unit before (t.LibraryUnit.entity e) = unless Twice e.name.at (not (is_among e.name.text (entity_names before)))
name_of_unit before (t.architecture a) =
    unless Undeclared a.entity.at (is_among a.entity.text (entity_names before))
    ▸ unless SecondArchitecture a.entity.at (not (is_among a.entity.text (described_names before)))

-- unit by unit, behind those before them
abbrev pub names : List DesignUnit → List DesignUnit → Broken
names before [] = nothing
names before (d ∷ ds) = name_of_unit before d.unit ▸ names (before ++ (d ∷ [])) ds

-- ---- the entities

-- the architectures that stand after their entities
abbrev pub placed_architectures : List DesignUnit → List (List ContextItem × t.Architecture)
placed_architectures ds =
    flat_map (λ d. if stands_after ds d then architectures_of (d.1 ∷ []) else []) (enumerate_from 0 ds)

-- an entity, seen with the name of such an architecture
abbrev pub seen : Language → List DesignUnit → List ContextItem × t.Entity → Option EntityView
seen language ds e =
    interfaces.entity language e.0 e.1
    (option_map (λ a. a.1.name.text) (find (λ a. bytes_eq e.1.name.text a.1.entity.text) (placed_architectures ds)))

-- entities behind others, of one name the first alone
abbrev pub with_entities : List EntityView → List EntityView → List EntityView
with_entities es [] = es
with_entities es (d ∷ ds) =
    if is_among d.name (map (λ e. e.name) es) then with_entities es ds else with_entities (es ++ (d ∷ [])) ds

-- the entities that are given
abbrev pub entities_given : Language → List DesignUnit → List EntityView
entities_given language ds = with_entities [] (filter_map (seen language ds) (entities_of ds))

-- ---- files

-- whether an entity of one of these names isn't given
abbrev pub is_hidden : List Name → List EntityView → Name → Bool
is_hidden ns entities n = is_among n ns && not (is_among n (map (λ e. e.name) entities))

-- an architecture of a file with entities of these names, of which these are given; of one whose own entity isn't given
-- the context items alone, whatever the entity's context has
abbrev pub described : Language → List Name → List EntityView → List ContextItem × t.Architecture → Broken
described language ns entities (items, a) = by (entity_named entities a.entity.text)
  where
    by : Option (ℕ × EntityView) → Broken
    by None = context (record (no_context language) { has_ieee = true }) items
    by (Some (k, e)) = up_to_hidden (is_hidden ns entities) a (architecture entities e items a)

-- the first in order of the text: among the names of units, among the entities, and among the architectures
abbrev pub file : Language → File → Broken
file language f =
    earlier (names [] f.units)
    (earlier (any_of (λ e. entity language e.0 e.1) (entities_of f.units))
    (any_of (described language (entity_names f.units) (entities_given language f.units)) (architectures_of f.units)))
