-- Entities, architectures, components and instances of small files.
use Rattle.std.specs.Prelude.{◌≡◌, ℕ, Bool, true, false, List, [], ◌∷◌, ◌++◌, Option, Some, None, is_some, codes}
use Rattle.vhdl_lexer.specs.declared.language.Language.TheVariants.{Profile}
use Rattle.vhdl_tree.specs.declared.declaration.Mode.{Mode}
use Rattle.vhdl_tree.specs.declared.declaration.Mode.TheVariants.{In, Out}
use Rattle.vhdl_tree.specs.Tree as t
use Rattle.vhdl_tree.specs.Tree.{Expr, File, DesignUnit, ContextItem}
use Rattle.vhdl_names_rules.specs.units.Expressions as u
use Rattle.vhdl_names_rules.specs.units.Statements as s
use Rattle.vhdl_names_rules.specs.units.Units as u'
use Rattle.vhdl_names_rules.specs.Files.{units_of}
use Rattle.rtl_definition_examples.specs.rules.Words.{word, word_at, words, name, enclosed, character, target, plain_type}

-- ---- words to write files with

-- ieee . package
abbrev pub of_ieee : List ℕ → t.Selected
of_ieee n = record { library = word (codes "ieee"); name = word n }

-- library ieee; use ieee.std_logic_1164.all;
abbrev pub with_logic : List ContextItem
with_logic = t.library (words (codes "ieee" ∷ [])) ∷ t.uses (of_ieee (codes "std_logic_1164") ∷ []) ∷ []

abbrev pub port_of : Mode → List ℕ → t.Port
port_of mode n = record {
  signal_word = false;
  names = words (n ∷ []);
  mode = Some mode;
  subtype = plain_type (codes "std_logic");
  default = None;
}

-- port (a : in std_logic; y : out std_logic);
abbrev pub two_ports : Option (List t.Port)
two_ports = Some (port_of In (codes "a") ∷ port_of Out (codes "y") ∷ [])

abbrev pub entity_with : Option (List t.Port) → List ℕ → DesignUnit
entity_with ports n = record {
  context = with_logic;
  unit =
      t.LibraryUnit.entity
      (record {
        at = 26;
        name = word n;
        generics = None;
        ports = ports;
        attributes = [];
        statements = None;
        end_word = false;
        end_name = None;
      });
}

abbrev pub entity : List ℕ → DesignUnit
entity = entity_with two_ports

abbrev pub architecture_with : List ContextItem → List t.Declaration → (of : List ℕ) → List t.Concurrent → DesignUnit
architecture_with items ds n cs = record {
  context = items;
  unit = t.architecture (record {
    at = 27;
    name = word (codes "rtl");
    entity = word n;
    declarations = ds;
    statements = cs;
    end_word = false;
    end_name = None;
  });
}

abbrev pub architecture : (of : List ℕ) → List t.Concurrent → DesignUnit
architecture = architecture_with [] []

abbrev pub file : List DesignUnit → File
file units = record { units = units }

-- label : y <= a;
abbrev pub y_from_a : Option (List ℕ) → t.Concurrent
y_from_a None = t.assignment (record {
  label = None;
  target = target (codes "y");
  branches = [];
  otherwise = Some (t.single (name (codes "a")));
})
y_from_a (Some l) = t.assignment (record {
  label = Some (word l);
  target = target (codes "y");
  branches = [];
  otherwise = Some (t.single (name (codes "a")));
})

abbrev pub e : List ℕ
e = codes "e"

abbrev pub port_object : List ℕ → u'.Object
port_object n = record { at = 10; name = n; form = u'.element; is_resolved = true; default = None }

abbrev pub whole_port : (at : ℕ) → ℕ → u.SignalPart
whole_port at k = record { at = at; signal = u.port k; part = u.whole }

-- an entity with the two ports, as it is analysed
abbrev pub analysed : List ℕ → u'.Entity
analysed n = record {
  at = 1;
  name = n;
  generics = [];
  ports =
      record { mode = In; object = port_object (codes "a") }
      ∷ record { mode = Out; object = port_object (codes "y") } ∷ [];
  architecture = None;
}

abbrev pub analysed_with : List ℕ → u'.Concurrent → u'.Entity
analysed_with n c =
    record (analysed n)
    { architecture = Some (record { declarations = []; statements = u'.concurrent c u'.no_concurrents }) }

-- ---- units

pub record UnitsAreOnce : Type 0 where
  -- entity e with its architecture y <= a;
  pub buffer : units_of Profile (file (entity e ∷ architecture e (y_from_a None ∷ []) ∷ []))
      ≡ Some (analysed_with e (u'.process (record {
        at = 6;
        label = None;
        declarations = [];
        sensitivity = u'.as_read;
        body = s.step (s.assign (whole_port 6 1) (s.single (u.elements (u.of_signal (whole_port 1 0))))) s.done;
      })) ∷ [])
  pub empty : units_of Profile (file []) ≡ Some []
  -- an entity twice, a second architecture, an architecture before its entity, and one of no entity
  pub entity_twice : units_of Profile (file (entity e ∷ entity e ∷ [])) ≡ None
  pub second_architecture : units_of Profile (file (entity e ∷ architecture e [] ∷ architecture e [] ∷ [])) ≡ None
  pub architecture_first : units_of Profile (file (architecture e [] ∷ entity e ∷ [])) ≡ None
  pub no_entity : units_of Profile (file (architecture e [] ∷ [])) ≡ None
  -- the label a, which is a port's name; a label twice
  pub label_of_port : units_of Profile (file (entity e ∷ architecture e (y_from_a (Some (codes "a")) ∷ []) ∷ [])) ≡ None
  pub label_twice : units_of Profile
      (file (entity e ∷ architecture e (y_from_a (Some (codes "l")) ∷ y_from_a (Some (codes "l")) ∷ []) ∷ [])) ≡ None

-- ---- instances

abbrev pub actual_named : List ℕ → t.Association
actual_named n = record { formal = None; actual = t.actual (name n) }

abbrev pub for_formal : List ℕ → Expr → t.Association
for_formal f x = record { formal = Some (word_at 29 f); actual = t.actual x }

abbrev pub instance_of : t.Instantiated → List t.Association → t.Concurrent
instance_of unit as' = t.instance (word_at 28 (codes "u")) (record { unit = unit; generics = None; ports = Some as' })

abbrev pub k : List ℕ
k = codes "k"

-- entity work.k
abbrev pub work_k : t.Instantiated
work_k = t.entity_unit (word (codes "work")) (word k) None

-- entities k and e, and in the architecture of e one instance
abbrev pub with_instance : List t.Declaration → t.Instantiated → List t.Association → File
with_instance ds unit as' = file (entity k ∷ entity e ∷ architecture_with [] ds e (instance_of unit as' ∷ []) ∷ [])

abbrev pub component_with : Option (List t.Port) → t.Declaration
component_with ports =
    t.component (record { name = word k; is_word = false; generics = None; ports = ports; end_name = None })

abbrev pub is_accepted : File → Bool
is_accepted f = is_some (units_of Profile f)

pub record FormalsAreAssociated : Type 0 where
  -- u : entity work.k port map (a, y => y)
  pub mixed : is_accepted
      (with_instance [] work_k (actual_named (codes "a") ∷ for_formal (codes "y") (name (codes "y")) ∷ [])) ≡ true
  pub placed : units_of Profile
      (with_instance [] work_k (actual_named (codes "a") ∷ for_formal (codes "y") (name (codes "y")) ∷ []))
      ≡ Some (analysed k ∷ analysed_with e (u'.instance (record {
        at = 28;
        label = codes "u";
        unit = 0;
        generics = [];
        ports = Some (whole_port 1 0) ∷ Some (whole_port 1 1) ∷ [];
      })) ∷ [])
  -- y => y and then a by its position; a twice; an unknown formal; one actual too many
  pub named_first : is_accepted
      (with_instance [] work_k (for_formal (codes "y") (name (codes "y")) ∷ actual_named (codes "a") ∷ [])) ≡ false
  pub twice : is_accepted
      (with_instance [] work_k (actual_named (codes "a") ∷ for_formal (codes "a") (name (codes "a")) ∷ [])) ≡ false
  pub unknown : is_accepted (with_instance [] work_k (for_formal (codes "b") (name (codes "a")) ∷ [])) ≡ false
  pub too_many : is_accepted (with_instance [] work_k
      (actual_named (codes "a") ∷ actual_named (codes "y") ∷ actual_named (codes "a") ∷ [])) ≡ false
  -- y => a, an out port on an input; a => (a); a => '1'
  pub out_on_input : is_accepted (with_instance [] work_k (for_formal (codes "y") (name (codes "a")) ∷ [])) ≡ false
  pub enclosed_actual : is_accepted
      (with_instance [] work_k (for_formal (codes "a") (enclosed (name (codes "a"))) ∷ [])) ≡ false
  pub expression : is_accepted (with_instance [] work_k (for_formal (codes "a") (character 49) ∷ [])) ≡ false
  -- a component that is its entity's text, one that isn't, and none
  pub of_component : is_accepted
      (with_instance (component_with two_ports ∷ []) (t.component_unit false (word k)) (actual_named (codes "a") ∷ []))
      ≡ true
  pub other_component : is_accepted (with_instance (component_with (Some (port_of In (codes "a") ∷ [])) ∷ []) work_k [])
      ≡ false
  pub no_component : is_accepted (with_instance [] (t.component_unit false (word k)) (actual_named (codes "a") ∷ []))
      ≡ false

-- ---- context clauses

-- an entity with these context items, and with none
abbrev pub with_items : List ContextItem → File
with_items items = file (record (entity e) { context = items } ∷ [])

pub record ContextsBringNames : Type 0 where
  pub nothing : is_accepted (with_items []) ≡ false
  -- use ieee.std_logic_1164.all without library ieee
  pub no_library : is_accepted (with_items (t.uses (of_ieee (codes "std_logic_1164") ∷ []) ∷ []))
      ≡ false
  -- a library and a package that aren't offered
  pub other_library : is_accepted (with_items (t.library (words (codes "other" ∷ [])) ∷ with_logic)) ≡ false
  pub other_package : is_accepted (with_items (with_logic ++ t.uses (of_ieee (codes "std_logic_arith") ∷ []) ∷ []))
      ≡ false
