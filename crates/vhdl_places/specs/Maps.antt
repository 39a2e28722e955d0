-- The association that connects a port to what an instance drives.
use Rattle.std.specs.Prelude.{ℕ, ◌==◌, Bool, true, if◌then◌else◌, List, [], ◌∷◌, length, drop, find, Option, Some, None}
use Rattle.std.specs.Option.{option_or}
use Rattle.vhdl_slips.specs.Instances.{associations, entity_of, labelled}
use Rattle.vhdl_slips.specs.Interfaces.{formals, interface_of}
use Rattle.vhdl_slips.specs.Parts.{begins, first_of, from, up_to}
use Rattle.vhdl_slips.specs.Words.{Read, text_of}
use Rattle.vhdl_lexer.specs.declared.token.Token.{Token}
use Rattle.vhdl_lexer.specs.declared.token.TokenKind.TheVariants as k
use Rattle.vhdl_places.specs.Uses.{first_use, from_use}
use Rattle.vhdl_places.specs.declared.uses.Use.TheVariants.{Architecture, Formal, Label, Read as Named}

-- ---- instances

-- what stands behind the last dot of `bytes`, or `found` where there is none
abbrev pub behind_dot : (found bytes : List ℕ) → List ℕ
behind_dot found [] = found
behind_dot found (byte ∷ bytes) = if byte == 46 then behind_dot bytes bytes else behind_dot found bytes

-- an instance's own label, behind those of generates: `fa` of `bits(0).fa`
abbrev pub own_label : (label : List ℕ) → List ℕ
own_label label = behind_dot label label

-- what stands in the architecture of this entity from its `begin` on
abbrev pub architecture_of : (text entity : List ℕ) → List Token → List Token
architecture_of text entity tokens =
    from k.Begin (up_to k.Architecture (drop 1 (from_use Architecture text (entity ∷ []) tokens)))

abbrev pub from_label : (text label : List ℕ) → List Token → List Token
from_label text label tokens = from_use Label text (label ∷ []) tokens

-- from the one that has it on; nothing where several have it
abbrev pub if_sole : (text label : List ℕ) → (found : List Token) → List Token
if_sole text label found = if length (from_label text label (drop 1 found)) == 0 then found else []

abbrev pub from_sole : (text label : List ℕ) → List Token → List Token
from_sole text label tokens = if_sole text label (from_label text label tokens)

-- the instance of this label in the architecture of this entity
abbrev pub instance_in : (source : Read) → (entity label : List ℕ) → List Token
instance_in source entity label =
    from_sole source.text (own_label label) (architecture_of source.text entity source.tokens)

abbrev pub text_or : (text : List ℕ) → Option Token → List ℕ
text_or text None = []
text_or text (Some t) = text_of text t

abbrev pub entity_name : (text : List ℕ) → (instance : List Token) → List ℕ
entity_name text instance = text_or text (entity_of (labelled instance))

-- ---- ports

abbrev pub ports_of : (source : Read) → (instance : List Token) → List Token
ports_of source instance = formals true (interface_of source.text (entity_name source.text instance) source.tokens)

-- of these ports, one of this name drives what it's connected to
abbrev pub drives : (text : List ℕ) → (ports : List Token) → (name : List ℕ) → Bool
drives text ports name = begins k.Out (drop 1 (from k.Colon (from_use Named text (name ∷ []) ports)))

abbrev pub first_name : List (List ℕ) → List ℕ
first_name [] = []
first_name (name ∷ names) = name

abbrev pub name_or_first : (names : List (List ℕ)) → Option (List ℕ) → List ℕ
name_or_first names None = first_name names
name_or_first names (Some name) = name

-- the first of these ports of an instance that drives; the first, where the source doesn't show one
abbrev pub driving_port : (source : Read) → (instance : List Token) → (names : List (List ℕ)) → List ℕ
driving_port source instance names = name_or_first names (find (drives source.text (ports_of source instance)) names)

-- its formal in the map; the instance's label, where the map is by order
abbrev pub connection : (text port : List ℕ) → (instance : List Token) → Option Token
connection text port instance =
    option_or (first_use Formal text (port ∷ []) (associations (labelled instance))) (first_of instance)
