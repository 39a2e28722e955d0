-- Instances (IEEE 1076-2008, 11.7): which entity one is of, and which port it leaves open.
use Rattle.std.specs.Prelude.{ℕ, ◌&&◌, ◌||◌, not, Bool, true, false, if◌then◌else◌, List, [], ◌∷◌, drop, Option, Some, None}
use Rattle.std.specs.Str.{str_eq_ignore_ascii_case}
use Rattle.vhdl_slips.specs.Words.{text_of}
use Rattle.vhdl_slips.specs.Interfaces.{is_declared}
use Rattle.vhdl_slips.specs.Parts.{begins, behind_last, from, has, up_to}
use Rattle.vhdl_lexer.specs.declared.token.Token.{Token}
use Rattle.vhdl_lexer.specs.declared.token.TokenKind.TheVariants as k
use Rattle.vhdl_tree.specs.Lexeme.{same_kind}

-- ---- an instance, without its label

-- where a map is open in these tokens, they are one that isn't ended
abbrev pub with_map : List Token → List Token
with_map tokens = if has k.Map tokens && not (has k.Semicolon tokens) then tokens else []

-- the one that isn't ended before a byte: it stands behind the last colon
abbrev pub open_instance : (before : List Token) → List Token
open_instance before = with_map (behind_last k.Colon before)

-- the one behind a label and a colon
abbrev pub labelled : List Token → List Token
labelled tokens = up_to k.Semicolon (drop 2 tokens)

-- the name of its entity: `entity L . NAME`, `component NAME` or `NAME`, and then a map
abbrev pub entity_of : (instance : List Token) → Option Token
entity_of (first ∷ second ∷ third ∷ fourth ∷ ts) =
    if same_kind first.kind k.Entity then Some fourth
    else if same_kind first.kind k.Component then Some second else Some first
entity_of _ = None

-- ---- the map of its ports

-- what stands behind `port map (`; nothing without one
abbrev pub associations : (instance : List Token) → List Token
associations instance = drop 3 (from k.Port instance)

-- there are none, or the first is by name
abbrev pub is_by_name : (associations : List Token) → Bool
is_by_name [] = true
is_by_name (first ∷ second ∷ ts) = same_kind second.kind k.Arrow
is_by_name _ = false

-- the port has an actual at the front of these: `NAME => ACTUAL`, and that isn't open
abbrev pub gives : (text name : List ℕ) → List Token → Bool
gives text name (first ∷ second ∷ third ∷ ts) =
    same_kind second.kind k.Arrow && not (same_kind third.kind k.Open)
    && str_eq_ignore_ascii_case (text_of text first) name
gives text name _ = false

abbrev pub is_given : (text name : List ℕ) → (associations : List Token) → Bool
is_given text name [] = false
is_given text name (t ∷ ts) = gives text name (t ∷ ts) || is_given text name ts

-- ---- the port that it leaves open

-- behind the colon of a declaration that stands behind these: an out port, or one with a default, needs no actual
abbrev pub needs_actual : (declaration : List Token) → Bool
needs_actual declaration = not (begins k.Out declaration) && not (has k.Assign declaration)

-- what stands of the declaration behind its colon, these tokens standing behind a name of it
abbrev pub declaration_of : (behind : List Token) → List Token
declaration_of behind = up_to k.Semicolon (drop 1 (from k.Colon behind))

-- the port at the front of these has no actual, but needs one
abbrev pub is_left_open : (text : List ℕ) → (associations : List Token) → (ports : List Token) → Bool
is_left_open text associations (t ∷ next ∷ ts) =
    is_declared t next && needs_actual (declaration_of (drop 1 (t ∷ next ∷ ts)))
    && not (is_given text (text_of text t) associations)
is_left_open text associations _ = false

-- the first of these ports that is left open
abbrev pub first_open : (text : List ℕ) → (associations : List Token) → (ports : List Token) → Option Token
first_open text associations [] = None
first_open text associations (t ∷ ts) =
    if is_left_open text associations (t ∷ ts) then Some t else first_open text associations ts

-- ---- the port of an actual

-- what a map ends with: `PORT =>`
abbrev pub formal_in : (last_two : List Token) → Option Token
formal_in (port ∷ arrow ∷ []) = if same_kind arrow.kind k.Arrow then Some port else None
formal_in _ = None
