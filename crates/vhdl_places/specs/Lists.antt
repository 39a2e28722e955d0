-- A name of a sensitivity list that the process doesn't read.
use Rattle.std.specs.Prelude.{ℕ, ◌&&◌, ◌||◌, Bool, false, if◌then◌else◌, List, [], ◌∷◌, drop, find, Option, Some, None, is_none, is_some, option_map}
use Rattle.vhdl_slips.specs.Parts.{begins}
use Rattle.vhdl_slips.specs.Choices.{is_among, type_of}
use Rattle.vhdl_slips.specs.Words as words
use Rattle.vhdl_slips.specs.Words.{Read, text_of, with_tokens}
use Rattle.vhdl_misfits.specs.Places.{begins_one_of, behind_name}
use Rattle.vhdl_lexer.specs.declared.token.Token.{Token}
use Rattle.vhdl_lexer.specs.declared.token.TokenKind.TheVariants as k
use Rattle.vhdl_tree.specs.Lexeme.{same_kind}
use Rattle.vhdl_places.specs.Statements.{body, sensitivity}
use Rattle.vhdl_places.specs.Uses.{first_use}
use Rattle.vhdl_places.specs.declared.uses.Use.TheVariants as uses
use Rattle.vhdl_places.specs.declared.lists.Unread.{Unread}
use Rattle.vhdl_places.specs.declared.lists.Lack.{Lack}
use Rattle.vhdl_places.specs.declared.lists.Lack.TheVariants.{Nothing, Reading, EdgeIf, EdgeBranch}

abbrev pub is_unread : (text : List ℕ) → (body : List Token) → Token → Bool
is_unread text body t = same_kind t.kind k.Identifier && is_none (first_use uses.Read text (text_of text t ∷ []) body)

-- the first of the process with which these tokens begin
abbrev pub first_unread : (text : List ℕ) → (tokens : List Token) → Option Token
first_unread text tokens = find (is_unread text (body tokens)) (sensitivity tokens)

-- ---- what lacks

-- somewhere in the source an edge of it is tested
abbrev pub is_clock : (source : Read) → (name : List ℕ) → Bool
is_clock source name = is_some (first_use uses.Edge source.text (name ∷ []) source.tokens)

-- `before`: the source before the process. A literal of an enumeration is at the front
abbrev pub begins_literal : (before : Read) → List Token → Bool
begins_literal before [] = false
begins_literal before (t ∷ ts) =
    same_kind t.kind k.Identifier && is_among (type_of before (text_of before.text t)) (text_of before.text t)

-- one, or another literal, or a parenthesis as of `(others => '0')`
abbrev pub begins_constant : (before : Read) → List Token → Bool
begins_constant before tokens =
    begins_one_of (k.Character ∷ k.String ∷ k.BitString ∷ k.LeftParen ∷ []) tokens || begins_literal before tokens

-- the body begins with `if NAME = '1' then` and an assignment of a constant, as that of a register with an asynchronous
-- reset does
abbrev pub resets : (before : Read) → (body : List Token) → Bool
resets before body =
    begins k.If (drop 1 body) && begins k.Equal (drop 3 body)
    && begins k.Character (drop 4 body) && begins k.Then (drop 5 body)
    && begins_constant before (drop 1 (behind_name (drop 6 body)))

-- it may be a clock here
abbrev pub may_be_clock : (source before : Read) → (body : List Token) → (name : List ℕ) → Bool
may_be_clock source before body name = resets before body || is_clock source name

-- the body assigns it
abbrev pub is_driven : (text : List ℕ) → (body : List Token) → (name : List ℕ) → Bool
is_driven text body name = is_some (first_use uses.Assigned text (name ∷ []) body)

-- the edge that may be meant, at the else of the if with which the body begins
abbrev pub edge_lack : (branch : Option Token) → Lack
edge_lack None = EdgeIf
edge_lack (Some branch) = EdgeBranch branch

-- of a name that is assigned nothing; of a clock the test of its edge; of another that it's read
abbrev pub lack_of : (source before : Read) → (body : List Token) → (name : List ℕ) → Lack
lack_of source before body name =
    if is_driven source.text body name then Nothing
    else if may_be_clock source before body name then edge_lack (first_use uses.Branch source.text [] body)
    else Reading

-- what stands before these tokens
abbrev pub before_first : (source : Read) → (tokens : List Token) → Read
before_first source [] = with_tokens source.text []
before_first source (t ∷ ts) = words.before t.start source

abbrev pub unread_by : (source before : Read) → (body : List Token) → (name : Token) → Unread
unread_by source before body name = record { name = name; lack = lack_of source before body (text_of source.text name) }

abbrev pub unread_name : (source : Read) → (tokens : List Token) → Option Unread
unread_name source tokens =
    option_map (unread_by source (before_first source tokens) (body tokens)) (first_unread source.text tokens)
