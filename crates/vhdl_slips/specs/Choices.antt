-- The choice that a case statement (IEEE 1076-2008, 10.9) or a selected signal assignment (11.6) lacks: of the
-- enumeration (5.2.2) that its first choice is a literal of, the first literal that is none of its choices. It is found
-- from the tokens of the source alone.
use Rattle.std.specs.Prelude.{ℕ, ◌+◌, ◌-◌, ◌<◌, ◌^◌, ◌==◌, ◌&&◌, ◌||◌, not, nat_le, Bool, if◌then◌else◌, List, [], ◌∷◌, ◌++◌, drop, codes, length, Option, Some, None, option_map, find}
use Rattle.std.specs.List.{list_all, list_any}
use Rattle.std.specs.Str.{str_eq_ignore_ascii_case}
use Rattle.vhdl_slips.specs.Parts.{found_by, up_to}
use Rattle.vhdl_slips.specs.Words.{Read, text_of, with_tokens}
use Rattle.vhdl_slips.specs.declared.choice.Statement.{Statement}
use Rattle.vhdl_slips.specs.declared.enumeration.TheConstants.{STD_ULOGIC, STD_ULOGIC_TOKENS}
use Rattle.vhdl_lexer.specs.declared.token.Token.{Token}
use Rattle.vhdl_lexer.specs.declared.token.TokenKind.{TokenKind}
use Rattle.vhdl_lexer.specs.declared.token.TokenKind.TheVariants as k
use Rattle.vhdl_tree.specs.Lexeme.{same_kind}

-- ---- choices

-- how many cases are open behind a token; `last`: the kind of the token before it
abbrev pub open_behind : (opened : ℕ) → (last kind : TokenKind) → ℕ
open_behind opened last kind =
    if same_kind kind k.Case then (if same_kind last k.End then opened - 1 else opened + 1) else opened

-- what stands behind this is a choice, and none of a case in the statement
abbrev pub chooses : (opened : ℕ) → (last : TokenKind) → Bool
chooses opened last = nat_le opened 1 && (same_kind last k.When || same_kind last k.Bar)

abbrev pub ends : (opened : ℕ) → TokenKind → Bool
ends opened kind = opened == 0 && same_kind kind k.Semicolon

-- the choices of the statement up to the first `;` that stands in no case
abbrev pub choices_from : (opened : ℕ) → (last : TokenKind) → List Token → List Token
choices_from opened last [] = []
choices_from opened last (t ∷ ts) =
    if ends opened t.kind then []
    else (if chooses opened last then t ∷ [] else []) ++ choices_from (open_behind opened last t.kind) t.kind ts

abbrev pub choices : List Token → List Token
choices statement = choices_from 0 k.Semicolon statement

-- ---- enumerations

-- a word is one of these tokens of a text, in letters of either case
abbrev pub is_written : (text : List ℕ) → List Token → (word : List ℕ) → Bool
is_written text tokens word = list_any (λ t. str_eq_ignore_ascii_case (text_of text t) word) tokens

abbrev pub is_among : Read → (word : List ℕ) → Bool
is_among read word = is_written read.text read.tokens word

-- what stands in the parentheses of NAME is ( LITERAL { , LITERAL } )
abbrev pub literals_of : List Token → List Token
literals_of tokens = up_to k.RightParen (drop 3 tokens)

-- those of type std_ulogic, which the package std_logic_1164 declares
abbrev pub std_ulogic : Read
std_ulogic = with_tokens STD_ULOGIC.now STD_ULOGIC_TOKENS

abbrev pub in_std_ulogic : Token → List ℕ
in_std_ulogic t = text_of STD_ULOGIC.now t

abbrev pub nine_values : List (List ℕ)
nine_values =
    codes "'U'" ∷ codes "'X'" ∷ codes "'0'" ∷ codes "'1'" ∷ codes "'Z'"
    ∷ codes "'W'" ∷ codes "'L'" ∷ codes "'H'" ∷ codes "'-'" ∷ []

-- the literals of the enumeration that a token begins, these behind it, where it has this literal: type NAME is (
-- LITERAL { , LITERAL } );
-- an architecture begins without one; else those found before
abbrev pub type_at : (literal text : List ℕ) → (found : Read) → Token → (behind : List Token) → Read
type_at literal text found t behind =
    if same_kind t.kind k.Architecture then std_ulogic
    else if same_kind t.kind k.Type && is_written text (literals_of behind) literal
    then with_tokens text (literals_of behind) else found

-- those of the last enumeration that has it, of the last architecture among these tokens; those of type std_ulogic
-- where none has it
abbrev pub type_of : Read → (literal : List ℕ) → Read
type_of read literal = found_by (type_at literal read.text) std_ulogic read.tokens

-- ---- what is missing

-- the literal isn't among these choices of a text
abbrev pub is_left_out : (text : List ℕ) → (choices : List Token) → (literals : List ℕ) → Token → Bool
is_left_out text choices literals t =
    not (same_kind t.kind k.Comma) && not (is_written text choices (text_of literals t))

abbrev pub left_out : (text : List ℕ) → (choices : List Token) → (literals : List ℕ) → List Token → Option (List ℕ)
left_out text choices literals tokens = option_map (text_of literals) (find (is_left_out text choices literals) tokens)

-- the first that isn't, where each choice is a literal of the type
abbrev pub missing_in : (text : List ℕ) → (choices : List Token) → (type : Read) → Option (List ℕ)
missing_in text choices type =
    if list_all (λ choice. is_among type (text_of text choice)) choices
    then left_out text choices type.text type.tokens else None

-- the type is that of the first choice
abbrev pub missing_of : (before : Read) → (text : List ℕ) → (choices : List Token) → Option (List ℕ)
missing_of before text [] = None
missing_of before text (choice ∷ choices) = missing_in text (choice ∷ choices) (type_of before (text_of text choice))

-- of the statement with which these words begin, behind those
abbrev pub missing : (before statement : Read) → Option (List ℕ)
missing before statement = missing_of before statement.text (choices statement.tokens)

abbrev pub missing_text : Option (List ℕ) → List ℕ
missing_text None = []
missing_text (Some literal) = codes "missing: " ++ literal ++ codes "\n"

-- the line that names it, or nothing
abbrev pub missing_line : (before statement : Read) → List ℕ
missing_line before statement = missing_text (missing before statement)

-- ---- what is left of a statement

-- its choices
abbrev pub choices_in : Statement → List Token
choices_in statement = choices_from statement.opened statement.last statement.left.now

-- the cases that may still open can be counted
abbrev pub HasRoom : Statement → Type 0
HasRoom statement = statement.opened + length statement.left.now < 2 ^ 64
