-- The literals of the type of a signal (IEEE 1076-2008, 5.2.2, 6.2, 6.4.2.3), by the tokens of its source: those of the
-- last type of the name that stands behind the colon of its declaration, of those declared before it. Such a type is
-- declared in the architecture of its signals.
use Rattle.std.specs.Prelude.{ℕ, ◌&&◌, Bool, false, if◌then◌else◌, List, [], ◌∷◌, drop, map, filter, position, slice_get, Option}
use Rattle.std.specs.Str.{str_eq_ignore_ascii_case}
use Rattle.rtl_net.specs.Nets.{SignalView}
use Rattle.rtl_expect.specs.Expected.{Positions}
use Rattle.rtl_expect.specs.Telling.{LiteralNames}
use Rattle.vhdl_lexer.specs.declared.token.Token.{Token}
use Rattle.vhdl_lexer.specs.declared.token.TokenKind.TheVariants as k
use Rattle.vhdl_slips.specs.Choices.{literals_of}
use Rattle.vhdl_slips.specs.Parts.{found_by, from, is_other}
use Rattle.vhdl_slips.specs.Words as words
use Rattle.vhdl_slips.specs.Words.{Read, text_of, text_of_first}
use Rattle.vhdl_tree.specs.Lexeme.{same_kind}

abbrev pub begins_process : List Token → Bool
begins_process [] = false
begins_process (t ∷ ts) = same_kind t.kind k.Process

-- How the mark of the declaration at a byte is written: NAME { , NAME } : MARK. A variable that is kept stands at its
-- process, which declares others too: it has none.
abbrev pub mark_at : (at : ℕ) → Read → List ℕ
mark_at at source =
    if begins_process (words.from at source).tokens then []
    else text_of_first source.text (drop 1 (from k.Colon (words.from at source).tokens))

-- what stands in the parentheses of the type that a token begins, these behind it, where it has this name: type NAME is
-- ( LITERAL { , LITERAL } ); else what was found before
abbrev pub type_named : (text name : List ℕ) → (found : List Token) → Token → (behind : List Token) → List Token
type_named text name found t behind =
    if same_kind t.kind k.Type && str_eq_ignore_ascii_case (text_of_first text behind) name
    then literals_of behind else found

-- the literals of the type of the signal that is declared at a byte, with the commas between them
abbrev pub literals_at : (at : ℕ) → Read → List Token
literals_at at source =
    found_by (type_named source.text (mark_at at source)) [] (words.before at source).tokens

-- how literals are written that stand among commas
abbrev pub literal_names : (text : List ℕ) → List Token → List (List ℕ)
literal_names text tokens = map (text_of text) (filter (is_other k.Comma) tokens)

-- the literals of the type of a signal of this source
abbrev pub literals_in : Read → SignalView → List (List ℕ)
literals_in source s = literal_names source.text (literals_at s.at source)

-- ---- one of them

-- letters are of either case
abbrev pub position_of : (literals : List (List ℕ)) → (name : List ℕ) → Option ℕ
position_of literals name = position (λ literal. str_eq_ignore_ascii_case literal name) literals

abbrev pub positions_in : Read → Positions
positions_in source s name = position_of (literals_in source s) name

abbrev pub names_in : Read → LiteralNames
names_in source s position = slice_get (literals_in source s) position
