-- Texts that are read and dropped: what stands between `attribute` (IEEE 1076-2008, 6.7, 7.2), `assert` or `report`
-- (10.3, 10.4, 11.5) and the semicolon behind it.
use Rattle.std.specs.Prelude.{◌≡◌, ℕ, suc, ◌-◌, ◌==◌, ◌&&◌, ◌||◌, Bool, true, not, nat_lt, if◌then◌else◌, List, [], ◌∷◌, ◌++◌, map}
use Rattle.vhdl_lexer.specs.Kinds.{is_one_of}
use Rattle.vhdl_lexer.specs.declared.language.Language.{Language}
use Rattle.vhdl_lexer.specs.declared.token.TokenKind.{TokenKind}
use Rattle.vhdl_lexer.specs.declared.token.TokenKind.TheVariants as k
use Rattle.vhdl_tree.specs.Lexeme.{same_kind}
use Rattle.vhdl_tree.specs.Tree.{Text}
use Rattle.vhdl_tree.specs.Pieces.{Piece, some}
use Rattle.vhdl_tree.specs.grammar.Wide.{IsWide}

-- attribute text ; | assert text ; | report text ;
abbrev pub spell_text : TokenKind → Text → List Piece
spell_text word text = some word ∷ (map some text ++ some k.Semicolon ∷ [])

-- the tokens that are operands of expressions, or begin or end one (9.1)
abbrev pub is_operand : TokenKind → Bool
is_operand = is_one_of (k.Identifier ∷ k.Integer ∷ k.Character ∷ k.String ∷ k.BitString ∷ k.Null ∷ [])

abbrev pub ends_operand : TokenKind → Bool
ends_operand kind = is_operand kind || is_one_of (k.RightParen ∷ k.All ∷ []) kind

-- the words that say what an attribute is of (7.2)
abbrev pub is_entity_class : TokenKind → Bool
is_entity_class = is_one_of
    (k.Entity ∷ k.Architecture ∷ k.Configuration ∷ k.Procedure ∷ k.Function ∷ k.Package ∷ k.Type ∷ k.Subtype
    ∷ k.Constant ∷ k.Signal ∷ k.Variable ∷ k.Component ∷ k.Label ∷ k.Literal ∷ k.Units ∷ k.Group ∷ k.File ∷ [])

-- the operators and delimiters of expressions, and the words between them in an assertion, a report or an attribute
abbrev pub is_between : TokenKind → Bool
is_between = is_one_of
    (k.Tick ∷ k.Comma ∷ k.Dot ∷ k.Colon ∷ k.Arrow ∷ k.Bar ∷ k.Ampersand ∷ k.Plus ∷ k.Minus ∷ k.Star ∷ k.Slash
    ∷ k.Equal ∷ k.NotEqual ∷ k.Less ∷ k.LessEqual ∷ k.Greater ∷ k.GreaterEqual ∷ k.And ∷ k.Or ∷ k.Xor ∷ k.Xnor
    ∷ k.Nand ∷ k.Nor ∷ k.Not ∷ k.Abs ∷ k.Mod ∷ k.Rem ∷ k.Sll ∷ k.Srl ∷ k.Sla ∷ k.Sra ∷ k.Rol ∷ k.Ror ∷ k.To
    ∷ k.Downto ∷ k.Range ∷ k.Others ∷ k.All ∷ k.Open ∷ k.Report ∷ k.Severity ∷ k.Of ∷ k.Is ∷ [])

-- An operand stands directly behind no other one, but a unit behind a number, and what an attribute is of behind a
-- colon: so a semicolon that was forgotten is missed at once.
abbrev pub may_follow : (last kind : TokenKind) → Bool
may_follow last kind =
    if is_operand kind then not (ends_operand last) || (same_kind last k.Integer && same_kind kind k.Identifier)
    else if is_entity_class kind then same_kind last k.Colon
    else is_between kind

-- text = operands and what stands between them, with ( text ) among them: here behind so many ( that are open, and
-- behind this token
abbrev pub is_text : ℕ → TokenKind → Text → Bool
is_text depth last [] = (depth == 0) && ends_operand last
is_text depth last (kind ∷ more) =
    if same_kind kind k.LeftParen then is_text (suc depth) kind more
    else if same_kind kind k.RightParen then nat_lt 0 depth && is_text (depth - 1) kind more
    else may_follow last kind && is_text depth kind more

abbrev pub IsTextIn : Language → Text → Type 0
IsTextIn language text = IsWide language × (is_text 0 k.Semicolon text ≡ true)
