-- What the kinds of tokens say of statements and declarations (IEEE 1076-2008, 3.3.2, 10 and 11). `last` is the kind of
-- the token before.
use Rattle.std.specs.Prelude.{◌&&◌, ◌||◌, not, Bool, false, [], ◌∷◌, if◌then◌else◌}
use Rattle.vhdl_lexer.specs.Kinds as lexer
use Rattle.vhdl_lexer.specs.Kinds.{is_one_of, is_end, is_semicolon}
use Rattle.vhdl_lexer.specs.declared.token.TokenKind.{TokenKind}
use Rattle.vhdl_lexer.specs.declared.token.TokenKind.TheVariants as k

-- ---- their parts

abbrev pub is_begin : TokenKind → Bool
is_begin = is_one_of (k.Begin ∷ [])

-- a list of statements or declarations ends in front of these
abbrev pub closes : TokenKind → Bool
closes kind = is_end kind || is_begin kind

-- the words of statements and declarations that have an `end` of their own
abbrev pub has_end : TokenKind → Bool
has_end = is_one_of (
    k.If ∷ k.Case ∷ k.For ∷ k.While ∷ k.Process ∷ k.Block ∷ k.Component ∷ k.Record ∷ k.Function ∷ k.Procedure ∷ []
    )

abbrev pub is_left_paren : TokenKind → Bool
is_left_paren = is_one_of (k.LeftParen ∷ [])

abbrev pub is_right_paren : TokenKind → Bool
is_right_paren = is_one_of (k.RightParen ∷ [])

abbrev pub is_colon : TokenKind → Bool
is_colon = is_one_of (k.Colon ∷ [])

abbrev pub is_wait : TokenKind → Bool
is_wait = is_one_of (k.Wait ∷ [])

-- `: component` begins an instance, and behind `wait for` stands a time
abbrev pub is_part : (last kind : TokenKind) → Bool
is_part last k.Component = is_colon last
is_part last k.For = is_wait last
is_part last _ = false

-- something that has an `end` begins here; behind `end` the word ends it
abbrev pub opens : (last kind : TokenKind) → Bool
opens last kind = has_end kind && not (is_end last) && not (is_part last kind)

abbrev pub is_is : TokenKind → Bool
is_is = is_one_of (k.Is ∷ [])

-- a statement or declaration may begin behind this token: not behind `is`, `end loop` and `end generate`
abbrev pub is_boundary : (last kind : TokenKind) → Bool
is_boundary last kind = lexer.is_boundary last kind && not (is_is kind) && (is_semicolon kind || not (is_end last))

-- behind these more of a statement stands, which begins as one does
abbrev pub wants_more : TokenKind → Bool
wants_more = is_one_of (k.Select ∷ k.Colon ∷ [])

-- ---- how they begin

-- the words with which declarations begin
abbrev pub declares : TokenKind → Bool
declares = is_one_of (
    k.Signal ∷ k.Constant ∷ k.Variable ∷ k.Shared ∷ k.Type ∷ k.Subtype ∷ k.Component ∷ k.Attribute ∷ k.Alias ∷
    k.File ∷ k.Function ∷ k.Procedure ∷ k.Pure ∷ k.Impure ∷ k.Disconnect ∷ k.Group ∷ k.Use ∷ []
    )

-- what begins with such a token may be taken out: behind the architecture's `begin`, if it stands before, or in front
-- of it
abbrev pub may_go : (begun : Bool) → TokenKind → Bool
may_go begun kind = if begun then not (closes kind) else declares kind

-- the words with which statements begin that have no `end`
abbrev pub is_simple : TokenKind → Bool
is_simple = is_one_of (k.With ∷ k.Wait ∷ k.Null ∷ k.Assert ∷ k.Report ∷ k.Return ∷ k.Exit ∷ k.Next ∷ [])

-- a statement begins with this word, or a declaration
abbrev pub states : TokenKind → Bool
states kind = is_simple kind || has_end kind || declares kind

-- the words with which further parts of a statement begin that has an `end`
abbrev pub is_further : TokenKind → Bool
is_further = is_one_of (k.Elsif ∷ k.Else ∷ k.When ∷ [])

abbrev pub is_name : TokenKind → Bool
is_name = is_one_of (k.Identifier ∷ [])

-- behind a name: it is assigned a value, or it is a label
abbrev pub assigns : TokenKind → Bool
assigns = is_one_of (k.LessEqual ∷ k.Assign ∷ k.Colon ∷ [])
