-- The name that has to stand at an end: that of what it ends (IEEE 1076-2008, 3.2.1, 10.8, 10.9, 10.10, 11.3, 11.9).
use Rattle.std.specs.Prelude.{◌-◌, ◌&&◌, ◌||◌, not, Bool, if◌then◌else◌, List, [], ◌∷◌, length, take, drop, Option, Some, None}
use Rattle.std.specs.List.{prefix_len}
use Rattle.vhdl_slips.specs.Parts.{begins}
use Rattle.vhdl_hints.specs.declared.end_name.Begun.{Begun}
use Rattle.vhdl_hints.specs.declared.end_name.Begun.TheVariants.{Named, Unknown, Unnamed}
use Rattle.vhdl_lexer.specs.declared.token.Token.{Token}
use Rattle.vhdl_lexer.specs.declared.token.TokenKind.{TokenKind}
use Rattle.vhdl_lexer.specs.declared.token.TokenKind.TheVariants as k
use Rattle.vhdl_tree.specs.Lexeme.{same_kind}

-- ---- the end

abbrev pub last_two : List Token → List Token
last_two tokens = drop (length tokens - 2) tokens

abbrev pub but_last_two : List Token → List Token
but_last_two tokens = take (length tokens - 2) tokens

-- the word of an end that stands before a name, these two tokens standing there: `end WORD`, or a bare `end`
abbrev pub end_word : (last_two : List Token) → Option TokenKind
end_word (first ∷ second ∷ []) =
    if same_kind second.kind k.End then Some k.End else if same_kind first.kind k.End then Some second.kind else None
end_word _ = None

-- ---- what it ends

-- an if, and what begins with for, goes on with one of these
abbrev pub is_inside_head : Token → Bool
is_inside_head t = not (same_kind t.kind k.Then || same_kind t.kind k.Loop || same_kind t.kind k.Generate)

-- the head of a statement, of which these tokens stand behind its first, goes on with this word
abbrev pub goes_on : TokenKind → (behind : List Token) → Bool
goes_on word behind = begins word (drop (prefix_len is_inside_head behind) behind)

-- a statement of this word begins with such a token, these standing behind it: a loop with for, a generate with for
-- or if
abbrev pub begins_statement : (word kind : TokenKind) → (behind : List Token) → Bool
begins_statement k.If kind behind = same_kind kind k.If && goes_on k.Then behind
begins_statement k.Loop kind behind = same_kind kind k.For && goes_on k.Loop behind
begins_statement k.Generate kind behind = (same_kind kind k.For || same_kind kind k.If) && goes_on k.Generate behind
begins_statement word kind behind = same_kind kind word

-- a statement's label, and a colon, stand right before it
abbrev pub label_of : (label colon : Token) → Begun
label_of label colon = if same_kind colon.kind k.Colon then Named label else Unnamed

-- what is known behind the third of these tokens of the statement of this word that was begun last; of an ended
-- one nothing
abbrev pub statement_at : (word : TokenKind) → (found : Begun) → List Token → Begun
statement_at word found (first ∷ second ∷ third ∷ ts) =
    if same_kind second.kind k.End && same_kind third.kind word then Unknown
    else if begins_statement word third.kind (drop 3 (first ∷ second ∷ third ∷ ts)) then label_of first second
    else found
statement_at word found _ = found

-- of a unit, which begins with `entity NAME is` or `architecture NAME of`
abbrev pub begins_unit : (first third : Token) → Bool
begins_unit first third =
    (same_kind first.kind k.Entity && same_kind third.kind k.Is)
    || (same_kind first.kind k.Architecture && same_kind third.kind k.Of)

abbrev pub unit_at : (found : Begun) → List Token → Begun
unit_at found (first ∷ second ∷ third ∷ ts) = if begins_unit first third then Named second else found
unit_at found _ = found

-- of a component, whose name follows its word
abbrev pub component_at : (found : Begun) → List Token → Begun
component_at found (first ∷ second ∷ third ∷ ts) =
    if not (same_kind second.kind k.Component) then found
    else if same_kind first.kind k.End then Unknown else Named third
component_at found _ = found

-- of what ends with such a word; a bare end ends a unit
abbrev pub begun_at : (word : TokenKind) → (found : Begun) → List Token → Begun
begun_at k.End found tokens = unit_at found tokens
begun_at k.Entity found tokens = unit_at found tokens
begun_at k.Architecture found tokens = unit_at found tokens
begun_at k.Component found tokens = component_at found tokens
begun_at word found tokens = statement_at word found tokens

-- what was begun last, in order of the text
abbrev pub begun_from : (word : TokenKind) → (found : Begun) → List Token → Begun
begun_from word found [] = found
begun_from word found (t ∷ ts) = begun_from word (begun_at word found (t ∷ ts)) ts

-- what is known of that, the end standing behind these tokens
abbrev pub last_begun : (word : TokenKind) → (before : List Token) → Begun
last_begun word before = begun_from word Unknown before
