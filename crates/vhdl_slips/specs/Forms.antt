-- Forms of VHDL that aren't read, and slips of the pen: which of them stands at a word.
use Rattle.std.specs.Prelude.{ℕ, ◌&&◌, ◌||◌, not, Bool, true, false, if◌then◌else◌, List, [], ◌∷◌, Option, Some, None, map, unwrap_or, length, ◌==◌}
use Rattle.std.specs.Borrow.{Bor}
use Rattle.std.specs.Str.{str_eq_ignore_ascii_case}
use Rattle.vhdl_slips.specs.Parts.{found_by}
use Rattle.vhdl_slips.specs.declared.form.Behind.{Behind}
use Rattle.vhdl_slips.specs.declared.form.Behind.TheVariants as behind
use Rattle.vhdl_slips.specs.declared.form.TheConstants.{OTHER}
use Rattle.vhdl_slips.specs.declared.slip.TheConstants.{SLIP}
use Rattle.vhdl_slips.specs.declared.table.TheConstants.{BEGUN, CONDITIONS, LISTS, TARGETS, SIGNS, VARIABLES, DECLARED, WIDE_DECLARED, STATIC, WIDE_STATIC, AGGREGATES, WIDE_AGGREGATES, TYPES, UNITS, WAITS, STATEMENTS, LOGICAL, SHIFTS, ENDED, VALUES, WIDE_VALUES, ELEMENTS, WIDE_ELEMENTS, RELATIONS, FUNCTIONS, NUMBERS, WIDE_NUMBERS, OTHER_TYPES, PLACES, WIDE_PLACES, DEFAULTS, WIDE_DEFAULTS}
use Rattle.vhdl_slips.specs.declared.unread.Context.{Context}
use Rattle.vhdl_lexer.specs.declared.language.Language.{Language}
use Rattle.vhdl_lexer.specs.declared.language.Language.TheVariants.{Profile, Wide}
use Rattle.vhdl_lexer.specs.declared.token.Token.{Token}
use Rattle.vhdl_lexer.specs.declared.token.TokenKind.{TokenKind}
use Rattle.vhdl_lexer.specs.declared.token.TokenKind.TheVariants as k
use Rattle.vhdl_tree.specs.Lexeme.{same_kind}

-- what is said behind the word, and what a designer does about it
abbrev pub Said : Type 0
Said = List ℕ × List ℕ

-- a form begins at this word, in letters of either case, behind that; the empty word stands for any
abbrev pub FormWord : Type 0
FormWord = List ℕ × Behind × Said

-- what is said, in the code
abbrev pub Texts : Type 0
Texts = Bor (List ℕ) × Bor (List ℕ)

abbrev pub said_of : Texts → Said
said_of said = (said.0.now, said.1.now)

-- a table of the code
abbrev pub words_of : Bor (List (Bor (List ℕ) × Behind × Texts)) → List FormWord
words_of table = map (λ w. (w.0.now, w.1, said_of w.2)) table.now

-- ---- what stands before a token

abbrev pub at_front : (begins_line : Bool) → Context
at_front begins_line = record {
  last = None;
  in_index = false;
  word = None;
  opener = None;
  begins_line = begins_line;
  has_begun = false;
  in_process = false;
}

abbrev pub is_kind : Option TokenKind → TokenKind → Bool
is_kind None kind = false
is_kind (Some last) kind = same_kind last kind

-- a name's index opens with this token, and goes to the next `)`
abbrev pub opens_index : Context → TokenKind → Bool
opens_index c kind = same_kind kind k.LeftParen && is_kind c.last k.Identifier

-- an entity or architecture begins with this token; an instance names its entity behind a colon
abbrev pub begins_unit : Context → TokenKind → Bool
begins_unit c kind = same_kind kind k.Architecture || (same_kind kind k.Entity && not (is_kind c.last k.Colon))

-- the statements of an architecture have begun behind it: with its begin, up to the next unit
abbrev pub has_begun_behind : Context → TokenKind → Bool
has_begun_behind c kind = same_kind kind k.Begin || (c.has_begun && not (begins_unit c kind))

-- a process isn't ended behind it
abbrev pub in_process_behind : Context → TokenKind → Bool
in_process_behind c kind =
    if same_kind kind k.Process then not (is_kind c.last k.End) else c.in_process && not (begins_unit c kind)

-- one token more
abbrev pub context_behind : Context → TokenKind → Context
context_behind c kind =
    if c.in_index || opens_index c kind then record c { last = Some kind; in_index = not (same_kind kind k.RightParen) }
    else record c {
      last = Some kind;
      word = Some kind;
      opener = c.word;
      has_begun = has_begun_behind c kind;
      in_process = in_process_behind c kind;
    }

abbrev pub context_with : Context → Token → (behind : List Token) → Context
context_with c t behind = context_behind c t.kind

abbrev pub context_of : (begins_line : Bool) → List Token → Context
context_of begins_line tokens = found_by context_with (at_front begins_line) tokens

-- a name, a literal or `)` ends with it
abbrev pub ends_operand : Option TokenKind → Bool
ends_operand (Some k.Identifier) = true
ends_operand (Some k.Integer) = true
ends_operand (Some k.Character) = true
ends_operand (Some k.String) = true
ends_operand (Some k.BitString) = true
ends_operand (Some k.RightParen) = true
ends_operand _ = false

-- a word with which a statement may end
abbrev pub is_last_word : Option TokenKind → Bool
is_last_word (Some k.End) = true
is_last_word (Some k.Null) = true
is_last_word (Some k.Open) = true
is_last_word (Some k.All) = true
is_last_word _ = false

-- the word behind an `end` is the last
abbrev pub is_end : Context → Bool
is_end c = is_kind c.opener k.End && not (is_kind c.last k.Semicolon)

-- a declaration, a statement or its head may end with the last token
abbrev pub ends_statement : Context → Bool
ends_statement c = ends_operand c.last || is_last_word c.last || is_end c

-- a statement or the type in a declaration may begin behind it
abbrev pub opens : Option TokenKind → Bool
opens (Some k.Semicolon) = true
opens (Some k.Colon) = true
opens (Some k.Arrow) = true
opens (Some k.Then) = true
opens (Some k.Else) = true
opens (Some k.Begin) = true
opens (Some k.Loop) = true
opens (Some k.Generate) = true
opens (Some k.Is) = true
opens _ = false

-- the line before the token may lack its `;` or its last word
abbrev pub is_new_line : Context → Bool
is_new_line c = c.begins_line && ends_statement c

-- the last token, or the last but for an index, is a name, with which a statement begins, or a type in a declaration
abbrev pub is_target : Context → Bool
is_target c = not c.in_index && is_kind c.word k.Identifier && opens c.opener

-- a statement of an architecture stands there, or goes on
abbrev pub is_concurrent : Context → Bool
is_concurrent c = c.has_begun && not c.in_process

-- a label and a name stand before it, and an index that is open or has just been closed
abbrev pub is_instance : Context → Bool
is_instance c = (c.in_index || is_kind c.last k.RightParen) && is_kind c.opener k.Colon && is_concurrent c

-- the colon of a declaration, or its mode
abbrev pub is_declared : Option TokenKind → Bool
is_declared last = is_kind last k.Colon || is_kind last k.In || is_kind last k.Out

-- this stands before the token
abbrev pub holds : Behind → Context → Bool
holds behind.Anything c = true
holds (behind.Kind kind) c = is_kind c.last kind
holds behind.Operand c = ends_operand c.last
holds behind.Declared c = is_declared c.last
holds (behind.Opener kind) c = not c.in_index && is_kind c.opener kind
holds (behind.Index kind) c = c.in_index && is_kind c.opener kind
holds behind.Target c = is_target c
holds behind.NewLine c = is_new_line c
holds behind.Instance c = is_instance c
holds behind.Concurrent c = is_concurrent c

-- ---- which form it is

-- a form begins at the word
abbrev pub fits : (form : List ℕ) → Behind → Context → (word : List ℕ) → Bool
fits form behind c word = (length form == 0 || str_eq_ignore_ascii_case form word) && holds behind c

-- the first that fits in such a table
abbrev pub form_in : List FormWord → Context → (word : List ℕ) → Option Said
form_in [] c word = None
form_in (w ∷ words) c word = if fits w.0 w.1 c word then Some w.2 else form_in words c word

-- the first in such tables, or else this
abbrev pub form_among : List (List FormWord) → Context → (word : List ℕ) → (fallback : Said) → Said
form_among [] c word fallback = fallback
form_among (words ∷ tables) c word fallback = unwrap_or (form_in words c word) (form_among tables c word fallback)

-- one of these is told by the language
abbrev pub told_in : {A : Type 0} → Language → (narrow wide : A) → A
told_in Profile narrow wide = narrow
told_in Wide narrow wide = wide

-- the words at which slips of the pen are told
unfoldable pub slips : Language → List (List FormWord)
slips language =
    map (map (λ w. (w.0.now, w.1, (w.2.0.now, w.2.1.now))))
    (BEGUN ∷ CONDITIONS ∷ LISTS ∷ TARGETS ∷ SIGNS ∷ VARIABLES ∷ told_in language DECLARED WIDE_DECLARED ∷ [])

-- those at which a form begins that the grammar hasn't
unfoldable pub unread : Language → List (List FormWord)
unread language =
    map (map (λ w. (w.0.now, w.1, (w.2.0.now, w.2.1.now))))
    (told_in language STATIC WIDE_STATIC ∷ told_in language AGGREGATES WIDE_AGGREGATES
    ∷ TYPES ∷ UNITS ∷ WAITS ∷ STATEMENTS ∷ LOGICAL ∷ SHIFTS ∷ ENDED ∷ [])

-- the names of packages, types and attributes that are left out
unfoldable pub left_out : Language → List (List FormWord)
left_out language =
    map (map (λ w. (w.0.now, w.1, (w.2.0.now, w.2.1.now))))
    (told_in language VALUES WIDE_VALUES ∷ told_in language ELEMENTS WIDE_ELEMENTS
    ∷ RELATIONS ∷ FUNCTIONS ∷ told_in language NUMBERS WIDE_NUMBERS ∷ OTHER_TYPES
    ∷ told_in language PLACES WIDE_PLACES ∷ told_in language DEFAULTS WIDE_DEFAULTS ∷ [])

-- a slip of the pen at the word, or a form that isn't read
abbrev pub form_behind : Language → Context → (word : List ℕ) → Said
form_behind language c word =
    form_among (slips language) c word (form_among (unread language) c word (SLIP.0.now, SLIP.1.now))

-- what stands at a word where nothing of the language can stand, behind these tokens
unfoldable pub unexpected_form : Language → (before : List Token) → (begins_line : Bool) → (word : List ℕ) → Said
unexpected_form language before begins_line word = form_behind language (context_of begins_line before) word

-- what stands at a word where the language leaves something out
unfoldable pub left_out_form : Language → (before : List Token) → (word : List ℕ) → Said
left_out_form language before word =
    form_among (left_out language) (context_of false before) word (OTHER.0.now, OTHER.1.now)
