-- What is told of a refused token: of trials in a fixed order what is said of the first with which the text goes on.
-- It goes on up to the next `;`, or, where a trial takes away all that follows, as far as what that puts there.
use Rattle.std.specs.Prelude.{◌≡◌, ℕ, zero, suc, ◌+◌, ◌-◌, ◌==◌, ◌&&◌, ◌||◌, not, nat_le, Bool, true, false, if◌then◌else◌, List, [], ◌∷◌, ◌++◌, ◌⊎◌, length, map, flat_map, drop, slice_range, min, Option, Some, None}
use Rattle.std.specs.Borrow.{Bor}
use Rattle.std.specs.List.{list_any}
use Rattle.vhdl_lexer.specs.declared.language.Language.{Language}
use Rattle.vhdl_lexer.specs.declared.language.Language.TheVariants.{Profile, Wide}
use Rattle.vhdl_lexer.specs.declared.token.Token.{Token}
use Rattle.vhdl_lexer.specs.declared.token.TokenKind.{TokenKind}
use Rattle.vhdl_lexer.specs.declared.token.TokenKind.TheVariants as k
use Rattle.vhdl_parser_rules.specs.declared.fault.SyntaxFault.{SyntaxFault}
use Rattle.vhdl_parser_rules.specs.declared.fault.SyntaxFault.TheVariants as fault
use Rattle.vhdl_tree.specs.Lexeme.{same_kind}
use Rattle.vhdl_expected.specs.Changes.{Change, change, changed, GoesOn, Breaks}
use Rattle.vhdl_parser_rules.specs.Expected.{Expected, Said, Texts, nothing, perhaps, said_of, surely}
use Rattle.vhdl_parser_rules.specs.Near.{is_near}
use Rattle.vhdl_expected.specs.Reading.{Reading, before, from}
use Rattle.vhdl_expected.specs.declared.reading.TheConstants.{MOST_TOKENS}
use Rattle.vhdl_expected.specs.declared.respelling.TheConstants.{MOST_PLACES}
use Rattle.vhdl_expected.specs.declared.otherwise.TheConstants.{ATTRIBUTES, WIDE_ATTRIBUTES, OPERATORS, DELIMITERS, SPARES, STRAYS}
use Rattle.vhdl_expected.specs.declared.closed.TheConstants.{CLOSED, UNENDED, PLACES, MODES}
use Rattle.vhdl_expected.specs.declared.names.TheConstants.{NAMES, MAPPED, TYPES, RANGES}
use Rattle.vhdl_expected.specs.declared.instead.TheConstants.{INSTEAD, SIGNALS, WIDE_SIGNALS, RELATED, PARTS, DIVIDED, UNPARTED}
use Rattle.vhdl_expected.specs.declared.table.TheConstants.{SLIPS, BLANKS, ENDED, ENDINGS, OPERANDS, VALUES, JOINTS, TARGETS, WIDE_TARGETS, VALUED, DECLARED, LISTS, HEADS, UNITS}
use Rattle.vhdl_expected.specs.declared.word.TheConstants.{FROM_A, FROM_E, FROM_L, FROM_P, ENDS, JOINED}
use Rattle.vhdl_expected.specs.declared.reserved.TheConstants.{NO_NAMES}
use Rattle.vhdl_expected.specs.declared.texts.TheConstants.{RESERVED}

-- ---- trials

-- a change of the token at this place
pub record Trial : Type 0 where
  pub place : ℕ
  pub change : Change

abbrev pub at : (place : ℕ) → Change → Trial
at place change = record { place = place; change = change }

abbrev pub tried : Reading → Trial → List Token
tried r t = changed t.place t.change r.tokens

-- what is said of the first with which the text goes on
abbrev pub Finds : Reading → List Trial → Option Said → Type 0
Finds r [] said = said ≡ None
Finds r (t ∷ ts) said =
    (GoesOn r.language r.source (tried r t) × (said ≡ Some t.change.said))
    ⊎ (Breaks r.language r.source (tried r t) × Finds r ts said)

-- the parser refuses a token
abbrev pub is_wrong : SyntaxFault → Bool
is_wrong (fault.Unexpected at) = true
is_wrong (fault.TooDeep at) = true
is_wrong _ = false

-- ---- words that are meant by others

-- a word: how it is spelled; the tokens that stand for it, and in place of how many; and what is told where it is meant
-- by the refused token, or by one before
pub record Word : Type 0 where
  pub spelled : List ℕ
  pub kinds : List TokenKind
  pub taken : ℕ
  pub here : Said
  pub before : Said

abbrev pub word : (spelled : List ℕ) → (kinds : List TokenKind) → (taken : ℕ) → (here before : Said) → Word
word spelled kinds taken here before =
    record { spelled = spelled; kinds = kinds; taken = taken; here = here; before = before }

-- a word of the code
abbrev pub CodeWord : Type 0
CodeWord = Bor (List ℕ) × Bor (List TokenKind) × ℕ × Texts × Texts

abbrev pub word_of : CodeWord → Word
word_of w = word w.0.now w.1.now w.2 (said_of w.3) (said_of w.4)

-- a table of the code
abbrev pub words_of : Bor (List CodeWord) → List Word
words_of table = map word_of table.now

unfoldable pub words : List (List Word)
words =
    map (map (λ w. word w.0.now w.1.now w.2 (w.3.0.now, w.3.1.now) (w.4.0.now, w.4.1.now)))
    (FROM_A ∷ FROM_E ∷ FROM_L ∷ FROM_P ∷ ENDS ∷ JOINED ∷ [])

-- the word in place of the refused token, or of another
abbrev pub in_place : (is_refused : Bool) → Word → Change
in_place is_refused w = change w.kinds w.taken (if is_refused then w.here else w.before)

abbrev pub is_identifier : TokenKind → Bool
is_identifier k.Identifier = true
is_identifier _ = false

-- the word may be meant by the token
abbrev pub is_meant : (source : List ℕ) → Token → Word → Bool
is_meant source t w = is_near (slice_range source t.start t.end) w.spelled

abbrev pub respelt_as : Reading → (place : ℕ) → Token → Word → List Trial
respelt_as r place t w = if is_meant r.source t w then at place (in_place (place == r.refused) w) ∷ [] else []

abbrev pub respelt_in : Reading → (place : ℕ) → Token → List Word → List Trial
respelt_in r place t ws = flat_map (respelt_as r place t) ws

abbrev pub respelt_first : Reading → (place : ℕ) → List Token → List Trial
respelt_first r place [] = []
respelt_first r place (t ∷ ts) = if is_identifier t.kind then flat_map (respelt_in r place t) words else []

-- each word that may be meant at this place, and then at so many places before it
abbrev pub respelt_back : Reading → (places place : ℕ) → List Trial
respelt_back r zero place = []
respelt_back r (suc places) place = respelt_first r place (drop place r.tokens) ++ respelt_back r places (place - 1)

abbrev pub respelt : Reading → List Trial
respelt r = respelt_back r (min MOST_PLACES (r.refused + 1)) r.refused

-- ---- a reserved word as a name

-- neither a reserved word, nor a name that is meant: an end ends something, and others is a choice
abbrev pub is_no_name : TokenKind → Bool
is_no_name kind = list_any (same_kind kind) NO_NAMES

-- a name may stand between these, but for that of an attribute, what is ended, or what has an operand or index
-- in parentheses
abbrev pub is_between : (last next : TokenKind) → Bool
is_between last next = not (same_kind last k.Tick || same_kind last k.End || same_kind next k.LeftParen)

-- the second of these tokens is a reserved word where a name may stand
abbrev pub is_reserved : List Token → Bool
is_reserved (last ∷ t ∷ next ∷ ts) = is_between last.kind next.kind && not (is_no_name t.kind)
is_reserved _ = false

-- a name in place of the refused token, where that is a reserved word
abbrev pub named : Reading → List Trial
named r =
    if is_reserved (drop (r.refused - 1) r.tokens)
    then at r.refused (change (k.Identifier ∷ []) 1 (RESERVED.0.now, RESERVED.1.now)) ∷ [] else []

-- ---- changes where certain tokens stand

-- a row: how far before the refused token, the kinds of tokens that have to stand there, and the change
pub record Row : Type 0 where
  pub back : ℕ
  pub kinds : List TokenKind
  pub change : Change

abbrev pub row : (back : ℕ) → (kinds put : List TokenKind) → (taken : ℕ) → Said → Row
row back kinds put taken said = record { back = back; kinds = kinds; change = change put taken said }

-- a row of the code
abbrev pub CodeRow : Type 0
CodeRow = ℕ × Bor (List TokenKind) × Bor (List TokenKind) × ℕ × Texts

abbrev pub row_of : CodeRow → Row
row_of r = row r.0 r.1.now r.2.now r.3 (said_of r.4)

-- a table of the code
abbrev pub rows_of : Bor (List CodeRow) → List Row
rows_of table = map row_of table.now

-- tokens of these kinds stand first
abbrev pub stand : List TokenKind → List Token → Bool
stand [] ts = true
stand (kind ∷ kinds) [] = false
stand (kind ∷ kinds) (t ∷ ts) = same_kind t.kind kind && stand kinds ts

abbrev pub tried_at : Reading → (place : ℕ) → Row → List Trial
tried_at r place row = if stand row.kinds (drop place r.tokens) then at place row.change ∷ [] else []

abbrev pub tried_as : Reading → Row → List Trial
tried_as r row = tried_at r (r.refused - row.back) row

abbrev pub tried_in : Reading → List Row → List Trial
tried_in r rows = flat_map (tried_as r) rows

-- ---- in which order

-- one of these is told by the language
abbrev pub told_in : {A : Type 0} → Language → (narrow wide : A) → A
told_in Profile narrow wide = narrow
told_in Wide narrow wide = wide

unfoldable pub missing_tables : Language → List (List Row)
missing_tables language =
    map (map (λ c. row c.0 c.1.now c.2.now c.3 (c.4.0.now, c.4.1.now)))
    (SLIPS ∷ BLANKS ∷ ENDED ∷ ENDINGS ∷ OPERANDS ∷ VALUES ∷ JOINTS ∷ told_in language TARGETS WIDE_TARGETS ∷ VALUED
    ∷ DECLARED ∷ LISTS ∷ HEADS ∷ UNITS ∷ CLOSED ∷ UNENDED ∷ PLACES ∷ MODES ∷ NAMES ∷ MAPPED ∷ TYPES ∷ RANGES
    ∷ INSTEAD ∷ told_in language SIGNALS WIDE_SIGNALS ∷ RELATED ∷ PARTS ∷ DIVIDED ∷ UNPARTED ∷ [])

unfoldable pub other_tables : Language → List (List Row)
other_tables language =
    map (map (λ c. row c.0 c.1.now c.2.now c.3 (c.4.0.now, c.4.1.now)))
    (told_in language ATTRIBUTES WIDE_ATTRIBUTES ∷ OPERATORS ∷ DELIMITERS ∷ SPARES ∷ STRAYS ∷ [])

abbrev pub missing : Reading → List Trial
missing r = flat_map (tried_in r) (missing_tables r.language)

abbrev pub otherwise : Reading → List Trial
otherwise r = flat_map (tried_in r) (other_tables r.language)

abbrev pub perhaps_said : Option Said → Expected
perhaps_said None = nothing
perhaps_said (Some said) = perhaps said

-- what is told whatever stands at the token
abbrev pub sure : Reading → List Trial
sure r = respelt r ++ (missing r ++ named r)

-- surely what is found first; where nothing is, perhaps what is found otherwise
abbrev pub IsToldBehind : Reading → Option Said → Expected → Type 0
IsToldBehind r (Some said) found = found ≡ surely said
IsToldBehind r None found = (said : Option Said) × Finds r (otherwise r) said × (found ≡ perhaps_said said)

abbrev pub IsTold : Reading → Expected → Type 0
IsTold r found = (said : Option Said) × Finds r (sure r) said × IsToldBehind r said found

-- ---- of a token of a source

abbrev pub has_some : List Token → Bool
has_some [] = false
has_some (t ∷ ts) = true

-- a token is refused, and the text in which it is looked at is short enough
abbrev pub is_read : (before from : List Token) → Bool
is_read before from = has_some from && nat_le (length before + length from) MOST_TOKENS

abbrev pub IsToldIf : (is_read : Bool) → Reading → Expected → Type 0
IsToldIf true r found = IsTold r found
IsToldIf false r found = found ≡ nothing

abbrev pub IsToldOf : Language → (source : List ℕ) → (before from : List Token) → Expected → Type 0
IsToldOf language source before from found =
    IsToldIf (is_read before from)
    (record { language = language; source = source; tokens = before ++ from; refused = length before }) found

-- this is told of the first token that doesn't start before the byte
unfoldable pub IsExpected : Language → (source : List ℕ) → List Token → (at : ℕ) → Expected → Type 0
IsExpected language source tokens byte found = IsToldOf language source (before byte tokens) (from byte tokens) found
