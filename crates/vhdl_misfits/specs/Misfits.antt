-- What tells that a value, an operator or a call has a type that doesn't fit, or operands of such types. The analysis
-- marks an operator whose operands don't fit, a name that doesn't take what follows it, a literal that is no value, or
-- the first token of a whole value, condition or bound of another type than is needed (IEEE 1076-2008, clauses 8, 9
-- and 10).
use Rattle.std.specs.Prelude.{ℕ, ◌==◌, ◌&&◌, ◌||◌, not, Bool, true, false, if◌then◌else◌, List, [], ◌∷◌, length, map, Option, Some, None}
use Rattle.std.specs.Borrow.{Bor}
use Rattle.std.specs.Str.{str_eq_ignore_ascii_case}
use Rattle.vhdl_slips.specs.Parts.{begins}
use Rattle.vhdl_slips.specs.Words.{text_of_first}
use Rattle.vhdl_slips.specs.Forms.{Said, Texts, said_of}
use Rattle.vhdl_misfits.specs.Places.{at_depth, begins_declaration, begins_one_of, behind_name, behind_one_of, from_one_of, has_one_argument, has_slice, is_target}
use Rattle.vhdl_misfits.specs.Sorts.{relations, stand}
use Rattle.vhdl_misfits.specs.Values.{are_elements, is_one_value}
use Rattle.vhdl_misfits.specs.declared.row.Provided.{Provided}
use Rattle.vhdl_misfits.specs.declared.row.Provided.TheVariants as provided
use Rattle.vhdl_misfits.specs.declared.sort.Sort.{Sort}
use Rattle.vhdl_misfits.specs.declared.sort.Sort.TheVariants as sort
use Rattle.vhdl_misfits.specs.declared.table.TheConstants.{CONDITIONS, ASSIGNED, NAMES, CALLS, CONVERSIONS, PLACES, OPERATORS, COMPUTING, FOREIGN, STRAYED, OVERLAPS, UNCOMPUTED, CROWDED}
use Rattle.vhdl_misfits.specs.declared.told.Known.{Known}
use Rattle.vhdl_misfits.specs.declared.told.Known.TheVariants as shown
use Rattle.vhdl_lexer.specs.declared.token.Token.{Token}
use Rattle.vhdl_lexer.specs.declared.token.TokenKind.TheVariants as k

-- ---- rows

-- a row: how the first token is written where it is called, and nothing for any; of which sorts the last two before it
-- are, and the first ones;
-- what else has to hold; and what is told
abbrev pub Row : Type 0
Row = List ℕ × List Sort × List Sort × Provided × Said

-- a row of the code
abbrev pub CodeRow : Type 0
CodeRow = Bor (List ℕ) × Bor (List Sort) × Bor (List Sort) × Provided × Texts

abbrev pub row_of : CodeRow → Row
row_of row = (row.0.now, row.1.now, row.2.now, row.3, said_of row.4)

-- a table of the code
abbrev pub rows_of : Bor (List CodeRow) → List Row
rows_of table = map row_of table.now

unfoldable pub misfits : List (List Row)
misfits =
    map (map (λ row. (row.0.now, row.1.now, row.2.now, row.3, (row.4.0.now, row.4.1.now))))
    (CONDITIONS ∷ ASSIGNED ∷ NAMES ∷ CALLS ∷ CONVERSIONS ∷ PLACES ∷ OPERATORS ∷ COMPUTING ∷ [])

unfoldable pub foreigns : List Row
foreigns = map (λ row. (row.0.now, row.1.now, row.2.now, row.3, (row.4.0.now, row.4.1.now))) FOREIGN

unfoldable pub strays : List Row
strays = map (λ row. (row.0.now, row.1.now, row.2.now, row.3, (row.4.0.now, row.4.1.now))) STRAYED

unfoldable pub overlaps : List Row
overlaps = map (λ row. (row.0.now, row.1.now, row.2.now, row.3, (row.4.0.now, row.4.1.now))) OVERLAPS

unfoldable pub uncomputables : List Row
uncomputables = map (λ row. (row.0.now, row.1.now, row.2.now, row.3, (row.4.0.now, row.4.1.now))) UNCOMPUTED

unfoldable pub crowds : List Row
crowds = map (λ row. (row.0.now, row.1.now, row.2.now, row.3, (row.4.0.now, row.4.1.now))) CROWDED

-- ---- what else has to hold

-- no side of a relation in a condition, which a word of that ends
abbrev pub is_value : List Token → Bool
is_value tokens =
    not (begins_one_of (k.Then ∷ k.Else ∷ k.Generate ∷ [])
    (from_one_of (k.Semicolon ∷ k.When ∷ k.Then ∷ k.Else ∷ k.Generate ∷ []) tokens))

-- a relation stands before the value or condition ends, outside of all indices and arguments; so the whole is a test,
-- since no operator makes another type of one
abbrev pub is_test : List Token → Bool
is_test tokens =
    stand (sort.Relation ∷ [])
    (at_depth 0 (k.Semicolon ∷ k.Comma ∷ k.When ∷ k.Then ∷ k.Else ∷ k.Generate ∷ relations) tokens)

-- the condition of a generate
abbrev pub is_static : List Token → Bool
is_static tokens = begins k.Generate (from_one_of (k.Semicolon ∷ k.Then ∷ k.Generate ∷ []) tokens)

-- `&` stands behind the name and its parentheses
abbrev pub is_joined : List Token → Bool
is_joined tokens = begins k.Ampersand (behind_name tokens)

-- to or downto stands before any parenthesis, and before the range ends
abbrev pub is_range : List Token → Bool
is_range tokens =
    begins_one_of (k.To ∷ k.Downto ∷ [])
    (from_one_of (k.To ∷ k.Downto ∷ k.LeftParen ∷ k.RightParen ∷ k.Comma ∷ k.Loop ∷ k.Generate ∷ k.Semicolon ∷ [])
    tokens)

-- in or out stands behind the colon of a declaration
abbrev pub has_mode : List Token → Bool
has_mode tokens = begins_one_of (k.In ∷ k.Out ∷ []) (behind_one_of (k.Colon ∷ []) tokens)

abbrev pub is_turn : Known → Bool
is_turn shown.Turn = true
is_turn _ = false

abbrev pub is_element : Known → Bool
is_element shown.Element = true
is_element _ = false

-- of the tokens from here on, the first of which is written so
abbrev pub holds : Provided → Known → (written : List ℕ) → List Token → Bool
holds provided.Always known written tokens = true
holds provided.NoElements known written tokens = not (are_elements written)
holds provided.NoValue known written tokens = not (is_one_value written)
holds provided.NoTest known written tokens = not (is_test tokens)
holds provided.Slice known written tokens = has_slice tokens && not (is_test tokens)
holds provided.Static known written tokens = is_static tokens
holds provided.Value known written tokens = is_value tokens
holds provided.Test known written tokens = is_value tokens && is_test tokens
holds provided.Joined known written tokens = is_value tokens && is_joined tokens
holds provided.Alone known written tokens = not (is_joined tokens)
holds provided.Turn known written tokens = is_turn known
holds provided.Element known written tokens = is_element known
holds provided.Target known written tokens = is_target tokens
holds provided.OneArgument known written tokens = has_one_argument tokens
holds provided.Range known written tokens = is_range tokens
holds provided.Undeclared known written tokens = not (begins_declaration tokens)
holds provided.Moded known written tokens = has_mode tokens

-- ---- which row it is

abbrev pub is_unknown : Known → Bool
is_unknown shown.Unknown = true
is_unknown _ = false

-- it is written so, where nothing else has that name
abbrev pub is_called : (word : List ℕ) → Known → (written : List ℕ) → Bool
is_called word known written = length word == 0 || (is_unknown known && str_eq_ignore_ascii_case word written)

-- a row fits what stands at the front
abbrev pub fits : Row → Known → (text : List ℕ) → (last_two from : List Token) → Bool
fits row known text last_two tokens =
    stand row.1 last_two && stand row.2 tokens && is_called row.0 known (text_of_first text tokens)
    && holds row.3 known (text_of_first text tokens) tokens

-- what the first row tells that fits
abbrev pub told_in : List Row → Known → (text : List ℕ) → (last_two from : List Token) → Option Said
told_in [] known text last_two tokens = None
told_in (row ∷ rows) known text last_two tokens =
    if fits row known text last_two tokens then Some row.4 else told_in rows known text last_two tokens

abbrev pub or_else : Option Said → (other : Option Said) → Option Said
or_else None other = other
or_else (Some said) other = Some said

-- what the first table tells that has such a row
abbrev pub first_told : List (List Row) → Known → (text : List ℕ) → (last_two from : List Token) → Option Said
first_told [] known text last_two tokens = None
first_told (rows ∷ tables) known text last_two tokens =
    or_else (told_in rows known text last_two tokens) (first_told tables known text last_two tokens)

-- behind the last two of the tokens before it; `known`: what else has the name at the front
abbrev pub misfit : Known → (text : List ℕ) → (last_two from : List Token) → Option Said
misfit known text last_two tokens = first_told misfits known text last_two tokens

-- a name that isn't declared, where another package or language has it
abbrev pub foreign : (text : List ℕ) → List Token → Option Said
foreign text tokens = told_in foreigns shown.Unknown text [] tokens

-- what gets numbers outside of its range, or is one
abbrev pub strayed : (text : List ℕ) → (last_two from : List Token) → Option Said
strayed text last_two tokens = told_in strays shown.Unknown text last_two tokens

-- a choice that isn't apart from the others
abbrev pub overlapping : (text : List ℕ) → (last_two from : List Token) → Option Said
overlapping text last_two tokens = told_in overlaps shown.Unknown text last_two tokens

-- what can't be computed
abbrev pub uncomputed : (text : List ℕ) → List Token → Option Said
uncomputed text tokens = told_in uncomputables shown.Unknown text [] tokens

-- what has more than the limits let it have
abbrev pub crowded : (text : List ℕ) → List Token → Option Said
crowded text tokens = told_in crowds shown.Unknown text [] tokens
