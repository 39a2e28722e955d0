-- What is taken out of a source with a fault of names or types: the statement or declaration in which the fault stands.
-- A name that isn't declared, isn't visible or is left out is at fault wherever it stands, so with it each statement
-- goes in which it stands, up to the next architecture; but for a formal, which is at fault in its instance alone.
use Rattle.std.specs.Prelude.{ℕ, ◌&&◌, nat_le, not, Bool, true, false, if◌then◌else◌, List, [], ◌∷◌, Option, Some, None}
use Rattle.vhdl_lexer.specs.Extents.{statement_at, blanked}
use Rattle.vhdl_lexer.specs.declared.extent.Extent.{Extent}
use Rattle.vhdl_lexer.specs.declared.token.Token.{Token}
use Rattle.vhdl_lexer.specs.declared.token.TokenKind.{TokenKind}
use Rattle.vhdl_lexer.specs.declared.token.TokenKind.TheVariants as k
use Rattle.vhdl_names_further.specs.Naming.{around, begins_value, is_before_arrow, is_formal, is_name, name_at}
use Rattle.vhdl_names_rules.specs.declared.fault.NameFault.{NameFault}
use Rattle.vhdl_names_rules.specs.declared.fault.NameFault.TheVariants as names
use Rattle.vhdl_names_rules.specs.declared.fault.NameProblem.{NameProblem}
use Rattle.vhdl_names_rules.specs.declared.fault.NameProblem.TheVariants as problem

-- ---- the statement of the fault

-- What is taken out with a fault; nothing with a name that is declared twice, since nobody knows which of its
-- declarations is meant.
abbrev pub extent_of : List Token → NameFault → Option Extent
extent_of tokens (names.At problem.Twice at) = None
extent_of tokens (names.At problem at) = statement_at tokens at
extent_of tokens names.NoMemory = None

-- ---- the other statements with the name

-- A name has this problem wherever it stands, that is the second of these tokens. What is left out where a value begins
-- is the value's form, and not the name.
abbrev pub is_unknown : List Token → NameProblem → Bool
is_unknown around problem.Undeclared = true
is_unknown around problem.NotVisible = true
is_unknown around problem.LeftOut = not (begins_value around)
is_unknown around _ = false

abbrev pub is_architecture : TokenKind → Bool
is_architecture k.Architecture = true
is_architecture _ = false

-- at this byte or behind it the word `architecture` stands
abbrev pub ends_unit : (at : ℕ) → Token → Bool
ends_unit at t = nat_le at t.start && is_architecture t.kind

-- at this byte or behind it these tokens begin with the name, and it is no formal
abbrev pub is_named : (source name : List ℕ) → (at : ℕ) → List Token → Bool
is_named source name at [] = false
is_named source name at (t ∷ ts) = nat_le at t.start && is_name source name t && not (is_before_arrow (t ∷ ts))

-- the tokens that are the name, from this byte on up to the next architecture
abbrev pub with_name : (source name : List ℕ) → (at : ℕ) → List Token → List Token
with_name source name at [] = []
with_name source name at (t ∷ ts) =
    if ends_unit at t then []
    else (if is_named source name at (t ∷ ts) then t ∷ with_name source name at ts else with_name source name at ts)

abbrev pub and_those : Option Extent → List Extent → List Extent
and_those None extents = extents
and_those (Some extent) extents = extent ∷ extents

-- the statements, as far as they may be taken out, in which these tokens stand
abbrev pub statements_of : (tokens : List Token) → (those : List Token) → List Extent
statements_of tokens [] = []
statements_of tokens (t ∷ ts) = and_those (statement_at tokens t.start) (statements_of tokens ts)

-- what is wrong at this byte is a name, wherever it stands
abbrev pub is_everywhere : List Token → NameProblem → (at : ℕ) → Bool
is_everywhere tokens problem at =
    is_unknown (around at tokens) problem && not (is_formal (around at tokens))

-- what is taken out beside the statement of the fault
abbrev pub others_of : (source : List ℕ) → List Token → NameFault → List Extent
others_of source tokens (names.At problem at) =
    if is_everywhere tokens problem at then statements_of tokens (with_name source (name_at source tokens at) at tokens)
    else []
others_of source tokens names.NoMemory = []

-- ---- what is left

-- the source with blanks in place of these extents
abbrev pub without : List Extent → (left : List ℕ) → List ℕ
without [] left = left
without (extent ∷ extents) left = without extents (blanked extent left)

abbrev pub left_by : Option Extent → List Extent → (left : List ℕ) → Option (List ℕ)
left_by None others left = None
left_by (Some extent) others left = Some (without (extent ∷ others) left)

-- what is left of the source behind a fault; None where nothing is taken out
abbrev pub past : (source : List ℕ) → List Token → (left : List ℕ) → NameFault → Option (List ℕ)
past source tokens left fault = left_by (extent_of tokens fault) (others_of source tokens fault) left
