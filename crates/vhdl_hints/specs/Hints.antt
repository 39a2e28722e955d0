-- What the tokens around a fault tell of it, beside what is said of its rule.
use Rattle.std.specs.Prelude.{ℕ, ◌-◌, ◌==◌, ◌&&◌, ◌||◌, not, Bool, true, false, if◌then◌else◌, List, [], ◌∷◌, codes, drop, filter, length, map, Option, Some, None}
use Rattle.std.specs.Option.{is_some}
use Rattle.std.specs.Str.{str_eq_ignore_ascii_case}
use Rattle.fault_rules.specs.declared.source.ElabRule.TheVariants as elaboration
use Rattle.fault_rules.specs.declared.source.NameRule.TheVariants as naming
use Rattle.fault_rules.specs.declared.report.Rule.{Rule}
use Rattle.fault_rules.specs.declared.report.Rule.TheVariants as rule
use Rattle.fault_rules.specs.declared.report.Subject.{Subject}
use Rattle.fault_rules.specs.declared.report.Subject.TheVariants.{Lengths}
use Rattle.vhdl_slips.specs.Words.{Read, text_of, text_of_first, with_tokens}
use Rattle.vhdl_misfits.specs.Bounds.{architecture, bounds_of, is_empty, is_declared, known_object, listed_bounds, ports_of, range_at}
use Rattle.vhdl_slips.specs.Choices.{choices, is_among, type_of}
use Rattle.vhdl_hints.specs.Ends.{but_last_two, end_word, last_begun, last_two}
use Rattle.vhdl_hints.specs.Hinted.{Actual, Differs, Empty, Hint, Measured, NoFormal, NoPosition, Nothing, OpenPort, OtherName, OtherType, Outside, form, is_nothing, or_else, told_hint}
use Rattle.vhdl_misfits.specs.Lengths.{Measure, measured}
use Rattle.vhdl_misfits.specs.Misfits.{crowded, foreign, misfit, overlapping, strayed, uncomputed}
use Rattle.vhdl_misfits.specs.Places.{begins_one_of, begins_statement, behind_name, is_inside_loop}
use Rattle.vhdl_misfits.specs.declared.told.Known.{Known}
use Rattle.vhdl_misfits.specs.declared.told.Known.TheVariants as known
use Rattle.vhdl_slips.specs.Instances.{associations, entity_of, first_open, formal_in, is_by_name, labelled, open_instance}
use Rattle.vhdl_slips.specs.Interfaces.{formal_at, formals, interface_of}
use Rattle.vhdl_slips.specs.Parts.{begins, behind_last, first_of, from, has, in_parentheses, up_to}
use Rattle.vhdl_hints.specs.declared.end_name.Begun.{Begun}
use Rattle.vhdl_hints.specs.declared.end_name.Begun.TheVariants as begun_as
use Rattle.vhdl_hints.specs.declared.form.TheConstants.{ARCHITECTURE, BELOW, CAST, ELSEWHERE, FORMAL_ARROW, FORMAL_TWICE, INDEX, ITSELF, LIBRARY, LISTED, LITERALS, NO_EDGE, NO_NAME, NO_SIGNAL, NO_VARIABLE, OTHERS, PORT_TWICE, WORDS}
use Rattle.vhdl_lexer.specs.declared.token.Token.{Token}
use Rattle.vhdl_lexer.specs.declared.token.TokenKind.{TokenKind}
use Rattle.vhdl_lexer.specs.declared.token.TokenKind.TheVariants as k
use Rattle.vhdl_tree.specs.Lexeme.{same_kind}
pub use Rattle.vhdl_hints.specs.NearNames.{meant_among, is_for_word, begins_near, near_entity, is_of_instance, near_hint, misspelt}

-- ---- a formal that isn't declared

-- `NAME =>` names no formal of an interface
abbrev pub is_unknown : (text : List ℕ) → (interface formals : List Token) → (name arrow : Token) → Bool
is_unknown text interface formals name arrow =
    same_kind arrow.kind k.Arrow && not (length interface == 0)
    && not (is_declared text (text_of text name) true formals)

abbrev pub unknown_formal : (text : List ℕ) → (entity : Token) → (is_port : Bool) → (interface from : List Token) → Hint
unknown_formal text entity is_port interface (name ∷ arrow ∷ ts) =
    if is_unknown text interface (formals is_port interface) name arrow
    then NoFormal entity name is_port (formals is_port interface) else Nothing
unknown_formal text entity is_port interface _ = Nothing

-- of the entity of this name
abbrev pub interface_in : (source : Read) → (entity : Token) → List Token
interface_in source entity = interface_of source.text (text_of source.text entity) source.tokens

abbrev pub formal_hint : (source : Read) → (from : List Token) → (is_port : Bool) → (entity : Option Token) → Hint
formal_hint source from is_port None = Nothing
formal_hint source from is_port (Some entity) =
    unknown_formal source.text entity is_port (interface_in source entity) from

-- in an instance: it is a port where the word port stands before it
abbrev pub no_formal : (source : Read) → (before from : List Token) → Hint
no_formal source before from =
    formal_hint source from (has k.Port (open_instance before)) (entity_of (open_instance before))

-- ---- a name that is declared elsewhere

abbrev pub is_same_word : (text : List ℕ) → (first second : List Token) → Bool
is_same_word text first second = str_eq_ignore_ascii_case (text_of_first text first) (text_of_first text second)

-- a type is looked for, and no entity of an instance, of the name that is declared there
abbrev pub is_itself : (text : List ℕ) → (last_two from : List Token) → Bool
is_itself text (name ∷ colon ∷ []) tokens =
    same_kind colon.kind k.Colon && is_same_word text (name ∷ []) tokens
    && not (begins_one_of (k.Port ∷ k.Generic ∷ []) (drop 1 tokens))
is_itself text _ tokens = false

-- a use clause begins with a library, and so does the name of an entity
abbrev pub unknown : (text : List ℕ) → (last_two from : List Token) → Hint
unknown text last_two tokens =
    if has k.Use last_two || has k.Entity last_two then form LIBRARY
    else if is_itself text last_two tokens then form ITSELF else Nothing

-- what is left of the declarations among which these tokens stand, if they do
abbrev pub region : List Token → List Token
region tokens = up_to k.Architecture (up_to k.Process tokens)

-- a sensitivity list is open, these tokens standing behind the word process
abbrev pub opens_list : (behind : List Token) → Bool
opens_list behind = begins k.LeftParen behind && not (has k.RightParen behind)

-- the name at the front is that behind the last `for`, and something has ended since; or that of an object, which is
-- declared among the declarations here, those of a process behind its list, or in another place
abbrev pub elsewhere : (text : List ℕ) → (before from : List Token) → Hint
elsewhere text before tokens =
    if begins k.Identifier tokens && has k.End (behind_last k.For before)
    && is_same_word text (behind_last k.For before) tokens then form INDEX
    else if is_declared text (text_of_first text tokens) false (region tokens)
    then (if opens_list (behind_last k.Process before) then form LISTED else form BELOW)
    else if is_declared text (text_of_first text tokens) false before
    || is_declared text (text_of_first text tokens) false tokens
    then form ELSEWHERE else Nothing

-- ---- a name that is given twice

-- the formal of a map, or a signal with the name of a port of its entity
abbrev pub twice : (source : Read) → (before from : List Token) → Hint
twice source before tokens =
    if begins k.Arrow (drop 1 tokens) then form FORMAL_TWICE
    else if begins k.Signal (drop 1 (last_two before))
    && is_declared source.text (text_of_first source.text tokens) true
    (ports_of source.text source.tokens (architecture before)) then
    form PORT_TWICE else Nothing

-- ---- the target of an assignment

-- `<=` assigns signals, and `:=` variables; behind a colon it may be that of a declaration
abbrev pub target_hint : (last_two behind : List Token) → Hint
target_hint last_two behind =
    if begins k.LessEqual behind then form NO_SIGNAL
    else if begins k.Assign behind && not (begins k.Colon (drop 1 last_two)) then form NO_VARIABLE else Nothing

abbrev pub no_target : (before from : List Token) → Hint
no_target before tokens =
    if begins_statement (last_two before) then target_hint (last_two before) (behind_name tokens) else Nothing

-- ---- what else has a name

-- the name behind the last `for`, in whose turns this stands, and which nothing else has since
abbrev pub is_turn : (text : List ℕ) → (behind from : List Token) → Bool
is_turn text behind tokens =
    is_same_word text behind tokens && is_inside_loop behind
    && not (is_declared text (text_of_first text tokens) false behind)

abbrev pub known_of : (source : Read) → (before from : List Token) → Known
known_of source before tokens =
    if is_turn source.text (behind_last k.For before) tokens then known.Turn
    else known_object source.text (text_of_first source.text tokens) source.tokens before

-- ---- a port that is left open

abbrev pub open_among : (text : List ℕ) → (associations ports : List Token) → Option Token
open_among text associations ports = if is_by_name associations then first_open text associations ports else None

abbrev pub open_hint : (entity : Token) → (port : Option Token) → Hint
open_hint entity None = Nothing
open_hint entity (Some port) = OpenPort entity port

abbrev pub left_open : (source : Read) → (instance : List Token) → (entity : Option Token) → Hint
left_open source instance None = Nothing
left_open source instance (Some entity) =
    open_hint entity (open_among source.text (associations instance) (formals true (interface_in source entity)))

-- of the instance of which the label stands at the front
abbrev pub open_port : (source : Read) → (from : List Token) → Hint
open_port source from = left_open source (labelled from) (entity_of (labelled from))

-- ---- the name at an end

abbrev pub begun_hint : Begun → Hint
begun_hint begun_as.Unknown = Nothing
begun_hint begun_as.Unnamed = form NO_NAME
begun_hint (begun_as.Named name) = OtherName name

abbrev pub end_hint : (before : List Token) → Option TokenKind → Hint
end_hint before None = Nothing
end_hint before (Some word) = begun_hint (last_begun word (but_last_two before))

abbrev pub other_name : (before : List Token) → Hint
other_name before = end_hint before (end_word (last_two before))

-- ---- choices

-- the first choice is an identifier, and a literal of an enumeration
abbrev pub choice_hint : (before : Read) → (first : Option Token) → Hint
choice_hint before None = Nothing
choice_hint before (Some choice) =
    if same_kind choice.kind k.Identifier
    && is_among (type_of before (text_of before.text choice)) (text_of before.text choice)
    then form LITERALS else Nothing

abbrev pub enumeration : (before : Read) → (from : List Token) → Hint
enumeration before from = choice_hint before (first_of (choices from))

-- ---- an index, and the bounds

abbrev pub outside_hint : (name : Token) → (index bounds : List Token) → Hint
outside_hint name index bounds = if length index == 0 || length bounds == 0 then Nothing else Outside name index bounds

abbrev pub index_hint : (source : Read) → (before from : List Token) → (name : Option Token) → Hint
index_hint source before from None = Nothing
index_hint source before from (Some name) =
    outside_hint name (in_parentheses (drop 1 from))
    (bounds_of source.text (text_of source.text name) source.tokens before)

abbrev pub empty_hint : (range : List Token) → Hint
empty_hint (left ∷ direction ∷ right ∷ []) = Empty left right (same_kind direction.kind k.To)
empty_hint _ = Nothing

-- of the name at the front, which its index follows, or of its declaration; a range without elements is told as that
abbrev pub outside : (source : Read) → (before from : List Token) → Hint
outside source before from =
    if is_empty source.text (range_at from) then empty_hint (range_at from)
    else index_hint source before from (first_of from)

-- ---- a place in a map

-- an association begins behind these
abbrev pub count : TokenKind → List Token → ℕ
count kind tokens = length (filter (λ t. same_kind t.kind kind) tokens)

-- the parentheses of a map, with which these tokens begin, are open, and no other
abbrev pub is_in_map : (behind : List Token) → Bool
is_in_map behind = begins k.LeftParen behind && count k.LeftParen (drop 1 behind) == count k.RightParen behind

abbrev pub begins_association : (before : List Token) → Bool
begins_association before =
    begins_one_of (k.Comma ∷ k.LeftParen ∷ []) (drop 1 (last_two before)) && is_in_map (behind_last k.Map before)

-- the name of a generic or port stands at the front
abbrev pub begins_formal : List Token → Bool
begins_formal tokens = is_some (formal_at tokens)

-- how many are ahead behind the first of these tokens
abbrev pub still_ahead : (ahead : ℕ) → List Token → ℕ
still_ahead ahead tokens = if begins_formal tokens then ahead - 1 else ahead

-- none is ahead, and one stands at the front
abbrev pub is_reached : (ahead : ℕ) → List Token → Bool
is_reached ahead tokens = ahead == 0 && begins_formal tokens

-- the generic or port behind so many others
abbrev pub formal_behind : (others : ℕ) → List Token → Option Token
formal_behind others [] = None
formal_behind others (t ∷ ts) =
    if is_reached others (t ∷ ts) then Some t else formal_behind (still_ahead others (t ∷ ts)) ts

-- the port of the position behind these, where no association before it is by name or has parentheses
abbrev pub placed : (before ports : List Token) → Option Token
placed before ports =
    if begins_association before && not (has k.Arrow (behind_last k.Map before))
    && not (has k.RightParen (behind_last k.Map before)) then
    formal_behind (count k.Comma (behind_last k.Map before)) ports else None

abbrev pub is_positional : (before from : List Token) → Bool
is_positional before tokens = begins_association before && not (begins k.Arrow (drop 1 tokens))

abbrev pub position_of : (entity : Token) → (is_port : Bool) → (interface : List Token) → Hint
position_of entity is_port interface =
    if length interface == 0 then Nothing else NoPosition entity is_port (formals is_port interface)

abbrev pub position_hint : (source : Read) → (is_port is_positional : Bool) → (entity : Option Token) → Hint
position_hint source is_port true (Some entity) = position_of entity is_port (interface_in source entity)
position_hint source is_port _ _ = Nothing

-- in an instance
abbrev pub position : (source : Read) → (before from : List Token) → Hint
position source before tokens =
    position_hint source (has k.Port (open_instance before))
    (is_positional before tokens) (entity_of (open_instance before))

-- a generic or port of the entity of an instance
abbrev pub formal_of : (source : Read) → (is_port : Bool) → (entity : Option Token) → (name : List ℕ) → Bool
formal_of source is_port None name = false
formal_of source is_port (Some entity) name =
    is_declared source.text name true (formals is_port (interface_in source entity))

abbrev pub is_formal : (source : Read) → (instance from : List Token) → Bool
is_formal source instance tokens =
    formal_of source (has k.Port instance) (entity_of instance) (text_of_first source.text tokens)

-- `FORMAL <= ACTUAL` or `FORMAL = ACTUAL` stands for an association
abbrev pub assigned : (source : Read) → (before from : List Token) → Hint
assigned source before tokens =
    if begins_association before && begins_one_of (k.LessEqual ∷ k.Equal ∷ []) (drop 1 tokens)
    && is_formal source (open_instance before) tokens then form FORMAL_ARROW else Nothing

-- ---- a component, an architecture or a choice

-- the name of a component that is declared stands behind these
abbrev pub begins_component : (last_two : List Token) → Bool
begins_component (first ∷ last ∷ []) =
    same_kind last.kind k.Component && not (same_kind first.kind k.End || same_kind first.kind k.Colon)
begins_component _ = false

abbrev pub differing : (interface : List Token) → Hint
differing interface =
    if length interface == 0 then Nothing else Differs (formals false interface) (formals true interface)

abbrev pub component : (source : Read) → (last_two from : List Token) → Hint
component source last_two (name ∷ ts) =
    if begins_component last_two then differing (interface_in source name) else Nothing
component source last_two [] = Nothing

-- these tokens are `entity LIBRARY . NAME (`
abbrev pub names_entity : List Token → Bool
names_entity (entity ∷ library ∷ dot ∷ name ∷ paren ∷ []) = same_kind entity.kind k.Entity
names_entity _ = false

-- std_logic(..), integer(..) or boolean(..), as if that converted
abbrev pub is_cast : (word : List ℕ) → List Token → Bool
is_cast word tokens =
    begins k.LeftParen (drop 1 tokens)
    && (str_eq_ignore_ascii_case word (codes "std_logic") || str_eq_ignore_ascii_case word (codes "std_ulogic")
    || str_eq_ignore_ascii_case word (codes "integer") || str_eq_ignore_ascii_case word (codes "natural")
    || str_eq_ignore_ascii_case word (codes "positive") || str_eq_ignore_ascii_case word (codes "boolean"))

abbrev pub misplaced : (text : List ℕ) → (before from : List Token) → Hint
misplaced text before tokens =
    if begins k.Others tokens then form OTHERS
    else if names_entity (behind_last k.Colon before) then form ARCHITECTURE
    else if opens_list (behind_last k.Process before) then form LISTED
    else if is_cast (text_of_first text tokens) tokens then form CAST else Nothing

-- ---- the port of an actual

-- two lengths that differ, or else two types
abbrev pub actual_of : (source : Read) → (entity port : Token) → Subject → Hint
actual_of source entity port (Lengths found needed) =
    Actual entity port
    (listed_bounds source.text (text_of source.text port) (formals true (interface_in source entity))) found needed
actual_of source entity port _ = OtherType entity port

abbrev pub port_hint : (source : Read) → (entity : Token) → (port : Option Token) → Subject → Hint
port_hint source entity None subject = Nothing
port_hint source entity (Some port) subject = actual_of source entity port subject

-- by its name, or by its position
abbrev pub named_or_placed : (named : Option Token) → (before ports : List Token) → Option Token
named_or_placed (Some port) before ports = Some port
named_or_placed None before ports = placed before ports

abbrev pub port_of : (source : Read) → (before : List Token) → (entity : Token) → Option Token
port_of source before entity =
    named_or_placed (formal_in (last_two before)) before (formals true (interface_in source entity))

abbrev pub entity_hint : (source : Read) → (before : List Token)
    → (is_port : Bool) → (entity : Option Token) → Subject → Hint
entity_hint source before true (Some entity) subject = port_hint source entity (port_of source before entity) subject
entity_hint source before _ _ subject = Nothing

abbrev pub actual : (source : Read) → (before from : List Token) → Subject → Hint
actual source before from subject =
    entity_hint source before
    (begins_one_of (k.Comma ∷ k.RightParen ∷ []) (drop 1 from) && has k.Port (open_instance before))
    (entity_of (open_instance before)) subject

-- ---- of each rule

-- a word of the packages may be meant, where nothing is assigned to
abbrev pub meant : (text : List ℕ) → (before from : List Token) → Hint
meant text before tokens =
    if is_for_word (last_two before) tokens && is_nothing (no_target before tokens)
    then meant_among (map (λ w. w.now) WORDS) (text_of_first text tokens) else Nothing

abbrev pub undeclared : (source : Read) → (before from : List Token) → Hint
undeclared source before from =
    or_else (or_else (or_else (or_else (or_else (or_else (no_formal source before from) (assigned source before from))
    (unknown source.text (last_two before) from))
    (misspelt source (last_two before) from)) (elsewhere source.text before from))
    (told_hint (foreign source.text from))) (meant source.text before from)

-- of a value, an operator or a call
abbrev pub mismatch : (source : Read) → (before from : List Token) → Subject → Hint
mismatch source before from subject =
    or_else (or_else (assigned source before from) (actual source before from subject))
    (told_hint (misfit (known_of source before from) source.text (last_two before) from))

-- of two lengths
abbrev pub measure_hint : Subject → (said : Option Measure) → Hint
measure_hint (Lengths found needed) (Some said) = Measured said found needed
measure_hint subject _ = Nothing

abbrev pub wrong_kind : (source : Read) → (before from : List Token) → Hint
wrong_kind source before from =
    or_else (or_else
    (or_else (or_else (or_else (other_name before) (no_target before from)) (component source (last_two before) from))
    (assigned source before from)) (misplaced source.text before from)) (position source before from)

-- a process has no sensitivity list, and waits for something else than an edge alone
abbrev pub no_edge : (from : List Token) → Hint
no_edge from = if begins k.Wait from then form NO_EDGE else Nothing

-- at a byte of a source, of whose tokens these start before it, and the others from it on
abbrev pub hint_at : (source : Read) → (before from : List Token) → Rule → Subject → Hint
hint_at source before from (rule.Name naming.Undeclared) subject = undeclared source before from
hint_at source before from (rule.Name naming.Twice) subject = twice source before from
hint_at source before from (rule.Name naming.WrongKind) subject = wrong_kind source before from
hint_at source before from (rule.Name naming.TypeMismatch) subject = mismatch source before from subject
hint_at source before from (rule.Name naming.LeftOut) subject = assigned source before from
hint_at source before from (rule.Name naming.NoOthers) subject = enumeration (with_tokens source.text before) from
hint_at source before from (rule.Elab elaboration.Length) subject =
    or_else (actual source before from subject) (measure_hint subject (measured source.text from))
hint_at source before from (rule.Elab elaboration.Index) subject =
    or_else (told_hint (overlapping source.text (last_two before) from)) (outside source before from)
hint_at source before from (rule.Elab elaboration.Unassociated) subject = open_port source from
hint_at source before from (rule.Elab elaboration.GenericRange) subject =
    told_hint (strayed source.text (last_two before) from)
hint_at source before from (rule.Elab elaboration.StaticError) subject = told_hint (uncomputed source.text from)
hint_at source before from (rule.Elab elaboration.TooMany) subject = told_hint (crowded source.text from)
hint_at source before from (rule.Name naming.NoSensitivity) subject = no_edge from
hint_at source before from rule subject = Nothing
