-- How a hint is told: its sentence, and what a designer does about it.
use Rattle.std.specs.Prelude.{ℕ, ◌==◌, not, Bool, if◌then◌else◌, List, [], ◌∷◌, ◌++◌, drop, length, codes, decimal, flat_map, Option, Some, None}
use Rattle.vhdl_slips.specs.Words.{Read, subject, text_of}
use Rattle.vhdl_hints.specs.Hinted.{Actual, Differs, Empty, Form, Hint, Meant, Measured, NearEntity, NoFormal, NoPosition, Nothing, OpenPort, OtherName, OtherType, Outside}
use Rattle.vhdl_slips.specs.Listings.{names_listed}
use Rattle.vhdl_slips.specs.Parts.{first_of, has}
use Rattle.vhdl_slips.specs.declared.listing.Listing.{Listing}
use Rattle.vhdl_slips.specs.declared.listing.Listing.TheVariants as Listed
use Rattle.vhdl_slips.specs.declared.listing.Listing.TheVariants.{Ports}
use Rattle.vhdl_hints.specs.declared.part.Part as code
use Rattle.vhdl_hints.specs.declared.part.Part.TheVariants as c
use Rattle.vhdl_hints.specs.declared.saying.TheConstants.{HELP_COMPONENT, HELP_EMPTY, HELP_ENTITY, HELP_FORMAL, HELP_LENGTH, HELP_MEANT, HELP_NAME, HELP_POSITION, HELP_TYPE}
use Rattle.vhdl_lexer.specs.declared.token.Token.{Token}
use Rattle.vhdl_lexer.specs.declared.token.TokenKind.TheVariants as k

-- a blank, and a token
abbrev pub parted : (text : List ℕ) → Token → List ℕ
parted text t = codes " " ++ text_of text t

-- tokens with a blank between two
abbrev pub parted_from : (text : List ℕ) → (first : Option Token) → (behind : List Token) → List ℕ
parted_from text None behind = []
parted_from text (Some first) behind = text_of text first ++ flat_map (parted text) behind

abbrev pub words_text : (text : List ℕ) → List Token → List ℕ
words_text text tokens = parted_from text (first_of tokens) (drop 1 tokens)

-- the bounds of a port, where they are known
abbrev pub bounds_text : (text : List ℕ) → (bounds : List Token) → List ℕ
bounds_text text bounds = if length bounds == 0 then [] else codes ", as (" ++ words_text text bounds ++ codes ")"

-- the generics of an entity, where it has some
abbrev pub generics_text : (text : List ℕ) → (generics : List Token) → List ℕ
generics_text text generics =
    if has k.Colon generics then names_listed Listed.Generics text generics ++ codes "; " else []

-- ---- sentences of parts

pub data Part : Type 0 where
  -- the word that the fault is at
  Subject : Part
  Text : List ℕ → Part
  Word : Token → Part
  Words : List Token → Part
  Bounds : List Token → Part
  Generics : List Token → Part
  Number : ℕ → Part
  Names : Listing → List Token → Part

abbrev pub part_view : code.Part → Part
part_view c.Subject = Subject
part_view (c.Text text) = Text text.now
part_view (c.Word t) = Word t
part_view (c.Words tokens) = Words tokens.now
part_view (c.Bounds tokens) = Bounds tokens.now
part_view (c.Generics tokens) = Generics tokens.now
part_view (c.Number n) = Number n
part_view (c.Names listing tokens) = Names listing tokens.now

abbrev pub part_text : (words : Read) → Part → List ℕ
part_text words Subject = subject words
part_text words (Text text) = text
part_text words (Word t) = text_of words.text t
part_text words (Words tokens) = words_text words.text tokens
part_text words (Bounds tokens) = bounds_text words.text tokens
part_text words (Generics tokens) = generics_text words.text tokens
part_text words (Number n) = decimal n
part_text words (Names listing tokens) = names_listed listing words.text tokens

abbrev pub code_text : (words : Read) → code.Part → List ℕ
code_text words part = part_text words (part_view part)

-- one behind the other
abbrev pub told : (words : Read) → List Part → List ℕ
told words parts = flat_map (part_text words) parts

abbrev pub formal_word : (is_port : Bool) → List ℕ
formal_word is_port = if is_port then codes "port" else codes "generic"

abbrev pub listing_of : (is_port : Bool) → Listing
listing_of is_port = if is_port then Ports else Listed.Generics

abbrev pub direction_text : (is_upward : Bool) → List ℕ
direction_text is_upward = if is_upward then codes " to " else codes " downto "

-- ---- of each hint

abbrev pub parts : Hint → List Part
parts Nothing = []
parts (Form said) = Subject ∷ Text said.0 ∷ []
parts (NoFormal entity formal is_port formals) =
    Text (codes "entity ") ∷ Word entity ∷ Text (codes " has no ")
    ∷ Text (formal_word is_port) ∷ Text (codes " ") ∷ Word formal
    ∷ Text (codes "; ") ∷ Names (listing_of is_port) formals ∷ []
parts (OpenPort entity port) =
    Subject ∷ Text (codes "leaves open the in port ") ∷ Word port
    ∷ Text (codes " of entity ") ∷ Word entity ∷ Text (codes ", which has no default") ∷ []
parts (OtherName name) = Subject ∷ Text (codes "stands at the end of ") ∷ Word name ∷ []
parts (Outside name index bounds) =
    Text (codes "`") ∷ Word name ∷ Text (codes "(") ∷ Words index ∷ Text (codes ")` is outside of (") ∷ Words bounds
    ∷ Text (codes "), or against its direction") ∷ []
parts (Empty left right is_upward) =
    Subject ∷ Text (codes "has a range without elements: (") ∷ Word left ∷ Text (direction_text is_upward) ∷ Word right
    ∷ Text (codes ") is written (") ∷ Word right ∷ Text (direction_text is_upward) ∷ Word left
    ∷ Text (codes ") or (") ∷ Word left ∷ Text (direction_text (not is_upward)) ∷ Word right ∷ Text (codes ")") ∷ []
parts (Actual entity port bounds found needed) =
    Subject ∷ Text (codes "has length ") ∷ Number found ∷ Text (codes ", and the port ")
    ∷ Word port ∷ Text (codes " of entity ") ∷ Word entity
    ∷ Text (codes " has length ") ∷ Number needed ∷ Bounds bounds ∷ []
parts (OtherType entity port) =
    Subject ∷ Text (codes "has another type than the port ") ∷ Word port ∷ Text (codes " of entity ") ∷ Word entity ∷ []
parts (Differs generics ports) =
    Subject ∷ Text (codes "isn't declared as its entity is: ") ∷ Generics generics ∷ Names Ports ports ∷ []
parts (Meant word) = Subject ∷ Text (codes "isn't declared: did you mean ") ∷ Text word ∷ Text (codes "?") ∷ []
parts (NearEntity name) = Subject ∷ Text (codes "isn't declared: did you mean ") ∷ Word name ∷ Text (codes "?") ∷ []
parts (Measured said found needed) = Subject ∷ Text said.0 ∷ Number found ∷ Text said.1 ∷ Number needed ∷ []
parts (NoPosition entity is_port formals) =
    Subject ∷ Text (codes "can't stand here for a ") ∷ Text (formal_word is_port)
    ∷ Text (codes " of entity ") ∷ Word entity ∷ Text (codes "; ")
    ∷ Names (listing_of is_port) formals ∷ []

abbrev pub sentence : (words : Read) → Hint → List ℕ
sentence words hint = told words (parts hint)

-- that of its rule, where it has none of its own
abbrev pub help : Hint → (usual : List ℕ) → List ℕ
help (Form said) usual = said.1
help (NoFormal entity formal is_port formals) usual = HELP_FORMAL.now
help (OtherName name) usual = HELP_NAME.now
help (Empty left right is_upward) usual = HELP_EMPTY.now
help (Actual entity port bounds found needed) usual = HELP_LENGTH.now
help (OtherType entity port) usual = HELP_TYPE.now
help (Differs generics ports) usual = HELP_COMPONENT.now
help (Meant word) usual = HELP_MEANT.now
help (NearEntity name) usual = HELP_ENTITY.now
help (Measured said found needed) usual = said.2
help (NoPosition entity is_port formals) usual = HELP_POSITION.now
help _ usual = usual
