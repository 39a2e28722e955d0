-- Names of a text, listed in order and as they are written: its entities, or the generics or ports of one.
use Rattle.std.specs.Prelude.{ℕ, Bool, true, false, if◌then◌else◌, List, [], ◌∷◌, ◌++◌, codes, Option, Some, None}
use Rattle.byte_streams.specs.Written.{SinkState, Goes}
use Rattle.vhdl_slips.specs.Words.{Read, text_of}
use Rattle.vhdl_slips.specs.Interfaces.{entity_at, formal_at}
use Rattle.vhdl_slips.specs.declared.listing.Listing.{Listing}
use Rattle.vhdl_slips.specs.declared.listing.Listing.TheVariants.{Entities, Generics, Ports}
use Rattle.vhdl_lexer.specs.declared.token.Token.{Token}

-- ---- which names

-- the name that is listed where these tokens stand
abbrev pub name_at : Listing → List Token → Option Token
name_at Entities tokens = entity_at tokens
name_at Generics tokens = formal_at tokens
name_at Ports tokens = formal_at tokens

-- a name, or none, as a list
abbrev pub written : (text : List ℕ) → Option Token → List (List ℕ)
written text None = []
written text (Some name) = text_of text name ∷ []

abbrev pub names_at : Listing → (text : List ℕ) → List Token → List (List ℕ)
names_at listing text tokens = written text (name_at listing tokens)

abbrev pub names_from : Listing → (text : List ℕ) → List Token → List (List ℕ)
names_from listing text [] = []
names_from listing text (t ∷ ts) = names_at listing text (t ∷ ts) ++ names_from listing text ts

-- ---- how they are told

abbrev pub opening : Listing → List ℕ
opening Entities = codes "entities: "
opening Generics = codes "its generics are "
opening Ports = codes "its ports are "

abbrev pub separator : Listing → (is_first : Bool) → List ℕ
separator listing is_first = if is_first then opening listing else codes ", "

-- behind the last name, or where there is none
abbrev pub closing : Listing → (is_first : Bool) → List ℕ
closing Entities is_first = if is_first then [] else codes "\n"
closing Generics is_first = if is_first then codes "it has none" else []
closing Ports is_first = if is_first then codes "it has none" else []

-- the names, of which some were told before where `is_first` is false
abbrev pub listed : Listing → (is_first : Bool) → List (List ℕ) → List ℕ
listed listing is_first [] = closing listing is_first
listed listing is_first (name ∷ names) = separator listing is_first ++ name ++ listed listing false names

-- those of some tokens, in order
abbrev pub names_listed : Listing → (text : List ℕ) → List Token → List ℕ
names_listed listing text tokens = listed listing true (names_from listing text tokens)

-- a line with the names of the entities; none where there is none
abbrev pub entities_line : Read → List ℕ
entities_line read = names_listed Entities read.text read.tokens

-- ---- names that are told one by one

-- these names went out: whatever names follow, all of them go where the others go from here
abbrev pub Tells : Listing → (names : List (List ℕ)) → (is_first : Bool)
    → (old : SinkState) → (still_first : Bool) → (new : SinkState) → Type 0
Tells listing names is_first old still_first new =
    (others : List (List ℕ)) (end : SinkState) → Goes new end (listed listing still_first others)
    → Goes old end (listed listing is_first (names ++ others))
