-- The bounds of an object that one declaration alone declares.
use Rattle.std.specs.Prelude.{ℕ, ◌&&◌, ◌||◌, min, nat_lt, Bool, true, false, if◌then◌else◌, List, [], ◌∷◌, drop}
use Rattle.vhdl_slips.specs.Choices.{is_written}
use Rattle.vhdl_slips.specs.Interfaces.{formals, interface_of}
use Rattle.vhdl_slips.specs.Parts.{begins, behind_last, found_by, from, in_parentheses, up_to}
use Rattle.vhdl_misfits.specs.Places.{begins_declaration}
use Rattle.vhdl_misfits.specs.declared.bound.Declared as code
use Rattle.vhdl_misfits.specs.declared.bound.Declared.TheVariants as c
use Rattle.vhdl_misfits.specs.declared.told.Known.{Known}
use Rattle.vhdl_misfits.specs.declared.told.Known.TheVariants as known
use Rattle.vhdl_misfits.specs.Values.{names_element}
use Rattle.vhdl_slips.specs.Words.{text_of, text_of_first}
use Rattle.vhdl_lexer.specs.declared.token.Token.{Token}
use Rattle.vhdl_lexer.specs.declared.token.TokenKind.{TokenKind}
use Rattle.vhdl_lexer.specs.declared.token.TokenKind.TheVariants as k
use Rattle.vhdl_lexer.specs.Literals.{greatest_integer, integer_of}
use Rattle.vhdl_tree.specs.Lexeme.{same_kind}

-- how often a name was declared: never, once, from whose colon on this stands, or more often
pub data Declared : Type 0 where
  Never : Declared
  Once : (declaration : List Token) → Declared
  Often : Declared

abbrev pub declared_view : code.Declared → Declared
declared_view c.Never = Never
declared_view (c.Once declaration) = Once declaration.now
declared_view c.Often = Often

-- ---- one declaration

-- what stands before one: the word signal, variable or constant, and in a list of generics or ports `(` or `;` too
abbrev pub opens : (in_list : Bool) → TokenKind → Bool
opens in_list kind =
    (in_list && (same_kind kind k.LeftParen || same_kind kind k.Semicolon))
    || same_kind kind k.Signal || same_kind kind k.Variable || same_kind kind k.Constant

-- these tokens begin with names of a declaration, this one among them, and a colon
abbrev pub declares : (text name : List ℕ) → List Token → Bool
declares text name tokens = begins_declaration tokens && is_written text (up_to k.Colon tokens) name

abbrev pub once_more : Declared → (declaration : List Token) → Declared
once_more Never declaration = Once declaration
once_more _ declaration = Often

-- ---- all declarations

-- how often behind a token, these standing behind it
abbrev pub declared_at : (text name : List ℕ) → (in_list : Bool) → Declared → Token → (behind : List Token) → Declared
declared_at text name in_list found t behind =
    if opens in_list t.kind && declares text name behind
    then once_more found (up_to k.Semicolon (from k.Colon behind)) else found

-- in these tokens, behind those in which it was found so often
abbrev pub declared_in : (text name : List ℕ) → (in_list : Bool) → Declared → List Token → Declared
declared_in text name in_list found tokens = found_by (declared_at text name in_list) found tokens

abbrev pub is_found : Declared → Bool
is_found Never = false
is_found _ = true

-- these tokens declare it: a list of generics or ports, or others
abbrev pub is_declared : (text name : List ℕ) → (in_list : Bool) → List Token → Bool
is_declared text name in_list tokens = is_found (declared_in text name in_list Never tokens)

-- ---- where it can be declared

-- the last architecture before a byte, from its name on
abbrev pub architecture : (before : List Token) → List Token
architecture before = behind_last k.Architecture before

-- the ports of its entity
abbrev pub ports_of : (text : List ℕ) → (source architecture : List Token) → List Token
ports_of text source (name ∷ word ∷ entity ∷ ts) = formals true (interface_of text (text_of text entity) source)
ports_of text source _ = []

-- in the architecture before the byte, and among the ports of its entity
abbrev pub all_declared : (text name : List ℕ) → (source before : List Token) → Declared
all_declared text name source before =
    declared_in text name true (declared_in text name false Never (architecture before))
    (ports_of text source (architecture before))

-- one element, a whole number or a boolean, by the name of its type, which stands first behind the colon and a mode
abbrev pub is_element : (text : List ℕ) → (declaration : List Token) → Bool
is_element text declaration = names_element (text_of_first text (from k.Identifier declaration))

-- what is known of a name that is declared so often
abbrev pub known_by : (text : List ℕ) → Declared → Known
known_by text Never = known.Unknown
known_by text (Once declaration) = if is_element text declaration then known.Element else known.Object
known_by text Often = known.Object

abbrev pub known_object : (text name : List ℕ) → (source before : List Token) → Known
known_object text name source before = known_by text (all_declared text name source before)

-- the bounds of its type, where it is declared once, and has them without parentheses in them; else nothing
abbrev pub bounds_in : Declared → List Token
bounds_in (Once declaration) = in_parentheses (from k.LeftParen declaration)
bounds_in _ = []

-- of a port in a list
abbrev pub listed_bounds : (text name : List ℕ) → (list : List Token) → List Token
listed_bounds text name list = bounds_in (declared_in text name true Never list)

abbrev pub bounds_of : (text name : List ℕ) → (source before : List Token) → List Token
bounds_of text name source before = bounds_in (all_declared text name source before)

-- ---- a range without elements

-- the number that an integer writes; of one that is too great the greatest
abbrev pub bound_of : (text : List ℕ) → Token → ℕ
bound_of text t = min (integer_of (text_of text t)) greatest_integer

-- a range whose bounds are integers, and that has no number between them
abbrev pub is_empty : (text : List ℕ) → (range : List Token) → Bool
is_empty text (left ∷ direction ∷ right ∷ []) =
    same_kind left.kind k.Integer && same_kind right.kind k.Integer
    && ((same_kind direction.kind k.Downto && nat_lt (bound_of text left) (bound_of text right))
    || (same_kind direction.kind k.To && nat_lt (bound_of text right) (bound_of text left)))
is_empty text _ = false

-- what stands in parentheses behind the name at the front, or in its declaration behind the type
abbrev pub range_at : List Token → List Token
range_at tokens =
    in_parentheses (if begins k.LeftParen (drop 1 tokens) then drop 1 tokens
    else from k.LeftParen (from k.Colon (up_to k.Semicolon tokens)))
