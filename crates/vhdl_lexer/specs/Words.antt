-- Identifiers (IEEE 1076-2008, 15.4) and reserved words (15.10).
use Rattle.std.specs.Prelude.{◌≡◌, ℕ, ◌&&◌, ◌==◌, Bool, true, false, if◌then◌else◌, List, [], ◌∷◌, ◌++◌, Option, Some, None, codes}
use Rattle.std.specs.Char.{is_ascii_alphabetic, to_ascii_lowercase}
use Rattle.std.specs.Str.{str_eq_ignore_ascii_case}
use Rattle.vhdl_lexer.specs.declared.byte.ByteClass.{ByteClass}
use Rattle.vhdl_lexer.specs.declared.byte.ByteClass.TheVariants.{LetterOrDigit, Hexadecimal, Octal, Binary}
use Rattle.vhdl_lexer.specs.declared.token.TokenKind.{TokenKind}
use Rattle.vhdl_lexer.specs.declared.token.TokenKind.TheVariants as k
use Rattle.vhdl_lexer.specs.Bytes.{quote, underscore, is_word_byte, has_class, begins, Stops}

-- bytes of a class with single underscores between them
abbrev mutual
  pub is_joined : ByteClass → List ℕ → Bool
  is_joined class [] = false
  is_joined class (b ∷ text) = has_class class b && goes_on class text

  -- what may follow such a byte
  pub goes_on : ByteClass → List ℕ → Bool
  goes_on class [] = true
  goes_on class (b ∷ text) = if has_class class b then goes_on class text else b == underscore && is_joined class text

-- a basic identifier: a letter, and then letters and digits with single underscores between them
abbrev pub is_identifier : List ℕ → Bool
is_identifier [] = false
is_identifier (b ∷ text) = is_ascii_alphabetic b && goes_on LetterOrDigit text

-- a reserved word and its kind
abbrev pub Word : Type 0
Word = List ℕ × TokenKind

-- the words that no design may use as an identifier
abbrev pub reserved_words : List Word
reserved_words =
    (codes "abs", k.Abs) ∷
    (codes "access", k.Access) ∷
    (codes "after", k.After) ∷
    (codes "alias", k.Alias) ∷
    (codes "all", k.All) ∷
    (codes "and", k.And) ∷
    (codes "architecture", k.Architecture) ∷
    (codes "array", k.Array) ∷
    (codes "assert", k.Assert) ∷
    (codes "attribute", k.Attribute) ∷
    (codes "begin", k.Begin) ∷
    (codes "block", k.Block) ∷
    (codes "body", k.Body) ∷
    (codes "buffer", k.Buffer) ∷
    (codes "bus", k.Bus) ∷
    (codes "case", k.Case) ∷
    (codes "component", k.Component) ∷
    (codes "configuration", k.Configuration) ∷
    (codes "constant", k.Constant) ∷
    (codes "disconnect", k.Disconnect) ∷
    (codes "downto", k.Downto) ∷
    (codes "else", k.Else) ∷
    (codes "elsif", k.Elsif) ∷
    (codes "end", k.End) ∷
    (codes "entity", k.Entity) ∷
    (codes "exit", k.Exit) ∷
    (codes "file", k.File) ∷
    (codes "for", k.For) ∷
    (codes "function", k.Function) ∷
    (codes "generate", k.Generate) ∷
    (codes "generic", k.Generic) ∷
    (codes "group", k.Group) ∷
    (codes "guarded", k.Guarded) ∷
    (codes "if", k.If) ∷
    (codes "impure", k.Impure) ∷
    (codes "in", k.In) ∷
    (codes "inertial", k.Inertial) ∷
    (codes "inout", k.Inout) ∷
    (codes "is", k.Is) ∷
    (codes "label", k.Label) ∷
    (codes "library", k.Library) ∷
    (codes "linkage", k.Linkage) ∷
    (codes "literal", k.Literal) ∷
    (codes "loop", k.Loop) ∷
    (codes "map", k.Map) ∷
    (codes "mod", k.Mod) ∷
    (codes "nand", k.Nand) ∷
    (codes "new", k.New) ∷
    (codes "next", k.Next) ∷
    (codes "nor", k.Nor) ∷
    (codes "not", k.Not) ∷
    (codes "null", k.Null) ∷
    (codes "of", k.Of) ∷
    (codes "on", k.On) ∷
    (codes "open", k.Open) ∷
    (codes "or", k.Or) ∷
    (codes "others", k.Others) ∷
    (codes "out", k.Out) ∷
    (codes "package", k.Package) ∷
    (codes "port", k.Port) ∷
    (codes "postponed", k.Postponed) ∷
    (codes "procedure", k.Procedure) ∷
    (codes "process", k.Process) ∷
    (codes "protected", k.Protected) ∷
    (codes "pure", k.Pure) ∷
    (codes "range", k.Range) ∷
    (codes "record", k.Record) ∷
    (codes "register", k.Register) ∷
    (codes "reject", k.Reject) ∷
    (codes "rem", k.Rem) ∷
    (codes "report", k.Report) ∷
    (codes "return", k.Return) ∷
    (codes "rol", k.Rol) ∷
    (codes "ror", k.Ror) ∷
    (codes "select", k.Select) ∷
    (codes "severity", k.Severity) ∷
    (codes "shared", k.Shared) ∷
    (codes "signal", k.Signal) ∷
    (codes "sla", k.Sla) ∷
    (codes "sll", k.Sll) ∷
    (codes "sra", k.Sra) ∷
    (codes "srl", k.Srl) ∷
    (codes "subtype", k.Subtype) ∷
    (codes "then", k.Then) ∷
    (codes "to", k.To) ∷
    (codes "transport", k.Transport) ∷
    (codes "type", k.Type) ∷
    (codes "unaffected", k.Unaffected) ∷
    (codes "units", k.Units) ∷
    (codes "until", k.Until) ∷
    (codes "use", k.Use) ∷
    (codes "variable", k.Variable) ∷
    (codes "wait", k.Wait) ∷
    (codes "when", k.When) ∷
    (codes "while", k.While) ∷
    (codes "with", k.With) ∷
    (codes "xnor", k.Xnor) ∷
    (codes "xor", k.Xor) ∷
    []

-- the kind of the first of these words that the text is, in capitals or small letters
abbrev pub kind_among : List Word → List ℕ → TokenKind
kind_among [] text = k.Identifier
kind_among (w ∷ words) text = if str_eq_ignore_ascii_case w.0 text then w.1 else kind_among words text

-- a reserved word is a kind of its own, and no identifier
unfoldable pub word_kind : List ℕ → TokenKind
word_kind text = kind_among reserved_words text

-- the digits that a base specifier is for: X, O or B, a capital or a small letter
abbrev pub base_class : ℕ → Option ByteClass
base_class b =
    if to_ascii_lowercase b == 120 then Some Hexadecimal else
    (if to_ascii_lowercase b == 111 then Some Octal else
    (if to_ascii_lowercase b == 98 then Some Binary else None))

-- where a base specifier and then a quotation mark open a bit string: its digits
abbrev pub opened_class : List ℕ → Option ByteClass
opened_class [] = None
opened_class (b ∷ text) = if begins quote text then base_class b else None

-- the longest word, where rest follows; the base specifier of a bit string is none
abbrev pub IsWord : TokenKind → List ℕ → List ℕ → Type 0
IsWord kind slice rest =
    (is_identifier slice ≡ true) × Stops is_word_byte rest
    × (opened_class (slice ++ rest) ≡ None) × (kind ≡ word_kind slice)
