-- The token at the front of a text, as the lexer finds it. What it has to do with the definitions is proved.
use Rattle.std.specs.Prelude.{◌≡◌, ℕ, ◌+◌, ◌-◌, ◌≤◌, ◌&&◌, ◌==◌, if◌then◌else◌, [], ◌∷◌}
use Rattle.std.specs.Prelude.{nat_le, not, Bool, false, List, take, drop, length, map, Option, Some, None, Result, Ok, Err}
use Rattle.std.specs.Char.{is_ascii_digit, to_ascii_lowercase}
use Rattle.std.specs.List.{list_all, filter, prefix_len}
use Rattle.vhdl_lexer.specs.declared.byte.ByteClass.{ByteClass}
use Rattle.vhdl_lexer.specs.declared.byte.ByteClass.TheVariants.{Decimal}
use Rattle.vhdl_lexer.specs.declared.fault.LexFault.{LexFault}
use Rattle.vhdl_lexer.specs.declared.fault.LexFault.TheVariants.{BadByte, OpenComment, OpenString, BadIdentifier, BadNumber}
use Rattle.vhdl_lexer.specs.declared.token.TokenKind.{TokenKind}
use Rattle.vhdl_lexer.specs.declared.token.TokenKind.TheVariants as k
use Rattle.vhdl_lexer.specs.Bytes.{quote, tick, star, dash, slash, ends_line, is_separator, is_printable, is_word_byte, begins_word, begins}
use Rattle.vhdl_lexer.specs.Separators.{has_close}
use Rattle.vhdl_lexer.specs.Words.{Word, reserved_words, is_joined, is_identifier, word_kind, opened_class}
use Rattle.vhdl_lexer.specs.Literals.{greatest_integer, integer_of, goes_on_number, may_open, closes}
use Rattle.vhdl_lexer.specs.Delimiters.{pair, single}
use Rattle.vhdl_lexer.specs.Cut.{IsToken}

-- ---- separators

-- the text from the next `*/` on, or nothing
abbrev pub from_close : List ℕ → List ℕ
from_close [] = []
from_close (b ∷ text) = if b == star && begins slash text then b ∷ text else from_close text

-- the text behind the separators and comments at its front; where a comment is open, that comment
unfoldable mutual
  pub skip : List ℕ → List ℕ
  skip [] = []
  skip (b ∷ text) =
      if is_separator b then skip text
      else (if b == dash && begins dash text then skip_line text
      else (if b == slash && begins star text then skip_star (b ∷ text) text else b ∷ text))

  pub skip_line : List ℕ → List ℕ
  skip_line [] = []
  skip_line (b ∷ text) = if ends_line b then skip text else skip_line text

  pub skip_star : List ℕ → List ℕ → List ℕ
  skip_star opened [] = opened
  skip_star opened (b ∷ text) = skip_comment opened text

  pub skip_comment : List ℕ → List ℕ → List ℕ
  skip_comment opened [] = opened
  skip_comment opened (b ∷ text) = if b == star && begins slash text then skip_slash text else skip_comment opened text

  pub skip_slash : List ℕ → List ℕ
  skip_slash [] = []
  skip_slash (b ∷ text) = skip text

-- neither a separator nor a comment that ends stands at the front
abbrev pub Stands : List ℕ → Type 0
Stands [] = Unit {0}
Stands (b ∷ text) =
    (is_separator b ≡ false) × ((b == dash && begins dash text) ≡ false)
    × ((body : List ℕ) → b ∷ text ≡ slash ∷ star ∷ body → has_close body ≡ false)

-- ---- tokens

-- a kind and a length in bytes, or a fault of the token that starts at some byte
abbrev pub Found : Type 0
Found = Result (TokenKind × ℕ) LexFault

-- the bytes of a word or number at the front
abbrev pub run : List ℕ → ℕ
run text = prefix_len is_word_byte text

-- the word begins with this small letter, be it a capital there
abbrev pub has_letter : ℕ → Word → Bool
has_letter letter w = begins letter (map to_ascii_lowercase w.0)

-- the reserved words among which one that begins with this letter is looked up
abbrev pub words_of : ℕ → List Word
words_of letter = filter (has_letter (to_ascii_lowercase letter)) reserved_words

unfoldable pub word : ℕ → List ℕ → Found
word at text =
    if is_identifier (take (run text) text) then Ok (word_kind (take (run text) text), run text)
    else Err (BadIdentifier at)

-- the number that the text writes is read
abbrev pub fits : List ℕ → Bool
fits text = nat_le (integer_of text) greatest_integer

unfoldable pub number : ℕ → List ℕ → Found
number at text =
    if is_joined Decimal (take (run text) text)
    && not (goes_on_number (drop (run text) text)) && fits (take (run text) text)
    then Ok (k.Integer, run text) else Err (BadNumber at)

-- the text from the closing quotation mark of a string on, if there is one on the line
abbrev mutual
  pub from_quote : List ℕ → Option (List ℕ)
  from_quote [] = None
  from_quote (b ∷ text) =
      if b == quote then from_pair (b ∷ text) text else (if ends_line b then None else from_quote text)

  pub from_pair : List ℕ → List ℕ → Option (List ℕ)
  from_pair marks [] = Some marks
  from_pair marks (c ∷ text) = if c == quote then from_quote text else Some marks

-- the text from the line's first quotation mark on, if there is one
abbrev pub from_first_quote : List ℕ → Option (List ℕ)
from_first_quote [] = None
from_first_quote (b ∷ text) =
    if b == quote then Some (b ∷ text) else (if ends_line b then None else from_first_quote text)

-- how many bytes stand before the end of a text
abbrev pub before : List ℕ → List ℕ → ℕ
before text end = length text - length end

-- behind its opening quotation mark, and closed where this end begins
abbrev pub string_to : ℕ → List ℕ → Option (List ℕ) → Found
string_to at text None = Err (OpenString at)
string_to at text (Some end) =
    if list_all is_printable (take (before text end) text) then Ok (k.String, before text end + 2) else Err (BadByte at)

unfoldable pub string : ℕ → List ℕ → Found
string at text = string_to at text (from_quote text)

-- behind its base specifier and quotation mark, and closed where this end begins
abbrev pub bit_string_to : ℕ → ByteClass → List ℕ → Option (List ℕ) → Found
bit_string_to at class text None = Err (OpenString at)
bit_string_to at class text (Some end) =
    if is_joined class (take (before text end) text) then Ok (k.BitString, before text end + 3) else Err (BadNumber at)

unfoldable pub bit_string : ℕ → ByteClass → List ℕ → Found
bit_string at class text = bit_string_to at class text (from_first_quote text)

abbrev pub word_or_bit_string : ℕ → Option ByteClass → List ℕ → Found
word_or_bit_string at None text = word at text
word_or_bit_string at (Some class) text = bit_string at class (drop 2 text)

unfoldable pub character : Option TokenKind → List ℕ → Found
character last after = if may_open last && closes after then Ok (k.Character, 3) else Ok (k.Tick, 1)

abbrev pub one : ℕ → Option TokenKind → Found
one at None = Err (BadByte at)
one at (Some kind) = Ok (kind, 1)

abbrev pub two : Option TokenKind → Found → Found
two None shorter = shorter
two (Some kind) shorter = Ok (kind, 2)

-- the delimiter of two bytes that begins with a byte, where this text follows it
abbrev pub longer : ℕ → List ℕ → Option TokenKind
longer b [] = None
longer b (c ∷ after) = pair b c

unfoldable pub mark : ℕ → ℕ → List ℕ → Found
mark at b after =
    if b == slash && begins star after then Err (OpenComment at) else two (longer b after) (one at (single b))

unfoldable pub front : ℕ → Option TokenKind → List ℕ → Found
front at last [] = Err (BadByte at)
front at last (b ∷ after) =
    if is_ascii_digit b then number at (b ∷ after)
    else (if begins_word b then word_or_bit_string at (opened_class (b ∷ after)) (b ∷ after)
    else (if b == quote then string at after
    else (if b == tick then character last after else mark at b after)))

-- a token of this kind and length stands at the front
pub record IsFront (last : Option TokenKind) (kind : TokenKind) (n : ℕ) (text : List ℕ) : Type 0 where
  pub token : IsToken last kind (take n text) (drop n text)
  pub some : 1 ≤ n
  pub within : n ≤ length text
