-- What stands at the front of a text is what the lexer finds there.
use Rattle.std.proofs.Common.{◌≡◌, ℕ, ◌+◌, ◌≤◌, ◌==◌, ◌&&◌, ◌||◌, nat_le, Bool, true, false, cond, not, List, [], ◌∷◌, ◌++◌, length, take, drop, Ok, Err, Option, Some, None, ⊎_elim, refl, sym, ap, ◌∙◌, true≢false, length-append, append_assoc, arith}
use Rattle.std.specs.Char.{is_ascii_digit}
use Rattle.std.proofs.lemmas.Bool.{eqb-true}
use Rattle.std.proofs.lemmas.Bool.Decides.{nat_tests}
use Rattle.std.proofs.Math.Seq.{take-append_seam, drop-append_seam}
use Rattle.vhdl_lexer.specs.declared.byte.ByteClass.{ByteClass}
use Rattle.vhdl_lexer.specs.declared.byte.ByteClass.TheVariants.{Decimal}
use Rattle.vhdl_lexer.specs.declared.fault.LexFault.TheVariants.{BadByte, BadIdentifier, BadNumber}
use Rattle.vhdl_lexer.specs.declared.token.TokenKind.{TokenKind}
use Rattle.vhdl_lexer.specs.declared.token.TokenKind.TheVariants as k
use Rattle.vhdl_lexer.specs.Bytes.{quote, tick, hash, point, slash, star, dash, is_word_byte, is_printable, begins_word, begins, Stops}
use Rattle.vhdl_lexer.specs.Separators.{opens_comment}
use Rattle.vhdl_lexer.specs.Words.{is_joined, is_identifier, word_kind, base_class, opened_class, IsWord}
use Rattle.vhdl_lexer.specs.Literals.{greatest_integer, integer_of, begins_digit, goes_on_number, may_open, IsInteger, IsCharacter, IsString, IsBitString}
use Rattle.vhdl_lexer.specs.Delimiters.{single, delimiter, IsDelimiter}
use Rattle.vhdl_lexer.specs.Cut.{IsToken}
use Rattle.vhdl_lexer.specs.Scan.{Found, run, word, fits, number, string, bit_string, word_or_bit_string, character, longer, front}
use Rattle.vhdl_lexer.proofs.Choices.{both_true, either_false}
use Rattle.vhdl_lexer.proofs.Runs.{run_is, is_joined-all, is_identifier-all, all-unquoted, begins_word-digit, letter_begins}
use Rattle.vhdl_lexer.proofs.Strings.{string_closed, bit_string_closed}
use Rattle.vhdl_lexer.proofs.Marks.{front_single, front_pair, mark_one, mark_two}

-- ---- which token a first byte asks for

pub front_digit : (at : ℕ) → (last : Option TokenKind) (b : ℕ) (after : List ℕ) → is_ascii_digit b ≡ true → front at last (b ∷ after) ≡ number at (b ∷ after)
unfolding front
front_digit at last b after d = rw d refl

pub front_word : (at : ℕ) → (last : Option TokenKind) (b : ℕ) (after : List ℕ) → begins_word b ≡ true → front at last (b ∷ after) ≡ word_or_bit_string at (opened_class (b ∷ after)) (b ∷ after)
unfolding front
front_word at last b after w = let d = begins_word-digit b w in rw (d, w) refl

pub front_quote : (at : ℕ) → (last : Option TokenKind) (after : List ℕ) → front at last (quote ∷ after) ≡ string at after
unfolding front
front_quote at last after = refl

-- ---- words and integers

run_slice : (slice rest : List ℕ) → run (slice ++ rest) ≡ length slice → take (run (slice ++ rest)) (slice ++ rest) ≡ slice
run_slice slice rest e = ap (λ n. take n (slice ++ rest)) e ∙ take-append_seam slice rest

run_rest : (slice rest : List ℕ) → run (slice ++ rest) ≡ length slice → drop (run (slice ++ rest)) (slice ++ rest) ≡ rest
run_rest slice rest e = ap (λ n. drop n (slice ++ rest)) e ∙ drop-append_seam slice rest

word_found : (at : ℕ) → (slice rest : List ℕ) → is_identifier slice ≡ true → Stops is_word_byte rest → word at (slice ++ rest) ≡ Ok (word_kind slice, length slice)
unfolding word
word_found at slice rest i s =
    let len = run_is slice rest (is_identifier-all slice i) s in
    ap (λ x. cond (is_identifier x) (Ok (word_kind x, run (slice ++ rest))) (Err (BadIdentifier at))) (run_slice slice rest len)
    ∙ ap (λ t. cond t (Ok (word_kind slice, run (slice ++ rest))) (Err (BadIdentifier at))) i
    ∙ ap (λ n. Ok (word_kind slice, n)) len

pub word_complete : (at : ℕ) → (last : Option TokenKind) (kind : TokenKind) (slice rest : List ℕ) → IsWord kind slice rest → front at last (slice ++ rest) ≡ Ok (kind, length slice)
word_complete at last kind [] rest w = absurd (true≢false (sym w.0))
word_complete at last kind (b ∷ slice) rest w =
    front_word at last b (slice ++ rest) (letter_begins b (both_true _ _ w.0).0)
    ∙ ap (λ class. word_or_bit_string at class (b ∷ (slice ++ rest))) w.2
    ∙ word_found at (b ∷ slice) rest w.0 w.1
    ∙ ap (λ x. Ok (x, length (b ∷ slice))) (sym w.3)

number_stops : (rest : List ℕ) → goes_on_number rest ≡ false → Stops is_word_byte rest
number_stops [] g = tt
number_stops (b ∷ rest) g = (either_false (is_word_byte b) (b == hash) (either_false (is_word_byte b || b == hash) (b == point && begins_digit rest) g).0).0

most_fits : (text : List ℕ) → integer_of text ≤ greatest_integer → fits text ≡ true
most_fits text le = by_number (integer_of text) le
  where
    by_number : (n : ℕ) → n ≤ greatest_integer → nat_le n greatest_integer ≡ true
    by_number n le = grind (arith, nat_tests)

integer_test : (at : ℕ) → List ℕ → List ℕ → ℕ → Found
integer_test at digits rest n = cond (is_joined Decimal digits && not (goes_on_number rest) && fits digits) (Ok (k.Integer, n)) (Err (BadNumber at))

number_found : (at : ℕ) → (slice rest : List ℕ) → is_joined Decimal slice ≡ true → goes_on_number rest ≡ false → fits slice ≡ true → number at (slice ++ rest) ≡ Ok (k.Integer, length slice)
unfolding number integer_test
number_found at slice rest j g f =
    let len = run_is slice rest (is_joined-all Decimal slice j) (number_stops rest g) in
    ap (λ x. integer_test at x (drop (run (slice ++ rest)) (slice ++ rest)) (run (slice ++ rest))) (run_slice slice rest len)
    ∙ ap (λ x. integer_test at slice x (run (slice ++ rest))) (run_rest slice rest len)
    ∙ ap (λ n. integer_test at slice rest n) len
    ∙ ap (λ t. cond (t && not (goes_on_number rest) && fits slice) (Ok (k.Integer, length slice)) (Err (BadNumber at))) j
    ∙ ap (λ t. cond (not t && fits slice) (Ok (k.Integer, length slice)) (Err (BadNumber at))) g
    ∙ ap (λ t. cond t (Ok (k.Integer, length slice)) (Err (BadNumber at))) f

pub integer_complete : (at : ℕ) → (last : Option TokenKind) (kind : TokenKind) (slice rest : List ℕ) → IsInteger kind slice rest → front at last (slice ++ rest) ≡ Ok (kind, length slice)
integer_complete at last kind [] rest i = absurd (true≢false (sym i.0))
integer_complete at last kind (b ∷ slice) rest i =
    front_digit at last b (slice ++ rest) (both_true _ _ i.0).0
    ∙ number_found at (b ∷ slice) rest i.0 i.1 (most_fits (b ∷ slice) i.2)
    ∙ ap (λ x. Ok (x, length (b ∷ slice))) (sym i.3)

-- ---- characters, strings and bit strings

character_complete : (at : ℕ) → (last : Option TokenKind) (kind : TokenKind) (slice rest : List ℕ) → IsCharacter last kind slice → front at last (slice ++ rest) ≡ Ok (kind, length slice)
unfolding front character
character_complete at last kind slice rest c =
    let opens : (may_open last && (is_printable c.0 && true)) ≡ true = ap (λ t. t && (is_printable c.0 && true)) c.3 ∙ ap (λ t. t && true) c.2 in
    rw (c.1, opens, c.4) refl

string_complete : (at : ℕ) → (last : Option TokenKind) (kind : TokenKind) (slice rest : List ℕ) → IsString kind slice rest → front at last (slice ++ rest) ≡ Ok (kind, length slice)
string_complete at last kind slice rest s =
    let after = s.0 ++ quote ∷ rest in
    let whole : slice ++ rest ≡ quote ∷ (s.0 ++ quote ∷ rest) = ap (λ x. x ++ rest) s.1 ∙ ap (λ x. quote ∷ x) (append_assoc s.0 (quote ∷ []) rest) in
    let len : length s.0 + 2 ≡ length slice = omega (arith, ap (λ (x : List ℕ). length x) s.1, length-append s.0 (quote ∷ [])) in
    ap (front at last) whole ∙ front_quote at last (s.0 ++ quote ∷ rest)
    ∙ string_closed at (s.0 ++ quote ∷ rest) s.0 rest refl s.2 s.3
    ∙ ap (λ t. cond t (Ok (k.String, length s.0 + 2)) (Err (BadByte at))) s.4
    ∙ ap (λ n. Ok (k.String, n)) len
    ∙ ap (λ x. Ok (x, length slice)) (sym s.5)

some_none : {A : Type 0} (class : ByteClass) → ◌≡◌ {A = Option ByteClass} None (Some class) → A
some_none class e = absurd (cc)

other_base : (b : ℕ) → begins_word b ≡ false → base_class b ≡ None
other_base b e = grind (arith, nat_tests)

pub base_begins : (b : ℕ) (class : ByteClass) → base_class b ≡ Some class → begins_word b ≡ true
base_begins b class e = by_test (begins_word b) refl
  where
    by_test : (t : Bool) → begins_word b ≡ t → t ≡ true
    by_test true f = refl
    by_test false f = some_none class (sym (other_base b f) ∙ e)

pub front_bits : (at : ℕ) → (last : Option TokenKind) (base : ℕ) (class : ByteClass) (after : List ℕ) → base_class base ≡ Some class → front at last (base ∷ quote ∷ after) ≡ bit_string at class after
front_bits at last base class after e =
    front_word at last base (quote ∷ after) (base_begins base class e) ∙ ap (λ x. word_or_bit_string at x (base ∷ quote ∷ after)) e

bit_string_complete : (at : ℕ) → (last : Option TokenKind) (kind : TokenKind) (slice rest : List ℕ) → IsBitString kind slice → front at last (slice ++ rest) ≡ Ok (kind, length slice)
bit_string_complete at last kind slice rest s =
    let base = s.0 in
    let class = s.1 in
    let digits = s.2 in
    let whole : slice ++ rest ≡ s.0 ∷ quote ∷ (s.2 ++ quote ∷ rest) = ap (λ x. x ++ rest) s.3 ∙ ap (λ x. s.0 ∷ quote ∷ x) (append_assoc s.2 (quote ∷ []) rest) in
    let len : length s.2 + 3 ≡ length slice = omega (arith, ap (λ (x : List ℕ). length x) s.3, length-append s.2 (quote ∷ [])) in
    ap (front at last) whole ∙ front_bits at last base class (digits ++ quote ∷ rest) s.4
    ∙ bit_string_closed at class (digits ++ quote ∷ rest) digits rest refl (all-unquoted digits (is_joined-all class digits s.5))
    ∙ ap (λ t. cond t (Ok (k.BitString, length digits + 3)) (Err (BadNumber at))) s.5
    ∙ ap (λ n. Ok (k.BitString, n)) len
    ∙ ap (λ x. Ok (x, length slice)) (sym s.6)

-- ---- delimiters

no_longer : (b : ℕ) (rest : List ℕ) → ((c : ℕ) (after : List ℕ) → rest ≡ c ∷ after → delimiter (b ∷ c ∷ []) ≡ None) → longer b rest ≡ None
no_longer b [] h = refl
no_longer b (c ∷ rest) h = h c rest refl

as_tick : (at : ℕ) → (last : Option TokenKind) (b : ℕ) (kind : TokenKind) (rest : List ℕ) → IsDelimiter last kind (b ∷ []) rest → b ≡ tick → front at last (b ∷ rest) ≡ Ok (kind, 1)
unfolding front character
as_tick at last b kind rest d e =
    let is_tick : ◌≡◌ {A = Option TokenKind} (Some k.Tick) (Some kind) = sym (ap single e) ∙ d.0 in
    let same : k.Tick ≡ kind = cc in
    rw (e, d.2 (ap (λ x. x ∷ []) e), same) refl

no_slash_star : (b : ℕ) (rest : List ℕ) → opens_comment (b ∷ rest) ≡ false → (b == slash && begins star rest) ≡ false
no_slash_star b rest h = (either_false (b == dash && begins dash rest) (b == slash && begins star rest) h).1

delimiter_complete : (at : ℕ) → (last : Option TokenKind) (kind : TokenKind) (slice rest : List ℕ) → IsDelimiter last kind slice rest → opens_comment (slice ++ rest) ≡ false → front at last (slice ++ rest) ≡ Ok (kind, length slice)
delimiter_complete at last kind (b ∷ []) rest d o = by_test (b == tick) refl
  where
    by_test : (t : Bool) → (b == tick) ≡ t → front at last (b ∷ rest) ≡ Ok (kind, 1)
    by_test true e = as_tick at last b kind rest d (eqb-true b tick e)
    by_test false e = front_single at last b kind rest d.0 e ∙ mark_one at b rest (Some kind) (no_slash_star b rest o) (no_longer b rest d.1) d.0
delimiter_complete at last kind (b ∷ c ∷ []) rest d o =
    front_pair at last b c kind (c ∷ rest) d.0 ∙ mark_two at b (c ∷ rest) kind (no_slash_star b (c ∷ rest) o) d.0
delimiter_complete at last kind _ rest d o = let never : ◌≡◌ {A = Option TokenKind} None (Some kind) = d.0 in absurd (cc)

-- ---- the front

pub front_complete : (at : ℕ) → (last : Option TokenKind) (kind : TokenKind) (slice rest : List ℕ) → IsToken last kind slice rest → front at last (slice ++ rest) ≡ Ok (kind, length slice)
front_complete at last kind slice rest t =
    ⊎_elim (word_complete at last kind slice rest) (⊎_elim (integer_complete at last kind slice rest) (⊎_elim (character_complete at last kind slice rest)
    (⊎_elim (string_complete at last kind slice rest) (⊎_elim (bit_string_complete at last kind slice rest) (λ d. delimiter_complete at last kind slice rest d t.1))))) t.0
