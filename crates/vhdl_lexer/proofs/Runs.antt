-- Words and numbers: the longest run of letters, digits and underscores.
use Rattle.std.proofs.Common.{◌≡◌, ℕ, suc, ◌+◌, ◌≤◌, ◌==◌, ◌&&◌, ◌||◌, Bool, true, false, cond, not, List, [], ◌∷◌, ◌++◌, length, drop, ⊎_elim, refl, ap, ◌∙◌, one-add, arith}
use Rattle.std.specs.List.{list_all}
use Rattle.std.specs.Char.{is_ascii_alphabetic, is_ascii_digit, is_ascii_alphanumeric}
use Rattle.std.specs.Int.{is_in_range}
use Rattle.std.proofs.lemmas.Bool.{eqb-true}
use Rattle.std.proofs.lemmas.Bool.Decides.{nat_tests}
use Rattle.std.proofs.lemmas.List.Sums.{prefix_len-le-length}
use Rattle.vhdl_lexer.specs.declared.byte.ByteClass.{ByteClass}
use Rattle.vhdl_lexer.specs.declared.byte.ByteClass.TheVariants.{LetterOrDigit, Decimal}
use Rattle.vhdl_lexer.specs.Bytes.{underscore, quote, ends_line, is_word_byte, begins_word, has_class, Stops}
use Rattle.vhdl_lexer.specs.Literals.{is_unquoted}
use Rattle.vhdl_lexer.specs.Words.{is_joined, goes_on, is_identifier}
use Rattle.vhdl_lexer.specs.Scan.{run}
use Rattle.vhdl_lexer.proofs.Choices.{chosen, both_true, either_true}

-- ---- classes of bytes

alphanumeric_word : (b : ℕ) → is_ascii_alphanumeric b ≡ true → is_word_byte b ≡ true
alphanumeric_word b e = ap (λ t. t || b == underscore) e

underscore_word : (b : ℕ) → (b == underscore) ≡ true → is_word_byte b ≡ true
underscore_word b e = ap is_word_byte (eqb-true b underscore e)

letter_word : (b : ℕ) → is_ascii_alphabetic b ≡ true → is_word_byte b ≡ true
letter_word b e = alphanumeric_word b (by_case (is_in_range 48 57 b) (is_in_range 65 90 b) (is_in_range 97 122 b) e)
  where
    by_case : (d u l : Bool) → (u || l) ≡ true → ((d || u) || l) ≡ true
    by_case true u l f = refl
    by_case false u l f = f

class_word : (class : ByteClass) (b : ℕ) → has_class class b ≡ true → is_word_byte b ≡ true
class_word LetterOrDigit b e = alphanumeric_word b e
class_word Decimal b e = alphanumeric_word b (ap (λ t. (t || is_in_range 65 90 b) || is_in_range 97 122 b) e)
class_word _ b e = grind (arith, nat_tests)

pub begins_word-word : (b : ℕ) → begins_word b ≡ true → is_word_byte b ≡ true
begins_word-word b e = ⊎_elim (letter_word b) (underscore_word b) (either_true _ _ e)

-- a letter or an underscore is no digit
pub begins_word-digit : (b : ℕ) → begins_word b ≡ true → is_ascii_digit b ≡ false
begins_word-digit b e = grind (arith, nat_tests)

pub letter_begins : (b : ℕ) → is_ascii_alphabetic b ≡ true → begins_word b ≡ true
letter_begins b e = ap (λ t. t || b == underscore) e

-- ---- joined bytes

both_all : (b : ℕ) (text : List ℕ) → is_word_byte b ≡ true → list_all is_word_byte text ≡ true → list_all is_word_byte (b ∷ text) ≡ true
both_all b text e h = ap (λ t. t && list_all is_word_byte text) e ∙ h

mutual
  goes_on-all : (class : ByteClass) (text : List ℕ) → goes_on class text ≡ true → list_all is_word_byte text ≡ true
  goes_on-all class [] h = refl
  goes_on-all class (b ∷ text) h =
      ⊎_elim (λ t. both_all b text (class_word class b t.0) (goes_on-all class text t.1))
      (λ f. let e = both_true _ _ f.1 in both_all b text (underscore_word b e.0) (is_joined-all class text e.1))
      (chosen _ _ _ _ h)

  pub is_joined-all : (class : ByteClass) (text : List ℕ) → is_joined class text ≡ true → list_all is_word_byte text ≡ true
  is_joined-all class [] h = refl
  is_joined-all class (b ∷ text) h =
      let e = both_true _ _ h in both_all b text (class_word class b e.0) (goes_on-all class text e.1)

pub is_identifier-all : (text : List ℕ) → is_identifier text ≡ true → list_all is_word_byte text ≡ true
is_identifier-all [] h = refl
is_identifier-all (b ∷ text) h =
    let e = both_true _ _ h in both_all b text (letter_word b e.0) (goes_on-all LetterOrDigit text e.1)

word_unquoted : (b : ℕ) → is_word_byte b ≡ true → (not (ends_line b) && not (b == quote)) ≡ true
word_unquoted b e = grind (arith, nat_tests)

-- such bytes stay on the line, and none is a quotation mark
pub all-unquoted : (text : List ℕ) → list_all is_word_byte text ≡ true → is_unquoted text ≡ true
all-unquoted [] h = refl
all-unquoted (b ∷ text) h =
    let e = both_true _ _ h in ap (λ t. t && is_unquoted text) (word_unquoted b e.0) ∙ all-unquoted text e.1

-- ---- runs

pub run_within : (text : List ℕ) → run text ≤ length text
run_within text = prefix_len-le-length is_word_byte text

pub run_stops : (text : List ℕ) → Stops is_word_byte (drop (run text) text)
run_stops [] = tt
run_stops (b ∷ text) = by_test (is_word_byte b) refl (run_stops text)
  where
    by_test : (t : Bool) → is_word_byte b ≡ t → Stops is_word_byte (drop (run text) text) → Stops is_word_byte (drop (cond t (1 + run text) 0) (b ∷ text))
    by_test true e later = rw one-add later
    by_test false e later = e

run_none : (rest : List ℕ) → Stops is_word_byte rest → run rest ≡ 0
run_none [] s = refl
run_none (b ∷ rest) s = rw s refl

-- the run is the bytes of words up to another
pub run_is : (slice rest : List ℕ) → list_all is_word_byte slice ≡ true → Stops is_word_byte rest → run (slice ++ rest) ≡ length slice
run_is [] rest a s = run_none rest s
run_is (b ∷ slice) rest a s =
    let e = both_true (is_word_byte b) (list_all is_word_byte slice) a in
    rw e.0 (rw one-add (ap suc (run_is slice rest e.1 s)))
