-- Where a token stands, or a fault, neither a separator nor a closed comment does.
use Rattle.std.proofs.Common.{◌≡◌, ℕ, ◌==◌, ◌&&◌, Bool, true, false, List, [], ◌∷◌, ◌++◌, Option, Some, None, drop, inl, inr, refl, sym, ap, ◌∙◌, subst, true≢false, arith}
use Rattle.std.specs.Char.{is_ascii_digit}
use Rattle.std.proofs.lemmas.Bool.{eqb-true}
use Rattle.std.proofs.lemmas.Bool.Decides.{nat_tests}
use Rattle.vhdl_lexer.specs.declared.byte.ByteClass.{ByteClass}
use Rattle.vhdl_lexer.specs.declared.fault.LexFault.{LexFault}
use Rattle.vhdl_lexer.specs.declared.fault.LexFault.TheVariants as fault
use Rattle.vhdl_lexer.specs.declared.token.TokenKind.{TokenKind}
use Rattle.vhdl_lexer.specs.declared.token.TokenKind.TheVariants as k
use Rattle.vhdl_lexer.specs.Bytes.{quote, slash, star, dash, is_separator, is_word_byte, begins}
use Rattle.vhdl_lexer.specs.Separators.{has_close, opens_comment}
use Rattle.vhdl_lexer.specs.Words.{opened_class}
use Rattle.vhdl_lexer.specs.Literals.{begins_digit}
use Rattle.vhdl_lexer.specs.Delimiters.{pair, single}
use Rattle.vhdl_lexer.specs.Cut.{IsElement, IsToken}
use Rattle.vhdl_lexer.specs.Fault.{IsStray, BeginsWord, Faulty}
use Rattle.vhdl_lexer.specs.Scan.{Stands}
use Rattle.vhdl_lexer.proofs.Choices.{both_true, either_false, begins_with}
use Rattle.vhdl_lexer.proofs.Runs.{begins_word-word, letter_begins}
use Rattle.vhdl_lexer.proofs.Marks.{fails}
use Rattle.vhdl_lexer.proofs.Sound.{opened_bits}
use Rattle.vhdl_lexer.proofs.Complete.{base_begins}
use Rattle.vhdl_lexer.proofs.Skipping.{stays_plain}

word_separator : (b : ℕ) → is_word_byte b ≡ true → is_separator b ≡ false
word_separator b e = grind (arith, nat_tests)

word_dash : (b : ℕ) → is_word_byte b ≡ true → (b == dash) ≡ false
word_dash b e = grind (arith, nat_tests)

word_slash : (b : ℕ) → is_word_byte b ≡ true → (b == slash) ≡ false
word_slash b e = grind (arith, nat_tests)

digit_word : (b : ℕ) → is_ascii_digit b ≡ true → is_word_byte b ≡ true
digit_word b e = grind (arith, nat_tests)

separator_single : (b : ℕ) → is_separator b ≡ true → single b ≡ None
separator_single b e = grind (arith, nat_tests)

separator_pair : (b c : ℕ) → is_separator b ≡ true → pair b c ≡ None
separator_pair b c e = grind (arith, nat_tests)

-- ---- tokens

NoSeparator : List ℕ → Type 0
NoSeparator [] = ⊥
NoSeparator (b ∷ text) = is_separator b ≡ false

element_starts : (last : Option TokenKind) (kind : TokenKind) (slice rest : List ℕ) → IsElement last kind slice rest → NoSeparator (slice ++ rest)
unfolding NoSeparator
element_starts last kind [] rest (inl w) = absurd (true≢false (sym w.0))
element_starts last kind (b ∷ slice) rest (inl w) = word_separator b (begins_word-word b (letter_begins b (both_true _ _ w.0).0))
element_starts last kind [] rest (inr (inl i)) = absurd (true≢false (sym i.0))
element_starts last kind (b ∷ slice) rest (inr (inl i)) = word_separator b (digit_word b (both_true _ _ i.0).0)
element_starts last kind slice rest (inr (inr (inl c))) = subst (λ x. NoSeparator (x ++ rest)) (sym c.1) refl
element_starts last kind slice rest (inr (inr (inr (inl s)))) = subst (λ x. NoSeparator (x ++ rest)) (sym s.1) refl
element_starts last kind slice rest (inr (inr (inr (inr (inl s))))) =
    subst (λ x. NoSeparator (x ++ rest)) (sym s.3) (word_separator s.0 (begins_word-word s.0 (base_begins s.0 s.1 s.4)))
element_starts last kind (b ∷ []) rest (inr (inr (inr (inr (inr d))))) = fails (is_separator b) (single b) kind d.0 (separator_single b)
element_starts last kind (b ∷ c ∷ []) rest (inr (inr (inr (inr (inr d))))) = fails (is_separator b) (pair b c) kind d.0 (separator_pair b c)
element_starts last kind _ rest (inr (inr (inr (inr (inr d))))) = let never : ◌≡◌ {A = Option TokenKind} None (Some kind) = d.0 in absurd (cc)

starts_stand : (text : List ℕ) → NoSeparator text → opens_comment text ≡ false → Stands text
unfolding NoSeparator
starts_stand [] s o = tt
starts_stand (b ∷ text) s o = let e = either_false (b == dash && begins dash text) (b == slash && begins star text) o in stays_plain b text s e.0 e.1

pub token_stands : (last : Option TokenKind) (kind : TokenKind) (slice rest : List ℕ) → IsToken last kind slice rest → Stands (slice ++ rest)
token_stands last kind slice rest t = starts_stand (slice ++ rest) (element_starts last kind slice rest t.0) t.1

-- ---- faults

word_stands : (b : ℕ) (text : List ℕ) → is_word_byte b ≡ true → Stands (b ∷ text)
word_stands b text e =
    stays_plain b text (word_separator b e) (ap (λ t. t && begins dash text) (word_dash b e)) (ap (λ t. t && begins star text) (word_slash b e))

quote_stands : (text : List ℕ) → Stands (quote ∷ text)
quote_stands text = stays_plain quote text refl refl refl

-- a byte that no delimiter begins with is none of them
pub not_mark : (b v : ℕ) (kind : TokenKind) → single b ≡ None → single v ≡ Some kind → (b == v) ≡ false
not_mark b v kind none some = by_test (b == v) refl
  where
    by_test : (t : Bool) → (b == v) ≡ t → t ≡ false
    by_test true e = let never : ◌≡◌ {A = Option TokenKind} None (Some kind) = sym none ∙ ap single (eqb-true b v e) ∙ some in absurd (cc)
    by_test false e = refl

stray_stands : (b : ℕ) (text : List ℕ) → IsStray b → Stands (b ∷ text)
stray_stands b text s =
    stays_plain b text s.0 (ap (λ t. t && begins dash text) (not_mark b dash k.Minus s.3 refl)) (ap (λ t. t && begins star text) (not_mark b slash k.Slash s.3 refl))

quoted_stands : (text : List ℕ) → begins quote text ≡ true → Stands text
quoted_stands text e = let w = begins_with quote text e in subst Stands (sym w.1) (quote_stands w.0)

bits_stand : (text : List ℕ) (class : ByteClass) → opened_class text ≡ Some class → Stands text
bits_stand text class e =
    let o = opened_bits text class e in
    subst Stands (sym o.2) (word_stands o.0 (quote ∷ o.1) (begins_word-word o.0 (base_begins o.0 class o.3)))

begun_stands : (text : List ℕ) → BeginsWord text → Stands text
begun_stands [] w = absurd w
begun_stands (b ∷ text) w = word_stands b text (begins_word-word b w)

digits_stand : (text : List ℕ) → begins_digit text ≡ true → Stands text
digits_stand [] d = absurd (true≢false (sym d))
digits_stand (b ∷ text) d = word_stands b text (digit_word b d)

pub fault_stands : (p : LexFault) (text : List ℕ) → Faulty p text → Stands text
fault_stands (fault.BadByte at) text (inl s) = subst Stands (sym s.2) (stray_stands s.0 s.1 s.3)
fault_stands (fault.BadByte at) text (inr s) = subst Stands (sym s.2.0) (quote_stands (s.0 ++ quote ∷ s.1))
fault_stands (fault.OpenComment at) text c =
    subst Stands (sym c.1) (refl, refl, λ body e. ap has_close (sym (ap (λ (x : List ℕ). drop 2 x) e)) ∙ c.2)
fault_stands (fault.OpenString at) text (inl s) = quoted_stands text s.0
fault_stands (fault.OpenString at) text (inr s) = bits_stand text s.0 s.1
fault_stands (fault.BadIdentifier at) text i = begun_stands text i.0
fault_stands (fault.BadNumber at) text (inl i) = digits_stand text i.0
fault_stands (fault.BadNumber at) text (inr s) =
    subst Stands (sym s.3.1) (word_stands s.3.0 (quote ∷ (s.1 ++ quote ∷ s.2)) (begins_word-word s.3.0 (base_begins s.3.0 s.0 s.3.2)))
fault_stands _ text x = absurd x
