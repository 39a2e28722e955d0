-- A problem that the lexer meets is one by its definition, and the other way round.
use Rattle.std.proofs.Common.{◌≡◌, ℕ, ◌+◌, ◌==◌, ◌&&◌, Bool, true, false, cond, not, List, [], ◌∷◌, ◌++◌, length, take, drop, Ok, Err, IfSome, Option, Some, None, inl, inr, ⊎_elim, refl, sym, ap, ◌∙◌, subst, true≢false, take-append-drop, arith}
use Rattle.std.specs.List.{list_all}
use Rattle.std.specs.Char.{is_ascii_digit}
use Rattle.std.proofs.lemmas.Bool.{eqb-true}
use Rattle.std.proofs.lemmas.Bool.Decides.{nat_tests}
use Rattle.vhdl_lexer.specs.declared.byte.ByteClass.{ByteClass}
use Rattle.vhdl_lexer.specs.declared.byte.ByteClass.TheVariants.{Decimal}
use Rattle.vhdl_lexer.specs.declared.fault.LexFault.{LexFault}
use Rattle.vhdl_lexer.specs.declared.fault.LexFault.TheVariants.{BadByte, OpenComment, OpenString, BadIdentifier, BadNumber}
use Rattle.vhdl_lexer.specs.declared.token.TokenKind.{TokenKind}
use Rattle.vhdl_lexer.specs.declared.token.TokenKind.TheVariants as k
use Rattle.vhdl_lexer.specs.Bytes.{quote, tick, slash, star, is_word_byte, is_printable, begins_word, begins}
use Rattle.vhdl_lexer.specs.Words.{is_joined, is_identifier, word_kind, base_class, opened_class, IsWord}
use Rattle.vhdl_lexer.specs.Literals.{goes_on_number, may_open, closes, IsInteger}
use Rattle.vhdl_lexer.specs.Delimiters.{pair, single}
use Rattle.vhdl_lexer.specs.Fault.{fault_byte, Absent, IsStray, Faulty}
use Rattle.vhdl_lexer.specs.Scan.{Found, run, word, fits, number, from_quote, from_first_quote, string, bit_string, word_or_bit_string, character, one, longer, mark, front, Stands}
use Rattle.vhdl_lexer.proofs.Choices.{both_true, begins_with}
use Rattle.vhdl_lexer.proofs.Runs.{run_stops}
use Rattle.vhdl_lexer.proofs.Strings.{Closed, closed_or_open, quoted_end, string_closed, string_open, ClosedBits, closed_or_open_bits, first_end, bit_string_closed, bit_string_open}
use Rattle.vhdl_lexer.proofs.Marks.{front_mark, mark_one, mark_two, mark_comment}
use Rattle.vhdl_lexer.proofs.Sound.{opened_bits, fits_most}
use Rattle.vhdl_lexer.proofs.Complete.{front_digit, front_word, front_quote, front_bits, word_complete, integer_complete}
use Rattle.vhdl_lexer.proofs.Starts.{not_mark}

pub err_same : (p q : LexFault) → ◌≡◌ {A = Found} (Err p) (Err q) → p ≡ q
err_same p q e = cc

ok_err : {A : Type 0} (x : TokenKind × ℕ) (p : LexFault) → ◌≡◌ {A = Found} (Ok x) (Err p) → A
ok_err x p h = absurd (cc)

-- a fault at this byte, which is one by its definition
pub record Met (at : ℕ) (p : LexFault) (text : List ℕ) : Type 0 where
  pub byte : fault_byte p ≡ Some at
  pub faulty : Faulty p text

faulty : (at : ℕ) (p : LexFault) → fault_byte p ≡ Some at → (q : LexFault) (text : List ℕ) → ◌≡◌ {A = Found} (Err p) (Err q) → Faulty p text → Met at q text
faulty at p b q text e f = subst (λ x. Met at x text) (err_same p q e) (record { byte = b; faulty = f })

some_none : {A : Type 0} (text : List ℕ) → ◌≡◌ {A = Option (List ℕ)} (Some text) None → A
some_none text e = absurd (cc)

-- ---- a problem met is one

number_faulty : (at : ℕ) → (last : Option TokenKind) (b : ℕ) (after : List ℕ) (p : LexFault) → is_ascii_digit b ≡ true → front at last (b ∷ after) ≡ Err p → Met at p (b ∷ after)
unfolding number
number_faulty at last b after p d h = faulty at (BadNumber at) refl p (b ∷ after) (is_number (sym (front_digit at last b after d) ∙ h))
    (inl (d, λ kind slice rest e i. ok_err (kind, length slice) p (sym (integer_complete at last kind slice rest i) ∙ ap (front at last) (sym e) ∙ h)))
  where
    is_number : number at (b ∷ after) ≡ Err p → ◌≡◌ {A = Found} (Err (BadNumber at)) (Err p)
    is_number g = by_test (is_joined Decimal (take (run (b ∷ after)) (b ∷ after)) && not (goes_on_number (drop (run (b ∷ after)) (b ∷ after))) && fits (take (run (b ∷ after)) (b ∷ after))) g
      where
        by_test : (t : Bool) → ◌≡◌ {A = Found} (cond t (Ok (k.Integer, run (b ∷ after))) (Err (BadNumber at))) (Err p) → ◌≡◌ {A = Found} (Err (BadNumber at)) (Err p)
        by_test true g = ok_err _ p g
        by_test false g = g

word_faulty : (at : ℕ) → (last : Option TokenKind) (b : ℕ) (after : List ℕ) (p : LexFault) → begins_word b ≡ true → opened_class (b ∷ after) ≡ None → word at (b ∷ after) ≡ Err p → front at last (b ∷ after) ≡ Err p → Met at p (b ∷ after)
unfolding word
word_faulty at last b after p w none g h = faulty at (BadIdentifier at) refl p (b ∷ after) (by_test (is_identifier (take (run (b ∷ after)) (b ∷ after))) g)
    (w, none, λ kind slice rest e i. ok_err (kind, length slice) p (sym (word_complete at last kind slice rest i) ∙ ap (front at last) (sym e) ∙ h))
  where
    by_test : (t : Bool) → ◌≡◌ {A = Found} (cond t (Ok (word_kind (take (run (b ∷ after)) (b ∷ after)), run (b ∷ after))) (Err (BadIdentifier at))) (Err p) → ◌≡◌ {A = Found} (Err (BadIdentifier at)) (Err p)
    by_test true g = ok_err _ p g
    by_test false g = g

bits_faulty : (at : ℕ) → (class : ByteClass) (base : ℕ) (after : List ℕ) (p : LexFault) → base_class base ≡ Some class → bit_string at class after ≡ Err p → Met at p (base ∷ quote ∷ after)
bits_faulty at class base after p is h = ⊎_elim closed opened (closed_or_open_bits after)
  where
    by_test : (c : ClosedBits after) (t : Bool) → is_joined class c.body ≡ t → ◌≡◌ {A = Found} (cond t (Ok (k.BitString, length c.body + 3)) (Err (BadNumber at))) (Err p) → Met at p (base ∷ quote ∷ after)
    by_test c true e g = ok_err _ p g
    by_test c false e g = faulty at (BadNumber at) refl p (base ∷ quote ∷ after) g
        (inr (class, c.body, c.rest, (base, ap (λ x. base ∷ quote ∷ x) c.whole, is, c.unquoted), e))

    closed : ClosedBits after → Met at p (base ∷ quote ∷ after)
    closed c = by_test c (is_joined class c.body) refl (sym (bit_string_closed at class after c.body c.rest c.whole c.unquoted) ∙ h)

    opened : from_first_quote after ≡ None → Met at p (base ∷ quote ∷ after)
    opened e = faulty at (OpenString at) refl p (base ∷ quote ∷ after) (sym (bit_string_open at class after e) ∙ h)
        (inr (class, is, λ body rest c. some_none (quote ∷ rest) (sym (first_end body rest c.3) ∙ ap (λ (x : List ℕ). from_first_quote (drop 2 x)) (sym c.1) ∙ e)))

string_faulty : (at : ℕ) → (after : List ℕ) (p : LexFault) → string at after ≡ Err p → Met at p (quote ∷ after)
string_faulty at after p h = ⊎_elim closed opened (closed_or_open after)
  where
    by_test : (c : Closed after) (t : Bool) → list_all is_printable c.body ≡ t → ◌≡◌ {A = Found} (cond t (Ok (k.String, length c.body + 2)) (Err (BadByte at))) (Err p) → Met at p (quote ∷ after)
    by_test c true e g = ok_err _ p g
    by_test c false e g = faulty at (BadByte at) refl p (quote ∷ after) g (inr (c.body, c.rest, (ap (λ x. quote ∷ x) c.whole, c.quoted, c.ended), e))

    closed : Closed after → Met at p (quote ∷ after)
    closed c = by_test c (list_all is_printable c.body) refl (sym (string_closed at after c.body c.rest c.whole c.quoted c.ended) ∙ h)

    opened : from_quote after ≡ None → Met at p (quote ∷ after)
    opened e = faulty at (OpenString at) refl p (quote ∷ after) (sym (string_open at after e) ∙ h)
        (inl (refl, λ body rest c. some_none (quote ∷ rest) (sym (quoted_end body rest c.1 c.2) ∙ ap (λ (x : List ℕ). from_quote (drop 1 x)) (sym c.0) ∙ e)))

no_word : (b : ℕ) → is_ascii_digit b ≡ false → begins_word b ≡ false → is_word_byte b ≡ false
no_word b d w = grind (arith, nat_tests)

mark_faulty : (at : ℕ) → (b : ℕ) (after : List ℕ) (p : LexFault) → Stands (b ∷ after) → is_word_byte b ≡ false → (b == quote) ≡ false → mark at b after ≡ Err p → Met at p (b ∷ after)
mark_faulty at b after p s w q h = by_test (b == slash && begins star after) refl
  where
    by_single : (found : Option TokenKind) → single b ≡ found → one at found ≡ Err p → Met at p (b ∷ after)
    by_single None e g = faulty at (BadByte at) refl p (b ∷ after) g (inl (b, after, refl, (s.0, w, q, e)))
    by_single (Some kind) e g = ok_err (kind, 1) p g

    by_pair : (found : Option TokenKind) → longer b after ≡ found → (b == slash && begins star after) ≡ false → Met at p (b ∷ after)
    by_pair None e t = by_single (single b) refl (sym (mark_one at b after (single b) t e refl) ∙ h)
    by_pair (Some kind) e t = ok_err (kind, 2) p (sym (mark_two at b after kind t e) ∙ h)

    opened : b ≡ slash → ((rest : List ℕ) × (after ≡ star ∷ rest)) → (b == slash && begins star after) ≡ true → Met at p (b ∷ after)
    opened e r t =
        let whole : b ∷ after ≡ slash ∷ star ∷ r.0 = ap (λ x. x ∷ after) e ∙ ap (λ x. slash ∷ x) r.1 in
        faulty at (OpenComment at) refl p (b ∷ after) (sym (mark_comment at b after t) ∙ h) (r.0, whole, s.2 r.0 whole)

    by_test : (t : Bool) → (b == slash && begins star after) ≡ t → Met at p (b ∷ after)
    by_test true e = let f = both_true (b == slash) (begins star after) e in opened (eqb-true b slash f.0) (begins_with star after f.1) e
    by_test false e = by_pair (longer b after) refl e

character_passes : {A : Type 0} (last : Option TokenKind) (after : List ℕ) (p : LexFault) → character last after ≡ Err p → A
unfolding character
character_passes last after p h = by_test (may_open last && closes after) h
  where
    by_test : {A : Type 0} (t : Bool) → ◌≡◌ {A = Found} (cond t (Ok (k.Character, 3)) (Ok (k.Tick, 1))) (Err p) → A
    by_test true g = ok_err (k.Character, 3) p g
    by_test false g = ok_err (k.Tick, 1) p g

word_or_bits_faulty : (at : ℕ) → (last : Option TokenKind) (b : ℕ) (after : List ℕ) (p : LexFault) → begins_word b ≡ true → front at last (b ∷ after) ≡ Err p → Met at p (b ∷ after)
word_or_bits_faulty at last b after p w h = by_class (opened_class (b ∷ after)) refl (sym (front_word at last b after w) ∙ h)
  where
    bits : (class : ByteClass) → ((base : ℕ) × (rest : List ℕ) × (b ∷ after ≡ base ∷ quote ∷ rest) × (base_class base ≡ Some class)) → bit_string at class (drop 2 (b ∷ after)) ≡ Err p → Met at p (b ∷ after)
    bits class o g = subst (Met at p) (sym o.2) (bits_faulty at class o.0 o.1 p o.3 (sym (ap (λ x. bit_string at class (drop 2 x)) o.2) ∙ g))

    by_class : (class : Option ByteClass) → opened_class (b ∷ after) ≡ class → word_or_bit_string at class (b ∷ after) ≡ Err p → Met at p (b ∷ after)
    by_class None e g = word_faulty at last b after p w e g h
    by_class (Some class) e g = bits class (opened_bits (b ∷ after) class e) g

pub front_faulty : (at : ℕ) → (last : Option TokenKind) (text : List ℕ) (p : LexFault) → Stands text → (text ≡ [] → ⊥) → front at last text ≡ Err p → Met at p text
unfolding front
front_faulty at last [] p s some h = absurd (some refl)
front_faulty at last (b ∷ after) p s some h = by_first (is_ascii_digit b) refl (begins_word b) refl (b == quote) refl (b == tick) h
  where
    by_first : (d : Bool) → is_ascii_digit b ≡ d → (w : Bool) → begins_word b ≡ w → (q : Bool) → (b == quote) ≡ q → (t : Bool) →
        cond d (number at (b ∷ after)) (cond w (word_or_bit_string at (opened_class (b ∷ after)) (b ∷ after)) (cond q (string at after) (cond t (character last after) (mark at b after)))) ≡ Err p →
        Met at p (b ∷ after)
    by_first true ed w ew q eq t g = number_faulty at last b after p ed h
    by_first false ed true ew q eq t g = word_or_bits_faulty at last b after p ew h
    by_first false ed false ew true eq t g = subst (λ x. Met at p (x ∷ after)) (sym (eqb-true b quote eq)) (string_faulty at after p g)
    by_first false ed false ew false eq true g = character_passes last after p g
    by_first false ed false ew false eq false g = mark_faulty at b after p s (no_word b ed ew) eq g

-- ---- a problem is met

stray_found : (at : ℕ) → (last : Option TokenKind) (b : ℕ) (after : List ℕ) → IsStray b → front at last (b ∷ after) ≡ Err (BadByte at)
stray_found at last b after s =
    front_mark at last b after (no_digit b s.1) (no_letter b s.1) s.2 (not_mark b tick k.Tick s.3 refl)
    ∙ mark_one at b after None (ap (λ t. t && begins star after) (not_mark b slash k.Slash s.3 refl)) (no_longer after) s.3
  where
    no_digit : (b : ℕ) → is_word_byte b ≡ false → is_ascii_digit b ≡ false
    no_digit b e = grind (arith, nat_tests)

    no_letter : (b : ℕ) → is_word_byte b ≡ false → begins_word b ≡ false
    no_letter b e = grind (arith, nat_tests)

    no_pair : (c : ℕ) → pair b c ≡ None
    no_pair c =
        let equal = not_mark b 61 k.Equal s.3 refl in
        let colon = not_mark b 58 k.Colon s.3 refl in
        let less = not_mark b 60 k.Less s.3 refl in
        let greater = not_mark b 62 k.Greater s.3 refl in
        let bar = not_mark b 47 k.Slash s.3 refl in
        rw (equal, colon, less, greater, bar) refl

    no_longer : (after : List ℕ) → longer b after ≡ None
    no_longer [] = refl
    no_longer (c ∷ after) = no_pair c

word_refused : (at : ℕ) → (text : List ℕ) → opened_class text ≡ None → Absent IsWord text → word at text ≡ Err (BadIdentifier at)
unfolding word
word_refused at text none absent = by_test (is_identifier (take (run text) text)) refl
  where
    by_test : (t : Bool) → is_identifier (take (run text) text) ≡ t → ◌≡◌ {A = Found} (cond t (Ok (word_kind (take (run text) text), run text)) (Err (BadIdentifier at))) (Err (BadIdentifier at))
    by_test true e = absurd (absent (word_kind (take (run text) text)) (take (run text) text) (drop (run text) text) (sym (take-append-drop (run text) text))
        (e, run_stops text, ap opened_class (take-append-drop (run text) text) ∙ none, refl))
    by_test false e = refl

number_refused : (at : ℕ) → (text : List ℕ) → Absent IsInteger text → number at text ≡ Err (BadNumber at)
unfolding number
number_refused at text absent =
    by_test (is_joined Decimal (take (run text) text)) refl (goes_on_number (drop (run text) text)) refl (fits (take (run text) text)) refl
  where
    by_test : (j : Bool) → is_joined Decimal (take (run text) text) ≡ j → (g : Bool) → goes_on_number (drop (run text) text) ≡ g → (f : Bool) → fits (take (run text) text) ≡ f →
        ◌≡◌ {A = Found} (cond (j && not g && f) (Ok (k.Integer, run text)) (Err (BadNumber at))) (Err (BadNumber at))
    by_test true ej false eg true ef = absurd (absent k.Integer (take (run text) text) (drop (run text) text) (sym (take-append-drop (run text) text))
        (ej, eg, fits_most (take (run text) text) ef, refl))
    by_test true ej false eg false ef = refl
    by_test true ej true eg f ef = refl
    by_test false ej g eg f ef = refl

pub fault_found : (last : Option TokenKind) (p : LexFault) (text : List ℕ) → Faulty p text → IfSome (fault_byte p) (λ at. front at last text ≡ Err p)
fault_found last (BadByte at) text (inl s) = ap (front at last) s.2 ∙ stray_found at last s.0 s.1 s.3
fault_found last (BadByte at) text (inr s) =
    ap (front at last) s.2.0 ∙ front_quote at last (s.0 ++ quote ∷ s.1) ∙ string_closed at (s.0 ++ quote ∷ s.1) s.0 s.1 refl s.2.1 s.2.2
    ∙ ap (λ t. cond t (Ok (k.String, length s.0 + 2)) (Err (BadByte at))) s.3
fault_found last (OpenComment at) text c = ap (front at last) c.1 ∙ front_mark at last slash (star ∷ c.0) refl refl refl refl ∙ mark_comment at slash (star ∷ c.0) refl
fault_found last (OpenString at) text (inl s) = by_rest (begins_with quote text s.0)
  where
    by_rest : ((after : List ℕ) × (text ≡ quote ∷ after)) → front at last text ≡ Err (OpenString at)
    by_rest w = ap (front at last) w.1 ∙ front_quote at last w.0
        ∙ ⊎_elim (λ c. absurd (s.1 c.body c.rest (w.1 ∙ ap (λ x. quote ∷ x) c.whole, c.quoted, c.ended))) (string_open at w.0) (closed_or_open w.0)
fault_found last (OpenString at) text (inr s) = by_base (opened_bits text s.0 s.1)
  where
    by_base : ((base : ℕ) × (after : List ℕ) × (text ≡ base ∷ quote ∷ after) × (base_class base ≡ Some s.0)) → front at last text ≡ Err (OpenString at)
    by_base o = ap (front at last) o.2 ∙ front_bits at last o.0 s.0 o.1 o.3
        ∙ ⊎_elim (λ c. absurd (s.2 c.body c.rest (o.0, o.2 ∙ ap (λ x. o.0 ∷ quote ∷ x) c.whole, o.3, c.unquoted))) (bit_string_open at s.0 o.1) (closed_or_open_bits o.1)
fault_found last (BadIdentifier at) [] i = absurd i.0
fault_found last (BadIdentifier at) (b ∷ after) i =
    front_word at last b after i.0 ∙ ap (λ class. word_or_bit_string at class (b ∷ after)) i.1 ∙ word_refused at (b ∷ after) i.1 i.2
fault_found last (BadNumber at) [] (inl i) = absurd (true≢false (sym i.0))
fault_found last (BadNumber at) (b ∷ after) (inl i) = front_digit at last b after i.0 ∙ number_refused at (b ∷ after) i.1
fault_found last (BadNumber at) text (inr s) =
    ap (front at last) s.3.1 ∙ front_bits at last s.3.0 s.0 (s.1 ++ quote ∷ s.2) s.3.2 ∙ bit_string_closed at s.0 (s.1 ++ quote ∷ s.2) s.1 s.2 refl s.3.3
    ∙ ap (λ t. cond t (Ok (k.BitString, length s.1 + 3)) (Err (BadNumber at))) s.4
fault_found last _ _ x = absurd x
