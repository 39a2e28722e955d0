-- Delimiters at the front of a text.
use Rattle.std.proofs.Common.{◌≡◌, ℕ, ◌==◌, ◌&&◌, Bool, true, false, cond, List, ◌∷◌, Ok, Err, Option, Some, None, refl, sym, ap, ◌∙◌, arith}
use Rattle.std.specs.Char.{is_ascii_digit}
use Rattle.std.proofs.lemmas.Bool.{eqb-true}
use Rattle.std.proofs.lemmas.Bool.Decides.{nat_tests}
use Rattle.vhdl_lexer.specs.declared.fault.LexFault.TheVariants.{OpenComment}
use Rattle.vhdl_lexer.specs.declared.token.TokenKind.{TokenKind}
use Rattle.vhdl_lexer.specs.Bytes.{quote, tick, star, slash, begins_word, begins}
use Rattle.vhdl_lexer.specs.Delimiters.{pair, single}
use Rattle.vhdl_lexer.specs.Scan.{one, two, longer, mark, front}

-- no delimiter begins with a digit or as a word
digit_single : (b : ℕ) → is_ascii_digit b ≡ true → single b ≡ None
digit_single b e = grind (arith, nat_tests)

word_single : (b : ℕ) → begins_word b ≡ true → single b ≡ None
word_single b e = grind (arith, nat_tests)

digit_pair : (b c : ℕ) → is_ascii_digit b ≡ true → pair b c ≡ None
digit_pair b c e = grind (arith, nat_tests)

word_pair : (b c : ℕ) → begins_word b ≡ true → pair b c ≡ None
word_pair b c e = grind (arith, nat_tests)

pub front_mark : (at : ℕ) → (last : Option TokenKind) (b : ℕ) (rest : List ℕ) → is_ascii_digit b ≡ false → begins_word b ≡ false → (b == quote) ≡ false → (b == tick) ≡ false → front at last (b ∷ rest) ≡ mark at b rest
unfolding front
front_mark at last b rest d w q t = rw (d, w, q, t) refl

none_some : {A : Type 0} (kind : TokenKind) → ◌≡◌ {A = Option TokenKind} None (Some kind) → A
none_some kind e = absurd (cc)

-- a test that no byte of delimiters passes
pub fails : (test : Bool) (found : Option TokenKind) (kind : TokenKind) → found ≡ Some kind → (test ≡ true → found ≡ None) → test ≡ false
fails true found kind e never = none_some kind (sym (never refl) ∙ e)
fails false found kind e never = refl

pub front_single : (at : ℕ) → (last : Option TokenKind) (b : ℕ) (kind : TokenKind) (rest : List ℕ) → single b ≡ Some kind → (b == tick) ≡ false → front at last (b ∷ rest) ≡ mark at b rest
front_single at last b kind rest e t =
    front_mark at last b rest (fails (is_ascii_digit b) (single b) kind e (digit_single b)) (fails (begins_word b) (single b) kind e (word_single b))
    (fails (b == quote) (single b) kind e (λ q. ap single (eqb-true b quote q))) t

pub front_pair : (at : ℕ) → (last : Option TokenKind) (b c : ℕ) (kind : TokenKind) (rest : List ℕ) → pair b c ≡ Some kind → front at last (b ∷ rest) ≡ mark at b rest
front_pair at last b c kind rest e =
    front_mark at last b rest (fails (is_ascii_digit b) (pair b c) kind e (digit_pair b c)) (fails (begins_word b) (pair b c) kind e (word_pair b c))
    (fails (b == quote) (pair b c) kind e (λ q. ap (λ x. pair x c) (eqb-true b quote q))) (fails (b == tick) (pair b c) kind e (λ q. ap (λ x. pair x c) (eqb-true b tick q)))

pub mark_one : (at : ℕ) → (b : ℕ) (rest : List ℕ) (found : Option TokenKind) → (b == slash && begins star rest) ≡ false → longer b rest ≡ None → single b ≡ found → mark at b rest ≡ one at found
unfolding mark
mark_one at b rest found t p e = ap (λ x. cond x (Err (OpenComment at)) (two (longer b rest) (one at (single b)))) t ∙ ap (λ x. two x (one at (single b))) p ∙ ap (one at) e

pub mark_two : (at : ℕ) → (b : ℕ) (rest : List ℕ) (kind : TokenKind) → (b == slash && begins star rest) ≡ false → longer b rest ≡ Some kind → mark at b rest ≡ Ok (kind, 2)
unfolding mark
mark_two at b rest kind t p = ap (λ x. cond x (Err (OpenComment at)) (two (longer b rest) (one at (single b)))) t ∙ ap (λ x. two x (one at (single b))) p

pub mark_comment : (at : ℕ) → (b : ℕ) (rest : List ℕ) → (b == slash && begins star rest) ≡ true → mark at b rest ≡ Err (OpenComment at)
unfolding mark
mark_comment at b rest t = ap (λ x. cond x (Err (OpenComment at)) (two (longer b rest) (one at (single b)))) t
