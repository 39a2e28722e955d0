-- A reserved word is found among those of its letter.
use Rattle.std.proofs.Common.{◌≡◌, ℕ, ◌+◌, ◌-◌, ◌<◌, ◌&&◌, Bool, true, false, cond, List, [], ◌∷◌, map, get_or, refl, sym, ap, ◌∙◌, true≢false, arith}
use Rattle.std.specs.List.{filter, range_with_len}
use Rattle.std.specs.Char.{is_ascii_alphabetic, to_ascii_lowercase}
use Rattle.std.specs.Str.{str_eq_ignore_ascii_case, str_to_ascii_lowercase, bytes_eq}
use Rattle.std.proofs.lemmas.List.FromFn.{get_or-map-range_with_len}
use Rattle.std.proofs.lemmas.Bool.Decides.{nat_tests}
use Rattle.vhdl_lexer.specs.declared.token.TokenKind.{TokenKind}
use Rattle.vhdl_lexer.specs.Words.{Word, reserved_words, kind_among, is_identifier, word_kind}
use Rattle.vhdl_lexer.specs.Scan.{has_letter, words_of}

-- the words of each small letter, from `a` to `z`
pub words_at : (i letter : ℕ) → i < 26 → 97 + i ≡ to_ascii_lowercase letter →
    get_or (map (λ small. filter (has_letter small) reserved_words) (range_with_len 97 26)) i [] ≡ words_of letter
words_at i letter h e = get_or-map-range_with_len (λ small. filter (has_letter small) reserved_words) 97 26 i (to_ascii_lowercase letter) [] h e

-- words of another letter are not found
kind_among-letter : (b : ℕ) (text : List ℕ) (words : List Word) →
    kind_among (filter (has_letter (to_ascii_lowercase b)) words) (b ∷ text) ≡ kind_among words (b ∷ text)
kind_among-letter b text [] = refl
kind_among-letter b text (w ∷ words) = by_word w.0 w.1 (kind_among-letter b text words)
  where
    by_test : (word : List ℕ) (kind : TokenKind) (t : Bool) → has_letter (to_ascii_lowercase b) (word, kind) ≡ t → (t ≡ false → str_eq_ignore_ascii_case word (b ∷ text) ≡ false) →
        kind_among (filter (has_letter (to_ascii_lowercase b)) words) (b ∷ text) ≡ kind_among words (b ∷ text) →
        kind_among (cond t ((word, kind) ∷ filter (has_letter (to_ascii_lowercase b)) words) (filter (has_letter (to_ascii_lowercase b)) words)) (b ∷ text)
        ≡ cond (str_eq_ignore_ascii_case word (b ∷ text)) kind (kind_among words (b ∷ text))
    by_test word kind true e differs later = ap (λ k. cond (str_eq_ignore_ascii_case word (b ∷ text)) kind k) later
    by_test word kind false e differs later = later ∙ sym (ap (λ t. cond t kind (kind_among words (b ∷ text))) (differs refl))

    by_word : (word : List ℕ) (kind : TokenKind) → kind_among (filter (has_letter (to_ascii_lowercase b)) words) (b ∷ text) ≡ kind_among words (b ∷ text) →
        kind_among (filter (has_letter (to_ascii_lowercase b)) ((word, kind) ∷ words)) (b ∷ text) ≡ kind_among ((word, kind) ∷ words) (b ∷ text)
    by_word [] kind later = by_test [] kind (has_letter (to_ascii_lowercase b) ([], kind)) refl (λ e. refl) later
    by_word (c ∷ word) kind later = by_test (c ∷ word) kind (has_letter (to_ascii_lowercase b) (c ∷ word, kind)) refl
        (λ e. ap (λ t. t && bytes_eq (str_to_ascii_lowercase word) (str_to_ascii_lowercase text)) e) later

pub word_kind-letter : (text : List ℕ) → is_identifier text ≡ true → kind_among (words_of (get_or text 0 0)) text ≡ word_kind text
unfolding word_kind
word_kind-letter [] h = absurd (true≢false (sym h))
word_kind-letter (b ∷ text) h = kind_among-letter b text reserved_words

pub letter_index : (b : ℕ) → is_ascii_alphabetic b ≡ true → (97 + (to_ascii_lowercase b - 97) ≡ to_ascii_lowercase b) × (to_ascii_lowercase b - 97 < 26)
letter_index b h = (grind (arith, nat_tests), grind (arith, nat_tests))
