-- One step of a walk over letters.
use Rattle.std.proofs.Common.{◌≡◌, ℕ, ◌≤◌, ◌<◌, Bool, false, true, if◌then◌else◌, List, [], ◌∷◌, length, slice_index_or, refl, sym, ap, ◌∙◌, arith}
use Rattle.vhdl_lexer.proofs.Walks.{rest, rest_is}
use Rattle.vhdl_parser_rules.specs.Near.{is_same_letter, rests}

pub text_ends : (text word : List ℕ) → length text < 1 → (text, word) ≡ rests text word
text_ends [] word none = refl
text_ends (a ∷ text) word none = absurd (omega (arith, none))

pub word_ends : (text word : List ℕ) → 1 ≤ length text → length word < 1 → (text, word) ≡ rests text word
word_ends (a ∷ text) [] some none = refl
word_ends [] word some none = absurd (omega (arith, some))
word_ends (a ∷ text) (b ∷ word) some none = absurd (omega (arith, none))

pub letters_differ : (text word : List ℕ) → 1 ≤ length text → 1 ≤ length word
    → is_same_letter (slice_index_or text 0 0) (slice_index_or word 0 0) ≡ false → (text, word) ≡ rests text word
letters_differ (a ∷ text) (b ∷ word) some more not_so =
    ap (λ (same : Bool). if same then rests text word else (a ∷ text, b ∷ word)) (sym not_so)
letters_differ [] word some more not_so = absurd (omega (arith, some))
letters_differ (a ∷ text) [] some more not_so = absurd (omega (arith, more))

pub letters_agree : (text word : List ℕ) → 1 ≤ length text → 1 ≤ length word
    → is_same_letter (slice_index_or text 0 0) (slice_index_or word 0 0) ≡ true → rests (rest text) (rest word) ≡ rests text word
letters_agree (a ∷ text) (b ∷ word) some more so =
    ap (λ (t : List ℕ). rests t (rest (b ∷ word))) (rest_is a text)
    ∙ ap (rests text) (rest_is b word)
    ∙ ap (λ (same : Bool). if same then rests text word else (a ∷ text, b ∷ word)) (sym so)
letters_agree [] word some more so = absurd (omega (arith, some))
letters_agree (a ∷ text) [] some more so = absurd (omega (arith, more))
