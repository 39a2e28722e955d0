-- Words that are nearly the same, in capitals or small letters: by one slip, or, where the word is long, by two. A slip
-- is a letter too many, one that lacks, another one, or two neighbours that are exchanged.
use Rattle.std.specs.Prelude.{ℕ, ◌==◌, ◌&&◌, ◌||◌, nat_le, Bool, false, if◌then◌else◌, List, [], ◌∷◌, drop, length}
use Rattle.std.specs.Char.{to_ascii_lowercase}
use Rattle.std.specs.Str.{str_eq_ignore_ascii_case}
use Rattle.vhdl_parser_rules.specs.declared.near.TheConstants.{LONG}

abbrev pub is_same_letter : ℕ → ℕ → Bool
is_same_letter a b = to_ascii_lowercase a == to_ascii_lowercase b

-- what is left of a text and of a word behind the letters with which both begin
abbrev pub rests : (text word : List ℕ) → List ℕ × List ℕ
rests [] word = ([], word)
rests (a ∷ text) [] = (a ∷ text, [])
rests (a ∷ text) (b ∷ word) = if is_same_letter a b then rests text word else (a ∷ text, b ∷ word)

-- ---- what is left

-- the text behind so many letters is the word behind so many
abbrev pub is_alike : (skipped left_out : ℕ) → (text word : List ℕ) → Bool
is_alike skipped left_out text word = str_eq_ignore_ascii_case (drop skipped text) (drop left_out word)

-- the first two letters are exchanged
abbrev pub is_exchanged : (text word : List ℕ) → Bool
is_exchanged (a ∷ b ∷ text) (c ∷ d ∷ word) = is_same_letter a d && is_same_letter b c
is_exchanged _ _ = false

-- one slip, with which it begins
abbrev pub is_one_off : (text word : List ℕ) → Bool
is_one_off text word =
    is_alike 1 0 text word || is_alike 0 1 text word || is_alike 1 1 text word
    || is_exchanged text word && is_alike 2 2 text word

-- one slip more, behind so many letters of each
abbrev pub is_once_more : (skipped left_out : ℕ) → (text word : List ℕ) → Bool
is_once_more skipped left_out text word =
    let left = rests (drop skipped text) (drop left_out word) in
    is_one_off left.0 left.1

-- two slips, with one of which it begins
abbrev pub is_two_off : (text word : List ℕ) → Bool
is_two_off text word =
    is_once_more 1 0 text word || is_once_more 0 1 text word
    || is_once_more 1 1 text word || is_exchanged text word && is_once_more 2 2 text word

abbrev pub is_off : (is_long : Bool) → (text word : List ℕ) → Bool
is_off is_long text word = if is_long then is_two_off text word else is_one_off text word

-- ---- from their first letters on

unfoldable pub is_near : (text word : List ℕ) → Bool
is_near text word =
    let left = rests text word in
    is_off (nat_le LONG (length word)) left.0 left.1
