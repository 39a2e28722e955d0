-- What NAME=VALUE words say: a stimulus that sets each input at 0 and stops there.
use Rattle.std.specs.Prelude.{◌≡◌, ℕ, ◌+◌, ◌==◌, ◌||◌, nat_le, Bool, if◌then◌else◌, List, ◌++◌, length, map, flat_map, take, drop, position, Option, Some, None, option_map, codes}
use Rattle.std.specs.List.{list_all}
use Rattle.rtl_stim_lines.specs.Inputs.{Input}
use Rattle.rtl_stim_lines.specs.Reading.{schedule_of}
use Rattle.rtl_stim_lines.specs.Pairs.{Pair, schedule_of_pairs}

-- what stands before and after the first `=`
abbrev pub halves : List ℕ → Option (List ℕ × List ℕ)
halves word = option_map {U = List ℕ × List ℕ} (λ at. (take at word, drop (at + 1) word)) (position (λ b. b == 61) word)

abbrev pub filled : Option (List ℕ × List ℕ) → Option (List ℕ × List ℕ)
filled None = None
filled (Some sides) = if length sides.0 == 0 || length sides.1 == 0 then None else Some sides

-- no blank and no control character stands in it
abbrev pub is_word : List ℕ → Bool
is_word word = list_all (λ b. nat_le 33 b) word

-- The name and the value of a word, cut at its first `=`. A word without one, with an empty side, or with a blank or
-- control character has none.
abbrev pub sides : List ℕ → Pair
sides word = if is_word word then filled (halves word) else None

-- The line of a stimulus that says the same: from 0 on the input of this name has this value. A word that has none is a
-- bad line.
abbrev pub set_line : Pair → List ℕ
set_line None = codes "=\n"
set_line (Some sides) = codes "at 0 " ++ sides.0 ++ codes " " ++ sides.1 ++ codes "\n"

abbrev pub word_line : List ℕ → List ℕ
word_line word = set_line (sides word)

-- a line for each word, so that a line's number is its word's place, and the stop
abbrev pub words_text : List (List ℕ) → List ℕ
words_text words = flat_map word_line words ++ codes "stop 0\n"

-- ---- what such a text says

-- The text of words says what their names and values say: each sets its input at 0, where the simulation stops; the
-- first bad word is told by its place, from 1.
abbrev pub EachWordSets : Type 0
EachWordSets =
    (inputs : List Input) (words : List (List ℕ))
    → schedule_of inputs (words_text words) ≡ schedule_of_pairs inputs (map sides words)
