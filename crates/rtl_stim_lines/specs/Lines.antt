-- The lines of a stimulus and their words.
use Rattle.std.specs.Prelude.{ℕ, ◌==◌, ◌||◌, ◌-◌, not, Bool, true, List, [], ◌∷◌, length, take, filter, slice_index_or, if◌then◌else◌}
use Rattle.std.specs.List.{slice_split}

abbrev pub Word : Type 0
Word = List ℕ

abbrev pub ends_line : ℕ → Bool
ends_line byte = byte == 10

-- a line that a line feed ends, without the carriage return before that
abbrev pub without_return : List ℕ → List ℕ
without_return line = if slice_index_or line (length line - 1) 0 == 13 then take (length line - 1) line else line

-- the parts of a text between line feeds, as lines: the last has no line feed behind it, and a return at its end is
-- its own
abbrev pub as_lines : List (List ℕ) → List (List ℕ)
as_lines [] = []
as_lines (last ∷ []) = last ∷ []
as_lines (part ∷ next ∷ parts) = without_return part ∷ as_lines (next ∷ parts)

abbrev pub lines_of : List ℕ → List (List ℕ)
lines_of text = as_lines (slice_split ends_line text)

-- words are separated by spaces and tabs
abbrev pub is_blank : ℕ → Bool
is_blank byte = byte == 32 || byte == 9

abbrev pub is_word : List ℕ → Bool
is_word part = not (length part == 0)

abbrev pub words_of : List ℕ → List Word
words_of line = filter is_word (slice_split is_blank line)

-- a line without a word, or with a first word that begins with `#`, says nothing
abbrev pub says_nothing : List Word → Bool
says_nothing [] = true
says_nothing (word ∷ words) = slice_index_or word 0 0 == 35
