-- The files that a list names, one a line: `#` begins a comment, and blanks round a name don't count.
use Rattle.std.specs.Char.{is_ascii_whitespace}
use Rattle.std.specs.List.{before_first, prefix_len, suffix_len, slice_split}
use Rattle.std.specs.Prelude.{◌≢◌, ℕ, ◌-◌, ◌==◌, ◌&&◌, not, Bool, if◌then◌else◌, List, [], ◌∷◌, ◌++◌, All, IsUtf8, length, take, drop, filter, map, slice_index_or, bytes_eq, codes}

abbrev pub ends_line : ℕ → Bool
ends_line byte = byte == 10

abbrev pub begins_comment : ℕ → Bool
begins_comment byte = byte == 35

abbrev pub without_front : (text : List ℕ) → List ℕ
without_front text = drop (prefix_len is_ascii_whitespace text) text

abbrev pub without_end : (text : List ℕ) → List ℕ
without_end text = take (length text - suffix_len is_ascii_whitespace text) text

-- the name in a line, empty where it has none
abbrev pub name_in : (line : List ℕ) → List ℕ
name_in line = without_end (without_front (before_first begins_comment line))

abbrev pub is_name : List ℕ → Bool
is_name name = not (length name == 0)

-- the mark that some editors put in front of UTF-8 says nothing
abbrev pub without_mark : (text : List ℕ) → List ℕ
without_mark (one ∷ two ∷ three ∷ text) =
    if one == 239 && (two == 187 && three == 191) then text else one ∷ two ∷ three ∷ text
without_mark text = text

abbrev pub names_in : (text : List ℕ) → List (List ℕ)
names_in text = filter is_name (map name_in (slice_split ends_line (without_mark text)))

-- ---- from where a name is told

abbrev pub is_no_slash : ℕ → Bool
is_no_slash byte = not (byte == 47)

-- the name of a list up to its last slash: the folder that it is in
abbrev pub folder_of : (list : List ℕ) → List ℕ
folder_of list = take (length list - suffix_len is_no_slash list) list

-- What stands before a name: the folder of the list, unless the name begins with a slash. A list names files alone, so
-- `@` is one too.
abbrev pub front_of : (folder name : List ℕ) → List ℕ
front_of folder name =
    if slice_index_or name 0 0 == 47 then []
    else (if length folder == 0 && bytes_eq name (codes "@") then codes "./" else folder)

abbrev pub told_from : (folder name : List ℕ) → List ℕ
told_from folder name = front_of folder name ++ name

-- in order
abbrev pub listed : (list text : List ℕ) → List (List ℕ)
listed list text = map (told_from (folder_of list)) (names_in text)

-- a list has a name, and each is UTF-8
abbrev pub IsList : (names : List (List ℕ)) → Type 0
IsList names = (names ≢ []) × All IsUtf8 names
