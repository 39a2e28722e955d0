-- Values that words set for generics of the top: NAME=VALUE.
use Rattle.std.specs.Prelude.{ℕ, ◌+◌, ◌-◌, ◌*◌, ◌==◌, ◌&&◌, Bool, nat_le, if◌then◌else◌, List, [], ◌∷◌, ◌++◌, length, Option, Some, None, option_and_then, option_map, ℤ, pos, neg_ℤ}
use Rattle.std.specs.List.{list_any}
use Rattle.std.specs.Str.{str_eq_ignore_ascii_case}
use Rattle.clap.specs.Lexer.{name_and_value}

pub record Setting : Type 0 where
  pub name : List ℕ
  pub value : ℤ

-- the greatest integer (IEEE 1076-2008, 5.2.3.2: at least that far)
abbrev pub greatest : ℕ
greatest = 2147483647

abbrev pub is_digit : (byte : ℕ) → Bool
is_digit byte = nat_le 48 byte && nat_le byte 57

-- a number, with one more digit behind it
abbrev pub with_digit : ℕ → (byte : ℕ) → ℕ
with_digit n byte = 10 * n + (byte - 48)

-- the number that digits spell behind those of n
abbrev pub number_behind : ℕ → List ℕ → Option ℕ
number_behind n [] = Some n
number_behind n (byte ∷ bytes) =
    if is_digit byte && nat_le (with_digit n byte) greatest then number_behind (with_digit n byte) bytes else None

-- one digit or more
abbrev pub number_of : List ℕ → Option ℕ
number_of [] = None
number_of (byte ∷ bytes) = number_behind 0 (byte ∷ bytes)

-- which a minus may stand before
abbrev pub integer_of : List ℕ → Option ℤ
integer_of [] = None
integer_of (byte ∷ bytes) =
    if byte == 45 then option_map (λ n. neg_ℤ (pos n)) (number_of bytes) else option_map pos (number_of (byte ∷ bytes))

-- a name, and the text behind its `=`; the name isn't empty
abbrev pub setting_by : (name : List ℕ) → Option (List ℕ) → Option Setting
setting_by name None = None
setting_by name (Some text) =
    if length name == 0 then None else option_map (λ x. record { name = name; value = x }) (integer_of text)

-- a word, cut at its first `=`
abbrev pub setting_of : List ℕ → Option Setting
setting_of word = setting_by (name_and_value word).0 (name_and_value word).1

-- one of them is of this name, in letters of either case
abbrev pub is_set : List Setting → (name : List ℕ) → Bool
is_set settings name = list_any (λ (s : Setting). str_eq_ignore_ascii_case s.name name) settings

-- no name is set twice
abbrev pub one_more : List Setting → Option Setting → Option (List Setting)
one_more so_far None = None
one_more so_far (Some s) = if is_set so_far s.name then None else Some (so_far ++ s ∷ [])

abbrev pub settings_from : List Setting → (words : List (List ℕ)) → Option (List Setting)
settings_from so_far [] = Some so_far
settings_from so_far (word ∷ words) =
    option_and_then (λ more. settings_from more words) (one_more so_far (setting_of word))
