-- How a value change dump prints codes and values (IEEE 1364-2005, 18.2.1 and 18.2.3).
use Rattle.std.specs.Prelude.{ℕ, zero, suc, ◌+◌, ◌-◌, ◌%◌, ◌/◌, ◌==◌, ◌||◌, Bool, if◌then◌else◌, List, [], ◌∷◌, ◌++◌, length, map, reverse, replicate, slice_index, slice_index_or, codes, ℤ, pos, negsuc}
use Rattle.std.specs.Int.Digits.{digits_of}
use Rattle.std.specs.List.{list_all}
use Rattle.rtl_net.specs.Digits.{binary_digits}
use Rattle.rtl_net.specs.declared.signal.SignalKind.{SignalKind}
use Rattle.rtl_net.specs.declared.signal.SignalKind.TheVariants.{One, Vector, Enumeration, Integer, Boolean}
use Rattle.rtl_net.specs.Nets.{SignalView}

-- The code of the name number k, from 0: k in base 94, the least digit first, each digit a character from `!` on.
abbrev pub code : (k : ℕ) → List ℕ
code k = map (λ d. 33 + d) (k % 94 ∷ reverse (digits_of 94 (k / 94)))

-- what each of the nine values, U X 0 1 Z W L H - in this order, prints as
abbrev pub character : (value : ℕ) → ℕ
character value = slice_index_or (codes "xx01zx01x") value 120

-- so many binary digits of n, the lowest last
abbrev pub binary : (digits n : ℕ) → List ℕ
binary zero n = []
binary (suc digits) n = binary digits (n / 2) ++ (48 + n % 2) ∷ []

-- the type of variable that a name of this kind is declared as
abbrev pub variable_type : SignalKind → List ℕ
variable_type (Integer least greatest) = codes "integer"
variable_type _ = codes "wire"

-- how many digits a name of this kind prints: of an enumeration so many as its last position needs, of an integer all
-- that one may have
abbrev pub digits : SignalKind → (elements : ℕ) → ℕ
digits One elements = 1
digits (Vector left right) elements = elements
digits (Enumeration count) elements = binary_digits (count - 1)
digits (Integer least greatest) elements = 32
digits Boolean elements = 1

-- one of the nine values is a digit: 0 1 L H
abbrev pub is_digit : (value : ℕ) → Bool
is_digit value = character value == 48 || character value == 49

-- what stands before the digits of an integer that has this least number
abbrev pub sign_of : (least : ℤ) → (values : List ℕ) → ℕ
sign_of (pos least) values = 48
sign_of (negsuc least) values = character (slice_index values 0)

-- 32 digits of an integer, or as many x where its elements aren't all digits
abbrev pub integer : (least : ℤ) → (values : List ℕ) → List ℕ
integer least values =
    if list_all is_digit values
    then replicate (32 - length values) (sign_of least values) ++ map character values else replicate 32 120

-- what a name with this code prints where its elements have these values, from the left (18.2.2.2): a scalar and
-- a boolean its value, a vector every element, an enumeration its position, an integer its digits
abbrev pub value_change : SignalKind → (code values : List ℕ) → List ℕ
value_change One code values = map character values ++ code ++ codes "\n"
value_change Boolean code values = map character values ++ code ++ codes "\n"
value_change (Vector left right) code values = codes "b" ++ map character values ++ codes " " ++ code ++ codes "\n"
value_change (Enumeration count) code values =
    codes "b" ++ binary (binary_digits (count - 1)) (slice_index values 0) ++ codes " " ++ code ++ codes "\n"
value_change (Integer least greatest) code values =
    codes "b" ++ integer least values ++ codes " " ++ code ++ codes "\n"

-- texts of these names one after another, the first of them being number k
abbrev pub numbered : (text : (k : ℕ) → SignalView → List ℕ) → (k : ℕ) → List SignalView → List ℕ
numbered text k [] = []
numbered text k (s ∷ ss) = text k s ++ numbered text (suc k) ss
