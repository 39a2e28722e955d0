-- Codes that are wanted, as bytes.
use Rattle.std.proofs.Common.{◌≡◌, ℕ, Bool, true, false, nat_lt, List, [], ◌∷◌, ◌++◌, map, Option, Some, None, refl, sym, ap, ◌∙◌, arith}
use Rattle.std.specs.Prelude.{◌==◌, if◌then◌else◌, option_map, slice_index, unwrap_or}
use Rattle.std.proofs.lemmas.Bool.Decides.{nat_tests}
use Rattle.std.proofs.lemmas.Option.{slice_get_past}
use Rattle.vhdl_values.specs.declared.scalar.Nine.TheVariants as n
use Rattle.vhdl_values.specs.Scalar.{nines, code_of, letter_of, value_of_code}
use Rattle.rtl_net.specs.declared.signal.SignalKind.{SignalKind}
use Rattle.rtl_net.specs.declared.signal.SignalKind.TheVariants.{One, Vector, Enumeration, Integer, Boolean}
use Rattle.rtl_net.specs.Values.{letters_of, integer_text, boolean_text, value_text}
use Rattle.rtl_expect.specs.Telling.{byte_of, wanted_number}

abbrev pub as_bytes : Option (List ℕ) → Option (List ℕ)
as_bytes codes = option_map (map byte_of) codes

-- these before those
abbrev pub before_codes : List ℕ → Option (List ℕ) → Option (List ℕ)
before_codes so_far None = None
before_codes so_far (Some rest) = Some (so_far ++ rest)

-- ---- what bytes say

same_value : (code : ℕ) → value_of_code (byte_of code) ≡ value_of_code code
same_value code = by (nat_lt code 256) refl
  where
    by : (small : Bool) → nat_lt code 256 ≡ small → value_of_code (if small then code else 255) ≡ value_of_code code
    by true e = refl
    by false e = ap (λ v. unwrap_or v n.X) (sym (slice_get_past nines code (grind (arith, nat_tests, e))))

is_one : (code : ℕ) → (byte_of code == code_of n.One) ≡ (code == code_of n.One)
is_one code = grind (arith, nat_tests)

same_values : (codes : List ℕ) → map value_of_code (map byte_of codes) ≡ map value_of_code codes
same_values [] = refl
same_values (code ∷ codes) = ap (λ v. v ∷ map value_of_code (map byte_of codes)) (same_value code) ∙ ap (λ vs. value_of_code code ∷ vs) (same_values codes)

same_letters : (codes : List ℕ) → letters_of (map byte_of codes) ≡ letters_of codes
same_letters [] = refl
same_letters (code ∷ codes) =
    ap (λ v. letter_of v ∷ letters_of (map byte_of codes)) (same_value code) ∙ ap (λ ls. letter_of (value_of_code code) ∷ ls) (same_letters codes)

same_truth : (codes : List ℕ) → (slice_index (map byte_of codes) 0 == code_of n.One) ≡ (slice_index codes 0 == code_of n.One)
same_truth [] = refl
same_truth (code ∷ codes) = is_one code

same_text : (kind : SignalKind) (codes : List ℕ) → value_text kind (map byte_of codes) ≡ value_text kind codes
same_text One codes = same_letters codes
same_text (Vector left right) codes = same_letters codes
same_text (Enumeration count) codes = same_letters codes
same_text (Integer least greatest) codes = ap (integer_text least) (same_values codes)
same_text Boolean codes = ap boolean_text (same_truth codes)

-- all are wanted
pub all_said : (kind : SignalKind) (all : Option (List ℕ)) (last : Option ℕ) (bytes : List ℕ) → Some bytes ≡ as_bytes all → value_text kind bytes ≡ wanted_number kind all last
all_said kind None last bytes e = absurd cc
all_said kind (Some codes) last bytes e = let same : bytes ≡ map byte_of codes = cc in ap (value_text kind) same ∙ same_text kind codes

-- not all are
pub not_all : (all : Option (List ℕ)) → None ≡ as_bytes all → all ≡ None
not_all None e = refl
not_all (Some codes) e = absurd cc
