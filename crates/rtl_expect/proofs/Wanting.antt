-- What a text wants of nets.
use Rattle.std.proofs.Common.{◌≡◌, ℕ, zero, suc, ◌+◌, ◌-◌, ◌<◌, ◌≤◌, Bool, true, false, nat_lt, List, [], ◌∷◌, ◌++◌, length, take, drop, get_or, Option, Some, None, refl, sym, ap, ◌∙◌, arith}
use Rattle.std.specs.Prelude.{◌==◌, nat_le, if◌then◌else◌, option_and_then, option_map, slice_index, bytes_eq, codes, ℤ}
use Rattle.std.specs.List.{list_all}
use Rattle.std.proofs.lemmas.Bool.Decides.{nat_tests}
use Rattle.std.proofs.lemmas.List.{length-map}
use Rattle.vhdl_values.specs.declared.scalar.Nine.{Nine}
use Rattle.vhdl_values.specs.Scalar.{value_of_truth}
use Rattle.vhdl_numbers.specs.TwosComplement.{signed_digits_of}
use Rattle.rtl_net.specs.declared.signal.SignalKind.{SignalKind}
use Rattle.rtl_net.specs.declared.signal.SignalKind.TheVariants.{One, Vector, Enumeration, Integer, Boolean}
use Rattle.rtl_net.specs.Nets.{SignalView}
use Rattle.rtl_stim_lines.specs.Forms.{number_of}
use Rattle.rtl_stim_lines.specs.Inputs.{small, integer_for, truth_for}
use Rattle.rtl_expect.specs.declared.expected.Wanted.{Wanted}
use Rattle.rtl_stim_lines.specs.Lines.{Word}
use Rattle.rtl_expect.specs.Expected.{Positions, wants, code_wanted_of, before_wanted, letters_wanted, letters_of_digits, cut_letters, quoted_digits, string_wanted, number_wanted, is_any, position_of, any_wanted, no_number_wanted, values_wanted, digits_wanted, kind_wanted, value_wanted}

-- these before those
abbrev pub behind_all : List Wanted → Option (List Wanted) → Option (List Wanted)
behind_all so_far None = None
behind_all so_far (Some rest) = Some (so_far ++ rest)

-- ---- letters

pub unequal : (nets text : List ℕ) → (length nets ≡ length text → ⊥) → None ≡ letters_wanted nets text
unequal [] [] differ = absurd (differ refl)
unequal [] (b ∷ bs) differ = refl
unequal (n ∷ ns) [] differ = refl
unequal (n ∷ ns) (b ∷ bs) differ = by (code_wanted_of b) (unequal ns bs (λ same. differ (ap suc same)))
  where
    by : (v : Option (Option ℕ)) → None ≡ letters_wanted ns bs → None ≡ before_wanted n v (letters_wanted ns bs)
    by None more = refl
    by (Some v) more = ap (before_wanted n (Some v)) more

pub no_letter : (nets text : List ℕ) (k d : ℕ) → k < length nets → k < length text → code_wanted_of (get_or text k d) ≡ None
    → letters_wanted (drop k nets) (drop k text) ≡ None
no_letter [] text k d there here none = absurd (omega (arith, there))
no_letter (n ∷ ns) [] k d there here none = absurd (omega (arith, here))
no_letter (n ∷ ns) (b ∷ bs) zero d there here none = ap (λ (v : Option (Option ℕ)). before_wanted n v (letters_wanted ns bs)) none
no_letter (n ∷ ns) (b ∷ bs) (suc k) d there here none = no_letter ns bs k d (omega (arith, there)) (omega (arith, here)) none

-- ---- bit strings

pub cut_is : (count : ℕ) (letters : List ℕ) → count ≤ length letters → length letters < count + 4
    → list_all (λ letter. letter == 48) (take (length letters - count) letters) ≡ true → cut_letters count letters ≡ Some (drop (length letters - count) letters)
cut_is count letters enough few zeros =
    let a : nat_le count (length letters) ≡ true = grind (arith, nat_tests, enough) in
    let b : nat_lt (length letters) (count + 4) ≡ true = grind (arith, nat_tests, few) in
    rw (a, b, zeros) refl

-- ---- how many

letters_long : (nets text : List ℕ) (ws : List Wanted) → letters_wanted nets text ≡ Some ws → length ws ≡ length nets
letters_long [] [] ws is = let same : [] ≡ ws = cc in sym (ap length same)
letters_long [] (b ∷ bs) ws is = cc
letters_long (n ∷ ns) [] ws is = cc
letters_long (n ∷ ns) (b ∷ bs) ws is = by (code_wanted_of b) (letters_wanted ns bs) is (λ rest r. letters_long ns bs rest r)
  where
    by : (v : Option (Option ℕ)) (r : Option (List Wanted)) → before_wanted n v r ≡ Some ws → ((rest : List Wanted) → r ≡ Some rest → length rest ≡ length ns) → length ws ≡ suc (length ns)
    by None r is more = cc
    by (Some v) None is more = cc
    by (Some v) (Some rest) is more = let same : wants n v ∷ rest ≡ ws = cc in sym (ap length same) ∙ ap suc (more rest refl)

number_long : (net p : ℕ) (ws : List Wanted) (b : Bool) → (if b then Some (wants net (Some p) ∷ []) else None) ≡ Some ws → length ws ≡ 1
number_long net p ws true is = let same : wants net (Some p) ∷ [] ≡ ws = cc in sym (ap length same)
number_long net p ws false is = cc

position_long : (net count : ℕ) (ws : List Wanted) (b : Bool) (n : Option ℕ) → (if b then Some (wants net None ∷ []) else number_wanted net count n) ≡ Some ws → length ws ≡ 1
position_long net count ws true n is = let same : wants net None ∷ [] ≡ ws = cc in sym (ap length same)
position_long net count ws false None is = cc
position_long net count ws false (Some p) is = number_long net p ws (nat_lt p count) is

string_long : (nets text : List ℕ) (digits : Option Word) (ws : List Wanted) → string_wanted nets text digits ≡ Some ws → length ws ≡ length nets
string_long nets text None ws is = letters_long nets text ws is
string_long nets text (Some digits) ws is = by (cut_letters (length nets) (letters_of_digits digits)) is
  where
    by : (letters : Option Word) → option_and_then (letters_wanted nets) letters ≡ Some ws → length ws ≡ length nets
    by None is = cc
    by (Some letters) is = letters_long nets letters ws is

-- ---- integers and booleans

-- a number, where the text is neither any nor none
pub number_said : (any none : Bool) (number : Option ℤ) (n : ℤ) (nets : List ℕ) (ws : List Wanted) → any ≡ false → none ≡ false → number ≡ Some n
    → ws ≡ values_wanted nets (signed_digits_of (length nets) n)
    → Some ws ≡ (if any then Some (any_wanted nets) else if none then Some (no_number_wanted nets) else digits_wanted nets number)
number_said any none number n nets ws a b c is = rw (a, b, c) (ap (λ (ws : List Wanted). Some ws) is)

any_long : (nets : List ℕ) → length (any_wanted nets) ≡ length nets
any_long nets = length-map nets (λ net. wants net None)

no_number_long : (nets : List ℕ) → length (no_number_wanted nets) ≤ length nets
no_number_long [] = omega arith
no_number_long (net ∷ []) = omega arith
no_number_long (net ∷ next ∷ nets) = omega (arith, no_number_long (next ∷ nets))

values_long : (nets : List ℕ) (values : List Nine) → length (values_wanted nets values) ≤ length nets
values_long [] values = omega arith
values_long (net ∷ nets) [] = omega arith
values_long (net ∷ nets) (value ∷ values) = omega (arith, values_long nets values)

as_long : (nets : List ℕ) (found ws : List Wanted) → length found ≤ length nets → Some found ≡ Some ws → length ws ≤ length nets
as_long nets found ws few is = let same : found ≡ ws = cc in omega (arith, few, ap length same)

integer_long : (any none : Bool) (number : Option ℤ) (nets : List ℕ) (ws : List Wanted)
    → (if any then Some (any_wanted nets) else if none then Some (no_number_wanted nets) else digits_wanted nets number) ≡ Some ws
    → length ws ≤ length nets
integer_long true none number nets ws is = as_long nets (any_wanted nets) ws (omega (arith, any_long nets)) is
integer_long false true number nets ws is = as_long nets (no_number_wanted nets) ws (no_number_long nets) is
integer_long false false None nets ws is = absurd cc
integer_long false false (Some n) nets ws is =
    let digits = signed_digits_of (length nets) n in as_long nets (values_wanted nets digits) ws (values_long nets digits) is

truth_long : (any : Bool) (truth : Option Bool) (nets : List ℕ) (ws : List Wanted)
    → (if any then Some (any_wanted nets) else option_map (λ b. values_wanted nets (value_of_truth b ∷ [])) truth) ≡ Some ws
    → length ws ≤ length nets
truth_long true truth nets ws is = as_long nets (any_wanted nets) ws (omega (arith, any_long nets)) is
truth_long false None nets ws is = absurd cc
truth_long false (Some b) nets ws is =
    as_long nets (values_wanted nets (value_of_truth b ∷ [])) ws (values_long nets (value_of_truth b ∷ [])) is

few_of_kind : (kind : SignalKind) (nets text : List ℕ) (literal : Option ℕ) (ws : List Wanted) → length nets ≤ 64 → kind_wanted kind nets literal text ≡ Some ws → length ws ≤ 64
few_of_kind One nets text literal ws few is = let long = letters_long nets text ws is in omega (arith, long, few)
few_of_kind (Vector left right) nets text literal ws few is = let long = string_long nets text (quoted_digits text) ws is in omega (arith, long, few)
few_of_kind (Integer least greatest) nets text literal ws few is =
    let long = integer_long (is_any text) (bytes_eq (small text) (codes "x")) (integer_for least greatest text) nets ws is in omega (arith, long, few)
few_of_kind Boolean nets text literal ws few is = let long = truth_long (is_any text) (truth_for text) nets ws is in omega (arith, long, few)
few_of_kind (Enumeration count) nets text literal ws few is =
    let long = position_long (slice_index nets 0) count ws (is_any text) (position_of (number_of text) literal) is in omega (arith, long)

pub few_wanted : (positions : Positions) (s : SignalView) (text : List ℕ) (ws : List Wanted) → length s.nets ≤ 64 → value_wanted positions s text ≡ Some ws → length ws ≤ 64
unfolding value_wanted
few_wanted positions s text ws few is = few_of_kind s.kind s.nets text (positions s text) ws few is
