-- What is wanted of integers and booleans.
use Rattle.std.proofs.Common.{◌≡◌, ℕ, zero, suc, ◌<◌, List, [], ◌∷◌, ◌++◌, length, take, get_or, min, Some, None, refl, ap, arith}
use Rattle.std.specs.Prelude.{slice_get}
use Rattle.vhdl_values.specs.declared.scalar.Nine.{Nine}
use Rattle.vhdl_values.specs.declared.scalar.Nine.TheVariants.{X}
use Rattle.vhdl_values.specs.Scalar.{code_of}
use Rattle.rtl_expect.specs.Expected.{wants, any_wanted, no_number_wanted, values_wanted}

-- X as the last digit of k + 1
pub last_is_x : (nets : List ℕ) (k : ℕ) → length nets ≡ suc k
    → any_wanted (take k nets) ++ wants (get_or nets k 0) (Some (code_of X)) ∷ [] ≡ no_number_wanted nets
last_is_x [] k e = absurd (omega arith)
last_is_x (net ∷ []) zero e = refl
last_is_x (net ∷ []) (suc k) e = absurd (omega arith)
last_is_x (net ∷ next ∷ nets) zero e = absurd (omega arith)
last_is_x (net ∷ next ∷ nets) (suc k) e = ap (λ ws. wants net None ∷ ws) (last_is_x (next ∷ nets) k (omega arith))

-- one net more
pub one_more : (nets : List ℕ) (values : List Nine) (k : ℕ) (value : Nine) → k < length nets → slice_get values k ≡ Some value
    → values_wanted (take (suc k) nets) values ≡ values_wanted (take k nets) values ++ wants (get_or nets k 0) (Some (code_of value)) ∷ []
one_more [] values k value lt e = absurd (omega arith)
one_more (net ∷ nets) [] k value lt e = absurd cc
one_more (net ∷ nets) (v ∷ values) zero value lt e = let same : v ≡ value = cc in ap (λ v. wants net (Some (code_of v)) ∷ []) same
one_more (net ∷ nets) (v ∷ values) (suc k) value lt e =
    ap (λ ws. wants net (Some (code_of v)) ∷ ws) (one_more nets values k value (omega arith) e)

-- all that have a value
pub as_many : (nets : List ℕ) (values : List Nine) (k : ℕ) → k ≡ min (length nets) (length values) → values_wanted (take k nets) values ≡ values_wanted nets values
as_many [] values zero e = refl
as_many [] values (suc k) e = refl
as_many (net ∷ nets) [] zero e = refl
as_many (net ∷ nets) [] (suc k) e = refl
as_many (net ∷ nets) (v ∷ values) zero e = absurd (omega arith)
as_many (net ∷ nets) (v ∷ values) (suc k) e = ap (λ ws. wants net (Some (code_of v)) ∷ ws) (as_many nets values k (omega arith))
