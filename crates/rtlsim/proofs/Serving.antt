-- The program for words that are there, and for none.
use Rattle.std.proofs.Common.{◌≡◌, ℕ, Bool, true, false, List, [], ◌∷◌, Option, Ok, inr, length, map, refl, ap, sym, subst, ◌∙◌, arith}
use Rattle.std.proofs.lemmas.Bool.Decides.{nat_tests}
use Rattle.std.specs.List.{after_first}
use Rattle.std.specs.Prelude.{◌==◌}
use Rattle.rtl_stim_lines.specs.Lines.{ends_line}
use Rattle.rtlsim_command_faults.specs.declared.status.Status.{Status}
use Rattle.byte_streams.specs.Read.{ReaderState}
use Rattle.rtlsim.specs.Inputs.{GivesWhole, Reading, held}
use Rattle.rtlsim.specs.Lines.{first_line_of}
use Rattle.rtlsim.specs.Sinks.{Sinks}
use Rattle.rtlsim.specs.Tools.{ServesCall, ServesFirstLine, ServesLine, ServesWords}

-- a test of a length
pub is_none : (n : ℕ) (b : Bool) → b ≡ (n == 0) → b ≡ true → n ≡ 0
is_none n b test empty = let e : (n == 0) ≡ true = sym test ∙ empty in grind (arith, nat_tests, e)

pub is_some : (n : ℕ) (b : Bool) → b ≡ (n == 0) → b ≡ false → n ≡ 0 → ⊥
is_some n b test filled zero = let e : (n == 0) ≡ true = grind (arith, nat_tests) in absurd (cc)

-- a reader that has not failed, by what it has left
pub of_reader : (P : ReaderState → Type 0) (left same : Option (List ℕ)) (failed : Bool) → left ≡ same → failed ≡ false →
    P (record { left = left; failed = failed }) → P (record { left = same; failed = false })
of_reader P left same failed bytes intact p =
    subst (λ (b : Bool). P (record { left = same; failed = b })) intact (subst (λ (l : Option (List ℕ)). P (record { left = l; failed = failed })) bytes p)

module _ {A : Type 0} (text : A → List ℕ) (Gives : Reading) (old new : ReaderState) (outcome : Status) (o : Sinks) where
  pub serves_none : (xs : List A) → length xs ≡ 0 → ServesFirstLine Gives old new outcome o → ServesWords Gives (map text xs) old new outcome o
  serves_none [] empty s = s
  serves_none (x ∷ xs) empty s = absurd (cc)

  pub serves_some : (xs : List A) → (length xs ≡ 0 → ⊥) → ServesCall Gives (map text xs) old new outcome o → ServesWords Gives (map text xs) old new outcome o
  serves_some [] some s = absurd (some refl)
  serves_some (x ∷ xs) some s = s

-- the words stand in the first line of what is read
pub serves_first : (Gives : Reading) (old new : ReaderState) (outcome : Status) (o : Sinks) (all shown line rest left : List ℕ) → shown ≡ all → line ≡ first_line_of shown
    → rest ≡ after_first ends_line shown → GivesWhole old new (Ok all) → ServesLine Gives line (held rest) (held left) outcome o → ServesFirstLine Gives old new outcome o
serves_first Gives old new outcome o all shown line rest left same first others whole served =
    let of_rest = subst (λ (r : List ℕ). ServesLine Gives line (held r) (held left) outcome o) (others ∙ ap (after_first ends_line) same) served in
    inr (inr (all, whole, (left, subst (λ (l : List ℕ). ServesLine Gives l (held (after_first ends_line all)) (held left) outcome o) (first ∙ ap first_line_of same) of_rest)))
