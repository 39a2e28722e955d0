-- Codes differ.
use Rattle.std.proofs.Common.{◌≡◌, ℕ, ◌+◌, ◌/◌, ◌%◌, ◌-◌, List, [], ◌∷◌, map, refl, ap, sym, ◌∙◌, arith, get_or, drop}
use Rattle.std.specs.Prelude.{reverse}
use Rattle.std.specs.Int.Digits.{digits_of}
use Rattle.std.proofs.lemmas.List.{reverse-reverse}
use Rattle.std.proofs.lemmas.Int.Digits.{same_from_digits_of}
use Rattle.rtl_vcd.specs.Laws.{CodesDiffer}

-- what is raised and lowered again
raised_back : (ds : List ℕ) → map (λ c. c - 33) (map (λ d. 33 + d) ds) ≡ ds
raised_back [] = refl
raised_back (d ∷ ds) = let e : 33 + d - 33 ≡ d = omega arith in ap (λ x. x ∷ map (λ c. c - 33) (map (λ d. 33 + d) ds)) e ∙ ap (λ xs. d ∷ xs) (raised_back ds)

pub codes_differ : CodesDiffer
codes_differ j k same =
    let low : 33 + j % 94 ≡ 33 + k % 94 = ap (λ cs. get_or cs 0 0) same in
    let high = ap (λ cs. map (λ c. c - 33) (drop 1 cs)) same in
    let reversed : reverse (digits_of 94 (j / 94)) ≡ reverse (digits_of 94 (k / 94)) =
    sym (raised_back (reverse (digits_of 94 (j / 94)))) ∙ high ∙ raised_back (reverse (digits_of 94 (k / 94))) in
    let rest : j / 94 ≡ k / 94 = same_from_digits_of 94 (j / 94) (k / 94) (omega arith)
    (sym (reverse-reverse (digits_of 94 (j / 94))) ∙ ap reverse reversed ∙ reverse-reverse (digits_of 94 (k / 94))) in
    omega (arith, low, rest)
