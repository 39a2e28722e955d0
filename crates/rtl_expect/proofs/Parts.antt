-- A text line by line.
use Rattle.std.proofs.Common.{◌≡◌, ℕ, zero, suc, ◌+◌, ◌<◌, ◌≤◌, Bor, List, [], ◌∷◌, length, map, drop, get_or, Result, Ok, Err, Vec, refl, sym, ap, ◌∙◌, arith}
use Rattle.std.specs.Prelude.{◌≢◌, IsErrAnd, slice_index_or}
use Rattle.std.specs.Global.{Global}
use Rattle.rtl_net.specs.Nets.{NetlistView}
use Rattle.rtl_stim_lines.specs.Lines.{without_return, as_lines}
use Rattle.rtl_expect.specs.declared.expectation.Expectation.{Expectation as KeptExpectation}
use Rattle.rtl_expect.specs.declared.faults.ExpectFault.{ExpectFault}
use Rattle.rtl_expect.specs.declared.faults.ExpectFault.TheVariants.{NoMemory}
use Rattle.rtl_expect.specs.Expected.{Expectation, Positions}
use Rattle.rtl_expect.specs.Lines.{after_line, after_lines, expectations_of, in_line}
use Rattle.rtl_expect.specs.Reading.{AreListed}

abbrev pub texts : List (Bor (List ℕ)) → List (List ℕ)
texts parts = map (λ part. part.now) parts

-- a part that isn't the last is a line without the return at its end
pub more_lines : (parts : List (Bor (List ℕ))) (n : ℕ) (d : Bor (List ℕ)) → n + 1 < length parts
    → as_lines (drop n (texts parts)) ≡ without_return (get_or parts n d).now ∷ as_lines (drop (n + 1) (texts parts))
more_lines [] n d more = absurd (omega (arith, more))
more_lines (p ∷ []) zero d more = absurd (omega (arith, more))
more_lines (p ∷ q ∷ ps) zero d more = refl
more_lines (p ∷ ps) (suc n) d more =
    more_lines ps n d (omega (arith, more))
    ∙ ap (λ (k : ℕ). without_return (get_or ps n d).now ∷ as_lines (drop k (texts (p ∷ ps)))) (let same : suc (n + 1) ≡ suc n + 1 = omega arith in same)

after_fault : (positions : Positions) (net : NetlistView) (number : ℕ) (lines : List (List ℕ)) (fault : ExpectFault) → after_lines positions net number lines (Err fault) ≡ Err fault
after_fault positions net number [] fault = refl
after_fault positions net number (line ∷ lines) fault = after_fault positions net (suc number) lines fault

pub wrong_line : (positions : Positions) (net : NetlistView) (number : ℕ) (lines : List (List ℕ)) (line : List ℕ) (rest : List (List ℕ)) (so_far : List Expectation) (fault : ExpectFault)
    → lines ≡ line ∷ rest → in_line number (after_line positions net so_far number line) ≡ Err fault → after_lines positions net number lines (Ok so_far) ≡ Err fault
wrong_line positions net number lines line rest so_far fault are says =
    ap (λ (ls : List (List ℕ)). after_lines positions net number ls (Ok so_far)) are
    ∙ ap (after_lines positions net (suc number) rest) says ∙ after_fault positions net (suc number) rest fault

pub err_listed : (positions : Positions) (net : NetlistView) (text : List ℕ) (r : Result (Vec KeptExpectation Global) ExpectFault) (fault : ExpectFault) → IsErrAnd r (λ f. f ≡ fault)
    → (fault ≢ NoMemory → expectations_of positions net text ≡ Err fault) → AreListed positions net text r
err_listed positions net text (Ok list) fault is h = absurd is
err_listed positions net text (Err f) fault is h = λ refused. h (λ m. refused (is ∙ m)) ∙ ap (λ (g : ExpectFault). Err g) (sym is)

-- ---- a line by its number

pub as_lines_drop : (n : ℕ) (parts : List (List ℕ)) → as_lines (drop n parts) ≡ drop n (as_lines parts)
as_lines_drop zero parts = refl
as_lines_drop (suc n) [] = refl
as_lines_drop (suc zero) (p ∷ []) = refl
as_lines_drop (suc (suc n)) (p ∷ []) = refl
as_lines_drop (suc n) (p ∷ q ∷ parts) = as_lines_drop n (q ∷ parts)

at_drop : (n : ℕ) (lines : List (List ℕ)) (line : List ℕ) (rest : List (List ℕ)) → drop n lines ≡ line ∷ rest → slice_index_or lines n [] ≡ line
at_drop zero [] line rest is = cc
at_drop zero (l ∷ lines) line rest is = cc
at_drop (suc n) [] line rest is = cc
at_drop (suc n) (l ∷ lines) line rest is = at_drop n lines line rest is

pub line_there : (n : ℕ) (parts : List (List ℕ)) (line : List ℕ) (rest : List (List ℕ)) → as_lines (drop n parts) ≡ line ∷ rest → slice_index_or (as_lines parts) n [] ≡ line
line_there n parts line rest is = at_drop n (as_lines parts) line rest (sym (as_lines_drop n parts) ∙ is)

pub no_line : (n : ℕ) (parts : List (List ℕ)) → length parts ≤ n → slice_index_or (as_lines parts) n [] ≡ []
no_line zero [] none = refl
no_line (suc n) [] none = refl
no_line zero (p ∷ parts) none = absurd (omega (arith, none))
no_line (suc zero) (p ∷ []) none = refl
no_line (suc (suc n)) (p ∷ []) none = refl
no_line (suc n) (p ∷ q ∷ parts) none = no_line n (q ∷ parts) (omega (arith, none))
