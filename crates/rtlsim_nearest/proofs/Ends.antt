-- How names end.
use Rattle.std.proofs.Common.{◌≡◌, ℕ, ◌+◌, ◌-◌, ◌<◌, ◌≤◌, Bool, true, nat_lt, List, [], ◌∷◌, ◌++◌, length, drop, get_or, refl, sym, ap, ◌∙◌, arith}
use Rattle.std.specs.Prelude.{◌==◌, ◌&&◌, if◌then◌else◌, reverse, min, slice_index, codes}
use Rattle.std.proofs.lemmas.Bool.Decides.{nat_tests}
use Rattle.std.proofs.lemmas.List.{drop_more, get_or-reverse, length-drop, length-reverse}
use Rattle.rtl_signal_names.specs.Names.{are_alike}
use Rattle.rtlsim_nearest.specs.Likeness.{line_of, shared, stands_last}
use Rattle.vhdl_parser_rules.specs.Near.{is_same_letter}

-- the letter at a place from the end
abbrev pub from_end : (name : List ℕ) → (i : ℕ) → ℕ
from_end name i = get_or name (length name - 1 - i) 0

ends : (name : List ℕ) (i : ℕ) → i < length name → drop i (reverse name) ≡ from_end name i ∷ drop (i + 1) (reverse name)
ends name i there =
    drop_more (reverse name) i 0 (let long = length-reverse name in omega (arith, long, there))
    ∙ ap (λ (x : ℕ). x ∷ drop (i + 1) (reverse name)) (get_or-reverse name i 0 there)

abbrev pub shared_from : (name other : List ℕ) → (i : ℕ) → ℕ
shared_from name other i = shared (drop i (reverse name)) (drop i (reverse other))

pub end_next : (name other : List ℕ) (i : ℕ) (same : Bool) → i < length name → i < length other → is_same_letter (from_end name i) (from_end other i) ≡ same
    → shared_from name other i ≡ (if same then 1 + shared_from name other (i + 1) else 0)
end_next name other i same there there' is =
    ap (λ (xs : List ℕ). shared xs (drop i (reverse other))) (ends name i there)
    ∙ ap (λ (ys : List ℕ). shared (from_end name i ∷ drop (i + 1) (reverse name)) ys) (ends other i there')
    ∙ ap (λ (b : Bool). if b then 1 + shared_from name other (i + 1) else 0) is

none_left : (xs ys : List ℕ) → min (length xs) (length ys) ≡ 0 → shared xs ys ≡ 0
none_left [] ys none = refl
none_left (x ∷ xs) [] none = refl
none_left (x ∷ xs) (y ∷ ys) none = absurd (omega (arith, none))

pub end_all : (name other : List ℕ) (i : ℕ) → min (length name) (length other) ≤ i → shared_from name other i ≡ 0
end_all name other i all =
    let a = length-drop i (reverse name) in
    let b = length-drop i (reverse other) in
    none_left (drop i (reverse name)) (drop i (reverse other)) (omega (arith, a, b, length-reverse name, length-reverse other, all))

pub stands_is : (other name : List ℕ) (alike : Bool) → length other < length name → slice_index name (length name - length other - 1) ≡ 46
    → alike ≡ are_alike other (drop (length name - length other) name) → alike ≡ stands_last other name
stands_is other name alike shorter dot is =
    let a : nat_lt (length other) (length name) ≡ true = grind (arith, nat_tests, shorter) in
    let b : (slice_index name (length name - length other - 1) == 46) ≡ true = rw dot refl in
    is ∙ sym (ap (λ (x : Bool). x && (slice_index name (length name - length other - 1) == 46) && are_alike other (drop (length name - length other) name)) a
    ∙ ap (λ (x : Bool). true && x && are_alike other (drop (length name - length other) name)) b)

pub line_words : (nearest : List ℕ) → (length nearest ≡ 0 → ⊥) → codes "nearest: " ++ nearest ++ codes "\n" ≡ line_of nearest
line_words [] some = absurd (some refl)
line_words (letter ∷ name) some = refl
