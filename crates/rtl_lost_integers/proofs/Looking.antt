-- What a look at one integer after another has found.
use Rattle.std.proofs.Common.{◌≡◌, ℕ, ◌+◌, ◌-◌, ◌<◌, Bool, true, false, List, [], ◌∷◌, ◌++◌, length, get_or, take, drop, map, Option, Some, None, refl, ap, sym, ◌∙◌, arith}
use Rattle.std.specs.Prelude.{if◌then◌else◌}
use Rattle.std.specs.Option.{option_or}
use Rattle.std.proofs.lemmas.List.{at_drop_more, get_or-append_right, get_or-drop, length-map, length-take}
use Rattle.rtl_lost_integers.specs.declared.integer.Integer.{Integer}
use Rattle.rtl_lost_integers.specs.Watching.{first_now, is_lost_now}

-- the one that comes next is as it was
pub unchanged : (f : Integer → Integer) (xs ys : List Integer) (i : ℕ) (x : Integer) → i < length xs → ys ≡ map f (take i xs) ++ drop i xs → get_or ys i x ≡ get_or xs i x
unchanged f xs ys i x there is =
    let many : length (map f (take i xs)) ≡ i = omega (arith, length-map (take i xs) f, length-take i xs, there) in
    let same : i + (i - i) ≡ i = omega arith in
    let last : i < i + 1 = omega arith in
    ap (λ (zs : List Integer). get_or zs i x) is ∙ get_or-append_right (map f (take i xs)) (drop i xs) i i x many (omega arith) ∙ get_or-drop i xs (i - i) x ∙ ap (λ (k : ℕ). get_or xs k x) same

or_then : (o : Option ℕ) (lost : Bool) (signal : ℕ) (rest : Option ℕ) → option_or (option_or o (if lost then Some signal else None)) rest ≡ option_or o (if lost then Some signal else rest)
or_then None true signal rest = refl
or_then None false signal rest = refl
or_then (Some x) lost signal rest = refl

pub found_more : (values : List ℕ) (xs : List Integer) (i : ℕ) (x : Integer) (first next all : Option ℕ) (signal : ℕ) (lost : Bool) → i < length xs → x ≡ get_or xs i x
    → next ≡ option_or first (if lost then Some signal else None) → lost ≡ is_lost_now values x → signal ≡ x.signal → option_or first (first_now values (drop i xs)) ≡ all
    → option_or next (first_now values (drop (i + 1) xs)) ≡ all
found_more values xs i x first next all signal lost there at is so same inv =
    let rest = first_now values (drop (i + 1) xs) in
    ap (λ (o : Option ℕ). option_or o rest)
    (is ∙ ap (λ (b : Bool). option_or first (if b then Some signal else None)) so ∙ ap (λ (s : ℕ). option_or first (if is_lost_now values x then Some s else None)) same)
    ∙ or_then first (is_lost_now values x) x.signal rest
    ∙ ap (λ (y : Integer). option_or first (first_now values (y ∷ drop (i + 1) xs))) at
    ∙ sym (at_drop_more (λ (zs : List Integer). option_or first (first_now values zs)) xs i x there) ∙ inv
