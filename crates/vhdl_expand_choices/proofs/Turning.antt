-- The numbers of a choice that an integer may be, counted and spread.
use Rattle.std.proofs.Common.{◌≡◌, ℕ, ◌+◌, ◌<◌, ◌≤◌, ◌-◌, Bool, true, false, if◌then◌else◌, List, [], ◌∷◌, ◌++◌, map, drop, refl, sym, ap, ◌∙◌, arith, w32}
use Rattle.std.specs.Prelude.{ℤ, pos, negsuc, cond, ◌+ℤ◌, ◌-ℤ◌, nat_abs, int_le, int_lt, flat_map, FitsSigned}
use Rattle.std.proofs.lemmas.Bool.{leb-true}
use Rattle.std.proofs.lemmas.Int.{ints}
use Rattle.std.proofs.lemmas.List.{append-nil, append_assoc}
use Rattle.vhdl_tree.specs.declared.operator.Direction.TheVariants.{To}
use Rattle.vhdl_expand_rules.specs.Integers.{extent, numbers_from}
use Rattle.vhdl_expand_rules.specs.Computed.{Span, minimum, held_in}
use Rattle.vhdl_expand_rules.specs.Statements.{overlap, count_in, numbers_in}
use Rattle.vhdl_expand_rules.proofs.Parameters.{next-turn, no-turn}
use Rattle.vhdl_expand_choices.specs.declared.spans.Spanned.{Spanned}
use Rattle.vhdl_expand_choices.specs.Views.{spanned_view, digits}

-- one of so many from a number to another lies at most as far
reaches : (x y : ℤ) (k : ℕ) → k < extent To x y → int_le (x +ℤ pos k) y ≡ true
reaches x y k h = by (int_lt y x) refl h
  where
    by : (b : Bool) → int_lt y x ≡ b → k < (if b then 0 else nat_abs (x -ℤ y) + 1) → int_le (x +ℤ pos k) y ≡ true
    by true e below = absurd (omega arith)
    by false e below = grind (arith, ints)

pub within_all : (all s : Span) (k : ℕ) → k < count_in all s → int_le (held_in all s.least +ℤ pos k) (held_in all s.greatest) ≡ true
within_all all s k h = by (overlap all s) h
  where
    by : (b : Bool) → k < (if b then extent To (held_in all s.least) (held_in all s.greatest) else 0) → int_le (held_in all s.least +ℤ pos k) (held_in all s.greatest) ≡ true
    by true below = reaches (held_in all s.least) (held_in all s.greatest) k below
    by false below = absurd (omega arith)

-- ---- each is a word

fits-between : (a n b : ℤ) → FitsSigned w32 a → FitsSigned w32 b → int_le a n ≡ true → int_le n b ≡ true → FitsSigned w32 n
fits-between a (pos n) (pos m) f g low high = let l = leb-true n m high in let k = g.sfits in record { sfits = omega (arith, l, k) }
fits-between a (pos n) (negsuc m) f g low high = absurd cc
fits-between (negsuc m) (negsuc n) b f g low high = let l = leb-true n m low in let k = f.sfits in record { sfits = omega (arith, l, k) }
fits-between (pos m) (negsuc n) b f g low high = absurd cc

pub held_fits : (s : Span) (x : ℤ) → FitsSigned w32 s.least → FitsSigned w32 s.greatest → FitsSigned w32 x → FitsSigned w32 (held_in s x)
held_fits s x f g h = most (int_le s.least (minimum s.greatest x))
  where
    least : (b : Bool) → FitsSigned w32 (cond b s.greatest x)
    least true = g
    least false = h

    most : (b : Bool) → FitsSigned w32 (cond b (minimum s.greatest x) s.least)
    most true = least (int_le s.greatest x)
    most false = f

pub number_fits : (all s : Span) (k : ℕ) → FitsSigned w32 (held_in all s.least) → FitsSigned w32 (held_in all s.greatest) → k < count_in all s → FitsSigned w32 (held_in all s.least +ℤ pos k)
number_fits all s k f g below =
    fits-between (held_in all s.least) (held_in all s.least +ℤ pos k) (held_in all s.greatest) f g (grind (arith, ints)) (within_all all s k below)

-- ---- how many there are

pub count_of : (all s : Span) (x y : ℤ) → overlap all s ≡ true → x ≡ held_in all s.least → y ≡ held_in all s.greatest → extent To x y ≡ count_in all s
count_of all s x y h p q =
    (λ i. extent To (p i) (q i)) ∙ ap (λ (b : Bool). if b then extent To (held_in all s.least) (held_in all s.greatest) else 0) (sym h)

pub extent_few : (x y : ℤ) → FitsSigned w32 x → FitsSigned w32 y → extent To x y ≤ 4294967296
extent_few x y f g = by (int_lt y x) refl
  where
    by : (b : Bool) → int_lt y x ≡ b → (if b then 0 else nat_abs (x -ℤ y) + 1) ≤ 4294967296
    by true e = omega arith
    by false e = grind (arith, ints)

-- ---- each as digits

module _ (len : ℕ) (first : ℤ) (count k : ℕ) (whole made : List (List ℕ)) (so_far : whole ≡ made ++ map (digits len) (drop k (numbers_from To first count))) where
  pub turn_goes : (more : List (List ℕ)) (n : ℤ) → k < count → n ≡ first +ℤ pos k → more ≡ made ++ digits len n ∷ [] → whole ≡ more ++ map (digits len) (drop (k + 1) (numbers_from To first count))
  turn_goes more n below is pushed =
      so_far ∙ ap (λ ns. made ++ map (digits len) ns) (next-turn To first count k below)
      ∙ ap (λ m. made ++ (digits len m ∷ map (digits len) (drop (k + 1) (numbers_from To first count)))) (sym is)
      ∙ sym (append_assoc made (digits len n ∷ []) (map (digits len) (drop (k + 1) (numbers_from To first count))))
      ∙ ap (λ ds. ds ++ map (digits len) (drop (k + 1) (numbers_from To first count))) (sym pushed)

  pub turn_ends : count ≤ k → made ≡ whole
  turn_ends past = sym (so_far ∙ ap (λ ns. made ++ map (digits len) ns) (no-turn To first count k past) ∙ append-nil made)

-- ---- of several choices

abbrev pub all_numbers : (all : Span) → List Spanned → List ℤ
all_numbers all xs = flat_map (λ (s : ℕ × Span). numbers_in all s.1) (map spanned_view xs)
