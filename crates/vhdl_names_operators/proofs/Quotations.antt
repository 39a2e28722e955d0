-- What stands between quotation marks, and the values of literals in turn.
use Rattle.std.proofs.Common.{◌≡◌, ℕ, suc, ◌+◌, ◌-◌, ◌≤◌, ◌<◌, Bool, true, false, cond, List, [], ◌∷◌, ◌++◌, length, take, drop, get_or, Option, Some, None, append-nil, refl, ap, ◌∙◌, arith}
use Rattle.std.proofs.lemmas.Bool.Decides.{nat_tests}
use Rattle.std.proofs.lemmas.List.{drop_all, take_rest}
use Rattle.std.specs.List.{position_or_len, after_first}
use Rattle.std.specs.Prelude.{◌==◌, position, not, filter}
use Rattle.vhdl_values.specs.declared.scalar.Nine.{Nine}
use Rattle.vhdl_lexer.specs.Bytes.{quote, underscore}
use Rattle.vhdl_lexer.specs.Words.{base_class}
use Rattle.vhdl_names_rules.specs.Rules.{◌>>=◌, each}
use Rattle.vhdl_names_rules.specs.Literals as rules
use Rattle.vhdl_names_rules.specs.declared.fault.NameProblem.TheVariants.{TypeMismatch}
use Rattle.vhdl_names_rules.specs.problems.Operators.{characters_problem}

found : (b : Bool) (n i : ℕ) → cond b (Some n) None ≡ Some i → n ≡ i
found true n i e = cc
found false n i e = absurd (cc)

missed : (b : Bool) (n : ℕ) → cond b (Some n) None ≡ None → b ≡ false
missed true n e = absurd (cc)
missed false n e = refl

past_end : (xs : List ℕ) → position (λ b. b == quote) xs ≡ None → length xs ≤ position_or_len (λ b. b == quote) xs
past_end xs e = let late = missed _ _ e in grind (arith, nat_tests, late)

-- behind the first quotation mark
pub behind_quote : (xs : List ℕ) (i : ℕ) → position (λ b. b == quote) xs ≡ Some i → take (length xs - (i + 1)) (drop (i + 1) xs) ≡ after_first (λ b. b == quote) xs
behind_quote xs i e = rw (found _ _ i e) (take_rest xs (i + 1))

pub no_quote : (xs : List ℕ) → position (λ b. b == quote) xs ≡ None → after_first (λ b. b == quote) xs ≡ []
no_quote xs e = let late = past_end xs e in drop_all (position_or_len (λ b. b == quote) xs + 1) xs (omega (arith, late))

pub but_last_take : (xs : List ℕ) → take (length xs - 1) xs ≡ rules.but_last xs
but_last_take [] = refl
but_last_take (x ∷ []) = refl
but_last_take (x ∷ y ∷ xs) =
    let e : length (x ∷ y ∷ xs) - 1 ≡ suc (length (y ∷ xs) - 1) = omega arith in
    rw e (ap (λ zs. x ∷ zs) (but_last_take (y ∷ xs)))

-- values in front of what is left
abbrev pub with_front : List Nine → Option (List Nine) → Option (List Nine)
with_front vs None = None
with_front vs (Some ws) = Some (vs ++ ws)

pub at_end : (whole : Option (List Nine)) (vs : List Nine) (q : List ℕ) (i : ℕ) → whole ≡ with_front vs (each rules.nine_of (drop i q)) → length q ≤ i → whole ≡ Some vs
at_end whole vs q i h le = h ∙ ap (λ l. with_front vs (each rules.nine_of l)) (drop_all i q le) ∙ ap Some (append-nil vs)

-- ---- bit strings

cons_of : (xs : List ℕ) → 1 ≤ length xs → xs ≡ get_or xs 0 0 ∷ drop 1 xs
cons_of [] h = absurd (omega arith)
cons_of (x ∷ xs) h = refl

-- a bit string by its base and what stands behind it
pub bits_of_base : (items : List ℕ) → 1 ≤ length items →
    rules.values_of_bits items ≡ (rules.values_by (base_class (get_or items 0 0)) (filter (λ b. not (b == underscore)) (rules.quoted (drop 1 items))) >>= rules.at_least_one)
bits_of_base items h = ap rules.values_of_bits (cons_of items h)

-- ---- what is wrong with a string

-- where a character stands, the string isn't empty
pub some_character : (q : List ℕ) (i : ℕ) → i < length q → characters_problem q ≡ TypeMismatch
some_character [] i lt = absurd (omega (arith, lt))
some_character (c ∷ cs) i lt = refl
