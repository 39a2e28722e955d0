-- The values of literals, one character after another.
use Rattle.std.proofs.Common.{◌≡◌, ℕ, suc, ◌+◌, ◌≤◌, ◌<◌, Bool, true, false, cond, List, [], ◌∷◌, ◌++◌, length, drop, drop-cons, get_or, Option, Some, None, append-nil, append_assoc, refl, ap, sym, ◌∙◌, arith}
use Rattle.std.proofs.lemmas.List.{drop_all}
use Rattle.std.proofs.lemmas.List.Concat.{flat_map-cons}
use Rattle.std.specs.Prelude.{filter, flat_map}
use Rattle.vhdl_values.specs.declared.scalar.Nine.{Nine}
use Rattle.vhdl_names_rules.specs.Rules.{◌>>=◌, each}
use Rattle.vhdl_names_rules.specs.Literals as rules
use Rattle.vhdl_names_operators.proofs.Quotations.{with_front}

next : (xs : List ℕ) (i : ℕ) → i < length xs → drop i xs ≡ get_or xs i 0 ∷ drop (i + 1) xs
next xs i lt =
    let e : suc i ≡ i + 1 = omega arith in
    drop-cons xs i 0 lt ∙ ap (λ k. get_or xs i 0 ∷ drop k xs) e

-- ---- strings

pub none_in_front : (vs : List Nine) (r : Option (List Nine)) → vs ≡ [] → r ≡ with_front vs r
none_in_front vs None none = refl
none_in_front vs (Some ws) none = ap (λ m. Some (m ++ ws)) (sym none)

one_in_front : (vs : List Nine) (v : Nine) (r : Option (List Nine)) → with_front vs (r >>= λ ys. Some (v ∷ ys)) ≡ with_front (vs ++ v ∷ []) r
one_in_front vs v None = refl
one_in_front vs v (Some ws) = ap Some (sym (append_assoc vs (v ∷ []) ws))

module _ (whole : Option (List Nine)) (vs : List Nine) (xs : List ℕ) (i : ℕ) (lt : i < length xs) (inv : whole ≡ with_front vs (each rules.nine_of (drop i xs))) where
  at_next : (o : Option Nine) → rules.nine_of (get_or xs i 0) ≡ o → whole ≡ with_front vs (o >>= λ y. each rules.nine_of (drop (i + 1) xs) >>= λ ys. Some (y ∷ ys))
  at_next o is =
      inv ∙ ap (λ l. with_front vs (each rules.nine_of l)) (next xs i lt)
      ∙ ap (λ (o : Option Nine). with_front vs (o >>= λ y. each rules.nine_of (drop (i + 1) xs) >>= λ ys. Some (y ∷ ys))) is

  pub one_value : (new : List Nine) (v : Nine) → rules.nine_of (get_or xs i 0) ≡ Some v → new ≡ vs ++ v ∷ [] → whole ≡ with_front new (each rules.nine_of (drop (i + 1) xs))
  one_value new v is pushed =
      at_next (Some v) is ∙ one_in_front vs v (each rules.nine_of (drop (i + 1) xs)) ∙ ap (λ d. with_front d (each rules.nine_of (drop (i + 1) xs))) (sym pushed)

  pub no_value : rules.nine_of (get_or xs i 0) ≡ None → whole ≡ None
  no_value is = at_next None is

-- ---- bit strings

module _ (bits : ℕ → List Nine) (counts : ℕ → Bool) (whole vs : List Nine) (xs : List ℕ) (i : ℕ) (inv : whole ≡ vs ++ flat_map bits (filter counts (drop i xs))) where
  pub all_digits : length xs ≤ i → whole ≡ vs
  all_digits past = inv ∙ ap (λ l. vs ++ flat_map bits (filter counts l)) (drop_all i xs past) ∙ append-nil vs

  at_digit : (b : Bool) → i < length xs → counts (get_or xs i 0) ≡ b
      → whole ≡ vs ++ flat_map bits (cond b (get_or xs i 0 ∷ filter counts (drop (i + 1) xs)) (filter counts (drop (i + 1) xs)))
  at_digit b lt is =
      inv ∙ ap (λ l. vs ++ flat_map bits (filter counts l)) (next xs i lt)
      ∙ ap (λ (b : Bool). vs ++ flat_map bits (cond b (get_or xs i 0 ∷ filter counts (drop (i + 1) xs)) (filter counts (drop (i + 1) xs)))) is

  pub one_digit : (new : List Nine) → i < length xs → counts (get_or xs i 0) ≡ true → new ≡ vs ++ bits (get_or xs i 0) → whole ≡ new ++ flat_map bits (filter counts (drop (i + 1) xs))
  one_digit new lt is pushed =
      let rest = filter counts (drop (i + 1) xs) in
      at_digit true lt is ∙ ap (λ l. vs ++ l) (flat_map-cons bits (get_or xs i 0) rest)
      ∙ sym (append_assoc vs (bits (get_or xs i 0)) (flat_map bits rest)) ∙ ap (λ d. d ++ flat_map bits rest) (sym pushed)

  pub no_digit : (new : List Nine) → i < length xs → counts (get_or xs i 0) ≡ false → new ≡ vs → whole ≡ new ++ flat_map bits (filter counts (drop (i + 1) xs))
  no_digit new lt is same = at_digit false lt is ∙ ap (λ d. d ++ flat_map bits (filter counts (drop (i + 1) xs))) (sym same)
