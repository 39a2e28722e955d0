-- Entities by name.
use Rattle.std.proofs.Common.{◌≡◌, ℕ, suc, ◌+◌, Bool, true, false, cond, not, nat_lt, List, [], ◌∷◌, ◌++◌, map, length, position, Option, Some, None, Vec, Global, refl, sym, ap, ◌∙◌, arith}
use Rattle.std.specs.Prelude.{option_map, bytes_eq, find, is_some}
use Rattle.std.specs.List.{enumerate_from, position_or_len}
use Rattle.std.specs.Map.{keys_of, lookup}
use Rattle.std.proofs.lemmas.List.{map-append}
use Rattle.std.proofs.lemmas.Bool.Decides.{nat_tests}
use Rattle.std.proofs.lemmas.Slice.Eq.{bytes_eq-Decides}
use Rattle.vhdl_names_rules.specs.Rules.{◌>>=◌, met}
use Rattle.vhdl_names_rules.specs.Visibility.{Name, is_among}
use Rattle.vhdl_names_rules.specs.Interfaces.{EntityView}
use Rattle.vhdl_names_declarations.proofs.Keyed.{among_table}
use Rattle.vhdl_names_interfaces.specs.declared.interface.EntityInterface.{EntityInterface}
use Rattle.vhdl_names_interfaces.specs.Views.{entity_view, named_view, one_more}

abbrev pub entry_view : Vec ℕ Global × EntityInterface → EntityView
entry_view e = named_view e.0.items e.1

position-cons : {X : Type 0} (p : X → Bool) (x : X) (xs : List X) → position p (x ∷ xs) ≡ cond (p x) (Some 0) (option_map suc (position p xs))
position-cons {X} p x xs = go (p x)
  where
    later : (m n : ℕ) (b : Bool) → nat_lt m n ≡ b → cond (nat_lt (1 + m) (suc n)) (Some (1 + m)) None ≡ option_map suc (cond b (Some m) None)
    later m n true e = let t : nat_lt (1 + m) (suc n) ≡ true = grind (arith, nat_tests) in rw t (ap Some (omega arith))
    later m n false e = let t : nat_lt (1 + m) (suc n) ≡ false = grind (arith, nat_tests) in rw t refl

    go : (b : Bool) → cond (nat_lt (cond (not b) (1 + position_or_len p xs) 0) (suc (length xs))) (Some (cond (not b) (1 + position_or_len p xs) 0)) None ≡ cond b (Some 0) (option_map suc (position p xs))
    go true = let t : nat_lt 0 (suc (length xs)) ≡ true = grind (arith, nat_tests) in rw t refl
    go false = later (position_or_len p xs) (length xs) (nat_lt (position_or_len p xs) (length xs)) refl

abbrev pub found_pair : ℕ → EntityView → ℕ × EntityView
found_pair k e = (k, e)

-- what is found at a place behind k others
abbrev pub joined : Name → ℕ → Option ℕ → Option EntityInterface → Option (ℕ × EntityView)
joined n k (Some i) (Some e) = Some (found_pair (k + i) (named_view n e))
joined n k (Some i) None = None
joined n k None o = None

pub found : (n : Name) (k : ℕ) (es : List (Vec ℕ Global × EntityInterface)) →
    find (λ e. bytes_eq n e.1.name) (enumerate_from k (map entry_view es)) ≡ joined n k (position (λ m. bytes_eq n m.items) (keys_of es)) (lookup (λ m. bytes_eq n m.items) es)
found n k [] = refl
found n k (e ∷ es) =
    go (bytes_eq n e.0.items) refl (found n (k + 1) es)
    ∙ ap (λ o. joined n k o (lookup (λ m. bytes_eq n m.items) (e ∷ es))) (sym (position-cons (λ m. bytes_eq n m.items) e.0 (keys_of es)))
  where
    next : (o : Option ℕ) (v : Option EntityInterface) → joined n (k + 1) o v ≡ joined n k (option_map suc o) v
    next (Some i) (Some p) = let s : (k + 1) + i ≡ k + suc i = omega arith in ap (λ m. Some (found_pair m (named_view n p))) s
    next (Some i) None = refl
    next None v = refl

    go : (b : Bool) → bytes_eq n e.0.items ≡ b
        → find (λ e. bytes_eq n e.1.name) (enumerate_from (k + 1) (map entry_view es)) ≡ joined n (k + 1) (position (λ m. bytes_eq n m.items) (keys_of es)) (lookup (λ m. bytes_eq n m.items) es)
        → cond b (Some (found_pair k (entry_view e))) (find (λ e. bytes_eq n e.1.name) (enumerate_from (k + 1) (map entry_view es)))
        ≡ joined n k (cond b (Some 0) (option_map suc (position (λ m. bytes_eq n m.items) (keys_of es)))) (cond b (Some e.1) (lookup (λ m. bytes_eq n m.items) es))
    go true h rest =
        let same : n ≡ e.0.items = (bytes_eq-Decides n e.0.items).0 h in
        let z : k ≡ k + 0 = omega arith in
        ap (λ m. Some (found_pair k (named_view m e.1))) (sym same) ∙ ap (λ m. Some (found_pair m (named_view n e.1))) z
    go false h rest = rest ∙ next (position (λ m. bytes_eq n m.items) (keys_of es)) (lookup (λ m. bytes_eq n m.items) es)

-- ---- one entity more

among : (n : Name) (es : List (Vec ℕ Global × EntityInterface)) → is_some (lookup (λ k. bytes_eq n k.items) es) ≡ is_among n (map (λ d. d.name) (map entry_view es))
among = among_table entry_view (λ (d : EntityView). d.name) (λ e. refl)

pub refused : (es : List (Vec ℕ Global × EntityInterface)) (e : EntityView) → is_some (lookup (λ k. bytes_eq e.name k.items) es) ≡ true → one_more (map entry_view es) e ≡ None
refused es e there = ap (λ b. met (not b) >>= λ _. Some (map entry_view es ++ e ∷ [])) (sym (among e.name es) ∙ there)

pub grown : (es es' : List (Vec ℕ Global × EntityInterface)) (key : Vec ℕ Global) (e : EntityInterface) → is_some (lookup (λ k. bytes_eq e.tree.now.name.text.items k.items) es) ≡ false
    → key.items ≡ e.tree.now.name.text.items → es' ≡ es ++ (key, e) ∷ [] → one_more (map entry_view es) (entity_view e) ≡ Some (map entry_view es')
grown es es' key e new same h =
    ap (λ b. met (not b) >>= λ _. Some (map entry_view es ++ entity_view e ∷ [])) (sym (among e.tree.now.name.text.items es) ∙ new)
    ∙ ap (λ n. Some (map entry_view es ++ named_view n e ∷ [])) (sym same)
    ∙ ap Some (sym (map-append entry_view es ((key, e) ∷ []))) ∙ ap (λ l. Some (map entry_view l)) (sym h)
