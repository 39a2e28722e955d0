-- One thing for each name of a declaration, and actuals by their number.
use Rattle.std.proofs.Common.{◌≡◌, ◌≤◌, ℕ, zero, suc, List, [], ◌∷◌, length, map, drop, Option, Some, None, option_map, refl, sym, ap, ◌∙◌, arith}
use Rattle.std.specs.Borrow.{Bor}
use Rattle.std.specs.Prelude.{slice_get}
use Rattle.vhdl_tree.specs.declared.expression.Identifier.{Identifier}
use Rattle.vhdl_tree.specs.View.{ident_view}
use Rattle.vhdl_tree.specs.Tree.{Ident}
use Rattle.vhdl_expand_rules.specs.Declarations.{first_of}

pub named : {A : Type 0} (f : Ident → A) (ns : List Identifier) → map f (map ident_view ns) ≡ map (λ n. f (ident_view n)) ns
named f [] = refl
named f (n ∷ ns) = ap (λ xs. f (ident_view n) ∷ xs) (named f ns)

first-mapped : {A B : Type 0} (f : A → B) (n : ℕ) (xs : List (Option A)) → first_of (drop n (map (option_map f) xs)) ≡ option_map f (first_of (drop n xs))
first-mapped f zero [] = refl
first-mapped f (suc n) (x ∷ xs) = first-mapped f n xs
first-mapped f _ _ = refl

pub actual_seen : {A B : Type 0} (f : A → B) (n : ℕ) (xs : List (Option A)) (o : Option A) → o ≡ first_of (drop n xs)
    → option_map f o ≡ first_of (drop n (map (option_map f) xs))
actual_seen f n xs o h = ap (option_map f) h ∙ sym (first-mapped f n xs)

-- what is seen of an actual that is lent
pub copied_seen : {A B : Type 0} (f : A → B) (o : Option (Bor A)) → option_map (λ x. f x.now) o ≡ option_map f (option_map (λ x. x.now) o)
copied_seen f None = refl
copied_seen f (Some x) = refl

-- and of several
pub lent_seen : {A B : Type 0} (f : A → B) (xs : List (Option (Bor A))) (ys : List (Option A)) → map (option_map (λ x. x.now)) xs ≡ ys
    → map (option_map (λ x. f x.now)) xs ≡ map (option_map f) ys
lent_seen {A} {B} f xs ys h = each xs ∙ ap (map (option_map f)) h
  where
    each : (os : List (Option (Bor A))) → map (option_map (λ x. f x.now)) os ≡ map (option_map f) (map (option_map (λ x. x.now)) os)
    each [] = refl
    each (o ∷ os) = ap (λ r. r ∷ map (option_map (λ x. f x.now)) os) (copied_seen f o) ∙ ap (λ rs. option_map f (option_map (λ x. x.now) o) ∷ rs) (each os)

pub no_names : {A : Type 0} (xs : List A) → slice_get xs 0 ≡ None → xs ≡ []
no_names [] h = refl
no_names (x ∷ xs) h = absurd cc

-- by their number
pub none_of : {A : Type 0} (xs : List A) → length xs ≡ 0 → xs ≡ []
none_of [] h = refl
none_of (x ∷ xs) h = absurd cc

pub some_of : {A : Type 0} (xs : List A) → 1 ≤ length xs → (x : A) × (slice_get xs 0 ≡ Some x)
some_of [] h = absurd (omega arith)
some_of (x ∷ xs) h = (x, refl)
