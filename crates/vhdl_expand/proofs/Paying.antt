-- Costs that are paid one after another, and those of lists, of turns and of variables.
use Rattle.std.proofs.Common.{◌≡◌, ℕ, ◌+◌, ◌<◌, ◌≤◌, List, [], ◌∷◌, length, map, get_or, drop, Result, Ok, Err, refl, sym, ap, ◌∙◌}
use Rattle.std.specs.Prelude.{ℤ}
use Rattle.std.proofs.lemmas.List.Sums.{sum_by-cons}
use Rattle.vhdl_tree.specs.declared.operator.Direction.{Direction}
use Rattle.vhdl_expand_rules.specs.declared.fault.ElabFault.{ElabFault}
use Rattle.vhdl_expand_rules.specs.Elab.{Elab, ◌>>=◌, MayTell, Told}
use Rattle.vhdl_expand_rules.specs.Integers.{numbers_from}
use Rattle.vhdl_expand_rules.specs.Parameters.{parameter}
use Rattle.vhdl_expand_rules.specs.Tree as t
use Rattle.vhdl_expand_rules.proofs.Parameters.{next-turn, no-turn}
use Rattle.vhdl_expand_rules.proofs.Items.{next_left}
use Rattle.vhdl_expand_rules.proofs.Steps.{given}
use Rattle.vhdl_expand_operands.specs.Results.{Charges}
use Rattle.vhdl_elab_rules.specs.Limits.{Counts}
use Rattle.vhdl_expand_tree.specs.Costs.{spent, variable_elements, variables_costs}
use Rattle.vhdl_expand_tree.proofs.Alike.{Alike, wrong, alike_same, alike_trans, both_refused, tells_first}
use Rattle.vhdl_expand_tree.proofs.Charging.{spent-plus, spent-none, spent_told}
use Rattle.vhdl_expand_rules.specs.declared.fault.ElabProblem.TheVariants.{TooMany}
use Rattle.vhdl_expand.specs.Unrolled.{both, together, paid}

pub charges_alike : (bytes : List ℕ) {X Y : Type 0} (view : X → Y) (p q : Elab Y) (r : Result X ElabFault) → Alike p q → Charges bytes view q r → Charges bytes view p r
charges_alike bytes view p q (Ok x) a h = a.gives (view x) h
charges_alike bytes view p q (Err fault) a h = λ n. a.stops _ _ (h n)

-- ---- one after another

pub paid_in_turn : (n : Counts) (p q : Elab Counts) → Alike (paid n (both p q)) (paid n p >>= λ m. paid m q)
paid_in_turn n (Err told) q = alike_same refl
paid_in_turn n (Ok a) (Ok b) = alike_same (spent-plus 0 a b n)
paid_in_turn n (Ok a) (Err told) = go (spent 0 n a) (spent_told 0 n a)
  where
    go : (r : Elab Counts) → ((other : Told) → r ≡ Err other → other.0 ≡ TooMany) → Alike {A = Counts} (wrong told) (r >>= λ m. wrong told)
    go (Ok m) only = alike_same refl
    go (Err other) only = both_refused (only other refl) refl

pub paid_go : (total : Elab Counts) (n m : Counts) (p q : Elab Counts) → Alike total (paid n (both p q)) → paid n p ≡ Ok m → Alike total (paid m q)
paid_go total n m p q so_far h = alike_trans so_far (alike_trans (paid_in_turn n p q) (alike_same (ap (λ r. r >>= λ k. paid k q) h)))

pub paid_stop : {bytes : List ℕ} {told : Told} → (total : Elab Counts) (n : Counts) (p q : Elab Counts) → Alike total (paid n (both p q)) → MayTell bytes (paid n p) told → MayTell bytes total told
paid_stop total n p q so_far h = (alike_trans so_far (paid_in_turn n p q)).stops _ _ (tells_first (paid n p) _ h)

-- ---- of lists

module _ {A X : Type 0} (f : A → Elab Counts) (v : X → A) where
  pub list_go : (total : Elab Counts) (n m : Counts) (xs : List X) (i : ℕ) (x : X) → i < length xs → x ≡ get_or xs i x
      → Alike total (paid n (together f (map v (drop i xs)))) → paid n (f (v x)) ≡ Ok m → Alike total (paid m (together f (map v (drop (i + 1) xs))))
  list_go total n m xs i x below is so_far h =
      paid_go total n m (f (v x)) (together f (map v (drop (i + 1) xs)))
      (alike_trans so_far (alike_same (ap (λ ys. paid n (together f (map v ys))) (next_left xs i x below is)))) h

  pub list_stop : {bytes : List ℕ} {told : Told} → (total : Elab Counts) (n : Counts) (xs : List X) (i : ℕ) (x : X) → i < length xs → x ≡ get_or xs i x
      → Alike total (paid n (together f (map v (drop i xs)))) → MayTell bytes (paid n (f (v x))) told → MayTell bytes total told
  list_stop total n xs i x below is so_far h =
      paid_stop total n (f (v x)) (together f (map v (drop (i + 1) xs)))
      (alike_trans so_far (alike_same (ap (λ ys. paid n (together f (map v ys))) (next_left xs i x below is)))) h

  pub list_end : (total : Elab Counts) (n : Counts) (xs : List X) → xs ≡ [] → Alike total (paid n (together f (map v xs))) → total ≡ Ok n
  list_end total n xs h so_far = so_far.gives n (ap (λ ys. paid n (together f (map v ys))) h ∙ spent-none 0 n)

-- ---- of turns

module _ (f : ℤ → Elab Counts) (direction : Direction) (x : ℤ) (count : ℕ) where
  pub turns_go : (total : Elab Counts) (n m : Counts) (k : ℕ) (i : ℤ) → k < count → i ≡ parameter direction x k
      → Alike total (paid n (together f (drop k (numbers_from direction x count)))) → paid n (f i) ≡ Ok m → Alike total (paid m (together f (drop (k + 1) (numbers_from direction x count))))
  turns_go total n m k i below is so_far h =
      paid_go total n m (f i) (together f (drop (k + 1) (numbers_from direction x count)))
      (alike_trans so_far (alike_same (ap (λ js. paid n (together f js)) (next-turn direction x count k below ∙ ap (λ j. j ∷ drop (k + 1) (numbers_from direction x count)) (sym is))))) h

  pub turns_stop : {bytes : List ℕ} {told : Told} → (total : Elab Counts) (n : Counts) (k : ℕ) (i : ℤ) → k < count → i ≡ parameter direction x k
      → Alike total (paid n (together f (drop k (numbers_from direction x count)))) → MayTell bytes (paid n (f i)) told → MayTell bytes total told
  turns_stop total n k i below is so_far h =
      paid_stop total n (f i) (together f (drop (k + 1) (numbers_from direction x count)))
      (alike_trans so_far (alike_same (ap (λ js. paid n (together f js)) (next-turn direction x count k below ∙ ap (λ j. j ∷ drop (k + 1) (numbers_from direction x count)) (sym is))))) h

  pub turns_end : (total : Elab Counts) (n : Counts) (k : ℕ) → count ≤ k → Alike total (paid n (together f (drop k (numbers_from direction x count)))) → total ≡ Ok n
  turns_end total n k h so_far = so_far.gives n (ap (λ js. paid n (together f js)) (no-turn direction x count k h) ∙ spent-none 0 n)

-- ---- costs of variables

abbrev pub elements_costs : t.Variable → Elab Counts
elements_costs v = Ok (variable_elements (length v.starts))

pub variables_together : (vs : List t.Variable) → together elements_costs vs ≡ Ok (variables_costs vs)
variables_together [] = refl
variables_together (v ∷ vs) =
    ap (both (elements_costs v)) (variables_together vs) ∙ ap (λ (n : ℕ). given (variable_elements n)) (sym (sum_by-cons (λ n. n) (length v.starts) (map (λ (w : t.Variable). length w.starts) vs)))
