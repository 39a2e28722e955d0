-- Charging one part and then the next is charging both together.
use Rattle.std.proofs.Common.{◌≡◌, ℕ, ◌+◌, ◌-◌, Bool, true, false, ◌&&◌, nat_le, Ok, Err, refl, sym, ap, ◌∙◌, arith}
use Rattle.std.specs.Prelude.{IsErr}
use Rattle.std.proofs.lemmas.Bool.Decides.{nat_tests}
use Rattle.vhdl_expand_rules.specs.declared.fault.ElabProblem.TheVariants.{TooMany}
use Rattle.vhdl_expand_rules.specs.Elab.{Told, Elab, ◌>>=◌, ◌>>◌, unless}
use Rattle.vhdl_expand_rules.proofs.Steps.{given}
use Rattle.vhdl_elab_rules.specs.Limits.{Counts, is_within}
use Rattle.vhdl_expand_tree.specs.Costs.{no_costs, plus, less, spent, charged}
use Rattle.vhdl_expand_tree.proofs.Alike.{Alike, wrong, same_told, alike_same, alike_after, both_refused}

-- ---- numbers

both-within : (a b n : ℕ) → nat_le (a + b) n ≡ (nat_le a n && nat_le b (n - a))
both-within a b n = grind (arith, nat_tests)

both-taken : (a b n : ℕ) → n - (a + b) ≡ n - a - b
both-taken a b n = omega arith

between : (p q r s : Bool) → ((p && q) && (r && s)) ≡ ((p && r) && (q && s))
between false q r s = refl
between true false false s = refl
between true false true s = refl
between true true r s = refl

-- one number more
with-number : (a b n : ℕ) (r p q : Bool) → r ≡ (p && q) → (nat_le (a + b) n && r) ≡ ((nat_le a n && p) && (nat_le b (n - a) && q))
with-number a b n r p q h = (λ i. both-within a b n i && h i) ∙ between (nat_le a n) (nat_le b (n - a)) p q

pub sum_assoc : (a b c : ℕ) → a + b + c ≡ a + (b + c)
sum_assoc a b c = omega arith

none-taken : (n : ℕ) → n - 0 ≡ n
none-taken n = omega arith

none-more : (n : ℕ) → 0 + n ≡ n
none-more n = omega arith

-- ---- counts

abbrev by_number : (ℕ → ℕ → ℕ → ℕ) → Counts → Counts → Counts → Counts
by_number f a b c = record {
  processes = f a.processes b.processes c.processes;
  instances = f a.instances b.instances c.instances;
  nets = f a.nets b.nets c.nets;
  turns = f a.turns b.turns c.turns;
  statements = f a.statements b.statements c.statements;
  variable_elements = f a.variable_elements b.variable_elements c.variable_elements;
}

-- what is the same of all numbers
pub each_number : (f g : ℕ → ℕ → ℕ → ℕ) → ((a b c : ℕ) → f a b c ≡ g a b c) → (a b c : Counts) → by_number f a b c ≡ by_number g a b c
each_number f g same a b c = λ i. by_number (λ k m n. same k m n i) a b c

abbrev statements-within : Counts → Counts → Bool
statements-within a n = nat_le a.statements n.statements && nat_le a.variable_elements n.variable_elements

abbrev turns-within : Counts → Counts → Bool
turns-within a n = nat_le a.turns n.turns && statements-within a n

abbrev nets-within : Counts → Counts → Bool
nets-within a n = nat_le a.nets n.nets && turns-within a n

abbrev instances-within : Counts → Counts → Bool
instances-within a n = nat_le a.instances n.instances && nets-within a n

pub within-plus : (a b n : Counts) → is_within (plus a b) n ≡ (is_within a n && is_within b (less n a))
within-plus a b n =
    let m = less n a in
    let c = plus a b in
    let s : statements-within c n ≡ (statements-within a n && statements-within b m) =
    with-number a.statements b.statements n.statements (nat_le c.variable_elements n.variable_elements) (nat_le a.variable_elements n.variable_elements)
    (nat_le b.variable_elements m.variable_elements) (both-within a.variable_elements b.variable_elements n.variable_elements) in
    let t = with-number a.turns b.turns n.turns (statements-within c n) (statements-within a n) (statements-within b m) s in
    let k = with-number a.nets b.nets n.nets (turns-within c n) (turns-within a n) (turns-within b m) t in
    let i = with-number a.instances b.instances n.instances (nets-within c n) (nets-within a n) (nets-within b m) k in
    with-number a.processes b.processes n.processes (instances-within c n) (instances-within a n) (instances-within b m) i

pub less-plus : (a b n : Counts) → less n (plus a b) ≡ less (less n a) b
less-plus a b n = each_number (λ k l m. m - (k + l)) (λ k l m. m - k - l) both-taken a b n

-- a budget that does not suffice is one problem
pub spent_told : (at : ℕ) (n c : Counts) (told : Told) → spent at n c ≡ Err told → told.0 ≡ TooMany
spent_told at n c told h = by (is_within c n) h
  where
    by : (t : Bool) → (unless TooMany at t >> given (less n c)) ≡ wrong told → told.0 ≡ TooMany
    by true k = absurd cc
    by false k = ap (λ (x : Told). x.0) (sym (same_told {A = Counts} (TooMany, at) told k))

pub spent-plus : (at : ℕ) (a b n : Counts) → spent at n (plus a b) ≡ (spent at n a >>= λ left. spent at left b)
spent-plus at a b n = (λ i. unless TooMany at (within-plus a b n i) >> given (less-plus a b n i)) ∙ go (is_within a n)
  where
    go : (x : Bool) → (unless TooMany at (x && is_within b (less n a)) >> given (less (less n a) b)) ≡ ((unless TooMany at x >> given (less n a)) >>= λ left. spent at left b)
    go true = refl
    go false = refl

-- nothing costs nothing
none-within : (n : Counts) → is_within no_costs n ≡ true
none-within n = grind (arith, nat_tests)

all-left : (n : Counts) → less n no_costs ≡ n
all-left n = each_number (λ k l m. m - 0) (λ k l m. m) (λ k l m. none-taken m) n n n

pub spent-none : (at : ℕ) (n : Counts) → spent at n no_costs ≡ Ok n
spent-none at n = (λ i. unless TooMany at (none-within n i) >> given (all-left n i))

pub plus-none : (a : Counts) → plus no_costs a ≡ a
plus-none a = each_number (λ k l m. 0 + m) (λ k l m. m) (λ k l m. none-more m) a a a

pub plus-assoc : (a b c : Counts) → plus (plus a b) c ≡ plus a (plus b c)
plus-assoc a b c = each_number (λ k l m. k + l + m) (λ k l m. k + (l + m)) sum_assoc a b c

-- ---- charging in turn

abbrev pub left_with : {X : Type 0} → X → Counts → Elab (X × Counts)
left_with x left = Ok (x, left)

-- One part, and then a part that may depend on it, of which a whole is made that costs as much as both.
module _ {X Y Z : Type 0} (cx : X → Counts) (cy : Y → Counts) (cz : Z → Counts) (join : X → Y → Z) (together : (x : X) (y : Y) → cz (join x y) ≡ plus (cx x) (cy y)) where
  pub charged_in_turn : (n : Counts) (p : Elab X) (f : X → Elab Y)
      → Alike (charged n cz (p >>= λ x. f x >>= λ y. given (join x y))) (charged n cx p >>= λ a. charged a.1 cy (f a.0) >>= λ b. left_with (join a.0 b.0) b.1)
  charged_in_turn n (Err told) f = alike_same refl
  charged_in_turn n (Ok x) f = alike_after (costs (f x)) (go (spent 0 n (cx x)) (spent_told 0 n (cx x)))
    where
      split : (y : Y) → (spent 0 n (cz (join x y)) >>= λ s. left_with (join x y) s) ≡ ((spent 0 n (cx x) >>= λ left. spent 0 left (cy y)) >>= λ s. left_with (join x y) s)
      split y = λ i. (ap (spent 0 n) (together x y) ∙ spent-plus 0 (cx x) (cy y) n) i >>= λ s. left_with (join x y) s

      costs : (r : Elab Y) → ((r >>= λ y. given (join x y)) >>= λ z. spent 0 n (cz z) >>= λ s. left_with z s) ≡ (r >>= λ y. (spent 0 n (cx x) >>= λ left. spent 0 left (cy y)) >>= λ s. left_with (join x y) s)
      costs (Ok y) = split y
      costs (Err told) = refl

      refused : (r : Elab Y) (told : Told) → IsErr (r >>= λ y. (wrong told >>= λ left. spent 0 left (cy y)) >>= λ s. left_with (join x y) s)
      refused (Ok y) told = refl
      refused (Err first) told = refl

      last : (y : Y) (r : Elab Counts) → (r >>= λ s. left_with (join x y) s) ≡ ((r >>= λ s. left_with y s) >>= λ b. left_with (join x b.0) b.1)
      last y (Ok s) = refl
      last y (Err told) = refl

      next : (left : Counts) (r : Elab Y) → (r >>= λ y. spent 0 left (cy y) >>= λ s. left_with (join x y) s) ≡ ((r >>= λ y. spent 0 left (cy y) >>= λ s. left_with y s) >>= λ b. left_with (join x b.0) b.1)
      next left (Ok y) = last y (spent 0 left (cy y))
      next left (Err told) = refl

      go : (t : Elab Counts) → ((told : Told) → t ≡ Err told → told.0 ≡ TooMany) → Alike (f x >>= λ y. (t >>= λ left. spent 0 left (cy y)) >>= λ s. left_with (join x y) s) ((t >>= λ s. left_with x s) >>= λ a. charged a.1 cy (f a.0) >>= λ b. left_with (join a.0 b.0) b.1)
      go (Ok left) only = alike_same (next left (f x))
      go (Err told) only = both_refused (only told refl) (refused (f x) told)

-- what costs as much as what it is made of
pub charged_made : {X Z : Type 0} (cx : X → Counts) (cz : Z → Counts) (make : X → Z) → ((x : X) → cz (make x) ≡ cx x) → (n : Counts) (p : Elab X)
    → charged n cz (p >>= λ x. given (make x)) ≡ (charged n cx p >>= λ a. left_with (make a.0) a.1)
charged_made cx cz make same n (Err told) = refl
charged_made cx cz make same n (Ok x) = (λ i. spent 0 n (same x i) >>= λ s. left_with (make x) s) ∙ go (spent 0 n (cx x))
  where
    go : (r : Elab Counts) → (r >>= λ s. left_with (make x) s) ≡ ((r >>= λ s. left_with x s) >>= λ a. left_with (make a.0) a.1)
    go (Ok s) = refl
    go (Err told) = refl
