-- Searches over statements and conditions, one further.
use Rattle.std.proofs.Common.{◌≡◌, ℕ, ◌+◌, ◌-◌, ◌<◌, ◌≤◌, List, [], ◌∷◌, ◌++◌, length, get_or, drop, take, zero, suc, Bool, true, false, not, ◌&&◌, ◌||◌, Option, Some, None, refl, sym, ap, ◌∙◌, arith}
use Rattle.std.specs.Prelude.{is_some, if◌then◌else◌, option_map, option_and_then}
use Rattle.std.specs.List.{list_any}
use Rattle.std.proofs.lemmas.List.{at_drop_more, at_drop_all, take_all, take_more}
use Rattle.rtl_model.specs.bodies.Body.{Test, Branches}
use Rattle.rtl_net.specs.declared.body.Statement.{Statement}
use Rattle.rtl_mixed_reasons.specs.Edges.{edge_of, is_gated}
use Rattle.rtl_mixed_reasons.specs.declared.edges.EdgeTest.{EdgeTest}
use Rattle.rtl_mixed_reasons.specs.declared.ifs.EdgeIf.{EdgeIf}
use Rattle.std.specs.Option.{option_or}
use Rattle.rtl_mixed_reasons.specs.declared.reason.Reason.{Reason}
use Rattle.rtl_net.specs.declared.process.Process.{Process}
use Rattle.rtl_mixed_reasons.specs.Reasons.{at_of, if_branches, conditions, first_edge, edge_if, edge_in, first_in, same_edge, same_again, other_edge, first_net, assigns_in, second_edge, second_if, first_that_fits, first_gated, may_reset, but_reset}

-- one of two, by whether the first is there
pub one-is : {A : Type 0} (a b : Option A) (x : A) → a ≡ Some x → (if is_some a then a else b) ≡ Some x
one-is a b x e = ap (λ (c : Option _). if is_some c then c else b) e

pub one-none : {A : Type 0} (a b : Option A) → a ≡ None → (if is_some a then a else b) ≡ b
one-none a b e = ap (λ (c : Option _). if is_some c then c else b) e

-- a search by steps: what is left at a place, told by what stands there and by what comes behind
module _ {X A : Type 0} (f : X → Option A) (search next : List X → Option A) (xs : List X) (i : ℕ)
    (goes : (x : X) (rest : List X) → search (x ∷ rest) ≡ (if is_some (f x) then f x else next rest)) where
  here : (x : X) → i < length xs → x ≡ get_or xs i x → search (drop i xs) ≡ (if is_some (f x) then f x else next (drop (i + 1) xs))
  here x l e = at_drop_more search xs i x l ∙ (ap (λ (y : X). search (y ∷ drop (i + 1) xs)) (sym e) ∙ goes x (drop (i + 1) xs))

  pub found : (x : X) (a : A) (all : Option A) → i < length xs → x ≡ get_or xs i x → search (drop i xs) ≡ all → f x ≡ Some a → Some a ≡ all
  found x a all l e inv is = sym (one-is (f x) (next (drop (i + 1) xs)) a is) ∙ (sym (here x l e) ∙ inv)

  pub passed : (x : X) (all : Option A) → i < length xs → x ≡ get_or xs i x → search (drop i xs) ≡ all → f x ≡ None → next (drop (i + 1) xs) ≡ all
  passed x all l e inv is = sym (one-none (f x) (next (drop (i + 1) xs)) is) ∙ (sym (here x l e) ∙ inv)

  pub found-so : (x : X) (a all : Option A) → i < length xs → x ≡ get_or xs i x → search (drop i xs) ≡ all → a ≡ f x → is_some a ≡ true → a ≡ all
  found-so x a all l e inv is so = is ∙ (sym (ap (λ (b : Bool). if b then f x else next (drop (i + 1) xs)) (ap is_some (sym is) ∙ so)) ∙ (sym (here x l e) ∙ inv))

  pub passed-so : (x : X) (a all : Option A) → i < length xs → x ≡ get_or xs i x → search (drop i xs) ≡ all → a ≡ f x → is_some a ≡ false → next (drop (i + 1) xs) ≡ all
  passed-so x a all l e inv is so = sym (ap (λ (b : Bool). if b then f x else next (drop (i + 1) xs)) (ap is_some (sym is) ∙ so)) ∙ (sym (here x l e) ∙ inv)

pub ended : {X A : Type 0} (search : List X → Option A) (xs : List X) (i : ℕ) (all : Option A) → length xs ≤ i → search [] ≡ None → search (drop i xs) ≡ all → None ≡ all
ended search xs i all l none inv = sym none ∙ (sym (at_drop_all search xs i l) ∙ inv)

-- the same of the first statement of which something is told
module _ {A : Type 0} (f : Statement → Option A) (xs : List Statement) (i : ℕ) (x : Statement) (all : Option A) (there : i < length xs) (is : x ≡ get_or xs i x) (inv : first_in f (drop i xs) ≡ all) where
  pub first-found : (a : Option A) → a ≡ f x → is_some a ≡ true → a ≡ all
  first-found a e so = found-so f (first_in f) (first_in f) xs i (λ x rest. refl) x a all there is inv e so

  pub first-passed : (a : Option A) → a ≡ f x → is_some a ≡ false → first_in f (drop (i + 1) xs) ≡ all
  first-passed a e so = passed-so f (first_in f) (first_in f) xs i (λ x rest. refl) x a all there is inv e so

-- ---- searches that count on

abbrev pub edge-one : (number at before : ℕ) → Option EdgeTest → Option EdgeIf
edge-one number at before o = option_map (λ e. record { number = number; at = at; before = before; edge = e }) o

pub edge-step : (number at before : ℕ) (t : Test) (ts : List Test)
    → edge_in number at before (t ∷ ts) ≡ (if is_some (edge-one number at before (edge_of t)) then edge-one number at before (edge_of t) else edge_in number at (before + 1) ts)
edge-step number at before t ts = go (edge_of t)
  where
    go : (o : Option EdgeTest)
        → (if is_some o then edge-one number at before o else edge_in number at (before + 1) ts)
        ≡ (if is_some (edge-one number at before o) then edge-one number at before o else edge_in number at (before + 1) ts)
    go None = refl
    go (Some e) = refl

-- a search for one that fits
module _ {X : Type 0} (p : X → Bool) (xs : List X) (i : ℕ) (x : X) (all : Bool) (there : i < length xs) (is : x ≡ get_or xs i x) (inv : list_any p (drop i xs) ≡ all) where
  any-here : (p x || list_any p (drop (i + 1) xs)) ≡ all
  any-here = sym (at_drop_more (list_any p) xs i x there ∙ ap (λ (y : X). list_any p (y ∷ drop (i + 1) xs)) (sym is)) ∙ inv

  pub any-found : p x ≡ true → true ≡ all
  any-found e = sym (ap (λ (b : Bool). b || list_any p (drop (i + 1) xs)) e) ∙ any-here

  pub any-passed : p x ≡ false → list_any p (drop (i + 1) xs) ≡ all
  any-passed e = sym (ap (λ (b : Bool). b || list_any p (drop (i + 1) xs)) e) ∙ any-here

pub taken-at : (n : ℕ) (ts : List Test) (i : ℕ) (x : Test) → i < n → x ≡ get_or ts i x → x ≡ get_or (take n ts) i x
taken-at zero ts i x l e = absurd (omega arith)
taken-at (suc n) [] i x l e = e
taken-at (suc n) (t ∷ ts) zero x l e = e
taken-at (suc n) (t ∷ ts) (suc i) x l e = taken-at n ts i x (omega arith) e

pub taken-there : (n : ℕ) (ts : List Test) (i : ℕ) → i < n → i < length ts → i < length (take n ts)
taken-there zero ts i l k = absurd (omega arith)
taken-there (suc n) [] i l k = k
taken-there (suc n) (t ∷ ts) zero l k = omega arith
taken-there (suc n) (t ∷ ts) (suc i) l k = let r : i < length (take n ts) = taken-there n ts i (omega arith) (omega arith) in omega arith

pub from-not : (a r b : Bool) → a ≡ not r → r ≡ b → not a ≡ b
from-not a true b e f = ap not e ∙ f
from-not a false b e f = ap not e ∙ f

-- ---- the first gated condition, as a search

abbrev pub gated-one : (before : ℕ) → Test → Option ℕ
gated-one before t = if is_gated t then Some before else None

pub gated-step : (before : ℕ) (t : Test) (ts : List Test) → first_gated before (t ∷ ts) ≡ (if is_some (gated-one before t) then gated-one before t else first_gated (before + 1) ts)
gated-step before t ts = go (is_gated t)
  where
    go : (b : Bool) → (if b then Some before else first_gated (before + 1) ts) ≡ (if is_some (if b then Some before else None) then (if b then Some before else None) else first_gated (before + 1) ts)
    go true = refl
    go false = refl

-- ---- an if with an edge stands among the statements in which it is found

number_of : Option EdgeIf → ℕ
number_of None = 0
number_of (Some i) = i.number

edge-number : (number at before : ℕ) (ts : List Test) (j : EdgeIf) → edge_in number at before ts ≡ Some j → j.number ≡ number
unfolding number_of
edge-number number at before [] j e = absurd cc
edge-number number at before (t ∷ ts) j e = go (edge_of t) e (edge-number number at (before + 1) ts j)
  where
    go : (o : Option EdgeTest)
        → (if is_some o then option_map (λ e. record { number = number; at = at; before = before; edge = e }) o else edge_in number at (before + 1) ts) ≡ Some j
        → (edge_in number at (before + 1) ts ≡ Some j → j.number ≡ number) → j.number ≡ number
    go None k behind = behind k
    go (Some x) k behind = sym (ap number_of k)

if-number : (number : ℕ) (x : Statement) (j : EdgeIf) → edge_if number x ≡ Some j → j.number ≡ number
if-number number x j e = go (if_branches x) e
  where
    go : (o : Option Branches) → option_and_then (λ bs. edge_in number (at_of x) 0 (conditions bs)) o ≡ Some j → j.number ≡ number
    go None k = absurd cc
    go (Some bs) k = edge-number number (at_of x) 0 (conditions bs) j k

pub edge-there : (number : ℕ) (xs : List Statement) (i : EdgeIf) → first_edge number xs ≡ Some i → i.number < number + length xs
unfolding number_of
edge-there number [] i h = absurd cc
edge-there number (x ∷ xs) i h = go (edge_if number x) refl h (edge-there (number + 1) xs i)
  where
    go : (o : Option EdgeIf) → edge_if number x ≡ o → (if is_some o then o else first_edge (number + 1) xs) ≡ Some i
        → (first_edge (number + 1) xs ≡ Some i → i.number < (number + 1) + length xs) → i.number < number + length (x ∷ xs)
    go None e k behind = let rest : i.number < (number + 1) + length xs = behind k in omega arith
    go (Some j) e k behind = let same : j.number ≡ i.number = ap number_of k in let here : j.number ≡ number = if-number number x j e in omega arith

-- ---- the first of some that fits

pub first-fits : (a r : Option Reason) (rs : List (Option Reason)) → a ≡ r → is_some a ≡ true → a ≡ first_that_fits (r ∷ rs)
first-fits a r rs e so = e ∙ sym (ap (λ (b : Bool). if b then r else first_that_fits rs) (sym (ap is_some e) ∙ so))

pub later-fits : (a r b : Option Reason) (rs : List (Option Reason)) → a ≡ r → is_some a ≡ false → b ≡ first_that_fits rs → b ≡ first_that_fits (r ∷ rs)
later-fits a r b rs e none is = is ∙ sym (ap (λ (y : Bool). if y then r else first_that_fits rs) (sym (ap is_some e) ∙ none))

pub only-fits : (r : Option Reason) → r ≡ first_that_fits (r ∷ [])
only-fits None = refl
only-fits (Some x) = refl

pub in-both : {A : Type 0} (f : Statement → Option A) (xs ys : List Statement) → first_in f (xs ++ ys) ≡ option_or (first_in f xs) (first_in f ys)
in-both f [] ys = refl
in-both f (x ∷ xs) ys = go (f x) (in-both f xs ys)
  where
    go : (a : Option _) → first_in f (xs ++ ys) ≡ option_or (first_in f xs) (first_in f ys)
        → (if is_some a then a else first_in f (xs ++ ys)) ≡ option_or (if is_some a then a else first_in f xs) (first_in f ys)
    go None e = e
    go (Some y) e = refl

module _ {A : Type 0} (f : Statement → Option A) (xs ys : List Statement) (a : Option A) (first : a ≡ first_in f xs) where
  kept : (a b : Option A) → is_some a ≡ true → a ≡ option_or a b
  kept None b so = absurd cc
  kept (Some x) b so = refl

  other : (a b : Option A) → is_some a ≡ false → b ≡ option_or a b
  other None b none = refl
  other (Some x) b none = absurd cc

  pub both-first : is_some a ≡ true → a ≡ first_in f (xs ++ ys)
  both-first so = kept a (first_in f ys) so ∙ (ap (λ o. option_or o (first_in f ys)) first ∙ sym (in-both f xs ys))

  pub both-later : (b : Option A) → is_some a ≡ false → b ≡ first_in f ys → b ≡ first_in f (xs ++ ys)
  both-later b none is = is ∙ (other a (first_in f ys) none ∙ (ap (λ o. option_or o (first_in f ys)) first ∙ sym (in-both f xs ys)))

-- what stands behind a statement, as a slice
drop-length : {A : Type 0} (k : ℕ) (xs : List A) → length (drop k xs) ≤ length xs - k
drop-length zero xs = omega arith
drop-length (suc k) [] = omega arith
drop-length (suc k) (x ∷ xs) = let l : length (drop k xs) ≤ length xs - k = drop-length k xs in omega arith

pub behind-is : {A : Type 0} (k : ℕ) (xs ys : List A) → xs ≡ ys → take (length xs - k) (drop k xs) ≡ drop k ys
behind-is k xs ys e = take_all (length xs - k) (drop k xs) (drop-length k xs) ∙ ap (drop k) e

-- ---- what is told of a further statement

module _ (wide : Bool) (p : Process) (x y : Statement) (i : EdgeIf) where
  pub no-second : edge_if 0 y ≡ None → None ≡ second_if wide p x i y
  no-second e = sym (ap (option_and_then (second_edge wide p x y i)) e)

  pub second-is : (j : EdgeIf) (same : Bool) → edge_if 0 y ≡ Some j → same_edge i.edge j.edge ≡ same
      → (if same then same_again wide x y i.at j.at else Some (other_edge j.at (first_net p (λ n. assigns_in p x n && assigns_in p y n)))) ≡ second_if wide p x i y
  second-is j same e so =
      sym (ap (option_and_then (second_edge wide p x y i)) e
      ∙ ap (λ (b : Bool). if b then same_again wide x y i.at j.at else Some (other_edge j.at (first_net p (λ n. assigns_in p x n && assigns_in p y n)))) so)

-- ---- statements but for the reset among them

append-one : (xs : List Statement) (x : Statement) (rest : List Statement) → (xs ++ x ∷ []) ++ rest ≡ xs ++ x ∷ rest
append-one [] x rest = refl
append-one (y ∷ xs) x rest = ap (λ (ys : List Statement). y ∷ ys) (append-one xs x rest)

module _ (xs : List Statement) (i : ℕ) (x : Statement) (there : i < length xs) (is : x ≡ get_or xs i x) (kept : take i xs ++ but_reset (drop i xs) ≡ but_reset xs) where
  but-here : (so : Bool) → may_reset x ≡ so → but_reset (drop i xs) ≡ (if so then drop (i + 1) xs else x ∷ but_reset (drop (i + 1) xs))
  but-here so e =
      at_drop_more but_reset xs i x there ∙ (ap (λ (y : Statement). but_reset (y ∷ drop (i + 1) xs)) (sym is)
      ∙ ap (λ (b : Bool). if b then drop (i + 1) xs else x ∷ but_reset (drop (i + 1) xs)) e)

  pub but-found : may_reset x ≡ true → take i xs ++ drop (i + 1) xs ≡ but_reset xs
  but-found e = ap (λ (ys : List Statement). take i xs ++ ys) (sym (but-here true e)) ∙ kept

  pub but-passed : may_reset x ≡ false → take (i + 1) xs ++ but_reset (drop (i + 1) xs) ≡ but_reset xs
  but-passed e =
      ap (λ (ys : List Statement). ys ++ but_reset (drop (i + 1) xs)) (take_more xs i x there ∙ ap (λ (y : Statement). take i xs ++ y ∷ []) (sym is))
      ∙ (append-one (take i xs) x (but_reset (drop (i + 1) xs)) ∙ (ap (λ (ys : List Statement). take i xs ++ ys) (sym (but-here false e)) ∙ kept))

pub but-ended : (xs : List Statement) (i : ℕ) → length xs ≤ i → take i xs ++ but_reset (drop i xs) ≡ but_reset xs → xs ++ [] ≡ but_reset xs
but-ended xs i l kept = sym (λ j. take_all i xs l j ++ at_drop_all but_reset xs i l j) ∙ kept
