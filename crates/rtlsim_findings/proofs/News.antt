-- What is like nothing before it, by a set of keys.
use Rattle.std.proofs.Common.{◌≡◌, ℕ, ◌==◌, Bool, true, false, not, ◌&&◌, ◌||◌, List, [], ◌∷◌, ◌++◌, map, Option, Vec, Global, refl, sym, ap, ◌∙◌, append_assoc}
use Rattle.std.specs.List.{list_any}
use Rattle.std.specs.Option.{option_eq}
use Rattle.std.specs.Prelude.{if◌then◌else◌, bytes_eq}
use Rattle.std.proofs.lemmas.List.{append-nil, map-append, map-id}
use Rattle.indexmap.specs.IndexSet.{insert_key}
use Rattle.rtl_model.specs.simulation.Accepted.{Fault}
use Rattle.rtlsim_findings.specs.Causes.{is_of, first_process, second_process}
use Rattle.rtlsim_findings.specs.Once.{new_one, each_new}
use Rattle.rtlsim_findings.specs.steps.Pairs.{pair_of}
use Rattle.rtlsim_findings.proofs.Keys.{numbers}

any-map : {A C : Type 0} (test : A → Bool) (same : C → Bool) (h : A → C) → ((a : A) → test a ≡ same (h a)) → (xs : List A) → list_any test xs ≡ list_any same (map h xs)
any-map test same h by [] = refl
any-map test same h by (x ∷ xs) = λ i. by x i || any-map test same h by xs i

-- things with a mark each, and keys with the same marks
module _ {A K C : Type 0} (alike : A → A → Bool) (eq : K → K → Bool) (same : C → C → Bool) (h : A → C) (g : K → C)
    (things : (a b : A) → alike a b ≡ same (h a) (h b)) (keys : (k l : K) → eq k l ≡ same (g k) (g l))
    (before : List A) (old : List K) (are : map g old ≡ map h before) (x : A) (k : K) (is : g k ≡ h x) where
  any-is : list_any (eq k) old ≡ list_any (alike x) before
  any-is =
      any-map (eq k) (same (g k)) g (keys k) old ∙ (λ i. list_any (same (is i)) (are i))
      ∙ sym (any-map (alike x) (same (h x)) h (things x) before)

  pub next-keys : (new : List K) → new ≡ insert_key eq old k → map g new ≡ map h (before ++ new_one alike before x)
  next-keys new put = ap (map g) put ∙ go (list_any (eq k) old) (list_any (alike x) before) any-is
    where
      go : (c b : Bool) → c ≡ b → map g (if c then old else old ++ k ∷ []) ≡ map h (before ++ (if b then [] else x ∷ []))
      go true true e = are ∙ ap (map h) (sym (append-nil before))
      go true false e = absurd cc
      go false true e = absurd cc
      go false false e = map-append g old (k ∷ []) ∙ (λ i. are i ++ is i ∷ []) ∙ sym (map-append h before (x ∷ []))

  pub new-is : (so : Bool) → so ≡ not (list_any (eq k) old) → (if so then x ∷ [] else []) ≡ new_one alike before x
  new-is so told = go so (list_any (eq k) old) (list_any (alike x) before) told any-is
    where
      go : (s c b : Bool) → s ≡ not c → c ≡ b → (if s then x ∷ [] else []) ≡ (if b then [] else x ∷ [])
      go true true b t e = absurd cc
      go true false true t e = absurd cc
      go true false false t e = refl
      go false true true t e = refl
      go false true false t e = absurd cc
      go false false b t e = absurd cc

-- one more is taken, if it is new
pub whole-more : {A : Type 0} (alike : A → A → Bool) (first : A) (names new left rest : List A) (x : A) (p all : List A) → new ≡ names ++ p → p ≡ new_one alike (first ∷ names) x → left ≡ x ∷ rest
    → names ++ each_new alike (first ∷ names) left ≡ all → new ++ each_new alike (first ∷ new) rest ≡ all
whole-more alike first names new left rest x p all put is are so_far =
    (λ i. n i ++ each_new alike (first ∷ n i) rest)
    ∙ (append_assoc names (new_one alike (first ∷ names) x) (each_new alike (first ∷ (names ++ new_one alike (first ∷ names) x)) rest)
    ∙ (sym (ap (λ ls. names ++ each_new alike (first ∷ names) ls) are) ∙ so_far))
  where
    n : new ≡ names ++ new_one alike (first ∷ names) x
    n = put ∙ ap (λ t. names ++ t) is

-- ---- of faults, by the pairs of their processes

abbrev pub Pair : Type 0
Pair = Option ℕ × Option ℕ

abbrev pub same_pair : Pair → Pair → Bool
same_pair x y = option_eq ◌==◌ x.0 y.0 && option_eq ◌==◌ x.1 y.1

of-pairs : (a b : Fault) → is_of a b ≡ same_pair (pair_of a) (pair_of b)
of-pairs a b = λ i. sym (numbers (first_process a) (first_process b)) i && sym (numbers (second_process a) (second_process b)) i

module _ (before : List Fault) (old : List Pair) (are : old ≡ map pair_of before) (x : Fault) (pair : Pair) (is : pair ≡ pair_of x) where
  pub next-pairs : (new : List Pair) → new ≡ insert_key same_pair old pair → new ≡ map pair_of (before ++ new_one is_of before x)
  next-pairs new put =
      sym (map-id new) ∙ next-keys is_of same_pair same_pair pair_of (λ k. k) of-pairs (λ k l. refl) before old (map-id old ∙ are) x pair is new put

  pub fault-is-new : (so : Bool) → so ≡ not (list_any (same_pair pair) old) → (if so then x ∷ [] else []) ≡ new_one is_of before x
  fault-is-new = new-is is_of same_pair same_pair pair_of (λ k. k) of-pairs (λ k l. refl) before old (map-id old ∙ are) x pair is

-- ---- of names

abbrev pub same_name : Vec ℕ Global → Vec ℕ Global → Bool
same_name a b = bytes_eq a.items b.items

module _ (before : List (List ℕ)) (old : List (Vec ℕ Global)) (are : map (λ (v : Vec ℕ Global). v.items) old ≡ before) (x : List ℕ) (name : Vec ℕ Global) (is : name.items ≡ x) where
  pub next-names : (new : List (Vec ℕ Global)) → new ≡ insert_key same_name old name → map (λ (v : Vec ℕ Global). v.items) new ≡ before ++ new_one bytes_eq before x
  next-names new put =
      next-keys bytes_eq same_name bytes_eq (λ n. n) (λ v. v.items) (λ a b. refl) (λ k l. refl) before old (are ∙ sym (map-id before)) x name is new put
      ∙ map-id (before ++ new_one bytes_eq before x)

  pub name-is-new : (so : Bool) → so ≡ not (list_any (same_name name) old) → (if so then x ∷ [] else []) ≡ new_one bytes_eq before x
  name-is-new = new-is bytes_eq same_name bytes_eq (λ n. n) (λ v. v.items) (λ a b. refl) (λ k l. refl) before old (are ∙ sym (map-id before)) x name is

-- ---- one more of a list

-- a fault more: what the pairs are then, and what is left
pub one-fault : (first : Fault) (faults new left rest : List Fault) (told now : List Pair) (x : Fault) (pair : Pair) (so : Bool) (all : List Fault)
    → told ≡ map pair_of (first ∷ faults) → now ≡ insert_key same_pair told pair → pair ≡ pair_of x → so ≡ not (list_any (same_pair pair) told)
    → new ≡ faults ++ (if so then x ∷ [] else []) → left ≡ x ∷ rest → faults ++ each_new is_of (first ∷ faults) left ≡ all
    → (now ≡ map pair_of (first ∷ new)) × (new ++ each_new is_of (first ∷ new) rest ≡ all)
one-fault first faults new left rest told now x pair so all are put is tells pushed head so_far =
    let p : (if so then x ∷ [] else []) ≡ new_one is_of (first ∷ faults) x = fault-is-new (first ∷ faults) told are x pair is so tells in (
      next-pairs (first ∷ faults) told are x pair is now put ∙ ap (λ fs. map pair_of (first ∷ fs)) (sym (pushed ∙ ap (λ t. faults ++ t) p)),
      whole-more is_of first faults new left rest x _ all pushed p head so_far,
    )

-- a name more
pub one-name : (first : List ℕ) (names new left rest : List (List ℕ)) (told now : List (Vec ℕ Global)) (x : List ℕ) (key name : Vec ℕ Global) (so : Bool) (all : List (List ℕ))
    → map (λ (v : Vec ℕ Global). v.items) told ≡ first ∷ names → now ≡ insert_key same_name told key → key.items ≡ x → so ≡ not (list_any (same_name key) told)
    → new ≡ names ++ (if so then name.items ∷ [] else []) → name.items ≡ x → left ≡ x ∷ rest → names ++ each_new bytes_eq (first ∷ names) left ≡ all
    → (map (λ (v : Vec ℕ Global). v.items) now ≡ first ∷ new) × (new ++ each_new bytes_eq (first ∷ new) rest ≡ all)
one-name first names new left rest told now x key name so all are put is tells pushed named head so_far =
    let p : (if so then name.items ∷ [] else []) ≡ new_one bytes_eq (first ∷ names) x =
    ap (λ (t : List ℕ). if so then t ∷ [] else []) named ∙ name-is-new (first ∷ names) told are x key is so tells in (
      next-names (first ∷ names) told are x key is now put ∙ ap (λ ns. first ∷ ns) (sym (pushed ∙ ap (λ t. names ++ t) p)),
      whole-more bytes_eq first names new left rest x _ all pushed p head so_far,
    )
