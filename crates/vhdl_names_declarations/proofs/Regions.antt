-- Names of a region, and declarations that enter it.
use Rattle.std.proofs.Common.{◌≡◌, ℕ, suc, ◌+◌, ◌<◌, ◌≤◌, Bool, true, false, not, ◌&&◌, ◌||◌, List, [], ◌∷◌, ◌++◌, map, length, drop, get_or, Some, None, Vec, Global, refl, sym, ap, ◌∙◌, true≢false, append_assoc, append-nil, arith}
use Rattle.std.specs.Prelude.{bytes_eq, is_some}
use Rattle.std.specs.List.{IsDistinct}
use Rattle.std.specs.Map.{lookup, keys_of}
use Rattle.std.proofs.Math.Seq.{drop-cons}
use Rattle.std.proofs.lemmas.List.{map-append, drop_all}
use Rattle.std.proofs.lemmas.Slice.Eq.{bytes_eq-Decides}
use Rattle.vhdl_names_rules.specs.Rules.{◌>>=◌, met}
use Rattle.vhdl_names_rules.specs.Visibility as visibility
use Rattle.vhdl_tree.specs.declared.expression.Identifier.{Identifier}
use Rattle.vhdl_tree.specs.View.{ident_view}
use Rattle.vhdl_names_rules.specs.Visibility.{Name, names_of, Declared, Meaning, is_among, are_distinct, all_declared, numbered}
use Rattle.vhdl_names_rules.specs.Interfaces.{declared_names}
use Rattle.vhdl_names_sight.specs.declared.meaning.Entry.{Entry}
use Rattle.vhdl_names_sight.specs.Views.{entry_of, entry_view}
use Rattle.vhdl_names_declarations.specs.Entered.{more}
use Rattle.vhdl_names_declarations.proofs.Keyed.{among_table, table_apart}

-- ---- names

pub names-append : (ds es : List Declared) → declared_names (ds ++ es) ≡ declared_names ds ++ declared_names es
names-append [] es = refl
names-append (d ∷ ds) es = ap (λ ns. d.name ∷ ns) (names-append ds es)

pub names-numbered : (f : ℕ → Meaning) (k : ℕ) (ns : List Name) → declared_names (numbered f k ns) ≡ ns
names-numbered f k [] = refl
names-numbered f k (n ∷ ns) = ap (λ ns. n ∷ ns) (names-numbered f (suc k) ns)

pub names-all : (m : Meaning) (ns : List Name) → declared_names (all_declared m ns) ≡ ns
names-all m [] = refl
names-all m (n ∷ ns) = ap (λ ns. n ∷ ns) (names-all m ns)

among-append : (n : Name) (ms ns : List Name) → is_among n (ms ++ ns) ≡ is_among n ms || is_among n ns
among-append n [] ns = refl
among-append n (m ∷ ms) ns = go (bytes_eq n m) (among-append n ms ns)
  where
    go : (b : Bool) → is_among n (ms ++ ns) ≡ is_among n ms || is_among n ns → b || is_among n (ms ++ ns) ≡ (b || is_among n ms) || is_among n ns
    go true h = refl
    go false h = h

-- names that are not distinct are not among more
pub still_twice : (ms ns : List Name) → are_distinct ms ≡ false → are_distinct (ms ++ ns) ≡ false
still_twice [] ns h = absurd (true≢false h)
still_twice (m ∷ ms) ns h =
    ap (λ b. not b && are_distinct (ms ++ ns)) (among-append m ms ns) ∙ go (is_among m ms) h (still_twice ms ns)
  where
    go : (b : Bool) → not b && are_distinct ms ≡ false → (are_distinct ms ≡ false → are_distinct (ms ++ ns) ≡ false)
        → not (b || is_among m ns) && are_distinct (ms ++ ns) ≡ false
    go true h more = refl
    go false h more = after (is_among m ns) (more h)
      where
        after : (c : Bool) → are_distinct (ms ++ ns) ≡ false → not c && are_distinct (ms ++ ns) ≡ false
        after true h = refl
        after false h = h

bytes_eq-sym : (m n : Name) → bytes_eq m n ≡ bytes_eq n m
bytes_eq-sym m n = go (bytes_eq m n) refl (bytes_eq n m) refl
  where
    go : (b : Bool) → bytes_eq m n ≡ b → (c : Bool) → bytes_eq n m ≡ c → b ≡ c
    go true p true q = refl
    go true p false q = sym ((bytes_eq-Decides n m).1 (sym ((bytes_eq-Decides m n).0 p))) ∙ q
    go false p true q = sym p ∙ (bytes_eq-Decides m n).1 (sym ((bytes_eq-Decides n m).0 q))
    go false p false q = refl

-- one name more
distinct-last : (ms : List Name) (n : Name) → are_distinct (ms ++ n ∷ []) ≡ are_distinct ms && not (is_among n ms)
distinct-last [] n = refl
distinct-last (m ∷ ms) n =
    ap (λ b. not b && are_distinct (ms ++ n ∷ [])) (among-append m ms (n ∷ []))
    ∙ ap (λ b. not (is_among m ms || (b || false)) && are_distinct (ms ++ n ∷ [])) (bytes_eq-sym m n)
    ∙ ap (λ b. not (is_among m ms || (bytes_eq n m || false)) && b) (distinct-last ms n)
    ∙ go (is_among m ms) (bytes_eq n m) (are_distinct ms) (is_among n ms)
  where
    go : (a b c d : Bool) → not (a || (b || false)) && (c && not d) ≡ (not a && c) && not (b || d)
    go true b c d = refl
    go false true true d = refl
    go false true false d = refl
    go false false c d = refl

-- ---- regions

pub more_split : (ds es fs : List Declared) → more ds (es ++ fs) ≡ (more ds es >>= λ r. more r fs)
more_split ds es fs =
    ap (λ l. met (are_distinct (declared_names l)) >>= λ _. Some l) (sym (append_assoc ds es fs)) ∙ go (are_distinct (declared_names (ds ++ es))) refl
  where
    go : (b : Bool) → are_distinct (declared_names (ds ++ es)) ≡ b
        → (met (are_distinct (declared_names ((ds ++ es) ++ fs))) >>= λ _. Some ((ds ++ es) ++ fs)) ≡ ((met b >>= λ _. Some (ds ++ es)) >>= λ r. more r fs)
    go true h = refl
    go false h =
        ap (λ b. met b >>= λ _. Some ((ds ++ es) ++ fs))
        (ap are_distinct (names-append (ds ++ es) fs) ∙ still_twice (declared_names (ds ++ es)) (declared_names fs) h)

pub more_none : (ds : List Declared) → are_distinct (declared_names ds) ≡ true → more ds [] ≡ Some ds
more_none ds h =
    ap (λ l. met (are_distinct (declared_names l)) >>= λ _. Some l) (append-nil ds) ∙ ap (λ b. met b >>= λ _. Some ds) h

more_last : (ds : List Declared) (d : Declared) → are_distinct (declared_names ds) ≡ true →
    more ds (d ∷ []) ≡ (met (not (is_among d.name (declared_names ds))) >>= λ _. Some (ds ++ d ∷ []))
more_last ds d h =
    ap (λ b. met b >>= λ _. Some (ds ++ d ∷ []))
    (ap are_distinct (names-append ds (d ∷ [])) ∙ distinct-last (declared_names ds) d.name ∙ ap (λ b. b && not (is_among d.name (declared_names ds))) h)

-- ---- tables

pub among_keys : (n : Name) (es : List (Vec ℕ Global × Entry)) → is_some (lookup (λ k. bytes_eq n k.items) es) ≡ is_among n (declared_names (map entry_view es))
among_keys = among_table entry_view (λ (d : Declared). d.name) (λ e. refl)

pub names_apart : (es : List (Vec ℕ Global × Entry)) → IsDistinct (λ a b. bytes_eq a.items b.items) (keys_of es)
    → are_distinct (declared_names (map entry_view es)) ≡ true
names_apart = table_apart entry_view (λ (d : Declared). d.name) (λ e. refl)

pub refused : (es : List (Vec ℕ Global × Entry)) (d : Declared) → IsDistinct (λ a b. bytes_eq a.items b.items) (keys_of es)
    → is_some (lookup (λ k. bytes_eq d.name k.items) es) ≡ true → more (map entry_view es) (d ∷ []) ≡ None
refused es d apart there =
    more_last (map entry_view es) d (names_apart es apart)
    ∙ ap (λ b. met (not b) >>= λ _. Some (map entry_view es ++ d ∷ [])) (sym (among_keys d.name es) ∙ there)

pub grown : (es es' : List (Vec ℕ Global × Entry)) (n : Name) (key : Vec ℕ Global) (e : Entry) → IsDistinct (λ a b. bytes_eq a.items b.items) (keys_of es)
    → is_some (lookup (λ k. bytes_eq n k.items) es) ≡ false → key.items ≡ n → es' ≡ es ++ (key, e) ∷ []
    → more (map entry_view es) (entry_of n e ∷ []) ≡ Some (map entry_view es')
grown es es' n key e apart new same is =
    more_last (map entry_view es) (entry_of n e) (names_apart es apart)
    ∙ ap (λ b. met (not b) >>= λ _. Some (map entry_view es ++ entry_of n e ∷ [])) (sym (among_keys n es) ∙ new)
    ∙ ap (λ t. Some (map entry_view es ++ entry_of t e ∷ [])) (sym same)
    ∙ ap Some (sym (map-append entry_view es ((key, e) ∷ []))) ∙ ap (λ l. Some (map entry_view l)) (sym is)

-- ---- names of one meaning

abbrev pub all_of_names : Meaning → List Identifier → List Declared
all_of_names m names = all_declared m (names_of (map ident_view names))

pub next_name : (ds : List Declared) (m : Meaning) (names : List Identifier) (i : ℕ) (n : Identifier) → i < length names → n ≡ get_or names i n →
    more ds (all_of_names m (drop i names)) ≡ (more ds (visibility.declare n.text.items m ∷ []) >>= λ r. more r (all_of_names m (drop (i + 1) names)))
next_name ds m names i n lt is =
    let s : suc i ≡ i + 1 = omega arith in
    ap (λ l. more ds (all_of_names m l)) (drop-cons names i n lt)
    ∙ ap (λ k. more ds (visibility.declare k.text.items m ∷ all_of_names m (drop (suc i) names))) (sym is)
    ∙ more_split ds (visibility.declare n.text.items m ∷ []) (all_of_names m (drop (suc i) names))
    ∙ ap (λ k. more ds (visibility.declare n.text.items m ∷ []) >>= λ r. more r (all_of_names m (drop k names))) s

pub no_names : (es : List (Vec ℕ Global × Entry)) (m : Meaning) (names : List Identifier) (i : ℕ) → length names ≤ i → IsDistinct (λ a b. bytes_eq a.items b.items) (keys_of es) →
    more (map entry_view es) (all_of_names m (drop i names)) ≡ Some (map entry_view es)
no_names es m names i le apart = ap (λ l. more (map entry_view es) (all_of_names m l)) (drop_all i names le) ∙ more_none (map entry_view es) (names_apart es apart)

-- ---- declarations one by one

pub next_of : {X : Type 0} (view : X → Declared) (ds : List Declared) (xs : List X) (i : ℕ) (none : X) → i < length xs →
    more ds (map view (drop i xs)) ≡ (more ds (view (get_or xs i none) ∷ []) >>= λ r. more r (map view (drop (i + 1) xs)))
next_of view ds xs i none lt =
    let s : suc i ≡ i + 1 = omega arith in
    ap (λ l. more ds (map view l)) (drop-cons xs i none lt)
    ∙ more_split ds (view (get_or xs i none) ∷ []) (map view (drop (suc i) xs))
    ∙ ap (λ k. more ds (view (get_or xs i none) ∷ []) >>= λ r. more r (map view (drop k xs))) s

pub none_left : {X : Type 0} (view : X → Declared) (es : List (Vec ℕ Global × Entry)) (xs : List X) (i : ℕ) → length xs ≤ i → IsDistinct (λ a b. bytes_eq a.items b.items) (keys_of es) →
    more (map entry_view es) (map view (drop i xs)) ≡ Some (map entry_view es)
none_left view es xs i le apart = ap (λ l. more (map entry_view es) (map view l)) (drop_all i xs le) ∙ more_none (map entry_view es) (names_apart es apart)
