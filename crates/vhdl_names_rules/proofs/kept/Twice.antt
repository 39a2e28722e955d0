-- Names that are distinct stand once, and names of which none stands twice are distinct.
use Rattle.std.proofs.Common.{◌≡◌, Bool, true, false, not, ◌||◌, cond, List, [], ◌∷◌, ◌++◌, refl, ap, sym, ◌∙◌}
use Rattle.std.specs.Prelude.{bytes_eq}
use Rattle.std.proofs.lemmas.Bool.{and_from}
use Rattle.std.proofs.lemmas.List.{append_assoc, append-nil, map-append}
use Rattle.std.proofs.lemmas.Slice.Eq.{bytes_eq-Decides}
use Rattle.vhdl_tree.specs.Tree.{Ident}
use Rattle.vhdl_names_rules.specs.declared.fault.NameProblem.TheVariants.{Twice}
use Rattle.vhdl_names_rules.specs.Visibility.{Name, Declared, names_of, is_among, are_distinct}
use Rattle.vhdl_names_rules.specs.Interfaces.{declared_names}
use Rattle.vhdl_names_rules.proofs.laws.Rules.{both, not_true, neither}
use Rattle.vhdl_names_rules.specs.problems.Broken.{Broken, refused}
use Rattle.vhdl_names_rules.specs.problems.Twice.{twice}
use Rattle.vhdl_names_rules.proofs.Telling.{IsKept}

-- ---- a name behind others

pub is_itself : (n : Name) → bytes_eq n n ≡ true
is_itself n = (bytes_eq-Decides n n).1 refl

pub among_more : (n : Name) (ns ms : List Name) → is_among n (ns ++ n ∷ ms) ≡ true
among_more n [] ms = ap (λ t. t || is_among n ms) (is_itself n)
among_more n (m ∷ ns) ms = go (bytes_eq n m) (among_more n ns ms)
  where
    go : (t : Bool) → is_among n (ns ++ n ∷ ms) ≡ true → (t || is_among n (ns ++ n ∷ ms)) ≡ true
    go true h = refl
    go false h = h

-- it is none of them
pub apart : (ns : List Name) (n : Name) (ms : List Name) → are_distinct (ns ++ n ∷ ms) ≡ true → is_among n ns ≡ false
apart [] n ms e = refl
apart (m ∷ ns) n ms e = go (bytes_eq n m) refl (apart ns n ms b.1)
  where
    b : (not (is_among m (ns ++ n ∷ ms)) ≡ true) × (are_distinct (ns ++ n ∷ ms) ≡ true)
    b = both (not (is_among m (ns ++ n ∷ ms))) (are_distinct (ns ++ n ∷ ms)) e

    go : (t : Bool) → bytes_eq n m ≡ t → is_among n ns ≡ false → (t || is_among n ns) ≡ false
    go true h k =
        let same : n ≡ m = (bytes_eq-Decides n m).0 h in
        let f : is_among m (ns ++ n ∷ ms) ≡ false = not_true (is_among m (ns ++ n ∷ ms)) b.0 in
        let g : is_among m (ns ++ n ∷ ms) ≡ true = ap (λ x. is_among x (ns ++ n ∷ ms)) (sym same) ∙ among_more n ns ms in
        absurd cc
    go false h k = k

-- a name that is among the first ones is among all
among_front : (n : Name) (ns ms : List Name) → is_among n (ns ++ ms) ≡ false → is_among n ns ≡ false
among_front n [] ms e = refl
among_front n (m ∷ ns) ms e =
    let b = neither (bytes_eq n m) (is_among n (ns ++ ms)) e in
    ap (λ t. t || is_among n ns) b.0 ∙ among_front n ns ms b.1

-- of distinct names the first ones are distinct
pub distinct_front : (ns ms : List Name) → are_distinct (ns ++ ms) ≡ true → are_distinct ns ≡ true
distinct_front [] ms e = refl
distinct_front (n ∷ ns) ms e =
    let b = both (not (is_among n (ns ++ ms))) (are_distinct (ns ++ ms)) e in
    and_from (not (is_among n ns)) (are_distinct ns) (ap not (among_front n ns ms (not_true (is_among n (ns ++ ms)) b.0))) (distinct_front ns ms b.1)

-- distinct names, and one that is none of them
pub distinct_next : (ns : List Name) (n : Name) → are_distinct ns ≡ true → is_among n ns ≡ false → are_distinct (ns ++ n ∷ []) ≡ true
distinct_next [] n e h = refl
distinct_next (m ∷ ns) n e h =
    let b = both (not (is_among m ns)) (are_distinct ns) e in
    let c = neither (bytes_eq n m) (is_among n ns) h in
    and_from (not (is_among m (ns ++ n ∷ []))) (are_distinct (ns ++ n ∷ [])) (ap not (others ns m n (not_true (is_among m ns) b.0) c.0)) (distinct_next ns n b.1 c.1)
  where
    other : (m n : Name) → bytes_eq n m ≡ false → bytes_eq m n ≡ false
    other m n h = go (bytes_eq m n) refl
      where
        go : (t : Bool) → bytes_eq m n ≡ t → t ≡ false
        go true k = absurd (let e : bytes_eq n m ≡ true = (bytes_eq-Decides n m).1 (sym ((bytes_eq-Decides m n).0 k)) in cc)
        go false k = refl

    others : (ns : List Name) (m n : Name) → is_among m ns ≡ false → bytes_eq n m ≡ false → is_among m (ns ++ n ∷ []) ≡ false
    others [] m n h k = ap (λ t. t || false) (other m n k)
    others (l ∷ ns) m n h k =
        let b = neither (bytes_eq m l) (is_among m ns) h in
        ap (λ t. t || is_among m (ns ++ n ∷ [])) b.0 ∙ others ns m n b.1 k

-- ---- names that stand twice

-- distinct names stand once
pub twice_kept : (names : List Name) (is : List Ident) → are_distinct (names ++ names_of is) ≡ true → IsKept (twice names is)
twice_kept names [] e = refl
twice_kept names (i ∷ is) e =
    ap (λ t. cond t (refused Twice i.at) (twice (names ++ i.text ∷ []) is)) (apart names i.text (names_of is) e)
    ∙ twice_kept (names ++ i.text ∷ []) is (ap are_distinct (append_assoc names (i.text ∷ []) (names_of is)) ∙ e)

-- a name that stands once is none of those before it
alone : (t : Bool) (i : Ident) (b : Broken) → IsKept (cond t (refused Twice i.at) b) → t ≡ false
alone true i b h = absurd cc
alone false i b h = refl

-- names that stand once are distinct
pub once_distinct : (names : List Name) (is : List Ident) → are_distinct names ≡ true → IsKept (twice names is) → are_distinct (names ++ names_of is) ≡ true
once_distinct names [] e h = ap are_distinct (append-nil names) ∙ e
once_distinct names (i ∷ is) e h =
    ap are_distinct (sym (append_assoc names (i.text ∷ []) (names_of is)))
    ∙ once_distinct (names ++ i.text ∷ []) is (distinct_next names i.text e (alone (is_among i.text names) i (twice (names ++ i.text ∷ []) is) h))
    (ap (λ t. cond t (refused Twice i.at) (twice (names ++ i.text ∷ []) is)) (sym (alone (is_among i.text names) i (twice (names ++ i.text ∷ []) is) h)) ∙ h)

-- ---- declarations

pub names_append : (ds es : List Declared) → declared_names (ds ++ es) ≡ declared_names ds ++ declared_names es
names_append ds es = map-append (λ (d : Declared). d.name) ds es
