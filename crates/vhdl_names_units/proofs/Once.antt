-- Names that stand once, one after another, are distinct as a whole.
use Rattle.std.proofs.Common.{◌≡◌, ℕ, Bool, true, false, not, List, [], ◌∷◌, ◌++◌, map, Some, None, Vec, Global, refl, ap, sym, ◌∙◌}
use Rattle.std.specs.Prelude.{◌&&◌, ◌||◌, bytes_eq, if◌then◌else◌}
use Rattle.std.specs.List.{list_any}
use Rattle.std.proofs.lemmas.List.{append-nil, append_assoc, map-append}
use Rattle.std.proofs.lemmas.Slice.Eq.{bytes_eq-Decides}
use Rattle.vhdl_names_rules.specs.Rules.{◌>>=◌, then_some}
use Rattle.vhdl_names_rules.specs.Visibility.{Name, is_among, are_distinct}
use Rattle.indexmap.specs.IndexSet.{insert_key}
use Rattle.vhdl_names_units.specs.Lists.{in_turn}
use Rattle.vhdl_names_units.specs.Once.{one_name}

eq-sym : (a b : Name) → bytes_eq a b ≡ bytes_eq b a
eq-sym a b = go (bytes_eq a b) refl (bytes_eq b a) refl
  where
    go : (x : Bool) → bytes_eq a b ≡ x → (y : Bool) → bytes_eq b a ≡ y → x ≡ y
    go true e true f = refl
    go false e false f = refl
    go true e false f = sym ((bytes_eq-Decides b a).1 (sym ((bytes_eq-Decides a b).0 e))) ∙ f
    go false e true f = sym e ∙ (bytes_eq-Decides a b).1 (sym ((bytes_eq-Decides b a).0 f))

among-push : (n m : Name) (ns : List Name) → is_among n (ns ++ m ∷ []) ≡ (is_among n ns || bytes_eq n m)
among-push n m [] = or_false (bytes_eq n m)
  where
    or_false : (b : Bool) → (b || false) ≡ b
    or_false true = refl
    or_false false = refl
among-push n m (k ∷ ns) = ap (λ b. bytes_eq n k || b) (among-push n m ns) ∙ assoc (bytes_eq n k) (is_among n ns) (bytes_eq n m)
  where
    assoc : (a b c : Bool) → (a || (b || c)) ≡ ((a || b) || c)
    assoc true b c = refl
    assoc false b c = refl

-- none of the names is among the others
abbrev apart : List Name → List Name → Bool
apart ns [] = true
apart ns (m ∷ ms) = not (is_among m ns) && apart ns ms

apart-push : (n : Name) (ns ms : List Name) → apart (ns ++ n ∷ []) ms ≡ (apart ns ms && not (is_among n ms))
apart-push n ns [] = refl
apart-push n ns (m ∷ ms) =
    ap (λ b. not b && apart (ns ++ n ∷ []) ms) (among-push m n ns ∙ ap (λ b. is_among m ns || b) (eq-sym m n))
    ∙ ap (λ b. not (is_among m ns || bytes_eq n m) && b) (apart-push n ns ms)
    ∙ go (is_among m ns) (bytes_eq n m) (apart ns ms) (is_among n ms)
  where
    go : (a b c d : Bool) → (not (a || b) && (c && not d)) ≡ ((not a && c) && not (b || d))
    go true b c d = refl
    go false true true d = refl
    go false true false d = refl
    go false false true d = refl
    go false false false d = refl

turned : (ns ms : List Name) → in_turn one_name ns ms ≡ then_some (apart ns ms && are_distinct ms) (ns ++ ms)
turned ns [] = ap Some (sym (append-nil ns))
turned ns (m ∷ ms) = go (is_among m ns) (turned (ns ++ m ∷ []) ms) (apart-push m ns ms) (append_assoc ns (m ∷ []) ms)
  where
    order : (a b c : Bool) → ((a && b) && c) ≡ (a && (b && c))
    order true b c = refl
    order false b c = refl

    go : (b : Bool) → in_turn one_name (ns ++ m ∷ []) ms ≡ then_some (apart (ns ++ m ∷ []) ms && are_distinct ms) ((ns ++ m ∷ []) ++ ms)
        → apart (ns ++ m ∷ []) ms ≡ (apart ns ms && not (is_among m ms)) → (ns ++ m ∷ []) ++ ms ≡ ns ++ m ∷ ms
        → (then_some (not b) (ns ++ m ∷ []) >>= λ z. in_turn one_name z ms)
        ≡ then_some ((not b && apart ns ms) && (not (is_among m ms) && are_distinct ms)) (ns ++ m ∷ ms)
    go true h e f = refl
    go false h e f =
        h ∙ ap (λ xs. then_some (apart (ns ++ m ∷ []) ms && are_distinct ms) xs) f
        ∙ ap (λ b. then_some (b && are_distinct ms) (ns ++ m ∷ ms)) e
        ∙ ap (λ b. then_some b (ns ++ m ∷ ms)) (order (apart ns ms) (not (is_among m ms)) (are_distinct ms))

apart-none : (ms : List Name) → apart [] ms ≡ true
apart-none [] = refl
apart-none (m ∷ ms) = apart-none ms

pub once : (ms : List Name) → in_turn one_name [] ms ≡ then_some (are_distinct ms) ms
once ms = turned [] ms ∙ ap (λ b. then_some (b && are_distinct ms) ms) (apart-none ms)

-- a key that is inserted
abbrev items : Vec ℕ Global → List ℕ
items v = v.items

pub contained : (k : List ℕ) (ks : List (Vec ℕ Global)) → list_any (λ x. bytes_eq k x.items) ks ≡ is_among k (map items ks)
contained k [] = refl
contained k (x ∷ ks) = ap (λ b. bytes_eq k x.items || b) (contained k ks)

pub inserted : (k : Vec ℕ Global) (ks ks' : List (Vec ℕ Global)) (new : Bool) → new ≡ not (list_any (λ x. bytes_eq k.items x.items) ks)
    → ks' ≡ insert_key (λ a b. bytes_eq a.items b.items) ks k → new ≡ true → one_name (map items ks) k.items ≡ Some (map items ks')
inserted k ks ks' new e h t =
    ap (λ b. then_some b (map items ks ++ k.items ∷ [])) (ap not (sym (contained k.items ks)) ∙ sym e ∙ t)
    ∙ ap Some (sym (map-append items ks (k ∷ []))) ∙ ap (λ xs. Some (map items xs)) (sym (h ∙ go (list_any (λ x. bytes_eq k.items x.items) ks) (sym e ∙ t)))
  where
    go : (b : Bool) → not b ≡ true → (if b then ks else ks ++ k ∷ []) ≡ ks ++ k ∷ []
    go true q = cc
    go false q = refl

pub refused : (k : Vec ℕ Global) (ks : List (Vec ℕ Global)) (new : Bool) → new ≡ not (list_any (λ x. bytes_eq k.items x.items) ks)
    → new ≡ false → one_name (map items ks) k.items ≡ None
refused k ks new e t = ap (λ b. then_some b (map items ks ++ k.items ∷ [])) (ap not (sym (contained k.items ks)) ∙ sym e ∙ t)
