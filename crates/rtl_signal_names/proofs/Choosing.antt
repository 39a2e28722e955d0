-- Names that choose signals.
use Rattle.std.proofs.Common.{◌≡◌, ℕ, zero, suc, ◌+◌, ◌-◌, ◌<◌, ◌≤◌, ◌==◌, ◌&&◌, ◌||◌, Bool, true, false, nat_lt, cond, Bor, List, [], ◌∷◌, ◌++◌, length, map, take, drop, get_or, Some, refl, sym, ap, ◌∙◌, arith}
use Rattle.std.specs.Prelude.{if◌then◌else◌, bytes_eq, codes, filter, nat_eq}
use Rattle.std.specs.Char.{to_ascii_lowercase}
use Rattle.std.specs.List.{list_any}
use Rattle.std.proofs.lemmas.Bool.Decides.{nat_tests}
use Rattle.std.proofs.lemmas.List.{length-append, length-map, length-take, length-take-le, map-append, take_more, get_or-map}
use Rattle.std.proofs.lemmas.List.Elements.{All-filter, filter_more}
use Rattle.std.proofs.lemmas.List.Kept.{AllPairs-filter}
use Rattle.std.proofs.lemmas.Slice.Eq.{bytes_eq-Decides}
use Rattle.rtl_net.specs.declared.signal.Signal.{Signal}
use Rattle.rtl_net.specs.Elaborated.{IsNet}
use Rattle.rtl_net.specs.Nets.{NetlistView, ScopeView, SignalView, signal_view}
use Rattle.rtl_net.specs.Showing.{AreShown, IsShown}
use Rattle.rtl_net.proofs.Showing.{all_are_shown}
use Rattle.rtl_stim_lines.specs.Inputs.{small}
use Rattle.rtl_stim_lines.specs.Lines.{Word}
use Rattle.rtl_signal_names.specs.Names.{are_alike}
use Rattle.rtl_signal_names.specs.Chosen.{begins_alike, is_chosen, if_chosen, chosen, idle_from}

-- ---- a name and a dot

and_true : (b : Bool) → (b && true) ≡ b
and_true true = refl
and_true false = refl

and_false : (b : Bool) → (b && false) ≡ false
and_false true = refl
and_false false = refl

-- texts of one length, with one byte more behind each
equal_last : (xs ys : List ℕ) (a b : ℕ) → length xs ≡ length ys → bytes_eq (xs ++ a ∷ []) (ys ++ b ∷ []) ≡ (bytes_eq xs ys && nat_eq a b)
equal_last [] [] a b long = and_true (nat_eq a b)
equal_last [] (y ∷ ys) a b long = absurd (omega (arith, long))
equal_last (x ∷ xs) [] a b long = absurd (omega (arith, long))
equal_last (x ∷ xs) (y ∷ ys) a b long = by (nat_eq x y) (equal_last xs ys a b (omega (arith, long)))
  where
    by : (same : Bool) → bytes_eq (xs ++ a ∷ []) (ys ++ b ∷ []) ≡ (bytes_eq xs ys && nat_eq a b)
        → (same && bytes_eq (xs ++ a ∷ []) (ys ++ b ∷ [])) ≡ ((same && bytes_eq xs ys) && nat_eq a b)
    by true more = more
    by false more = refl

dot : (c : ℕ) → c ≡ 46 → nat_eq 46 (to_ascii_lowercase c) ≡ true
dot c is = ap (λ (x : ℕ). nat_eq 46 (to_ascii_lowercase x)) is

no_dot : (c : ℕ) → (c ≡ 46 → ⊥) → nat_eq 46 (to_ascii_lowercase c) ≡ false
no_dot c other = by (nat_lt c 65) refl (nat_lt c 91) refl
  where
    by : (low : Bool) → nat_lt c 65 ≡ low → (within : Bool) → nat_lt c 91 ≡ within → nat_eq 46 (cond low c (cond within (c + 32) c)) ≡ false
    by true l w u = grind (arith, nat_tests)
    by false l true u = grind (arith, nat_tests)
    by false l false u = grind (arith, nat_tests)

-- a name that is no longer doesn't begin with the other one and a dot
pub too_short : (outer name : Word) → length name ≤ length outer → false ≡ begins_alike (outer ++ codes ".") name
too_short outer name short = by (begins_alike (outer ++ codes ".") name) refl
  where
    long : length (outer ++ codes ".") ≡ length outer + 1
    long = length-append outer (codes ".")

    by : (b : Bool) → begins_alike (outer ++ codes ".") name ≡ b → false ≡ b
    by false is = refl
    by true is =
        let same = ap length ((bytes_eq-Decides (small (outer ++ codes ".")) (small (take (length (outer ++ codes ".")) name))).0 is) in
        absurd (omega (arith, short, same, long, length-map (outer ++ codes ".") to_ascii_lowercase, length-map (take (length (outer ++ codes ".")) name) to_ascii_lowercase, length-take (length (outer ++ codes ".")) name))

-- a longer one does where its front is the other one, and a dot stands behind that
longer : (outer name : Word) (d : ℕ) → length outer < length name
    → begins_alike (outer ++ codes ".") name ≡ (are_alike outer (take (length outer) name) && nat_eq 46 (to_ascii_lowercase (get_or name (length outer) d)))
longer outer name d within =
    let end = length outer in
    let last = get_or name end d in
    let front = take end name in
    let many : length (outer ++ codes ".") ≡ end + 1 = length-append outer (codes ".") in
    let left : small (outer ++ codes ".") ≡ small outer ++ 46 ∷ [] = map-append to_ascii_lowercase outer (codes ".") in
    let right : small (take (end + 1) name) ≡ small front ++ to_ascii_lowercase last ∷ [] =
    ap small (take_more name end d within) ∙ map-append to_ascii_lowercase front (last ∷ []) in
    let long : length (small outer) ≡ length (small front) =
    omega (arith, within, length-map outer to_ascii_lowercase, length-map front to_ascii_lowercase, length-take-le end name (omega (arith, within))) in
    ap (λ (n : ℕ). bytes_eq (small (outer ++ codes ".")) (small (take n name))) many
    ∙ ap (λ (xs : Word). bytes_eq xs (small (take (end + 1) name))) left ∙ ap (bytes_eq (small outer ++ 46 ∷ [])) right
    ∙ equal_last (small outer) (small front) 46 (to_ascii_lowercase last) long

pub without_dot : (outer name : Word) (d : ℕ) → length outer < length name → (get_or name (length outer) d ≡ 46 → ⊥) → false ≡ begins_alike (outer ++ codes ".") name
without_dot outer name d within other =
    sym (longer outer name d within ∙ ap (λ (b : Bool). are_alike outer (take (length outer) name) && b) (no_dot (get_or name (length outer) d) other)
    ∙ and_false (are_alike outer (take (length outer) name)))

pub with_dot : (outer name : Word) (d : ℕ) → length outer < length name → get_or name (length outer) d ≡ 46
    → are_alike outer (take (length outer) name) ≡ begins_alike (outer ++ codes ".") name
with_dot outer name d within is =
    sym (longer outer name d within ∙ ap (λ (b : Bool). are_alike outer (take (length outer) name) && b) (dot (get_or name (length outer) d) is)
    ∙ and_true (are_alike outer (take (length outer) name)))

-- ---- one of several names

pub any_of_map : {A B : Type 0} (p : B → Bool) (f : A → B) (xs : List A) → list_any p (map f xs) ≡ list_any (λ x. p (f x)) xs
any_of_map p f [] = refl
any_of_map p f (x ∷ xs) = ap (λ (b : Bool). p (f x) || b) (any_of_map p f xs)

-- one signal more
pub chosen_more : (names : List Word) (scopes : List ScopeView) (signals : List Signal) (i : ℕ) (s : Signal) (old new : List SignalView) → i < length signals → s ≡ get_or signals i s
    → old ≡ filter (is_chosen names scopes) (take i (map signal_view signals)) → new ≡ old ++ if_chosen names scopes (signal_view s)
    → new ≡ filter (is_chosen names scopes) (take (i + 1) (map signal_view signals))
chosen_more names scopes signals i s old new within is before more =
    let views : List SignalView = map signal_view signals in
    let this : get_or views i (signal_view s) ≡ signal_view s = get_or-map signal_view signals i s (signal_view s) within ∙ ap signal_view (sym is) in
    more ∙ ap (λ (xs : List SignalView). xs ++ if_chosen names scopes (signal_view s)) before
    ∙ ap (λ (x : SignalView). filter (is_chosen names scopes) (take i views) ++ if_chosen names scopes x) (sym this)
    ∙ sym (filter_more (is_chosen names scopes) views i (signal_view s) (omega (arith, within, length-map signals signal_view)))

-- ---- a name that chooses nothing

abbrev pub texts : List (Bor (List ℕ)) → List Word
texts names = map (λ name. name.now) names

cut_at : {A : Type 0} (xs : List A) (k : ℕ) → k < length xs → (x : A) × (drop k xs ≡ x ∷ drop (suc k) xs)
cut_at [] k within = absurd (omega (arith, within))
cut_at (x ∷ xs) zero within = (x, refl)
cut_at (x ∷ xs) (suc k) within = cut_at xs k (omega (arith, within))

-- the names from this one on, by what it chooses
pub idle_next : (net : NetlistView) (names : List (Bor (List ℕ))) (k : ℕ) (found : List SignalView) → k < length names
    → found ≡ chosen (texts (take (k + 1 - k) (drop k names))) net
    → idle_from (k + 1) (texts (drop k names)) net ≡ (if length found == 0 then Some (k + 1) else idle_from (k + 1 + 1) (texts (drop (k + 1) names)) net)
idle_next net names k found within is =
    let at = cut_at names k within in
    let name = at.0 in
    let behind : suc k ≡ k + 1 = omega arith in
    let one : k + 1 - k ≡ 1 = omega arith in
    let after : suc (k + 1) ≡ k + 1 + 1 = omega arith in
    let cut : drop k names ≡ name ∷ drop (k + 1) names = at.1 ∙ ap (λ (n : ℕ). name ∷ drop n names) behind in
    let this : take (k + 1 - k) (drop k names) ≡ name ∷ [] = ap (λ (n : ℕ). take n (drop k names)) one ∙ ap (take 1) cut in
    let here : chosen (name.now ∷ []) net ≡ found = sym (is ∙ ap (λ (ns : List (Bor (List ℕ))). chosen (texts ns) net) this) in
    ap (λ (ns : List (Bor (List ℕ))). idle_from (k + 1) (texts ns) net) cut
    ∙ ap (λ (xs : List SignalView). if length xs == 0 then Some (k + 1) else idle_from (suc (k + 1)) (texts (drop (k + 1) names)) net) here
    ∙ ap (λ (n : ℕ). if length found == 0 then Some (k + 1) else idle_from n (texts (drop (k + 1) names)) net) after

-- ---- what is chosen may be shown

pub chosen_are_shown : (net : NetlistView) (names : List Word) → IsNet net → AreShown net (chosen names net)
chosen_are_shown net names is =
    let all = all_are_shown net is in
    record {
      each = All-filter (is_chosen names net.scopes) (IsShown (length net.types)) net.signals all.each;
      scopes = All-filter (is_chosen names net.scopes) (λ (s : SignalView). s.scope < length net.scopes) net.signals all.scopes;
      order = AllPairs-filter (λ (s t : SignalView). s.scope ≤ t.scope) (is_chosen names net.scopes) net.signals all.order;
    }
