-- What objects add to the tables, one after another.
use Rattle.std.proofs.Common.{◌≡◌, Bool, true, false, not, ℕ, zero, suc, ◌+◌, ◌<◌, ◌≤◌, List, [], ◌∷◌, ◌++◌, length, get_or, set, drop, map, Option, Some, None, Result, Ok, Err, refl, sym, ap, ◌∙◌, subst, arith}
use Rattle.std.specs.Prelude.{OnOk, option_map, is_some, is_none, flat_map}
use Rattle.std.specs.List.{range_with_len}
use Rattle.std.proofs.lemmas.List.{append_assoc, append-nil}
use Rattle.std.proofs.lemmas.List.FromFn.{map-range_with_len_more}
use Rattle.rtl_net.specs.Nets.{signal_view, type_of}
use Rattle.vhdl_expand_rules.specs.Kinds.{size}
use Rattle.vhdl_expand_rules.specs.Tree as tree
use Rattle.vhdl_elab_rules.specs.Names.{signals_from}
use Rattle.vhdl_elab_rules.specs.Shown.{signal_shown}
use Rattle.vhdl_elab.specs.declared.made.Made.{Made}
use Rattle.vhdl_elab.specs.declared.place.InstancePlace.{InstancePlace}
use Rattle.vhdl_elab.specs.Made.{element_view}
use Rattle.vhdl_elab.specs.Adding.{if_own, own_types, own_starts, object_statics, statics_from, Declares}

-- ---- runs

pub run_more : {X : Type 0} (f : ℕ → X) (k : ℕ) (old now : List X) (x : X) → now ≡ old ++ map f (range_with_len 0 k) → x ≡ f k
    → now ++ x ∷ [] ≡ old ++ map f (range_with_len 0 (k + 1))
run_more f k old now x h e =
    (λ i. h i ++ e i ∷ []) ∙ append_assoc old (map f (range_with_len 0 k)) (f k ∷ [])
    ∙ ap (λ xs. old ++ xs) (sym (map-range_with_len_more f 0 k k (let z : 0 + k ≡ k = omega arith in z)))

pub none_shown : {X Y : Type 0} (f : X → Y) (a : Option X) (found : Bool) → is_some a ≡ not found → found ≡ is_none (option_map f a)
none_shown f None false h = cc
none_shown f (Some x) true h = cc
none_shown f _ _ h = refl

-- ---- nets of their own

pub own_there : {X E : Type 0} (r : Result Unit E) (o : tree.Object) (old new xs : List X) → o.actual ≡ None → OnOk r (new ≡ old ++ xs) → OnOk r (new ≡ old ++ if_own o xs)
own_there (Ok u) o old new xs h k = k ∙ ap (λ ys. old ++ ys) (sym (ap (λ a. if_own (record o { actual = a }) xs) h))
own_there (Err e) o old new xs h k = k

pub own_absent : {X : Type 0} (o : tree.Object) (es : List ℕ) (old xs : List X) → o.actual ≡ Some es → old ≡ old ++ if_own o xs
own_absent o es old xs h = sym (append-nil old) ∙ ap (λ ys. old ++ ys) (sym (ap (λ a. if_own (record o { actual = a }) xs) h))

-- ---- objects

pub next_dropped : {X V : Type 0} (view : X → V) (xs : List X) (i : ℕ) (y new : X) → i < length xs → y ≡ get_or xs i y
    → map view (drop i xs) ≡ view y ∷ map view (drop (i + 1) (set xs i new))
next_dropped view xs i y new l is = go i xs l is ∙ ap (λ n. view y ∷ map view (drop n (set xs i new))) (let e : suc i ≡ i + 1 = omega arith in e)
  where
    go : (j : ℕ) (ys : List _) → j < length ys → y ≡ get_or ys j y → map view (drop j ys) ≡ view y ∷ map view (drop (suc j) (set ys j new))
    go j [] m e = absurd (omega (arith, m))
    go zero (z ∷ zs) m e = ap (λ v. view v ∷ map view zs) (sym e)
    go (suc j) (z ∷ zs) m e = go j zs (omega (arith, m)) e

pub none_dropped : {X : Type 0} (xs : List X) (i : ℕ) → length xs ≤ i → drop i xs ≡ []
none_dropped [] zero l = refl
none_dropped [] (suc i) l = refl
none_dropped (x ∷ xs) zero l = absurd (omega (arith, l))
none_dropped (x ∷ xs) (suc i) l = none_dropped xs i (omega (arith, l))

pub declares_next : (place : InstancePlace) (first : ℕ) (o : tree.Object) (os : List tree.Object) (a m b : Made)
    → Declares place first (o ∷ []) a m → Declares place (first + size o.kind) os m b → Declares place first (o ∷ os) a b
declares_next place first o os a m b h k = record {
  scopes = k.scopes ∙ h.scopes;
  signals =
      k.signals ∙ ap (λ ss. ss ++ map signal_shown (signals_from place.scope place.nets.now (first + size o.kind) os)) h.signals
      ∙ append_assoc (map signal_view a.signals.items) (map signal_shown (signals_from place.scope place.nets.now first (o ∷ [])))
      (map signal_shown (signals_from place.scope place.nets.now (first + size o.kind) os));
  processes = k.processes ∙ h.processes;
  kinds = k.kinds ∙ ap (λ ts. ts ++ flat_map own_types os) h.kinds ∙ behind (map type_of a.kinds.items) (own_types o) (flat_map own_types os);
  defaults = k.defaults ∙ ap (λ vs. vs ++ flat_map own_starts os) h.defaults ∙ behind a.defaults.items (own_starts o) (flat_map own_starts os);
  elements =
      k.elements ∙ ap (λ es. es ++ statics_from place.is_top place.nets.now (first + size o.kind) os) h.elements
      ∙ behind (map element_view a.elements.items) (object_statics place.is_top place.nets.now first o) (statics_from place.is_top place.nets.now (first + size o.kind) os);
  uses = k.uses ∙ h.uses;
}
  where
    behind : {X : Type 0} (xs ys zs : List X) → (xs ++ (ys ++ [])) ++ zs ≡ xs ++ (ys ++ zs)
    behind xs ys zs = ap (λ ws. (xs ++ ws) ++ zs) (append-nil ys) ∙ append_assoc xs ys zs

pub declares_none : (place : InstancePlace) (first : ℕ) (os : List tree.Object) (m : Made) → os ≡ [] → Declares place first os m m
declares_none place first os m h = subst (λ xs. Declares place first xs m m) (sym h) (record {
  scopes = refl;
  signals = sym (append-nil (map signal_view m.signals.items));
  processes = refl;
  kinds = sym (append-nil (map type_of m.kinds.items));
  defaults = sym (append-nil m.defaults.items);
  elements = sym (append-nil (map element_view m.elements.items));
  uses = refl;
})
