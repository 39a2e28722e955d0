-- The names that are left, by the first of them.
use Rattle.std.proofs.Common.{◌≡◌, ℕ, ◌+◌, ◌<◌, Bool, List, [], ◌∷◌, length, map, drop, get_or, Some, refl, sym, ap, ◌∙◌}
use Rattle.std.specs.Prelude.{find, if◌then◌else◌}
use Rattle.std.proofs.lemmas.List.{at_drop_more}
use Rattle.rtl_net.specs.declared.signal.Signal.{Signal}
use Rattle.rtl_net.specs.Nets.{ScopeView, signal_view}
use Rattle.rtl_signal_names.specs.Names.{full_name}

abbrev pub name_in : List ScopeView → Signal → List ℕ
name_in scopes s = full_name scopes (signal_view s)

pub names_in : (scopes : List ScopeView) (signals : List Signal) → map (name_in scopes) signals ≡ map (full_name scopes) (map signal_view signals)
names_in scopes [] = refl
names_in scopes (s ∷ ss) = ap (λ (names : List (List ℕ)). name_in scopes s ∷ names) (names_in scopes ss)

pub find_next : (p : List ℕ → Bool) (full : List ℕ) (scopes : List ScopeView) (signals : List Signal) (i : ℕ) (d : Signal) (found : Bool) → i < length signals
    → full ≡ name_in scopes (get_or signals i d) → p full ≡ found
    → find p (map (name_in scopes) (drop i signals)) ≡ (if found then Some full else find p (map (name_in scopes) (drop (i + 1) signals)))
find_next p full scopes signals i d found there is kind =
    let rest = find p (map (name_in scopes) (drop (i + 1) signals)) in
    at_drop_more (λ (ss : List Signal). find p (map (name_in scopes) ss)) signals i d there
    ∙ ap (λ (f : List ℕ). if p f then Some f else rest) (sym is) ∙ ap (λ (b : Bool). if b then Some full else rest) kind
