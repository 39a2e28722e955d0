-- The labels that lead to a scope.
use Rattle.std.proofs.Common.{◌≡◌, ℕ, zero, suc, ◌<◌, ◌≤◌, List, [], ◌++◌, length, map, get_or, slice_get, Option, Some, None, refl, sym, ap, subst, ◌∙◌, arith}
use Rattle.std.specs.Prelude.{codes, option_map}
use Rattle.std.proofs.lemmas.List.{length-map, get_or-map}
use Rattle.std.proofs.lemmas.List.Elements.{All-get_or}
use Rattle.std.proofs.lemmas.Option.{slice_get-map, slice_get-get_or}
use Rattle.rtl_model.specs.bodies.Fits.{IsWidth}
use Rattle.rtl_net.specs.declared.signal.Signal.{Signal}
use Rattle.rtl_net.specs.Nets.{NetlistView, ScopeView, SignalView, signal_view, label_at, parent_of}
use Rattle.rtl_net.specs.Elaborated.{AreScopes, IsNet, SignalInRange}
use Rattle.rtl_net.proofs.Naming.{parent-before}
use Rattle.rtl_signal_names.specs.Names.{labels, labels_within, labels_behind}

module _ (scopes : List ScopeView) (are : AreScopes scopes) where
  enough : (f g k : ℕ) → k ≤ f → k ≤ g → k < length scopes → labels_within f scopes k ≡ labels_within g scopes k
  enough zero zero k a b l = refl
  enough zero (suc g) k a b l =
      let z : k ≡ 0 = omega arith in
      sym (ap (λ (o : Option ℕ). labels_behind (labels_within g scopes) o (label_at scopes k)) (ap (parent_of scopes) z ∙ are.top))
  enough (suc f) zero k a b l =
      let z : k ≡ 0 = omega arith in
      ap (λ (o : Option ℕ). labels_behind (labels_within f scopes) o (label_at scopes k)) (ap (parent_of scopes) z ∙ are.top)
  enough (suc f) (suc g) k a b l = at (parent_of scopes k) refl (λ p x y z. enough f g p x y z)
    where
      at : (o : Option ℕ) → parent_of scopes k ≡ o → ((p : ℕ) → p ≤ f → p ≤ g → p < length scopes → labels_within f scopes p ≡ labels_within g scopes p)
          → labels_behind (labels_within f scopes) o (label_at scopes k) ≡ labels_behind (labels_within g scopes) o (label_at scopes k)
      at None e same = refl
      at (Some p) e same =
          let before = parent-before scopes are k p l e in
          ap (λ (x : List ℕ). x ++ label_at scopes k ++ codes ".") (same p (omega arith) (omega arith) (omega arith))

  pub labels-of_top : (k : ℕ) → k < length scopes → parent_of scopes k ≡ None → labels scopes k ≡ []
  labels-of_top k l e =
      enough k (suc k) k (omega arith) (omega arith) l ∙ ap (λ (o : Option ℕ). labels_behind (labels_within k scopes) o (label_at scopes k)) e

  pub labels-in_parent : (k p : ℕ) → k < length scopes → parent_of scopes k ≡ Some p → labels scopes k ≡ labels scopes p ++ label_at scopes k ++ codes "."
  labels-in_parent k p l e =
      let before = parent-before scopes are k p l e in
      enough k (suc k) k (omega arith) (omega arith) l ∙ ap (λ (o : Option ℕ). labels_behind (labels_within k scopes) o (label_at scopes k)) e
      ∙ ap (λ (x : List ℕ). x ++ label_at scopes k ++ codes ".") (enough k p p (omega arith) (omega arith) (omega arith))

-- a signal of the netlist as the code keeps it, and as contracts see it
pub signal_at : (net : NetlistView) → (signals : List Signal) → map signal_view signals ≡ net.signals → (i : ℕ) (s d : Signal) → i < length signals → s ≡ get_or signals i d
    → slice_get net.signals i ≡ Some (signal_view s)
signal_at net signals views i s d within is =
    ap (λ (xs : List SignalView). slice_get xs i) (sym views) ∙ slice_get-map signal_view signals i
    ∙ ap (option_map signal_view) (slice_get-get_or signals i d within ∙ ap (λ (x : Signal). Some x) (sym is))

-- it stands in a scope that is there
pub scope_there : (net : NetlistView) → IsNet net → (signals : List Signal) → map signal_view signals ≡ net.signals → (i : ℕ) (s d : Signal) → i < length signals → s ≡ get_or signals i d
    → s.scope < length net.scopes
scope_there net elaborated signals views i s d within is =
    let there : i < length net.signals = omega (arith, ap length views, length-map signals signal_view, within) in
    let view : get_or net.signals i (signal_view d) ≡ signal_view s =
    ap (λ (xs : List SignalView). get_or xs i (signal_view d)) (sym views) ∙ get_or-map signal_view signals i d (signal_view d) within ∙ ap signal_view (sym is) in
    let P : SignalView → Type 0 = SignalInRange net.types (length net.scopes) in
    let range = subst P view (All-get_or P net.signals i (signal_view d) there elaborated.signals) in
    range.scope

-- it has a vector's length
pub width_there : (net : NetlistView) → IsNet net → (signals : List Signal) → map signal_view signals ≡ net.signals → (i : ℕ) (s : Signal) → i < length signals → s ≡ get_or signals i s
    → IsWidth (length s.nets.items)
width_there net elaborated signals views i s within is =
    let there : i < length net.signals = omega (arith, ap length views, length-map signals signal_view, within) in
    let view : get_or net.signals i (signal_view s) ≡ signal_view s =
    ap (λ (xs : List SignalView). get_or xs i (signal_view s)) (sym views) ∙ get_or-map signal_view signals i s (signal_view s) within ∙ ap signal_view (sym is) in
    let P : SignalView → Type 0 = SignalInRange net.types (length net.scopes) in
    let range = subst P view (All-get_or P net.signals i (signal_view s) there elaborated.signals) in
    range.width
