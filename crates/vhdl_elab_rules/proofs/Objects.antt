-- The signals of an instance, with the nets of its objects in place of segments of all its nets.
use Rattle.std.proofs.Common.{◌≡◌, ℕ, ◌+◌, List, [], ◌∷◌, ◌++◌, length, map, All, refl, sym, ap, ◌∙◌, append_assoc}
use Rattle.std.specs.Prelude.{slice_range, flat_map}
use Rattle.std.specs.List.{enumerate_from}
use Rattle.std.proofs.lemmas.List.{length-append, map-append}
use Rattle.std.proofs.lemmas.List.Elements.{All-head, All-tail}
use Rattle.rtl_net.specs.Nets.{SignalView}
use Rattle.vhdl_expand_rules.specs.Bytes.{kept}
use Rattle.vhdl_expand_rules.specs.Kinds.{size}
use Rattle.vhdl_expand_rules.specs.Tree.{Object}
use Rattle.vhdl_expand_rules.specs.laws.Lengths.{ObjectFits}
use Rattle.vhdl_elab_rules.specs.Numbering.{object_nets, own_size, element_nets, Placed}
use Rattle.vhdl_elab_rules.specs.Names.{is_port_role, signals_from, signals_of}
use Rattle.vhdl_elab_rules.specs.laws.Signals.{kind_view}
use Rattle.vhdl_elab_rules.proofs.Segments.{segment}
use Rattle.vhdl_elab_rules.proofs.laws.Nets.{nets-length}
use Rattle.vhdl_elab_rules.specs.Shown.{signal_shown}
use Rattle.vhdl_elab_rules.proofs.Placed.{PlacedAt}

abbrev pub object_signal : (scope : ℕ) → (nets : List ℕ) → Object → SignalView
object_signal scope nets o = record { scope = scope; name = o.name; port = is_port_role o.role; kind = kind_view o.kind; nets = nets; at = kept o.at }

-- of these objects, whose own nets begin at this one
abbrev pub object_signals : (scope : ℕ) → (above : List ℕ) → (first : ℕ) → List Object → List SignalView
object_signals scope above first [] = []
object_signals scope above first (o ∷ os) = object_signal scope (object_nets above first o) o ∷ object_signals scope above (first + own_size o) os

from-are : (scope : ℕ) (os : List Object) (above front : List ℕ) (first start : ℕ) → All ObjectFits os → length front ≡ start
    → map signal_shown (signals_from scope (front ++ element_nets above first os) start os) ≡ object_signals scope above first os
from-are scope [] above front first start fit l = refl
from-are scope (o ∷ os) above front first start fit l =
    let mine : List ℕ = object_nets above first o in
    let rest : List ℕ = element_nets above (first + own_size o) os in
    let len : length mine ≡ size o.kind = nets-length above first o (All-head ObjectFits o os fit) in
    let nets : slice_range (front ++ (mine ++ rest)) start (start + size o.kind) ≡ mine = segment front mine rest start (start + size o.kind) l (ap (λ n. start + n) len) in
    ap (λ (ns : List ℕ). object_signal scope ns o ∷ map signal_shown (signals_from scope (front ++ (mine ++ rest)) (start + size o.kind) os)) nets
    ∙ ap (λ (ns : List ℕ). object_signal scope mine o ∷ map signal_shown (signals_from scope ns (start + size o.kind) os)) (sym (append_assoc front mine rest))
    ∙ ap (λ (ss : List SignalView). object_signal scope mine o ∷ ss)
    (from-are scope os above (front ++ mine) (first + own_size o) (start + size o.kind) (All-tail ObjectFits o os fit) (length-append front mine ∙ ap (λ n. n + length mine) l ∙ ap (λ n. start + n) len))

pub signals-are : (scope : ℕ) (before : List Placed) (count : ℕ) (p : Placed) (at : PlacedAt before count p) → map signal_shown (signals_of (scope, p)) ≡ object_signals scope at.above count p.objects
signals-are scope before count p at = ap (λ (ns : List ℕ). map signal_shown (signals_from scope ns 0 p.objects)) at.nets ∙ from-are scope p.objects at.above [] count 0 at.fits refl

-- the signals of all these instances, from this number on
abbrev pub all_signals : (from : ℕ) → List Placed → List SignalView
all_signals from ps = map signal_shown (flat_map signals_of (enumerate_from from ps))

pub first-signals : (from : ℕ) (before : List Placed) (count : ℕ) (p : Placed) (ps : List Placed) (at : PlacedAt before count p)
    → all_signals from (p ∷ ps) ≡ object_signals from at.above count p.objects ++ all_signals (from + 1) ps
first-signals from before count p ps at =
    map-append signal_shown (signals_of (from, p)) (flat_map signals_of (enumerate_from (from + 1) ps)) ∙ ap (λ (ss : List SignalView). ss ++ all_signals (from + 1) ps) (signals-are from before count p at)
