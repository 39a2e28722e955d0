-- A netlist's own signals may be shown of it.
use Rattle.std.proofs.Common.{◌≡◌, ◌<◌, ◌≤◌, inl, inr, length, get_or, arith}
use Rattle.std.proofs.lemmas.List.Elements.{All-weaker}
use Rattle.std.proofs.lemmas.Option.{slice_get_within}
use Rattle.rtl_model.specs.bodies.Types.{HasType}
use Rattle.rtl_net.specs.Nets.{SignalView, NetlistView, element_type}
use Rattle.rtl_net.specs.Elaborated.{IsNet, SignalInRange, ComesBefore}
use Rattle.rtl_net.specs.Showing.{IsShown, AreShown}

not_above : (s t : SignalView) → ComesBefore s t → s.scope ≤ t.scope
not_above s t (inl below) = omega (arith, below)
not_above s t (inr same) = let e : s.scope ≡ t.scope = same.0 in omega (arith, e)

pub all_are_shown : (net : NetlistView) → IsNet net → AreShown net net.signals
all_are_shown net is = record {
  each =
      All-weaker (SignalInRange net.types (length net.scopes)) (IsShown (length net.types))
      (λ s h. record { width = h.width; there = All-weaker (HasType net.types (element_type s.kind)) (λ n. n < length net.types) (λ n t. slice_get_within net.types n (element_type s.kind) t) s.nets h.nets })
      net.signals is.signals;
  scopes = All-weaker (SignalInRange net.types (length net.scopes)) (λ (s : SignalView). s.scope < length net.scopes) (λ s h. h.scope) net.signals is.signals;
  order = λ i j d before within. not_above (get_or net.signals i d) (get_or net.signals j d) (is.signals_in_order i j d before within);
}
