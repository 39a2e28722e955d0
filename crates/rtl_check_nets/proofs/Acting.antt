-- Which processes may assign in a delta cycle, by their kinds and by what drives nets.
use Rattle.std.proofs.Common.{◌≡◌, ℕ, ◌<◌, ◌⊎◌, inl, inr, Bool, true, false, List, length, get_or, Option, Some, None, sym, ap, ◌∙◌}
use Rattle.std.specs.Prelude.{option_map}
use Rattle.std.specs.Option.{is_some}
use Rattle.rtl_model.specs.simulation.Netlist as m
use Rattle.rtl_model.specs.simulation.Netlist.{Netlist, Reset, kind_reset, process}
use Rattle.rtl_model.specs.simulation.NetLevels.{MayActLater}
use Rattle.rtl_model.specs.simulation.Elaborated.{IsWired}
use Rattle.rtl_model.proofs.basics.Lists.{any_at, any_true}
use Rattle.rtl_body_facts.specs.declared.kinds.ProcessKind.{ProcessKind}
use Rattle.rtl_body_facts.specs.declared.kinds.ProcessKind.TheVariants as k
use Rattle.rtl_process_kinds.specs.KindViews.{IsKind, AreKinds, combinational_at, reset_net, resets}
use Rattle.rtl_process_kinds.specs.Drivers.{is_driven, follows_driver}
use Rattle.rtl_process_kinds.proofs.Combinational.{combinational_to, combinational_from}
use Rattle.rtl_process_kinds.proofs.Drivers.{driven_is, is_driven_by}

kind_resets : (x : m.Process) (kind : ProcessKind) → IsKind x kind → resets kind ≡ true → (reset : Reset) × (kind_reset x.kind ≡ Some reset)
kind_resets x k.Combinational d t = absurd cc
kind_resets x (k.Clocked c) d t = go d.reset d.kind d.reset_is
  where
    go : (o : Option Reset) → x.kind ≡ m.Clocked c.clock c.edge o → option_map reset_net o ≡ c.reset → (reset : Reset) × (kind_reset x.kind ≡ Some reset)
    go None e r = let h : false ≡ true = ap is_some r ∙ t in absurd cc
    go (Some reset) e r = (reset, ap kind_reset e)
kind_resets x k.Mixed d t = absurd cc

has_reset : (x : m.Process) (kind : ProcessKind) → IsKind x kind → (reset : Reset) → kind_reset x.kind ≡ Some reset → resets kind ≡ true
has_reset x k.Combinational d reset e = let h : None ≡ Some reset = sym (ap kind_reset d) ∙ e in absurd cc
has_reset x (k.Clocked c) d reset e = ap is_some (sym d.reset_is ∙ ap (option_map reset_net) (sym (ap kind_reset d.kind) ∙ e))
has_reset x k.Mixed d reset e = let h : None ≡ Some reset = sym (ap kind_reset d) ∙ e in absurd cc

module _ (net : Netlist) (W : IsWired net) where
  module _ (kinds : List ProcessKind) (ks : AreKinds net kinds) (p : ℕ) (there : p < length net.processes) where
    pub acts : combinational_at kinds p ≡ true → MayActLater net p
    acts t = inl (combinational_to net kinds ks p t)

    pub acts_by_reset : resets (get_or kinds p k.Mixed) ≡ true → follows_driver net (process net p) ≡ true → MayActLater net p
    acts_by_reset t f =
        let (n, c, d) = any_at (is_driven net) (process net p).wakes f in
        inr (kind_resets (process net p) (get_or kinds p k.Mixed) (ks.each p there) t, (n, c, is_driven_by net W n d))

    pub never_acts : combinational_at kinds p ≡ false → (resets (get_or kinds p k.Mixed) ≡ false) ⊎ (follows_driver net (process net p) ≡ false) → MayActLater net p → ⊥
    never_acts off other (inl c) = let h : true ≡ false = sym (combinational_from net kinds ks p c) ∙ off in absurd cc
    never_acts off (inl none) (inr ((reset, has), woken)) = let h : true ≡ false = sym (has_reset (process net p) (get_or kinds p k.Mixed) (ks.each p there) reset has) ∙ none in absurd cc
    never_acts off (inr none) (inr (with_reset, (n, c, d))) = let h : true ≡ false = sym (any_true (is_driven net) (process net p).wakes n c (driven_is net W n d)) ∙ none in absurd cc
