use Rattle.std.proofs.Common.{List, ℕ, map, sym, ap, ◌∙◌}
use Rattle.std.specs.List.{list_any}
use Rattle.rtl_net.specs.Nets.{scope_view, signal_view}
use Rattle.rtl_signal_names.specs.Names.{full_name}
use Rattle.rtl_signal_names.specs.Chosen.{chooses}
use Rattle.rtl_signal_names.proofs.Choosing.{any_of_map}
use Rattle.rtl_signal_names.proofs.chosen.is_chosen.Goals as goal

pub returns : goal.returns
returns c =
    let full = full_name (map scope_view c.args.scopes.now) (signal_view c.args.signal.now) in
    c.one_chooses.ensures ∙ ap (λ (text : List ℕ). list_any (λ name. chooses name.now text) c.args.names.now) (c.deref.ensures.value ∙ c.in_ok-full.ensures)
    ∙ sym (any_of_map (λ name. chooses name full) (λ name. name.now) c.args.names.now)
