use Rattle.std.proofs.Common.{◌≡◌, ◌≤◌, true, ap, sym, ◌∙◌, subst, arith}
use Rattle.rtl_net.specs.Parts.{assembled}
use Rattle.vhdl_expand_rules.specs.declared.fault.ElabProblem.TheVariants.{TooMany}
use Rattle.vhdl_expand_rules.specs.Elab.{Elab, ◌>>◌, unless}
use Rattle.vhdl_expand_rules.specs.Expansion.{Design}
use Rattle.vhdl_expand_tree.specs.Costs.{instance_costs}
use Rattle.vhdl_expand_tree.specs.Views.{design_view}
use Rattle.vhdl_expand_tree.proofs.Counts.{each-design-costs-its-parts}
use Rattle.vhdl_elab_rules.specs.Numbering.{numbered_design}
use Rattle.vhdl_elab_rules.specs.Limits.{Counts, counts, is_within_limits, is_within, limits}
use Rattle.vhdl_elab_rules.specs.Elaboration.{Elaborated, netlist_of}
use Rattle.vhdl_expand_operands.specs.Results.{Expands}
use Rattle.vhdl_elab_rules.specs.Shown.{as_shown, net_shown}
use Rattle.vhdl_elab.specs.Wired.{wired}
use Rattle.vhdl_elab.proofs.Lengths.{as-many-uses, as-many-defaults}
use Rattle.vhdl_elab.proofs.connection.connect.Goals as goal

-- within the limits connection is wiring
is-wired : (design : Design) → is_within_limits (counts (numbered_design design)) ≡ true → netlist_of design ≡ wired (numbered_design design)
unfolding netlist_of
is-wired design h = ap (λ t. unless TooMany 0 t >> wired (numbered_design design)) h

-- what is within has at most as many nets
nets-within : (counts most : Counts) → is_within counts most ≡ true → counts.nets ≤ most.nets
nets-within counts most h = grind (arith, h)

pub number-requires-clause-room : goal.number-requires-clause-room
number-requires-clause-room c =
    let design = design_view c.args.design in
    nets-within (instance_costs design.top) limits (sym (each-design-costs-its-parts design).within ∙ c.requires.within)

pub wire-requires-clause-uses : goal.wire-requires-clause-uses
wire-requires-clause-uses c = as-many-uses (numbered_design (design_view c.args.design)) c.in_ok-made.made c.in_ok-made.ensures

pub wire-requires-clause-defaults : goal.wire-requires-clause-defaults
wire-requires-clause-defaults c = as-many-defaults (numbered_design (design_view c.args.design)) c.in_ok-made.made c.in_ok-made.ensures

pub returns-clause-given : goal.returns-clause-given
returns-clause-given c =
    let design = design_view c.args.design in
    subst (λ (r : Elab Elaborated). Expands (λ p. net_shown (assembled p)) (as_shown r) c.wire.result) (sym (is-wired design c.requires.within)) (c.wire.ensures.given (numbered_design design) c.in_ok-made.ensures c.requires.there)

pub returns-clause-reads : goal.returns-clause-reads
returns-clause-reads c = c.wire.ensures.reads (numbered_design (design_view c.args.design)) c.in_ok-made.ensures c.requires.there

pub returns-clause-idle : goal.returns-clause-idle
returns-clause-idle c = c.wire.ensures.idle (numbered_design (design_view c.args.design)) c.in_ok-made.ensures c.requires.there
