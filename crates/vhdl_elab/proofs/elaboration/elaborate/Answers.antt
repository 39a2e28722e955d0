use Rattle.std.proofs.Common.{◌≡◌, Result, Ok, Err, rules, inl, ◌≢◌, ap, ◌∙◌, arith}
use Rattle.std.specs.Prelude.{All, IsTrue, IfOk, IfErr}
use Rattle.std.proofs.lemmas.Grind.{common_steps}
use Rattle.rtl_net.specs.declared.building.Parts.{Parts}
use Rattle.rtl_net.specs.Elaborated.{ReadsOfBody, IsNet}
use Rattle.rtl_net.specs.Parts.{assembled}
use Rattle.rtl_stim.specs.Ports.{HasOwnPorts}
use Rattle.vhdl_names_laws.specs.Laws.{small_ports_are_distinct}
use Rattle.vhdl_names_rules.specs.units.Bytes.{units_bytes}
use Rattle.vhdl_names_rules.specs.units.Units.{Units}
use Rattle.vhdl_names_rules.specs.sound.Units.{are_sound}
use Rattle.vhdl_names_rules.specs.sound.Named.{are_named}
use Rattle.vhdl_names_units.specs.views.Units.{units_view}
use Rattle.vhdl_expand_rules.specs.declared.fault.ElabFault.{ElabFault}
use Rattle.vhdl_expand_rules.specs.declared.fault.ElabFault.TheVariants.{NoMemory}
use Rattle.vhdl_expand_rules.specs.Elab.{fault_told, MayTell}
use Rattle.vhdl_expand_rules.specs.Expansion.{Design, expanded_design}
use Rattle.vhdl_expand_rules.specs.Tops.{Top}
use Rattle.vhdl_expand_rules.specs.views.Tops.{top_view}
use Rattle.vhdl_expand_rules.proofs.laws.Trees.{each-tree-is-sound}
use Rattle.vhdl_expand_operands.specs.Results.{Expands, Charges}
use Rattle.vhdl_elab_rules.specs.Elaboration.{netlist_of, elaborated_net}
use Rattle.vhdl_expand.specs.Limits.{within_limits}
use Rattle.vhdl_expand_tree.specs.Views.{design_view}
use Rattle.vhdl_expand_tree.proofs.Alike.{tells}
use Rattle.vhdl_elab_rules.specs.Refused.{MayRefuse}
use Rattle.vhdl_elab_rules.specs.Shown.{as_shown, net_shown}
use Rattle.vhdl_elab_rules.proofs.Dotted.{each-tree-is-dotted}
use Rattle.vhdl_elab.proofs.Joined.{was-expanded, is-within, elaborated-by, refused, may-refuse, no-budget, not-shown, connected-is-net, elaborated-own-ports}
use Rattle.vhdl_elab.proofs.Ready.{is-ready}
use Rattle.vhdl_elab.proofs.There.{nets-there}
use Rattle.vhdl_elab.proofs.elaboration.elaborate.Goals as goal

pub returns-in_err-design-clause-given : goal.returns-in_err-design-clause-given
returns-in_err-design-clause-given c =
    let stopped : c.in_err-design.field-0.0 ≢ NoMemory → MayTell (units_bytes (units_view c.args.units.now)) (as_shown (elaborated_net (units_view c.args.units.now) (top_view c.args.top))) (fault_told c.in_err-design.field-0.0) =
    λ n. refused (units_view c.args.units.now) (top_view c.args.top) (c.in_err-design.ensures.given n) in
    first_of (search rules, grind (arith, common_steps))

pub connect-requires-clause-ready : goal.connect-requires-clause-ready
connect-requires-clause-ready c =
    let units = units_view c.args.units.now in
    let design = design_view c.in_ok-design.design in
    let expanded = was-expanded units (top_view c.args.top) design c.in_ok-design.ensures.given in
    is-ready design (each-tree-is-sound units (top_view c.args.top) design c.requires.sound expanded) (each-tree-is-dotted units (top_view c.args.top) design c.requires.named expanded)

pub connect-requires-clause-there : goal.connect-requires-clause-there
connect-requires-clause-there c =
    let units = units_view c.args.units.now in
    let design = design_view c.in_ok-design.design in
    nets-there units (top_view c.args.top) design c.requires.sound (was-expanded units (top_view c.args.top) design c.in_ok-design.ensures.given)

pub connect-requires-clause-within : goal.connect-requires-clause-within
connect-requires-clause-within c = is-within (units_view c.args.units.now) (top_view c.args.top) (design_view c.in_ok-design.design) c.in_ok-design.ensures.given

-- what connection answers is what elaboration is to answer
charged : (units : Units) (top : Top) (design : Design) (answer : Result Parts ElabFault) → within_limits (expanded_design units top) ≡ Ok design
    → Expands (λ p. net_shown (assembled p)) (as_shown (netlist_of design)) answer → Charges (units_bytes units) (λ p. net_shown (assembled p)) (as_shown (elaborated_net units top)) answer
charged units top design (Ok parts) h given = ap as_shown (elaborated-by units top design h) ∙ given
charged units top design (Err fault) h given = λ n.
    tells (λ too. absurd (no-budget design _ (is-within units top design h) (not-shown (netlist_of design) (given n)) too)) (ap as_shown (elaborated-by units top design h) ∙ given n)

may_be_refused : (units : Units) (top : Top) (design : Design) (answer : Result Parts ElabFault) → within_limits (expanded_design units top) ≡ Ok design
    → Expands (λ p. net_shown (assembled p)) (as_shown (netlist_of design)) answer → IfErr answer (λ fault. fault ≢ NoMemory → MayRefuse units top (fault_told fault))
may_be_refused units top design (Ok parts) h given = tt
may_be_refused units top design (Err fault) h given = λ n.
    let told = not-shown (netlist_of design) (given n) in
    inl (no-budget design _ (is-within units top design h) told, elaborated-by units top design h ∙ told)

are_nets : (units : Units) (top : Top) (design : Design) (answer : Result Parts ElabFault) → IsTrue (are_sound units) → IsTrue (are_named units) → within_limits (expanded_design units top) ≡ Ok design
    → Expands (λ p. net_shown (assembled p)) (as_shown (netlist_of design)) answer → IfOk answer (λ p. All ReadsOfBody p.processes.items) → IfOk answer (λ p. IsNet (assembled p))
are_nets units top design (Ok parts) sound named h given reads = connected-is-net units top design (assembled parts) sound named h given reads
are_nets units top design (Err fault) sound named h given reads = tt

own_ports : (units : Units) (top : Top) (answer : Result Parts ElabFault) → IsTrue (are_sound units)
    → Charges (units_bytes units) (λ p. net_shown (assembled p)) (as_shown (elaborated_net units top)) answer → IfOk answer (λ p. IsTrue (small_ports_are_distinct units) → HasOwnPorts (assembled p))
own_ports units top (Ok parts) sound given = λ distinct. elaborated-own-ports units top (assembled parts) sound distinct given
own_ports units top (Err fault) sound given = tt

pub returns-clause-given : goal.returns-clause-given
returns-clause-given c =
    charged (units_view c.args.units.now) (top_view c.args.top) (design_view c.in_ok-design.design) _ c.in_ok-design.ensures.given c.connect.ensures.given

pub returns-clause-refused : goal.returns-clause-refused
returns-clause-refused c =
    may_be_refused (units_view c.args.units.now) (top_view c.args.top) (design_view c.in_ok-design.design) _ c.in_ok-design.ensures.given c.connect.ensures.given

pub returns-clause-net : goal.returns-clause-net
returns-clause-net c =
    are_nets (units_view c.args.units.now) (top_view c.args.top) (design_view c.in_ok-design.design) _ c.requires.sound c.requires.named c.in_ok-design.ensures.given c.connect.ensures.given c.connect.ensures.reads

pub returns-clause-ports : goal.returns-clause-ports
returns-clause-ports c = own_ports (units_view c.args.units.now) (top_view c.args.top) _ c.requires.sound (returns-clause-given c)

pub returns-in_err-design-clause-refused : goal.returns-in_err-design-clause-refused
returns-in_err-design-clause-refused c =
    let stopped : c.in_err-design.field-0.0 ≢ NoMemory → MayRefuse (units_view c.args.units.now) (top_view c.args.top) (fault_told c.in_err-design.field-0.0) =
    λ n. may-refuse (units_view c.args.units.now) (top_view c.args.top) (c.in_err-design.ensures.given n) (c.in_err-design.ensures.begun n) in
    first_of (search rules, grind (arith, common_steps))
