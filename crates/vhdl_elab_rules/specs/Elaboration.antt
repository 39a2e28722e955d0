-- Elaboration of a design (IEEE 1076-2008, clause 14): its units and the name of its top are expanded, the instances,
-- nets and processes are numbered, and the netlist is wired. It is refused where an expansion is, and where the design
-- as a whole breaks a rule.
use Rattle.std.specs.Prelude.{ℕ, not, List, map, flat_map, Ok}
use Rattle.std.specs.List.{enumerate_from}
use Rattle.rtl_model.specs.nets.FlatNetlist.{FlatNetlist}
use Rattle.vhdl_names_rules.specs.units.Units.{Units}
use Rattle.vhdl_expand_rules.specs.declared.fault.ElabProblem.TheVariants.{TwoUnresolved, ReadOfShared, TooMany}
use Rattle.vhdl_expand_rules.specs.Elab.{Elab, ◌>>=◌, ◌>>◌, unless}
use Rattle.vhdl_expand_rules.specs.Expansion.{Design, expanded_design}
use Rattle.vhdl_expand_rules.specs.Tops.{Top}
use Rattle.vhdl_elab_rules.specs.Numbering.{Numbered, numbered_design}
use Rattle.vhdl_elab_rules.specs.Wiring.{flat_net}
use Rattle.vhdl_elab_rules.specs.Limits.{elements, first_at, is_two_unresolved, has_two_unresolved, is_read_of_shared, has_read_of_shared, counts, is_within_limits}
use Rattle.vhdl_elab_rules.specs.Names.{Scope, scope_of, Signal, signals_of, NamedProcess, named_process, net_names, process_names}

-- a flat netlist, and names beside it
pub record Elaborated : Type 0 where
  pub flat : FlatNetlist
  -- the top first
  pub scopes : List Scope
  -- in order of the instances, and of declaration
  pub signals : List Signal
  pub processes : List NamedProcess
  pub net_names : List (List ℕ)
  pub process_names : List (List ℕ)

abbrev pub net_of : Numbered → Elaborated
net_of d = record {
  flat = flat_net d;
  scopes = map scope_of d.instances;
  signals = flat_map signals_of (enumerate_from 0 d.instances);
  processes = map named_process d.processes;
  net_names = net_names d;
  process_names = process_names d;
}

-- the two rules of a design as a whole, each told where the first element is declared that breaks it
abbrev pub resolves : Numbered → Elab (Unit {0})
resolves d = unless TwoUnresolved (first_at is_two_unresolved (elements d)) (not (has_two_unresolved d))

abbrev pub shares_unread : Numbered → Elab (Unit {0})
shares_unread d =
    unless ReadOfShared (first_at (is_read_of_shared (flat_net d)) (elements d))
    (not (has_read_of_shared d (flat_net d)))

-- the netlist of a design, none of whose rules is broken; where its limits end, `MayRefuse` says
unfoldable pub netlist_of : Design → Elab Elaborated
netlist_of design = do
  let d = numbered_design design
  unless TooMany 0 (is_within_limits (counts d))
  resolves d
  shares_unread d
  Ok (net_of d)

unfoldable pub elaborated_net : Units → Top → Elab Elaborated
elaborated_net units top = do
  design ← expanded_design units top
  netlist_of design
