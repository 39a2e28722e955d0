-- Where the walk over the tree of instances stands.
use Rattle.std.specs.Prelude.{◌≡◌, ℕ, List}
use Rattle.vhdl_expand_rules.specs.Tree.{Instance, Parts}
use Rattle.vhdl_elab_rules.specs.Numbering as elab
use Rattle.vhdl_elab_rules.specs.Numbering.{Placed}
use Rattle.vhdl_elab_rules.specs.Wiring.{defaults_of}
use Rattle.vhdl_expand_tree.specs.Costs.{instance_costs, parts_costs}
use Rattle.vhdl_connect_processes.specs.declared.process.Round.{Round}
use Rattle.vhdl_elab.specs.declared.walk.Above.{Above}

-- how many nets the ports and signals of an instance, and of all that stand in it, have of their own
abbrev pub instance_nets : Instance → ℕ
instance_nets i = (instance_costs i).nets

abbrev pub parts_nets : Parts → ℕ
parts_nets ps = (parts_costs ps).nets

-- what an instance stands in whose path begins so
abbrev pub above_at : Above → (path : List ℕ) → elab.Above
above_at above path = record { parent = above.parent; path = path; nets = above.nets.now }

-- processes and instances in this instance have its nets and its defaults
pub record IsIn (p : Placed) (round : Round) : Type 0 where
  pub nets : p.nets ≡ round.nets.now
  pub defaults : defaults_of p.objects ≡ round.defaults.now
