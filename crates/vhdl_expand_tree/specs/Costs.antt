-- What the parts of a design count against the limits of elaboration, and what is left of these behind them.
use Rattle.std.specs.Prelude.{ℕ, ◌+◌, ◌-◌, nat_le, List, length, map, sum, Ok}
use Rattle.vhdl_expand_rules.specs.declared.fault.ElabProblem.TheVariants.{TooMany}
use Rattle.vhdl_expand_rules.specs.Elab.{Elab, ◌>>=◌, ◌>>◌, unless}
use Rattle.vhdl_expand_rules.specs.Tree.{Object, Variable, Process, Instance, instance, Parts, no_parts, process, inner}
use Rattle.vhdl_elab_rules.specs.Numbering.{own_sizes}
use Rattle.vhdl_elab_rules.specs.Limits.{Counts, is_within, statements_count}

-- ---- counts

abbrev pub no_costs : Counts
no_costs = record { processes = 0; instances = 0; nets = 0; turns = 0; statements = 0; variable_elements = 0 }

abbrev pub a_process : Counts
a_process = record no_costs { processes = 1 }

abbrev pub an_instance : Counts
an_instance = record no_costs { instances = 1 }

abbrev pub a_statement : Counts
a_statement = record no_costs { statements = 1 }

abbrev pub nets : ℕ → Counts
nets n = record no_costs { nets = n }

abbrev pub turns : ℕ → Counts
turns n = record no_costs { turns = n }

abbrev pub statements : ℕ → Counts
statements n = record no_costs { statements = n }

abbrev pub variable_elements : ℕ → Counts
variable_elements n = record no_costs { variable_elements = n }

abbrev pub plus : Counts → Counts → Counts
plus a b = record {
  processes = a.processes + b.processes;
  instances = a.instances + b.instances;
  nets = a.nets + b.nets;
  turns = a.turns + b.turns;
  statements = a.statements + b.statements;
  variable_elements = a.variable_elements + b.variable_elements;
}

-- what is left of a budget without these
abbrev pub less : (budget costs : Counts) → Counts
less budget costs = record {
  processes = budget.processes - costs.processes;
  instances = budget.instances - costs.instances;
  nets = budget.nets - costs.nets;
  turns = budget.turns - costs.turns;
  statements = budget.statements - costs.statements;
  variable_elements = budget.variable_elements - costs.variable_elements;
}

-- ---- what parts of the tree cost

abbrev pub variables_costs : List Variable → Counts
variables_costs vs = variable_elements (sum (map (λ (v : Variable). length v.starts) vs))

abbrev pub process_costs : Process → Counts
process_costs p = record {
  processes = 1;
  instances = 0;
  nets = 0;
  turns = p.turns;
  statements = statements_count p.body;
  variable_elements = sum (map (λ (v : Variable). length v.starts) p.variables);
}

-- an instance without what stands in it
abbrev pub own_costs : List Object → (turns : ℕ) → Counts
own_costs objects turns = record no_costs { instances = 1; nets = own_sizes objects; turns = turns }

abbrev mutual
  pub instance_costs : Instance → Counts
  instance_costs (instance objects turns parts) = plus (own_costs objects turns) (parts_costs parts)

  pub parts_costs : Parts → Counts
  parts_costs no_parts = no_costs
  parts_costs (process p rest) = plus (process_costs p) (parts_costs rest)
  parts_costs (inner label i rest) = plus (instance_costs i) (parts_costs rest)

-- ---- what is left

-- of a number, told at this byte where that doesn't suffice
abbrev pub left : (at of taken : ℕ) → Elab ℕ
left at of taken = do
  unless TooMany at (nat_le taken of)
  Ok (of - taken)

-- of a budget, when these are taken
abbrev pub spent : (at : ℕ) → (budget costs : Counts) → Elab Counts
spent at budget costs = do
  unless TooMany at (is_within costs budget)
  Ok (less budget costs)

-- what is given and then costs so much: with what is left of the budget, where that suffices. Of a call that charges on
-- its way, no one says where (`MayTell`).
abbrev pub charged : {Y : Type 0} → (budget : Counts) → (Y → Counts) → Elab Y → Elab (Y × Counts)
charged budget costs given = do
  y ← given
  rest ← spent 0 budget (costs y)
  Ok (y, rest)
