-- What is refused of a design as a whole: two sources of an unresolved element, an out port with several sources that
-- is read, and more parts than the limits (IEEE 1076-2008, 6.4.2.3, 4.6, 6.5.6.3).
use Rattle.std.specs.Prelude.{ℕ, ◌+◌, Bool, not, ◌&&◌, nat_le, List, length, map, sum, find, flat_map, Option, Some, None}
use Rattle.std.specs.List.{list_any}
use Rattle.rtl_model.specs.bodies.Body.{Stmt, null_of, assign, set, assign_at, set_at, if_of, case_of, Stmts, done, step}
use Rattle.rtl_model.specs.bodies.Body.{Branches, no_else, otherwise, branch, Alternatives, others, alternative}
use Rattle.rtl_model.specs.nets.FlatNetlist.{FlatNetlist, flat_sources}
use Rattle.rtl_net.specs.Limits.{most_nets, most_processes, most_scopes}
use Rattle.vhdl_expand_rules.specs.Tree.{Variable}
use Rattle.vhdl_elab_rules.specs.Numbering.{Placed, Located, Numbered}
use Rattle.vhdl_elab_rules.specs.Wiring.{Element, elements_of, is_output}

-- ---- sources

abbrev pub elements : Numbered → List Element
elements d = flat_map elements_of d.instances

-- where an element is declared, 0 where there is none
abbrev pub declared_at : Option Element → ℕ
declared_at None = 0
declared_at (Some e) = e.at

-- where the first element is declared of which this is so
abbrev pub first_at : (Element → Bool) → List Element → ℕ
first_at is es = declared_at (find is es)

-- an element of an unresolved declaration has two sources of its own
abbrev pub is_two_unresolved : Element → Bool
is_two_unresolved e = not e.is_resolved && nat_le 2 e.sources

abbrev pub has_two_unresolved : Numbered → Bool
has_two_unresolved d = list_any is_two_unresolved (elements d)

abbrev pub is_shared : FlatNetlist → ℕ → Bool
is_shared net n = nat_le 2 (length (flat_sources net n))

-- an element of an out port is read in its instance, and its net has several sources
abbrev pub is_read_of_shared : FlatNetlist → Element → Bool
is_read_of_shared net e = is_output e.role && e.is_read && is_shared net e.net

abbrev pub has_read_of_shared : Numbered → FlatNetlist → Bool
has_read_of_shared d net = list_any (is_read_of_shared net) (elements d)

-- ---- counts

-- each assignment, null, if and case of an unrolled body is a statement
abbrev mutual
  pub stmt_count : Stmt → ℕ
  stmt_count null_of = 1
  stmt_count (assign places v) = 1
  stmt_count (set es v) = 1
  stmt_count (assign_at index spacing places e) = 1
  stmt_count (set_at index spacing es e) = 1
  stmt_count (if_of bs) = 1 + branches_count bs
  stmt_count (case_of v alts) = 1 + alternatives_count alts

  pub statements_count : Stmts → ℕ
  statements_count done = 0
  statements_count (step s rest) = stmt_count s + statements_count rest

  pub branches_count : Branches → ℕ
  branches_count no_else = 0
  branches_count (otherwise s) = statements_count s
  branches_count (branch t s bs) = statements_count s + branches_count bs

  pub alternatives_count : Alternatives → ℕ
  alternatives_count (others s) = statements_count s
  alternatives_count (alternative choices s alts) = statements_count s + alternatives_count alts

-- the turns of all generates and loops, with the numbers of cases on integers
abbrev pub turns_count : Numbered → ℕ
turns_count d =
    sum (map (λ (p : Placed). p.turns) d.instances) + sum (map (λ (x : Located). x.process.turns) d.processes)

abbrev pub variable_elements_count : Located → ℕ
variable_elements_count x = sum (map (λ (v : Variable). length v.starts) x.process.variables)

pub record Counts : Type 0 where
  pub processes : ℕ
  pub instances : ℕ
  pub nets : ℕ
  pub turns : ℕ
  pub statements : ℕ
  pub variable_elements : ℕ

abbrev pub counts : Numbered → Counts
counts d = record {
  processes = length d.processes;
  instances = length d.instances;
  nets = d.nets;
  turns = turns_count d;
  statements = sum (map (λ (x : Located). statements_count x.process.body) d.processes);
  variable_elements = sum (map variable_elements_count d.processes);
}

-- each count is at most the other's
abbrev pub is_within : (counts most : Counts) → Bool
is_within counts most =
    nat_le counts.processes most.processes && (nat_le counts.instances most.instances && (nat_le counts.nets most.nets
    && (nat_le counts.turns most.turns
    && (nat_le counts.statements most.statements && nat_le counts.variable_elements most.variable_elements))))

-- what a whole design may have; its instances are the scopes of its netlist
abbrev pub limits : Counts
limits = record {
  processes = most_processes;
  instances = most_scopes;
  nets = most_nets;
  turns = 4194304;
  statements = 1048576;
  variable_elements = 1048576;
}

abbrev pub is_within_limits : Counts → Bool
is_within_limits c = is_within c limits
