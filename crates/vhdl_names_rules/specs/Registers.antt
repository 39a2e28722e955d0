-- Registers as they are written, in the wider language: an edge beside other conditions, and in several ifs (IEEE
-- 1076-2008, 9.2.2, 10.8). An if with a gated edge tests the edge and under it the gate, and ifs of one edge are one. A
-- run of the process does what it did: where `and` stops (9.2.2) is not seen, since no operand has an effect (an index
-- outside is X, which is none either); and an edge is the same throughout a run. All else stays as it stands.
use Rattle.std.specs.Prelude.{ℕ, Bool, false, ◌||◌, if◌then◌else◌, List, ◌∷◌, map, Option, Some, None, option_map, is_some, unwrap_or}
use Rattle.vhdl_lexer.specs.declared.language.Language.{Language}
use Rattle.vhdl_lexer.specs.declared.language.Language.TheVariants.{Profile, Wide}
use Rattle.vhdl_tree.specs.Tree.{File}
use Rattle.vhdl_names_rules.specs.units.Expressions.{Test}
use Rattle.vhdl_names_rules.specs.units.Statements as s
use Rattle.vhdl_names_rules.specs.units.Units as u
use Rattle.vhdl_names_rules.specs.units.Units.{Units}
use Rattle.vhdl_names_rules.specs.Rules.{◌>>=◌, then_some}
use Rattle.vhdl_names_rules.specs.Edges.{Edge, conditions, joined, gated, edge_alone, same_edge, at_edge}
use Rattle.vhdl_names_rules.specs.Statements.{alone}
use Rattle.vhdl_names_rules.specs.Files.{units_of}

-- ---- the edge first

-- a last branch: with an edge beside other conditions that edge, and under it, in an if that starts at this byte, those
abbrev pub gate_under : (at : ℕ) → Test → s.Statements → Option (Edge × List Test) → s.Branches
gate_under at t xs (Some (e, r ∷ rs)) = at_edge e (alone (s.if_of at (s.branch (joined r rs) xs s.no_else)))
gate_under at t xs _ = s.branch t xs s.no_else

abbrev pub edge_first : (at : ℕ) → Test → s.Statements → s.Branches
edge_first at t xs = gate_under at t xs (gated (conditions t))

-- in the last branch of an if without else
abbrev pub last_edge_first : (at : ℕ) → s.Branches → s.Branches
last_edge_first at (s.branch t xs s.no_else) = edge_first at t xs
last_edge_first at (s.branch t xs bs) = s.branch t xs (last_edge_first at bs)
last_edge_first at bs = bs

-- ---- ifs of one edge, one behind the other, are one

-- one sequence behind another
abbrev pub behind : s.Statements → s.Statements → s.Statements
behind s.done ys = ys
behind (s.step x xs) ys = s.step x (behind xs ys)

-- each is this edge and nothing else
abbrev pub are_one_edge : Test → Test → Bool
are_one_edge t r = unwrap_or (edge_alone t >>= λ e. option_map (same_edge e) (edge_alone r)) false

-- two ifs of one edge: the first, and behind its statements those of the second
abbrev pub as_one : s.Branches → s.Branches → Option s.Branches
as_one (s.branch t xs s.no_else) (s.branch r ys s.no_else) =
    then_some (are_one_edge t r) (s.branch t (behind xs ys) s.no_else)
as_one _ _ = None

-- an if that these statements follow; with the first of them it is one where it can be
abbrev pub followed : (at : ℕ) → s.Branches → s.Statements → s.Statements
followed at bs (s.step (s.if_of other cs) rest) =
    unwrap_or (option_map (λ all. s.step (s.if_of at all) rest) (as_one bs cs))
    (s.step (s.if_of at bs) (s.step (s.if_of other cs) rest))
followed at bs rest = s.step (s.if_of at bs) rest

-- ---- the statements of a process

-- each if with its edge first, and ifs of one edge as one; nulls are dropped
abbrev pub registered : s.Statements → s.Statements
registered s.done = s.done
registered (s.step s.null_of rest) = registered rest
registered (s.step (s.if_of at bs) rest) = followed at (last_edge_first at bs) (registered rest)
registered (s.step x rest) = s.step x (registered rest)

-- there is no else, and the last condition has an edge, alone or gated
abbrev pub ends_in_edge : s.Branches → Bool
ends_in_edge (s.branch t xs s.no_else) = is_some (gated (conditions t))
ends_in_edge (s.branch t xs bs) = ends_in_edge bs
ends_in_edge _ = false

-- one of some statements is such an if
abbrev pub has_register : s.Statements → Bool
has_register s.done = false
has_register (s.step (s.if_of at bs) rest) = ends_in_edge bs || has_register rest
has_register (s.step x rest) = has_register rest

-- a body without one stays as it is, nulls and all
abbrev pub body_written : s.Statements → s.Statements
body_written xs = if has_register xs then registered xs else xs

-- ---- units

unfoldable mutual
  pub concurrent_written : u.Concurrent → u.Concurrent
  concurrent_written (u.process p) = u.process (record p { body = body_written p.body })
  concurrent_written (u.instance x) = u.instance x
  concurrent_written (u.generate_for at label range body) = u.generate_for at label range (concurrents_written body)
  concurrent_written (u.generate_if at label test body) = u.generate_if at label test (concurrents_written body)

  pub concurrents_written : u.Concurrents → u.Concurrents
  concurrents_written u.no_concurrents = u.no_concurrents
  concurrents_written (u.concurrent x xs) = u.concurrent (concurrent_written x) (concurrents_written xs)

abbrev pub architecture_written : u.Architecture → u.Architecture
architecture_written a = record a { statements = concurrents_written a.statements }

abbrev pub entity_written : u.Entity → u.Entity
entity_written x = record x { architecture = option_map architecture_written x.architecture }

-- with registers as the checker knows them
abbrev pub units_written : Units → Units
units_written units = map entity_written units

-- the units of a file that is read in this language
abbrev pub units_in : Language → File → Option Units
units_in Profile f = units_of Profile f
units_in Wide f = option_map units_written (units_of Wide f)
