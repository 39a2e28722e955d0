-- Registers as they are written, in two walks: edges first, and then ifs of one edge as one.
use Rattle.std.specs.Prelude.{Bool, true, false, Option, Some, None}
use Rattle.vhdl_names_rules.specs.units.Statements as s
use Rattle.vhdl_names_rules.specs.Registers.{last_edge_first, behind, followed, ends_in_edge}
use Rattle.vhdl_names_registers.specs.Branching.{are_one}

abbrev pub is_null : s.Statement → Bool
is_null s.null_of = true
is_null _ = false

-- an if with its edge first
abbrev pub with_edge_first : s.Statement → s.Statement
with_edge_first (s.if_of at bs) = s.if_of at (last_edge_first at bs)
with_edge_first x = x

abbrev pub edges_first : s.Statements → s.Statements
edges_first s.done = s.done
edges_first (s.step s.null_of rest) = edges_first rest
edges_first (s.step x rest) = s.step (with_edge_first x) (edges_first rest)

abbrev pub tied : s.Statements → s.Statements
tied s.done = s.done
tied (s.step (s.if_of at bs) rest) = followed at bs (tied rest)
tied (s.step x rest) = s.step x (tied rest)

-- two statements are ifs of one edge
abbrev pub are_tied : s.Statement → s.Statement → Bool
are_tied (s.if_of at bs) (s.if_of other cs) = are_one bs cs
are_tied _ _ = false

-- a statement and the one behind it are
abbrev pub goes_on : s.Statement → Option s.Statement → Bool
goes_on x (Some y) = are_tied x y
goes_on x None = false

-- the statements of the last branch
abbrev pub last_body : s.Branches → s.Statements
last_body (s.branch t xs (s.branch r ys bs)) = last_body (s.branch r ys bs)
last_body (s.branch t xs bs) = xs
last_body bs = s.done

-- with these behind them
abbrev pub with_behind : s.Branches → s.Statements → s.Branches
with_behind (s.branch t xs (s.branch r ys bs)) more = s.branch t xs (with_behind (s.branch r ys bs) more)
with_behind (s.branch t xs bs) more = s.branch t (behind xs more) bs
with_behind bs more = bs

-- an if, with the statements of another behind its own
abbrev pub merged : s.Statement → s.Statement → s.Statement
merged (s.if_of at bs) (s.if_of other cs) = s.if_of at (with_behind bs (last_body cs))
merged x y = x

-- so the statement that stands last
abbrev pub with_last : s.Statements → s.Statement → s.Statements
with_last (s.step x (s.step y xs)) z = s.step x (with_last (s.step y xs) z)
with_last (s.step x s.done) z = s.step (merged x z) s.done
with_last s.done z = s.done

-- a statement more: in the last one where that is open, and else behind it
abbrev pub taken : Bool → s.Statements → s.Statement → s.Statements
taken true xs x = with_last xs x
taken false xs x = behind xs (s.step x s.done)

-- an if that ends in an edge
abbrev pub is_register : s.Statement → Bool
is_register (s.if_of at bs) = ends_in_edge bs
is_register x = false
