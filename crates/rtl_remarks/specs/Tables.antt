-- What the code keeps of a netlist while it looks for remarks.
use Rattle.std.specs.Prelude.{◌≡◌, ℕ, ◌<◌, Bool, true, false, ◌&&◌, ◌||◌, List, [], ◌∷◌, length, slice_index_or, is_some, option_map, Option, None}
use Rattle.std.specs.List.Sorted.{IsStrictlyIncreasing}
use Rattle.rtl_model.specs.bodies.Body.{Expr, Stmts}
use Rattle.rtl_model.specs.bodies.Kinds.{Clocking}
use Rattle.rtl_net.specs.Bodies.{operator_view, expr_view, test_view, statement_view, statements_of}
use Rattle.rtl_net.specs.Nets.{NetlistView, SignalView}
use Rattle.rtl_net.specs.declared.body.Alternative.{Alternative}
use Rattle.rtl_net.specs.declared.body.Branch.{Branch}
use Rattle.rtl_net.specs.declared.body.Link.{Link}
use Rattle.rtl_net.specs.declared.body.Statement.{Statement}
use Rattle.rtl_net.specs.declared.body.TestLink.{TestLink}
use Rattle.rtl_net.specs.declared.process.Driver.{Driver}
use Rattle.rtl_body_facts.specs.Reading.{is_in}
use Rattle.rtl_remarks.specs.Remarks.{is_signal, is_top_port, is_of, is_read_port, is_clock, is_logic, reader_from, reset_branch, edge_branch}
use Rattle.rtl_outside_ranges.specs.Outside.{is_integer}
use Rattle.rtl_remarks.specs.Undefined.{passes, whole_of, some_is, is_whole, is_and, fails, counts, stmt_may, may_assign}
use Rattle.rtl_remarks.specs.declared.known.Known.{Known}
use Rattle.rtl_remarks.specs.declared.undefined.Makers.{Makers}
use Rattle.rtl_remarks.specs.declared.signals.Which.{Which}
use Rattle.rtl_remarks.specs.declared.signals.Which.TheVariants.{Signals, TopPorts, Integers}

-- the signals of this kind
abbrev pub takes : Which → SignalView → Bool
takes Signals s = is_signal s
takes TopPorts s = is_top_port s
takes Integers s = is_integer s

-- the numbers of which this is so, rising
pub record AreThose (is : ℕ → Bool) (numbers : List ℕ) : Type 0 where
  pub rise : IsStrictlyIncreasing numbers
  pub are : (n : ℕ) → is_in n numbers ≡ is n

-- of each net the first process that reads it
pub record AreReaders (net : NetlistView) (readers : List (Option ℕ)) : Type 0 where
  pub each_net : length readers ≡ length net.types
  pub each : (n : ℕ) → n < length net.types → slice_index_or readers n None ≡ reader_from 0 net.processes n

-- what is known of a netlist
pub record IsKnown (net : NetlistView) (known : Known) : Type 0 where
  pub signals : AreThose (is_of is_signal net.signals) known.signals.items
  pub ports : AreThose (is_of is_top_port net.signals) known.ports.items
  pub read_ports : AreThose (is_of (is_read_port net) net.signals) known.read_ports.items
  pub clocks : AreThose (is_clock net) known.clocks.items
  pub integers : AreThose (is_of is_integer net.signals) known.integers.items
  pub logic : AreThose (is_logic net) known.logic.items
  pub readers : AreReaders net known.readers.items

-- ---- branches of clocked processes

-- whether a clocked process has a reset
abbrev pub has_reset : Option Clocking → Option Bool
has_reset c = option_map (λ (k : Clocking). is_some k.reset) c

-- the branch under the reset, or under the edge of a process without one
abbrev pub guarded : (reset : Bool) → Option Clocking → Option Stmts
guarded true c = reset_branch c
guarded false c = edge_branch c

-- ---- what is undefined while a net is

-- these make the expression so
pub record MakeUndefined (e : Expr) (found : Makers) : Type 0 where
  pub nets : (n : ℕ) → is_in n found.nets.items ≡ some_is n e
  pub whole : found.whole ≡ is_whole e

-- of a chain, where it is known of the operands before these
abbrev pub links_some : (n : ℕ) → (left : Bool) → List Link → Bool
links_some n left [] = left
links_some n left (l ∷ ls) =
    links_some n (passes (operator_view l.operator) && (left || some_is n (expr_view l.operand))) ls

abbrev pub links_whole : (left : Bool) → List Link → Bool
links_whole left [] = left
links_whole left (l ∷ ls) = links_whole (whole_of (operator_view l.operator) left (is_whole (expr_view l.operand))) ls

abbrev pub tests_fail : (n : ℕ) → (left : Bool) → List TestLink → Bool
tests_fail n left [] = left
tests_fail n left (l ∷ ls) = tests_fail n (is_and l.operator && (left || fails n (test_view l.operand))) ls

-- a statement of a sequence, a branch of an if, and an alternative of a case
abbrev pub statement_may : List Driver → (kept : Bool) → (n : ℕ) → Statement → Bool
statement_may drives kept n s = stmt_may drives kept n (statement_view s)

abbrev pub branch_may : List Driver → (kept : Bool) → (n : ℕ) → Branch → Bool
branch_may drives kept n b =
    counts kept n (test_view b.test) && may_assign drives kept n (statements_of b.statements.items)

abbrev pub alternative_may : List Driver → (kept : Bool) → (n : ℕ) → Alternative → Bool
alternative_may drives kept n a = may_assign drives kept n (statements_of a.statements.items)
