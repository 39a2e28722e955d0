-- Remarks on a netlist, whatever the checker says of it: a signal that is read and that nothing drives; an out port
-- that nothing assigns, of the top or of an instance; a register that its reset's branch leaves out; a clock that
-- combinational logic reads as data; a register that starts undefined and stays so; an element of an in port that
-- nothing reads, though others are read; an integer that may be given a number outside its range.
use Rattle.std.specs.Prelude.{ℕ, suc, Bool, true, false, not, ◌&&◌, ◌==◌, if◌then◌else◌, List, [], ◌∷◌, ◌++◌, length, map, flat_map, Option, Some, None}
use Rattle.std.specs.List.{list_any, filter, range_with_len}
use Rattle.std.specs.Option.{is_some}
use Rattle.vhdl_values.specs.Scalar.{code_of}
use Rattle.vhdl_values.specs.declared.scalar.Nine.TheVariants.{U}
use Rattle.rtl_model.specs.basics.Lists.{is_empty}
use Rattle.rtl_model.specs.bodies.Assigns.{must_assign}
use Rattle.rtl_model.specs.bodies.Body.{Stmts}
use Rattle.rtl_model.specs.bodies.Kinds.{Clocking, ResetPart, clocking}
use Rattle.rtl_model.specs.bodies.Reads.{events}
use Rattle.rtl_model.specs.nets.FlatNetlist.{flat_sources}
use Rattle.rtl_model.specs.simulation.Netlist.{Source, Driver, Idle}
use Rattle.rtl_net.specs.declared.process.Driver.{Driver as Driver'}
use Rattle.rtl_net.specs.declared.process.Process.{Process}
use Rattle.rtl_net.specs.Nets.{NetlistView, SignalView, flat, body_of}
use Rattle.rtl_body_facts.specs.Paths.{driven, to_net}
use Rattle.rtl_body_facts.specs.Reading.{is_in}
use Rattle.rtl_remarks.specs.declared.remark.Remark.{Remark}
use Rattle.rtl_remarks.specs.declared.remark.RemarkKind.{RemarkKind}
use Rattle.rtl_remarks.specs.declared.remark.RemarkKind.TheVariants.{Undriven, Unassigned, IdlePort, NotReset, ClockRead, NeverKnown, UnreadElement, OutsideRange}
use Rattle.rtl_outside_ranges.specs.Outside.{gives, is_integer}
use Rattle.rtl_remarks.specs.Undefined.{may_assign}

-- it names a net alone, or a process too
abbrev pub at_net : RemarkKind → (n : ℕ) → Remark
at_net kind n = record { kind = kind; process = None; net = n }

abbrev pub at_process : RemarkKind → (process n : ℕ) → Remark
at_process kind process n = record { kind = kind; process = Some process; net = n }

-- ---- nets

abbrev pub is_signal : SignalView → Bool
is_signal s = not s.port

abbrev pub is_top_port : SignalView → Bool
is_top_port s = s.port && (s.scope == 0)

-- one of these has the net as an element
abbrev pub is_of : (these : SignalView → Bool) → List SignalView → (n : ℕ) → Bool
is_of these signals n = list_any (λ s. these s && is_in n s.nets) signals

-- no process drives it, no out port of an instance, and it's no in port of the top
abbrev pub has_no_driver : NetlistView → (n : ℕ) → Bool
has_no_driver net n = not (is_in n net.inputs) && is_empty (flat_sources (flat net) n)

-- of these processes, the first of which has this number, the first that reads the net
abbrev pub reader_from : (number : ℕ) → List Process → (n : ℕ) → Option ℕ
reader_from number [] n = None
reader_from number (p ∷ ps) n = if is_in n p.reads.items then Some number else reader_from (suc number) ps n

abbrev pub read_by : (n : ℕ) → (reader : Option ℕ) → List Remark
read_by n None = []
read_by n (Some process) = at_process Undriven process n ∷ []

-- a signal, no port, that nothing drives and some process reads: told of the first that does
abbrev pub undriven : NetlistView → (n : ℕ) → List Remark
undriven net n =
    if is_of is_signal net.signals n && has_no_driver net n then read_by n (reader_from 0 net.processes n) else []

-- an out port of the top that nothing drives
abbrev pub unassigned : NetlistView → (n : ℕ) → List Remark
unassigned net n = if is_of is_top_port net.signals n && has_no_driver net n then at_net Unassigned n ∷ [] else []

abbrev pub is_idle : Source → Bool
is_idle (Driver process place) = false
is_idle (Idle value) = true

-- an out port of an instance, which nothing inside drives, is a source of the net
abbrev pub idle : NetlistView → (n : ℕ) → List Remark
idle net n = if list_any is_idle (flat_sources (flat net) n) then at_net IdlePort n ∷ [] else []

abbrev pub is_read : NetlistView → (n : ℕ) → Bool
is_read net n = is_some (reader_from 0 net.processes n)

-- a port of the top with an element that some process reads
abbrev pub is_read_port : NetlistView → SignalView → Bool
is_read_port net s = is_top_port s && list_any (is_read net) s.nets

-- an element of such an in port that no process reads
abbrev pub unread : NetlistView → (n : ℕ) → List Remark
unread net n =
    if is_in n net.inputs && (is_of (is_read_port net) net.signals n && not (is_read net n))
    then at_net UnreadElement n ∷ []
    else []

abbrev pub on_net : NetlistView → RemarkKind → (n : ℕ) → List Remark
on_net net Undriven n = undriven net n
on_net net Unassigned n = unassigned net n
on_net net IdlePort n = idle net n
on_net net UnreadElement n = unread net n
on_net net _ n = []

-- ---- processes

-- of a reset that keeps the branch under the edge from running
abbrev pub branch_of_reset : Option ResetPart → Option Stmts
branch_of_reset None = None
branch_of_reset (Some r) = if r.gates then Some r.branch else None

-- the only branch that a clocked process runs while its reset holds
abbrev pub reset_branch : Option Clocking → Option Stmts
reset_branch None = None
reset_branch (Some c) = branch_of_reset c.reset

abbrev pub leaves_out : Process → Option Stmts → (n : ℕ) → Bool
leaves_out p None n = false
leaves_out p (Some branch) n = is_in n (driven p.drives.items) && not (must_assign (to_net p.drives.items n) branch)

-- some process looks for an edge of the net, or for another event
abbrev pub is_clock : NetlistView → (n : ℕ) → Bool
is_clock net n = list_any (λ p. is_in n (events (body_of p))) net.processes

-- of a combinational process, the clocks that it reads
abbrev pub clocks_read : NetlistView → Process → List ℕ
clocks_read net p = if is_empty (events (body_of p)) then filter (is_clock net) p.reads.items else []

abbrev pub without_reset : Option ResetPart → Stmts → Option Stmts
without_reset None s = Some s
without_reset (Some r) s = None

-- the branch that a clocked process without a reset runs at its edge
abbrev pub edge_branch : Option Clocking → Option Stmts
edge_branch None = None
edge_branch (Some c) = without_reset c.reset c.branch

-- one of these drivers is the net's, and starts with `U`
abbrev pub starts_undefined : List Driver' → (n : ℕ) → Bool
starts_undefined drives n = list_any (λ (d : Driver'). (d.start == code_of U) && (d.net == n)) drives

-- A driver of the net starts undefined, some assignment keeps the net so, and none that may run then frees it: it is
-- undefined for ever.
abbrev pub stays_undefined : Process → Option Stmts → (n : ℕ) → Bool
stays_undefined p None n = false
stays_undefined p (Some s) n =
    (may_assign p.drives.items true n s && not (may_assign p.drives.items false n s))
    && starts_undefined p.drives.items n

-- the process is combinational and drives the net
abbrev pub is_made : Process → (n : ℕ) → Bool
is_made p n = is_empty (events (body_of p)) && is_in n (driven p.drives.items)

-- some combinational process drives the net
abbrev pub is_logic : NetlistView → (n : ℕ) → Bool
is_logic net n = list_any (λ p. is_made p n) net.processes

-- a digit of an integer to which the process may give a number outside its range
abbrev pub may_leave_range : NetlistView → Process → (n : ℕ) → Bool
may_leave_range net p n =
    is_of is_integer net.signals n && gives p.drives.items (is_logic net) (λ m. false) n (body_of p)

-- Of a process the nets with which remarks of a kind name it: those that it drives and the branch of its reset
-- doesn't assign, the clocks that it reads as data, its registers without a reset that stay undefined, and the integers
-- that it may take out of their ranges.
abbrev pub named : NetlistView → RemarkKind → Process → List ℕ
named net NotReset p =
    filter (leaves_out p (reset_branch (clocking net.wide net.inputs (body_of p))))
    (range_with_len 0 (length net.types))
named net ClockRead p = clocks_read net p
named net NeverKnown p =
    filter (stays_undefined p (edge_branch (clocking net.wide net.inputs (body_of p))))
    (range_with_len 0 (length net.types))
named net OutsideRange p = filter (may_leave_range net p) (range_with_len 0 (length net.types))
named net _ p = []

abbrev pub on_process : NetlistView → RemarkKind → (number : ℕ) → Process → List Remark
on_process net kind number p = map (at_process kind number) (named net kind p)

-- ---- the netlist

-- of these processes, the first of which has this number
abbrev pub of_processes : (remarks : ℕ → Process → List Remark) → (number : ℕ) → List Process → List Remark
of_processes remarks number [] = []
of_processes remarks number (p ∷ ps) = remarks number p ++ of_processes remarks (suc number) ps

abbrev pub of_nets : (remarks : ℕ → List Remark) → (count : ℕ) → List Remark
of_nets remarks count = flat_map remarks (range_with_len 0 count)

abbrev pub on_nets : NetlistView → RemarkKind → List Remark
on_nets net kind = of_nets (on_net net kind) (length net.types)

abbrev pub on_processes : NetlistView → RemarkKind → List Remark
on_processes net kind = of_processes (on_process net kind) 0 net.processes

-- one kind after the other, each by net, or by process and net
abbrev pub remarks_of : NetlistView → List Remark
remarks_of net =
    on_nets net Undriven ++ on_nets net Unassigned ++ on_nets net IdlePort
    ++ on_processes net NotReset ++ on_processes net ClockRead ++ on_processes net NeverKnown
    ++ on_nets net UnreadElement ++ on_processes net OutsideRange
