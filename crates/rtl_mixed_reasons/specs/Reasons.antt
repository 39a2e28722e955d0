-- Why a process is neither clocked nor combinational: the first of eight reasons that fits its body. A register is
-- one if (IEEE 1076-2008, 10.8) and nothing else. Its condition is an edge, alone; or an asynchronous reset's comes
-- first and the edge behind it, and it has no else (docs/LANGUAGE.md, "Registers"). Each reason tells what stands in
-- the way.
use Rattle.std.specs.Prelude.{ℕ, zero, suc, ◌+◌, Bool, true, false, not, ◌&&◌, ◌||◌, ◌==◌, nat_lt, if◌then◌else◌, List, [], ◌∷◌, ◌++◌, length, map, take, drop, find, slice_get, Option, Some, None, is_some, is_none, option_map, option_and_then}
use Rattle.std.specs.List.{list_any}
use Rattle.vhdl_values.specs.declared.kinds.Edge.{Edge}
use Rattle.vhdl_values.specs.declared.kinds.Edge.TheVariants.{Rising, Falling, To1, To0}
use Rattle.rtl_model.specs.bodies.Assigns.{stmts_assign}
use Rattle.rtl_model.specs.bodies.Body.{Test, level, Value, Stmt, null_of, assign, set, if_of, Stmts, done, step, Branches, no_else, otherwise, branch}
use Rattle.rtl_model.specs.bodies.Kinds.{edge_to, clocking}
use Rattle.rtl_model.specs.bodies.Reads.{value_reads, events}
use Rattle.rtl_net.specs.declared.body.Statement.{Statement}
use Rattle.rtl_net.specs.declared.body.Statement.TheVariants as s
use Rattle.rtl_net.specs.declared.body.Branch.{Branch}
use Rattle.rtl_net.specs.declared.process.Process.{Process}
use Rattle.rtl_net.specs.Bodies.{test_view, statement_view, statements_of}
use Rattle.rtl_net.specs.Nets.{NetlistView, body_of}
use Rattle.rtl_body_facts.specs.Paths.{driven, to_net}
use Rattle.rtl_body_facts.specs.Reading.{is_in, some}
use Rattle.rtl_copy_ends.specs.Ends.{driven_by}
use Rattle.rtl_mixed_reasons.specs.Edges.{edge_of, is_gated, holds_of}
use Rattle.rtl_mixed_reasons.specs.declared.body.Alone.{Alone}
use Rattle.rtl_mixed_reasons.specs.declared.body.Alone.TheVariants.{Gated, Elsewhere}
use Rattle.rtl_mixed_reasons.specs.declared.ifs.EdgeIf.{EdgeIf}
use Rattle.rtl_mixed_reasons.specs.declared.edges.EdgeTest.{EdgeTest}
use Rattle.rtl_mixed_reasons.specs.declared.reason.Reason.{Reason}
use Rattle.rtl_mixed_reasons.specs.declared.reason.ReasonKind.{ReasonKind}
use Rattle.rtl_mixed_reasons.specs.declared.reason.ReasonKind.TheVariants.{GatedEdge, SecondEdge, EdgeInLoop, OtherEdge, OtherEdgeToo, ResetBehind, ResetDriven, ResetNoInput, ResetReads, ResetComputes, NoResetTest, NoTestBehind, SeveralResets, BehindEdge, Beside, BesideToo, StandsBeside, NoEdge, EdgeInside}

-- it names nothing, a net, or two
abbrev pub plain : ReasonKind → (at : ℕ) → Reason
plain kind at = record { kind = kind; at = at; net = None; driver = None; second = None }

abbrev pub naming : ReasonKind → (at net : ℕ) → Reason
naming kind at net = record { kind = kind; at = at; net = Some net; driver = None; second = None }

abbrev pub naming_two : ReasonKind → (at net second : ℕ) → Reason
naming_two kind at net second =
    record { kind = kind; at = at; net = Some net; driver = None; second = Some second }

-- ---- the ifs of a body

-- the byte at which an if or a case starts; for that of another statement the one stands that is given
abbrev pub at_or : (given : ℕ) → Statement → ℕ
at_or given (s.If' at shape branches last) = at
at_or given (s.Case' at selector shape alternatives of_last last) = at
at_or given _ = given

abbrev pub at_of : Statement → ℕ
at_of x = at_or 0 x

abbrev pub branches_of_if : Stmt → Option Branches
branches_of_if (if_of bs) = Some bs
branches_of_if _ = None

abbrev pub if_branches : Statement → Option Branches
if_branches x = branches_of_if (statement_view x)

-- its conditions, the branch of the one before which so many stand, and whether it has an else; and the conditions of
-- branches in a list
abbrev pub conditions : Branches → List Test
conditions (branch t s bs) = t ∷ conditions bs
conditions _ = []

abbrev pub tests_of : List Branch → List Test
tests_of bs = map (λ (b : Branch). test_view b.test) bs

abbrev pub branch_of : Branches → (before : ℕ) → Stmts
branch_of no_else before = done
branch_of (otherwise s) before = done
branch_of (branch t s bs) zero = s
branch_of (branch t s bs) (suc before) = branch_of bs before

abbrev pub has_else : Branches → Bool
has_else no_else = false
has_else (otherwise s) = true
has_else (branch t s bs) = has_else bs

-- An if with an edge among its conditions has the place of a register: of these conditions, so many of which stand
-- before them, the first that is an edge.
abbrev pub edge_in : (number at before : ℕ) → List Test → Option EdgeIf
edge_in number at before [] = None
edge_in number at before (t ∷ ts) =
    if is_some (edge_of t)
    then option_map (λ e. record { number = number; at = at; before = before; edge = e }) (edge_of t)
    else edge_in number at (before + 1) ts

abbrev pub edge_if : (number : ℕ) → Statement → Option EdgeIf
edge_if number x = option_and_then (λ bs. edge_in number (at_of x) 0 (conditions bs)) (if_branches x)

-- of some statements, the first of which has this number, the first if with an edge
abbrev pub first_edge : (number : ℕ) → List Statement → Option EdgeIf
first_edge number [] = None
first_edge number (x ∷ xs) = if is_some (edge_if number x) then edge_if number x else first_edge (number + 1) xs

-- what is found in the first of some statements in which something is
abbrev pub first_in : {A : Type 0} → (found : Statement → Option A) → List Statement → Option A
first_in found [] = None
first_in found (x ∷ xs) = if is_some (found x) then found x else first_in found xs

-- ---- what a process assigns

-- somewhere in these statements, on whatever path, it assigns this net
abbrev pub assigns : Process → Stmts → (n : ℕ) → Bool
assigns p s n = stmts_assign (to_net p.drives.items n) s

-- the same of one statement
abbrev pub assigns_in : Process → Statement → (n : ℕ) → Bool
assigns_in p x n = assigns p (statements_of (x ∷ [])) n

-- of the nets that it drives, in order of declaration, the first such
abbrev pub first_net : Process → (such : ℕ → Bool) → Option ℕ
first_net p such = find such (driven p.drives.items)

-- ---- resets

-- the net of a reset's test: `s = '1'` or `s = '0'`, in either order
abbrev pub reset_net : Test → Option ℕ
reset_net (level plain net v) = if is_some (edge_to v) then Some net else None
reset_net _ = None

abbrev pub is_reset : Test → Bool
is_reset t = is_some (reset_net t)

abbrev pub first_reset : List Test → Option ℕ
first_reset [] = None
first_reset (t ∷ ts) = reset_net t

-- the reset of an if whose edge stands behind one condition
abbrev pub reset_of : (before : ℕ) → List Test → Option ℕ
reset_of before ts = if before == 1 then first_reset ts else None

-- what a reset's branch has beside assignments of constants to signals: told of what comes first, a net that it
-- reads, or an if, a case or, where the netlist isn't wide, an assignment of a variable
abbrev pub head_of : List ℕ → Option ℕ
head_of [] = None
head_of (n ∷ ns) = Some n

abbrev pub reads_in : (at : ℕ) → Value → Option Reason
reads_in at v = option_map (naming ResetReads at) (head_of (value_reads v))

abbrev pub computes_in : (wide : Bool) → (at : ℕ) → Stmt → Option Reason
computes_in wide at null_of = None
computes_in wide at (assign places v) = reads_in at v
computes_in wide at (set es v) = if wide then reads_in at v else Some (plain ResetComputes at)
computes_in wide at _ = Some (plain ResetComputes at)

abbrev pub computes : (wide : Bool) → (at : ℕ) → Stmts → Option Reason
computes wide at done = None
computes wide at (step s rest) =
    if is_some (computes_in wide at s) then computes_in wide at s else computes wide at rest

-- ---- 1. An edge beside another condition, without a further event in it. A wide netlist has registers with one in
-- the last branch (docs/WIDE.md), so that an else or an elsif behind it is told there.

abbrev pub stands_behind : (before : ℕ) → Branches → Bool
stands_behind before bs = nat_lt 1 (length (drop before (conditions bs))) || has_else bs

-- before the first of these conditions so many stand
abbrev pub first_gated : (before : ℕ) → List Test → Option ℕ
first_gated before [] = None
first_gated before (t ∷ ts) = if is_gated t then Some before else first_gated (before + 1) ts

abbrev pub gated_kind : (wide behind : Bool) → ReasonKind
gated_kind wide behind = if wide && behind then BehindEdge else GatedEdge

abbrev pub gated_in : (wide : Bool) → (at : ℕ) → Branches → Option Reason
gated_in wide at bs =
    option_map (λ before. plain (gated_kind wide (stands_behind before bs)) at) (first_gated 0 (conditions bs))

abbrev pub gated_edge : (wide : Bool) → Statement → Option Reason
gated_edge wide x = option_and_then (gated_in wide (at_of x)) (if_branches x)

-- ---- 2. A second if with an edge: the same one, in two ifs or in two turns of a loop, which start at one byte; or
-- another one, told with the first net that both ifs assign. In a wide netlist two ifs of one edge and nothing else are
-- one register, but for what stands between them.

abbrev pub has_one : Branches → Bool
has_one (branch t s no_else) = true
has_one _ = false

-- an if with one branch and no else
abbrev pub is_sole : Statement → Bool
is_sole x = holds_of has_one (if_branches x)

abbrev pub same_kind : Edge → Edge → Bool
same_kind Rising Rising = true
same_kind Falling Falling = true
same_kind To1 To1 = true
same_kind To0 To0 = true
same_kind _ _ = false

abbrev pub same_edge : EdgeTest → EdgeTest → Bool
same_edge a b = (a.clock == b.clock) && same_kind a.edge b.edge

abbrev pub other_edge : (at : ℕ) → (net : Option ℕ) → Reason
other_edge at None = plain OtherEdge at
other_edge at (Some n) = naming OtherEdgeToo at n

abbrev pub same_again : (wide : Bool) → (x y : Statement) → (first at : ℕ) → Option Reason
same_again wide x y first at =
    if first == at then Some (plain EdgeInLoop at)
    else if wide && is_sole x && is_sole y then None
    else Some (plain SecondEdge at)

abbrev pub second_edge : (wide : Bool) → Process → (x y : Statement) → (of_x of_y : EdgeIf) → Option Reason
second_edge wide p x y i j =
    if same_edge i.edge j.edge then same_again wide x y i.at j.at
    else Some (other_edge j.at (first_net p (λ n. assigns_in p x n && assigns_in p y n)))

-- what is told of a further statement, if it is an if with an edge
abbrev pub second_if : (wide : Bool) → Process → (x : Statement) → (of_x : EdgeIf) → Statement → Option Reason
second_if wide p x i y = option_and_then (second_edge wide p x y i) (edge_if 0 y)

-- ---- 3. A reset behind the edge: an if with a reset's test alone, whose branch assigns constants, to a net at least,
-- and to none that the edge's branch doesn't assign too

abbrev pub edge_branch : (before : ℕ) → Option Branches → Stmts
edge_branch before None = done
edge_branch before (Some bs) = branch_of bs before

-- `edge` are the nets that the edge's branch assigns
abbrev pub assigns_alike : Process → (edge : ℕ → Bool) → Stmts → Bool
assigns_alike p edge s =
    is_some (first_net p (assigns p s)) && is_none (first_net p (λ n. assigns p s n && not (edge n)))

abbrev pub sole_reset : Process → (edge : ℕ → Bool) → Branches → Option ℕ
sole_reset p edge (branch t s no_else) =
    if is_none (computes false 0 s) && assigns_alike p edge s then reset_net t else None
sole_reset p edge _ = None

abbrev pub reset_behind : Process → (edge : ℕ → Bool) → Statement → Option Reason
reset_behind p edge x = option_map (naming ResetBehind (at_of x)) (option_and_then (sole_reset p edge) (if_branches x))

-- A wide netlist has registers with their reset there, in an if with a reset's test alone, if the edge stands alone
-- before it. Told is what such an if has else: an else or an elsif, another test, or what `computes` finds.
abbrev pub no_reset : (at : ℕ) → Branches → Option Reason
no_reset at (branch t s no_else) = if is_reset t then computes true at s else Some (plain NoTestBehind at)
no_reset at _ = Some (plain BehindEdge at)

abbrev pub unlike_reset : Statement → Option Reason
unlike_reset x = option_and_then (no_reset (at_of x)) (if_branches x)

-- it assigns nets, none of which the edge's branch assigns
abbrev pub is_apart : Process → (edge : ℕ → Bool) → Statement → Bool
is_apart p edge x = is_some (first_net p (assigns_in p x)) && is_none (first_net p (λ n. assigns_in p x n && edge n))

-- such an if is no reset, nor is one with an edge
abbrev pub wide_behind : Process → (edge : ℕ → Bool) → Statement → Option Reason
wide_behind p edge x = if is_some (edge_if 0 x) || is_apart p edge x then None else unlike_reset x

abbrev pub told_behind : (wide : Bool) → Process → (edge : ℕ → Bool) → Statement → Option Reason
told_behind wide p edge x = if wide then wide_behind p edge x else reset_behind p edge x

abbrev pub first_behind : (wide : Bool) → (before : ℕ) → Process → (edge : ℕ → Bool) → List Statement → Option Reason
first_behind wide before p edge xs = if wide && nat_lt 0 before then None else first_in (told_behind wide p edge) xs

-- ---- 4. The reset is no in port of the top, as it has to be where the netlist isn't wide: told with the first process
-- that drives it, if one does

abbrev pub made_by : (at reset : ℕ) → (driver : Option ℕ) → Reason
made_by at reset None = naming ResetNoInput at reset
made_by at reset (Some process) =
    record { kind = ResetDriven; at = at; net = Some reset; driver = Some process; second = None }

abbrev pub made_inside : NetlistView → (at : ℕ) → (reset : ℕ) → Option Reason
made_inside net at reset =
    if net.wide || is_in reset net.inputs then None else Some (made_by at reset (driven_by net reset))

-- ---- 5. The reset's branch has more than assignments of constants: what `computes` finds in it

-- ---- 6. Before the edge stands another condition than a reset's test, or there are several

abbrev pub other_before : (at before : ℕ) → List Test → Option Reason
other_before at before ts =
    if list_any (λ t. not (is_reset t)) (take before ts) then Some (plain NoResetTest at)
    else if nat_lt 1 before then Some (plain SeveralResets at)
    else None

-- ---- 7. An elsif or an else behind the edge: from the edge on there are more conditions than that, or an else

abbrev pub behind_edge : (at before : ℕ) → Branches → Option Reason
behind_edge at before bs =
    if stands_behind before bs then Some (plain BehindEdge at) else None

-- ---- 8. Statements beside the if with the edge, which are before it or behind it: told of the first of them that
-- assigns a net, with the first that it assigns; of the first, where none does

-- what may stand behind an edge alone as its reset, in a wide netlist
abbrev pub may_reset : Statement → Bool
may_reset x = is_some (if_branches x) && is_none (unlike_reset x)

-- all but the first such
abbrev pub but_reset : List Statement → List Statement
but_reset [] = []
but_reset (x ∷ xs) = if may_reset x then xs else x ∷ but_reset xs

abbrev pub others : (wide : Bool) → (before : ℕ) → List Statement → List Statement
others wide before xs = if wide && (before == 0) then but_reset xs else xs

abbrev pub statements_beside : (wide : Bool) → Process → EdgeIf → List Statement
statements_beside wide p i = take i.number p.body.items ++ others wide i.before (drop (i.number + 1) p.body.items)

-- the if with the edge assigns the net too
abbrev pub beside : (too : Bool) → (at net : ℕ) → Reason
beside too at net = naming (if too then BesideToo else Beside) at net

-- `edge` are the nets that the if with the edge assigns
abbrev pub assigns_beside : Process → (edge : ℕ → Bool) → (at : ℕ) → Statement → Option Reason
assigns_beside p edge at x = option_map (λ n. beside (edge n) (at_or at x) n) (first_net p (assigns_in p x))

abbrev pub stands_beside : (at : ℕ) → Statement → Option Reason
stands_beside at x = Some (plain StandsBeside (at_or at x))

abbrev pub beside_reasons : (wide : Bool) → Process → EdgeIf → (edge : ℕ → Bool) → List (Option Reason)
beside_reasons wide p i edge =
    first_in (assigns_beside p edge i.at) (statements_beside wide p i)
    ∷ first_in (stands_beside i.at) (statements_beside wide p i)
    ∷ []

-- ---- What is left, of the first statement with an edge or `'event` in it: it stands deeper, under a condition of any
-- kind or in a case, or in a condition. Where that is an edge, a wide netlist's reset sets variables, and looks at one
-- whose value isn't known; else the condition is no edge.

abbrev pub inner_events : Branches → List ℕ
inner_events no_else = []
inner_events (otherwise s) = events s
inner_events (branch t s bs) = events s ++ inner_events bs

abbrev pub kind_at : (inner edge : Bool) → ReasonKind
kind_at inner edge = if inner then EdgeInside else if edge then ResetComputes else NoEdge

abbrev pub elsewhere_in : (at : ℕ) → (edge : Bool) → Option Branches → Reason
elsewhere_in at edge None = plain EdgeInside at
elsewhere_in at edge (Some bs) = plain (kind_at (some (inner_events bs)) edge) at

abbrev pub told_elsewhere : Statement → Reason
told_elsewhere x = elsewhere_in (at_of x) (is_some (edge_if 0 x)) (if_branches x)

abbrev pub elsewhere : Statement → Option Reason
elsewhere x = if some (events (statements_of (x ∷ []))) then Some (told_elsewhere x) else None

-- ---- what is told of a statement, whatever stands beside it

abbrev pub told_alone : (wide : Bool) → Alone → Statement → Option Reason
told_alone wide Gated = gated_edge wide
told_alone wide Elsewhere = elsewhere

-- ---- the first that fits

abbrev pub first_that_fits : List (Option Reason) → Option Reason
first_that_fits [] = None
first_that_fits (r ∷ rs) = if is_some r then r else first_that_fits rs

-- 4 and 5 are of the reset of the if with the edge, told by its conditions and the branch of the first; 4 to 7 of the
-- if itself
abbrev pub reset_reason : NetlistView → EdgeIf → List Test → (first : Stmts) → Option Reason
reset_reason net i ts first = first_that_fits
    (option_and_then (made_inside net i.at) (reset_of i.before ts)
    ∷ (if is_some (reset_of i.before ts) then computes net.wide i.at first else None)
    ∷ [])

abbrev pub own_reasons : NetlistView → EdgeIf → Branches → List (Option Reason)
own_reasons net i bs =
    reset_reason net i (conditions bs) (branch_of bs 0)
    ∷ other_before i.at i.before (conditions bs)
    ∷ behind_edge i.at i.before bs
    ∷ []

abbrev pub own_reason : NetlistView → EdgeIf → Statement → Option Reason
own_reason net i x = option_and_then (λ bs. first_that_fits (own_reasons net i bs)) (if_branches x)

-- 2 to 8 are of the first if with an edge
abbrev pub edge_reasons : NetlistView → Process → EdgeIf → Statement → List (Option Reason)
edge_reasons net p i x =
    first_in (second_if net.wide p x i) (drop (i.number + 1) p.body.items)
    ∷ first_behind net.wide i.before p (assigns p (edge_branch i.before (if_branches x)))
    (drop (i.number + 1) p.body.items)
    ∷ own_reason net i x
    ∷ first_that_fits (beside_reasons net.wide p i (assigns_in p x))
    ∷ []

abbrev pub edge_reason : NetlistView → Process → Option EdgeIf → Option Reason
edge_reason net p None = None
edge_reason net p (Some i) =
    option_and_then (λ x. first_that_fits (edge_reasons net p i x)) (slice_get p.body.items i.number)

abbrev pub reason_of_body : NetlistView → Process → Option Reason
reason_of_body net p = first_that_fits
    (first_in (gated_edge net.wide) p.body.items
    ∷ edge_reason net p (first_edge 0 p.body.items)
    ∷ first_in elsewhere p.body.items
    ∷ [])

-- an edge or `'event` stands in its body, and it isn't a clocked process's
abbrev pub is_mixed : NetlistView → Process → Bool
is_mixed net p = is_none (clocking net.wide net.inputs (body_of p)) && some (events (body_of p))
