-- The notes of a finding: its own first, and then those of its rule, of each byte the first.
use Rattle.std.specs.Prelude.{ℕ, ◌-◌, ◌==◌, Bool, false, if◌then◌else◌, List, [], ◌∷◌, ◌++◌, length, slice_get, take, Option, Some, None, flat_map, option_and_then}
use Rattle.rtl_model.specs.simulation.Accepted.{Fault, TwoDrivers, EdgeNotSensitive, MissingSensitivity, Loop, NetLoop}
use Rattle.rtl_net.specs.Nets.{NetlistView, body_of, label_at}
use Rattle.rtl_net.specs.declared.body.Statement.{Statement}
use Rattle.rtl_net.specs.declared.body.Statement.TheVariants as s
use Rattle.rtl_net.specs.declared.process.Process.{Process}
use Rattle.rtl_body_facts.specs.Reading.{some}
use Rattle.rtl_model.specs.bodies.Reads.{events}
use Rattle.rtlsim_findings.specs.Causes.{at_process}
use Rattle.rtlsim_circles.specs.Circles.{first_or}
use Rattle.rtlsim_findings.specs.Findings.{FindingView}
use Rattle.rtlsim_findings.specs.Once.{each_new}
use Rattle.rtlsim_findings.specs.Sayings.{note_at, note_text}
use Rattle.rtlsim_findings.specs.declared.cause.Obstacle.{Obstacle}
use Rattle.fault_rules.specs.declared.report.Subject.{Subject}
use Rattle.fault_rules.specs.declared.report.Subject.TheVariants.{Sources}
use Rattle.rtlsim_listing.specs.DotText.{driver_in}
use Rattle.rtlsim_listing.specs.Reports.{report_of}
use Rattle.rtlsim_notes.specs.Loops.{loop_of}
use Rattle.rtlsim_notes.specs.Sayings.{connection_text, inside_text, lack_text, look_text, loop_text, read_text, step_text}
use Rattle.rtlsim_notes.specs.Scopes.{child_of, instance_of, names_in, scope_of, scope_of_net}
use Rattle.rtlsim_notes.specs.declared.noted.Note.{Note}
use Rattle.vhdl_lexer.specs.declared.token.Token.{Token}
use Rattle.vhdl_lexer.specs.declared.token.TokenKind.TheVariants as k
use Rattle.vhdl_places.specs.Lists.{unread_name}
use Rattle.vhdl_places.specs.Maps.{connection, driving_port}
use Rattle.vhdl_places.specs.Statements.{body, statement}
use Rattle.vhdl_places.specs.Uses.{first_use}
use Rattle.vhdl_places.specs.declared.lists.Lack.{Lack}
use Rattle.vhdl_places.specs.declared.lists.Lack.TheVariants.{EdgeBranch}
use Rattle.vhdl_places.specs.declared.lists.Unread.{Unread}
use Rattle.vhdl_places.specs.declared.uses.Use.TheVariants as uses
use Rattle.vhdl_slips.specs.Parts.{begins, from}
use Rattle.vhdl_slips.specs.Words as words
use Rattle.vhdl_slips.specs.Words.{Read, text_of, with_tokens}

-- a byte of the source, and what is said there
pub record NoteView : Type 0 where
  pub at : ℕ
  pub text : List ℕ

abbrev pub note_view : Note → NoteView
note_view note = record { at = note.at; text = note.text.items }

abbrev pub note : (at : ℕ) → (text : List ℕ) → NoteView
note at text = record { at = at; text = text }

-- the tokens from where a process starts
abbrev pub tokens_from : Read → Option ℕ → List Token
tokens_from source None = []
tokens_from source (Some at) = (words.from at source).tokens

abbrev pub tokens_of : Read → NetlistView → (process : ℕ) → List Token
tokens_of source net process = tokens_from source (at_process net (Some process))

-- ---- the finding's own: where an edge or an event makes a process neither clocked nor combinational (reasons 15 and
-- 16), at that one

-- the first inside the statement, and in a process that waits the first behind its wait
abbrev pub inner_edge : (text : List ℕ) → List Token → Option Token
inner_edge text tokens =
    if begins k.Wait tokens then first_use uses.AnyEdge text [] (from k.Semicolon tokens)
    else first_use uses.InnerEdge text [] tokens

abbrev pub edge_in : (text : List ℕ) → (kind : ℕ) → List Token → Option Token
edge_in text kind tokens =
    if kind == 16 then inner_edge text tokens
    else (if kind == 15 then first_use uses.AnyEdge text [] tokens else None)

-- of the process that starts at this byte
abbrev pub edge_of : Read → (start : Option ℕ) → Option Obstacle → Option Token
edge_of source start None = None
edge_of source start (Some obstacle) =
    edge_in source.text obstacle.kind
    (words.from obstacle.at (with_tokens source.text (statement (tokens_from source start)))).tokens

abbrev pub start_or : (at : ℕ) → Option Token → ℕ
start_or at None = at
start_or at (Some t) = t.start

abbrev pub own_at : (at : Option ℕ) → Option Token → (text : List ℕ) → List NoteView
own_at None edge text = []
own_at (Some at) edge text = note (start_or at edge) text ∷ []

-- reason 16 is told at the edge, and not at the statement round it
abbrev pub is_inside : Option Obstacle → (edge : Option Token) → Bool
is_inside (Some obstacle) (Some edge) = obstacle.kind == 16
is_inside _ _ = false

abbrev pub own_text : NetlistView → FindingView → (edge : Option Token) → List ℕ
own_text net f edge = if is_inside f.cause.obstacle edge then inside_text else note_text net f

abbrev pub own_by : NetlistView → FindingView → (edge : Option Token) → List NoteView
own_by net f edge = own_at (note_at f) edge (own_text net f edge)

abbrev pub own_notes : Read → NetlistView → FindingView → List NoteView
own_notes source net f = own_by net f (edge_of source f.cause.first f.cause.obstacle)

-- ---- the loop in which a latch leaves the assignment out

abbrev pub loop_note : Option Token → List NoteView
loop_note None = []
loop_note (Some t) = note t.start loop_text ∷ []

abbrev pub loop_notes : Read → FindingView → List NoteView
loop_notes source f = loop_note (loop_of (with_tokens source.text (tokens_from source f.cause.first)) f.cause.omission)

-- ---- a name of a process's list that it doesn't read

-- where that is told: at the else where an edge may be meant, or at the name
abbrev pub place_of : (name : Token) → Lack → ℕ
place_of name (EdgeBranch branch) = branch.start
place_of name _ = name.start

abbrev pub list_note : (text : List ℕ) → Option Unread → List NoteView
list_note text None = []
list_note text (Some u) = note (place_of u.name u.lack) (lack_text (text_of text u.name) u.lack) ∷ []

abbrev pub list_notes : Read → NetlistView → (process : ℕ) → List NoteView
list_notes source net process = list_note source.text (unread_name source (tokens_of source net process))

-- ---- a name that a process reads, and hasn't in its list

abbrev pub read_note : (text : List ℕ) → Option Token → List NoteView
read_note text None = []
read_note text (Some t) = note t.start (read_text (text_of text t)) ∷ []

-- what a net is called where a process stands
abbrev pub scope_at : NetlistView → (process : Option ℕ) → Option ℕ
scope_at net None = None
scope_at net (Some process) = scope_of (slice_get net.processes process)

abbrev pub names_for : NetlistView → (n : ℕ) → (scope : Option ℕ) → List (List ℕ)
names_for net n None = []
names_for net n (Some scope) = names_in net scope n

-- where a process reads a net first from this byte on
abbrev pub read_from : Read → NetlistView → (process n : ℕ) → (at : Option ℕ) → Option Token
read_from source net process n at =
    first_use uses.Read source.text (names_for net n (scope_at net (Some process))) (body (tokens_from source at))

abbrev pub read_notes : Read → NetlistView → (process n : ℕ) → List NoteView
read_notes source net process n =
    read_note source.text (read_from source net process n (at_process net (Some process)))

-- ---- the processes of a circle behind the first

abbrev pub step_at : Option ℕ → (text : List ℕ) → List NoteView
step_at None text = []
step_at (Some at) text = note at text ∷ []

abbrev pub steps_from : NetlistView → (first before : ℕ) → List ℕ → List NoteView
steps_from net first before [] = []
steps_from net first before (this ∷ rest) =
    step_at (at_process net (Some this)) (step_text net before this (first_or first rest))
    ++ steps_from net first this rest

abbrev pub step_notes : NetlistView → List ℕ → List NoteView
step_notes net [] = []
step_notes net (first ∷ rest) = steps_from net first first rest

-- ---- the nets of a circle, each where the process that drives it reads the next: so many of them

-- the byte at which a statement starts that is an if, and of some statements the last one's
abbrev pub if_at : Statement → Option ℕ
if_at (s.If' at shape branches last) = Some at
if_at _ = None

abbrev pub last_if : List Statement → Option ℕ
last_if xs = option_and_then if_at (slice_get xs (length xs - 1))

-- From which byte on that is looked for: a register looks at its reset alone, which the last if tests, and not at what
-- the branch under the edge reads.
abbrev pub start_in : Process → Option ℕ
start_in p = if some (events (body_of p)) then last_if p.body.items else Some p.at

abbrev pub look_start : Option Process → Option ℕ
look_start None = None
look_start (Some p) = start_in p

abbrev pub look_note : (text : List ℕ) → NetlistView → (n next : ℕ) → Option Token → List NoteView
look_note text net n next None = []
look_note text net n next (Some t) = note t.start (look_text net n next (text_of text t)) ∷ []

abbrev pub looks_by : Read → NetlistView → (n next : ℕ) → (process : Option ℕ) → List NoteView
looks_by source net n next None = []
looks_by source net n next (Some process) =
    look_note source.text net n next
    (read_from source net process next (look_start (slice_get net.processes process)))

abbrev pub looks_at : Read → NetlistView → (n next : ℕ) → List NoteView
looks_at source net n next = looks_by source net n next (driver_in net n)

abbrev pub looks_from : Read → NetlistView → (first room : ℕ) → List ℕ → List NoteView
looks_from source net first room [] = []
looks_from source net first room (n ∷ nets) =
    if room == 0 then []
    else looks_at source net n (first_or first nets) ++ looks_from source net first (room - 1) nets

abbrev pub look_notes : Read → NetlistView → List ℕ → List NoteView
look_notes source net [] = []
look_notes source net (n ∷ nets) = looks_from source net n 20 (n ∷ nets)

-- ---- the association by which an instance drives a net of another scope

abbrev pub connected : (label port : List ℕ) → Option Token → List NoteView
connected label port None = []
connected label port (Some t) = note t.start (connection_text label port) ∷ []

-- of this instance, at that of these ports which drives the net
abbrev pub connected_by : Read → (label : List ℕ) → (instance : List Token) → (names : List (List ℕ)) → List NoteView
connected_by source label instance names =
    connected label (driving_port source instance names)
    (connection source.text (driving_port source instance names) instance)

abbrev pub connection_of : Read → NetlistView → (n : ℕ) → (child : Option ℕ) → List NoteView
connection_of source net n None = []
connection_of source net n (Some child) =
    connected_by source (label_at net.scopes child) (instance_of source net.scopes child) (names_in net child n)

abbrev pub child_between : NetlistView → (owner scope : Option ℕ) → Option ℕ
child_between net (Some owner) (Some scope) = child_of net.scopes owner scope
child_between net _ _ = None

abbrev pub driver_notes : Read → NetlistView → (n : ℕ) → (process : Option ℕ) → List NoteView
driver_notes source net n process =
    connection_of source net n (child_between net (scope_of_net net n) (scope_at net process))

-- of both sources
abbrev pub both_notes : Read → NetlistView → Subject → List NoteView
both_notes source net (Sources n first second) = driver_notes source net n first ++ driver_notes source net n second
both_notes source net _ = []

-- ---- all notes

abbrev pub rule_notes : Read → NetlistView → Fault → List NoteView
rule_notes source net (TwoDrivers n first second) =
    both_notes source net (report_of (TwoDrivers n first second)).subject
rule_notes source net (EdgeNotSensitive process n) = list_notes source net process ++ read_notes source net process n
rule_notes source net (MissingSensitivity process n) = list_notes source net process ++ read_notes source net process n
rule_notes source net (Loop processes) =
    step_notes net processes ++ flat_map (list_notes source net) (take 20 processes)
rule_notes source net (NetLoop nets) = look_notes source net nets
rule_notes source net _ = []

abbrev pub further_notes : Read → NetlistView → FindingView → List NoteView
further_notes source net f = loop_notes source f ++ rule_notes source net f.first

abbrev pub is_beside : (note other : NoteView) → Bool
is_beside note other = note.at == other.at

-- of the first 20
abbrev pub notes : Read → NetlistView → FindingView → List NoteView
notes source net f = each_new is_beside [] (take 20 (own_notes source net f ++ further_notes source net f))
