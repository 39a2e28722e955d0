-- What notes say.
use Rattle.std.specs.Prelude.{ℕ, List, ◌++◌, codes, slice_get}
use Rattle.rtl_net.specs.Names.{net_name, process_name}
use Rattle.rtl_net.specs.Nets.{NetlistView}
use Rattle.rtlsim_circles.specs.Circles.{link_net, name_of_net}
use Rattle.vhdl_places.specs.declared.lists.Lack.{Lack}
use Rattle.vhdl_places.specs.declared.lists.Lack.TheVariants.{Nothing, Reading, EdgeIf, EdgeBranch}

-- of an edge that is the condition of no register
abbrev pub inside_text : List ℕ
inside_text =
    codes
    "this edge or 'event stands inside another statement; a register has one edge, as its if's whole condition, and tests another signal's edge by its last value: s = '1' and last = '0'"

-- of a loop in which a latch leaves the assignment out
abbrev pub loop_text : List ℕ
loop_text =
    codes
    "a default inside this loop may undo what an earlier turn assigns: put it before the loop, and before one round it"

-- of a name that is read and isn't in the list
abbrev pub read_text : (name : List ℕ) → List ℕ
read_text name = name ++ codes " is read here"

-- of a name of the list that isn't read
abbrev pub lack_text : (name : List ℕ) → Lack → List ℕ
lack_text name Nothing =
    name ++ codes " is in the list, and the process assigns it and never reads it: take it out of the list"
lack_text name Reading = name ++ codes " is in the list, and the process doesn't read it"
lack_text name EdgeIf =
    name ++ codes " is in the list, and no edge of it is tested: is if rising_edge(" ++ name ++ codes ") then meant?"
lack_text name (EdgeBranch branch) =
    name ++ codes " is in the list, and no edge of it is tested: is elsif rising_edge("
    ++ name ++ codes ") then meant here?"

-- of a process of a circle, by the one before and the next
abbrev pub link_name : NetlistView → (process next : ℕ) → List ℕ
link_name net process next = name_of_net net (link_net (slice_get net.processes process) (slice_get net.processes next))

abbrev pub step_text : NetlistView → (before this next : ℕ) → List ℕ
step_text net before this next =
    process_name net this ++ codes " drives " ++ link_name net before this
    ++ codes ", and is sensitive to " ++ link_name net this next

-- of a net of a circle, where its process reads the next, by this name
abbrev pub look_text : NetlistView → (n next : ℕ) → (name : List ℕ) → List ℕ
look_text net n next name =
    net_name net n ++ codes " looks at " ++ net_name net next
    ++ codes ": its process reads " ++ name ++ codes " here"

-- of an instance that connects a net
abbrev pub connection_text : (label port : List ℕ) → List ℕ
connection_text label port = codes "here " ++ label ++ codes " connects its port " ++ port ++ codes " to it"
