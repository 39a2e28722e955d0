-- Why an input isn't read, and what is told of it.
use Rattle.std.specs.Prelude.{ℕ, Bool, if◌then◌else◌, List, [], ◌++◌, Option, Some, None, codes}
use Rattle.rtlsim_command_faults.specs.Lines.{memory_line, input_line}
use Rattle.rtlsim_command_faults.specs.declared.status.Status.{Status}
use Rattle.rtlsim_command_faults.specs.declared.status.Status.TheVariants as status
use Rattle.rtlsim.specs.declared.inputs.InputFault.{InputFault}
use Rattle.rtlsim.specs.declared.inputs.InputFault.TheVariants as input
use Rattle.rtlsim.specs.declared.problem.InputProblem.{InputProblem}
use Rattle.rtlsim.specs.declared.problem.InputProblem.TheVariants.{Missing, Denied, Folder, NotOpened, ReadFailed, TooLong, Endless, NoList}
use Rattle.rtlsim.specs.declared.unread.ReadFault.{ReadFault}
use Rattle.rtlsim.specs.declared.unread.ReadFault.TheVariants as read

-- an input that isn't read: its name, as it was given, and why
pub record Unread : Type 0 where
  pub name : List ℕ
  pub problem : InputProblem

-- ---- what is said of it

-- why it isn't read, and what is to be done about it
abbrev pub said_of : InputProblem → List ℕ × List ℕ
said_of Missing = (
  codes "there is no file of this name",
  codes "see the spelling, and the folder that the program runs in; @ names the standard input",
)
said_of Denied =
    (codes "it isn't readable for this user", codes "let this user read it, and enter each folder on the way to it")
said_of Folder = (codes "it is a folder", codes "name a file in it")
said_of NotOpened = (codes "it can't be opened", codes "see that each part of its name but the last is a folder")
said_of ReadFailed = (
  codes "reading it failed",
  codes "copy it by another program: that shows whether its disk or the other end of its pipe is at fault",
)
said_of TooLong =
    (codes "it has more than 33554432 bytes", codes "split it; of a source no more than 4194304 bytes are read")
said_of Endless = (codes "33554432 reads of it came to no end", codes "write what it gives into a file, and name that")
said_of NoList = (
  codes "it isn't a list of files",
  codes "write a file's name a line, in UTF-8, as it is from the list's folder; # begins a comment",
)

-- "NAME: input: REASON", and the help below
abbrev pub input_explained : Unread → List ℕ
input_explained unread =
    unread.name ++ codes ": input: " ++ (said_of unread.problem).0
    ++ codes "\nhelp: " ++ (said_of unread.problem).1 ++ codes "\n"

-- the line, and below it the explanation where that is asked for
abbrev pub input_text : (explains : Bool) → Unread → List ℕ
input_text explains unread = input_line ++ (if explains then input_explained unread else [])

-- ---- of what reading ends with

-- the input that isn't read; none where memory was refused
abbrev pub unread_of : ReadFault → Option Unread
unread_of (read.Unread name problem) = Some (record { name = name.now; problem = problem })
unread_of read.NoMemory = None

-- the same of the fault of one input, by its name
abbrev pub unread_by : (name : List ℕ) → InputFault → Option Unread
unread_by name (input.Failed problem) = Some (record { name = name; problem = problem })
unread_by name input.NoMemory = None

-- its text and its status, or those of want of memory
abbrev pub fault_text : (explains : Bool) → Option Unread → List ℕ
fault_text explains None = memory_line
fault_text explains (Some unread) = input_text explains unread

abbrev pub fault_status : Option Unread → Status
fault_status None = status.Memory
fault_status (Some unread) = status.Failed
