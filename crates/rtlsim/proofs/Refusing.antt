-- Words that are refused, and inputs that aren't read.
use Rattle.std.proofs.Common.{◌≡◌, ℕ, Bool, false, List, Option, Some, None, Result, Err, inl, inr, refl}
use Rattle.byte_streams.specs.Written.{Goes}
use Rattle.rtlsim_commands.specs.Served.{Outputs, ended}
use Rattle.rtlsim.specs.Sinks.{Sinks, IsSilent}
use Rattle.rtlsim.specs.Tools.{ReadsInputs, RefusesWords}
use Rattle.rtlsim.specs.Unread.{Unread, fault_status, fault_text, input_text, unread_by}
use Rattle.rtlsim.specs.declared.inputs.InputFault.{InputFault}
use Rattle.rtlsim.specs.declared.inputs.InputFault.TheVariants.{Failed, NoMemory}
use Rattle.rtlsim.specs.declared.problem.InputProblem.{InputProblem}
use Rattle.rtlsim_command_faults.specs.Lines.{input_line}
use Rattle.rtlsim_command_faults.specs.declared.status.Status.{Status}

-- a reason for a reason
pub refuses_for : {A B : Type 0} {outcome : Status} {o : Outputs} → (A → B) → RefusesWords A outcome o → RefusesWords B outcome o
refuses_for f r = record { output = r.output; text = r.text; told = r.told; status = elim (r.status) [ inl x ↦ inl (f x.0, x.1) | inr y ↦ inr y ] }

-- an input of a call isn't read
pub tells_unread : {A : Type 0} (Gives : Result A Unread → Type 0) (Served : A → Type 0) (outcome : Status) (s : Sinks) (explains : Bool) (fault : Option Unread)
    → ((unread : Unread) → fault ≡ Some unread → Gives (Err unread)) → s.out_after ≡ s.out → Goes s.err s.err_after (fault_text explains fault)
    → outcome ≡ ended (fault_status fault) s.out_after s.err_after → IsSilent s → ReadsInputs Gives (input_text explains) Served outcome s
tells_unread Gives Served outcome s explains None given output told status silent = inl (record { output = output; told = told; status = status }, silent)
tells_unread Gives Served outcome s explains (Some unread) given output told status silent =
    inr (inl (unread, given unread refl, (record { output = output; told = told; status = status }, silent)))

-- the input that should have the words isn't read
pub tells_wordless : {A : Type 0} (Gives : Result A InputProblem → Type 0) (Served : A → Type 0) (outcome : Status) (s : Sinks) (name : List ℕ) (fault : InputFault)
    (read : Option Unread) → read ≡ unread_by name fault → ((problem : InputProblem) → fault ≡ Failed problem → Gives (Err problem)) → s.out_after ≡ s.out
    → Goes s.err s.err_after (fault_text false read) → outcome ≡ ended (fault_status read) s.out_after s.err_after → IsSilent s
    → ReadsInputs Gives (λ problem. input_line) Served outcome s
tells_wordless Gives Served outcome s name NoMemory read is given output told status silent =
    inl (record { output = output; told = rw is at told; status = rw is at status }, silent)
tells_wordless Gives Served outcome s name (Failed problem) read is given output told status silent =
    inr (inl (problem, given problem refl, (record { output = output; told = rw is at told; status = rw is at status }, silent)))
