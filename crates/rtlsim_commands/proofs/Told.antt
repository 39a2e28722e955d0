-- What is told of an answer.
use Rattle.std.proofs.Common.{◌≡◌, ℕ, false, List, [], length, Option, Result, Ok, Err, ◌⊎◌, inl, inr, refl, sym, subst, ◌∙◌, true≢false}
use Rattle.rtlsim_command_faults.specs.Faults.{of_source}
use Rattle.rtlsim_command_faults.specs.Places.{IsTold}
use Rattle.rtlsim_command_faults.specs.declared.telling.Telling.{Telling}
use Rattle.rtlsim_command_faults.specs.declared.faults.Fault.{Fault}
use Rattle.rtlsim_command_faults.specs.declared.faults.Fault.TheVariants.{NoSettling}
use Rattle.rtlsim_command_faults.specs.declared.status.Status.{Status}
use Rattle.rtlsim_command_faults.proofs.Refused.{nameless, source_told}
use Rattle.rtlsim_commands.specs.Freed.{Frees}
use Rattle.rtlsim_commands.specs.Refused.{RefusesSource, TellsAnswer}
use Rattle.rtlsim_commands.specs.Served.{Outputs, ServesOr, Unrefused, ended}
use Rattle.rtlsim_commands.specs.Sights.{Sight, events_of}
use Rattle.rtlsim_commands.specs.Told.{Done, TellsNets, TellsRefused, TellsBehind}
use Rattle.rtlsim_commands.proofs.Unsettled.{AreNoted, fault_told, tells_changing}
use Rattle.std.specs.Prelude.{take, IfErr}
use Rattle.rtl_simulation.specs.Simulated.{changing}
use Rattle.vhdl_front_rules.specs.Asking.{Asked}
use Rattle.rtl_net.specs.Nets.{NetlistView}
use Rattle.byte_streams.specs.Written.{SinkState}
use Rattle.vhdl_front_rules.specs.Designs.{IsNetOf}
use Rattle.vhdl_front_rules.specs.Faults.{LiesIn}
use Rattle.vhdl_front_rules.specs.Refusals.{Refuses}
use Rattle.vhdl_front_rules.specs.declared.fault.SourceFault.{SourceFault}
use Rattle.vhdl_front_rules.specs.declared.fault.SourceFault.TheVariants as front

-- what is told behind the fault of a source that has a netlist
behind_nets : (events : Option (List ℕ)) (telling : Telling) (asked : Asked) (fault : Fault) (said : Status) (old new : SinkState)
    → TellsNets events telling asked fault old new → TellsBehind events telling asked fault said old new
behind_nets events telling asked (NoSettling time) said old new h = h
behind_nets events telling asked _ said old new h = inl h

-- behind that of one that is refused
behind_refused : (events : Option (List ℕ)) (telling : Telling) (asked : Asked) (fault : SourceFault) (said : Status) (old new : SinkState)
    → TellsRefused telling asked (of_source fault) said old new
    → TellsBehind events telling asked (of_source fault) said old new
behind_refused events telling asked (front.Lex x) said old new h = inr h
behind_refused events telling asked _ said old new h = inr h

no_net : NetlistView
no_net = record { types = []; starts = []; idle = []; inputs = []; processes = []; scopes = []; signals = []; wide = false }

-- the fault that is told is the one of the source, or a want of memory
pub told_so : (So : SourceFault → Type 0) (fault told : SourceFault) → (told ≡ fault) ⊎ (told ≡ front.NoMemory) → So front.NoMemory → So fault → So told
told_so So fault told (inl same) memory so = subst So (sym same) so
told_so So fault told (inr is) memory so = subst So (sym is) memory

module _ {A : Type 0} (Refused : SourceFault → SinkState → SinkState → Type 0) (Does : NetlistView → Result A Fault → SinkState → SinkState → Type 0) (done : Done A)
    (telling : Telling) (asked : Asked) (outcome : Status) (o : Outputs) where
  -- what is so of a source that is never refused
  pub serves_so : ServesOr Unrefused Does done telling asked outcome o → ServesOr Refused Does done telling asked outcome o
  serves_so s = record {
    answer = s.answer;
    output = elim (s.output) [ inl x ↦ inl x | inr y ↦ absurd (y.3) ];
    placed = s.placed;
    said = s.said;
    answered = s.answered;
    told = s.told;
    freed = s.freed;
    ends = s.ends;
  }

  -- the source is refused
  pub serves_refused : (fault : SourceFault) → Refuses asked fault → LiesIn (length asked.source) fault → Refused fault o.out o.out_after
      → (said : Status) → RefusesSource telling asked (of_source fault) o.err o.err_after said → outcome ≡ ended said o.out_after o.err_after
      → ServesOr Refused Does done telling asked outcome o
  serves_refused fault refuses lies refused said tells ends = record {
    answer = Err (of_source fault);
    output = inr (fault, refl, refuses, refused);
    placed = source_told (length asked.source) fault lies;
    said = said;
    answered = o.err_after;
    told = (
      no_net,
      (λ named. absurd (true≢false (sym named ∙ nameless fault))),
      tells.between,
      tells.first no_net,
      behind_refused done.events telling asked fault said tells.between o.err_after tells.behind,
    );
    freed = inl refl;
    ends = ends;
  }

module _ {A : Type 0} (Does : NetlistView → Result A Fault → SinkState → SinkState → Type 0) (text : A → List ℕ) (status : A → Status) (sight : Sight)
    (telling : Telling) (asked : Asked) (outcome : Status) (o : Outputs) where
  -- what the command answers on the source's netlist is told, of a fault with the first of the nets that still change
  pub serves_net : (net : NetlistView) (answer : Result A Fault) (numbers shown : List ℕ) → IsNetOf asked net → Does net answer o.out o.out_after → shown ≡ numbers
      → IfErr answer (AreNoted sight numbers net) → (said : Status) (answered : SinkState) → TellsAnswer text status telling net shown answer o.err answered said
      → Frees telling asked answered o.err_after → outcome ≡ ended said o.out_after o.err_after
      → ServesOr Unrefused Does (record { text = text; status = status; events = events_of sight }) telling asked outcome o
  serves_net net (Ok x) numbers shown is does same noted said answered tells freed ends = record {
    answer = Ok x;
    output = inl (net, is, does);
    placed = tt;
    said = said;
    answered = answered;
    told = (net, is, tells.0, tells.1, tells.2, tells.3);
    freed = freed;
    ends = ends;
  }
  serves_net net (Err fault) numbers shown is does same noted said answered tells freed ends = record {
    answer = Err fault;
    output = inl (net, is, does);
    placed = fault_told {A = A} sight (λ stands before now at. numbers ≡ take 17 (changing before now)) net (Err fault) fault (length asked.source) refl noted;
    said = said;
    answered = answered;
    told = (
      net,
      (λ named. is),
      tells.between,
      tells.lines,
      behind_nets (events_of sight) telling asked fault said tells.between answered
          (net, is, tells_changing {A = A} sight telling.explains net numbers shown (Err fault) fault tells.between answered refl same noted tells.behind),
    );
    freed = freed;
    ends = ends;
  }
