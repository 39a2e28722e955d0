-- What holds of what was seen of a run, by what else does.
use Rattle.std.proofs.Common.{◌≡◌, ℕ, Bool, true, false, List, Option, Result, inl, inr, ◌++◌, sym, subst}
use Rattle.rtl_net.specs.Nets.{NetlistView}
use Rattle.rtl_progress.specs.Shown.{HasShown, shown_after, shown_text, text_of_end, whole_text}
use Rattle.rtl_progress.specs.Stops.{stop_of}
use Rattle.byte_streams.proofs.Writing.{Goes-append}
use Rattle.byte_streams.specs.Written.{SinkState, Goes}
use Rattle.byte_streams.specs.Stands.{Stand}
use Rattle.rtlsim.specs.Served.{ServesBy}
use Rattle.rtlsim.specs.Sinks.{Sinks, ShowsIf, outputs}
use Rattle.rtlsim_commands.specs.Served.{Outputs, Serves}
use Rattle.rtlsim_commands.specs.Told.{Done}
use Rattle.rtlsim_commands.specs.Tracing.{ChoiceView}
use Rattle.rtlsim_commands.proofs.Watched.{if_whole_so, of_events_so, of_machine_so}
use Rattle.rtlsim_commands.specs.Watched.{Watched}
use Rattle.rtlsim_command_faults.specs.declared.faults.Fault.{Fault}
use Rattle.rtlsim_command_faults.specs.declared.status.Status.{Status}
use Rattle.rtlsim_command_faults.specs.declared.telling.Telling.{Telling}
use Rattle.rtlsim_command_line.specs.declared.call.Request.{Request}
use Rattle.rtlsim_command_line.specs.declared.call.Request.TheVariants.{Run, Levels}
use Rattle.vhdl_front_rules.specs.Asking.{Asked}

watched_more : {A : Type 0} {Does : NetlistView → Result A Fault → SinkState → SinkState → Type 0} {P Q : NetlistView → Type 0} → ((net : NetlistView) → P net → Q net)
    → (net : NetlistView) (answer : Result A Fault) (old new : SinkState) → Watched Does P net answer old new → Watched Does Q net answer old new
watched_more {P = P} {Q = Q} f net answer old new w = record { does = w.does; sees = if_whole_so (P net) (Q net) answer (f net) w.sees }

serves_more : {A : Type 0} {Does : NetlistView → Result A Fault → SinkState → SinkState → Type 0} {P Q : NetlistView → Type 0} {done : Done A} {telling : Telling}
    {asked : Asked} {outcome : Status} {o : Outputs} → ((net : NetlistView) → P net → Q net)
    → Serves (Watched Does P) done telling asked outcome o → Serves (Watched Does Q) done telling asked outcome o
serves_more {o = o} f s = record {
  answer = s.answer;
  output = elim (s.output) [ inl x ↦ inl (x.0, x.1, watched_more f x.0 s.answer o.out o.out_after x.2) | inr y ↦ inr y ];
  placed = s.placed;
  said = s.said;
  answered = s.answered;
  told = s.told;
  freed = s.freed;
  ends = s.ends;
}

module _ {P Q : List Stand → Type 0} (f : (stands : List Stand) → P stands → Q stands) (telling : Telling) (asked : Asked) (outcome : Status) (o : Outputs) (choice : ChoiceView) where
  -- this holds of what was seen, and so that does
  pub serves_by : (request : Request) (sets : List (List ℕ)) (text : List ℕ) (expected : Option (List ℕ))
      → ServesBy telling asked outcome o P choice request sets text expected → ServesBy telling asked outcome o Q choice request sets text expected
  serves_by (Run true order) sets text expected s = serves_more (λ net. of_events_so text net P Q f) s
  serves_by (Run false order) sets text expected s = serves_more (λ net. of_machine_so text net P Q f) s
  serves_by Levels sets text expected s = serves_more (λ net. of_machine_so text net P Q f) s
  serves_by _ sets text expected s = s

-- what is served by these texts is served by texts that are the same
pub serves_same : (telling : Telling) (outcome : Status) (shows : Bool) (s : Sinks) (request : Request) (asked given : Asked) (choice chosen : ChoiceView) (sets words : List (List ℕ)) (text read : List ℕ)
    (expected wanted : Option (List ℕ)) → asked ≡ given → choice ≡ chosen → sets ≡ words → text ≡ read → expected ≡ wanted
    → ServesBy telling asked outcome (outputs s) (ShowsIf shows text s) choice request sets text expected
    → ServesBy telling given outcome (outputs s) (ShowsIf shows read s) chosen request words read wanted
serves_same telling outcome shows s request asked given choice chosen sets words text read expected wanted e k h i j serves = rw (← e, ← k, ← h, ← i, ← j) serves

-- nothing is to be shown
pub shows_none : (shows : Bool) → shows ≡ false → (stimulus : List ℕ) (s : Sinks) (stands : List Stand) → ShowsIf shows stimulus s stands
shows_none false is stimulus s stands = tt
shows_none true is stimulus s stands = absurd (cc)

-- all is
pub shows_all : (shows : Bool) → shows ≡ true → (stimulus : List ℕ) (s : Sinks) (stands : List Stand)
    → Goes s.progress s.progress_after (whole_text (stop_of stimulus) stands) → ShowsIf shows stimulus s stands
shows_all true is stimulus s stands goes = goes
shows_all false is stimulus s stands goes = absurd (cc)

-- What was shown while these stood, and behind it the end of its line, is the whole; of sinks over what a watch had lent it.
pub shows_whole : {G : Type 0} (state : G → SinkState) (text : List ℕ) (stands : List Stand) (before start now after last : G) (stop shown new_stop new_shown : ℕ)
    → stop ≡ stop_of text → shown ≡ 0 → start ≡ before → last ≡ after → HasShown stop shown (state start) stands new_stop new_shown (state now)
    → Goes (state now) (state after) (text_of_end new_shown) → Goes (state before) (state last) (whole_text (stop_of text) stands)
shows_whole {G} state text stands before start now after last stop shown new_stop new_shown stop_is shown_is start_is last_is h e =
    let whole : Goes (state start) (state after) (shown_text stop shown stands ++ text_of_end (shown_after stop shown stands)) =
    Goes-append _ _ _ _ _ h.text (subst (λ (n : ℕ). Goes (state now) (state after) (text_of_end n)) h.noted e) in
    let of_stop = subst (λ (s : ℕ). Goes (state start) (state after) (shown_text s shown stands ++ text_of_end (shown_after s shown stands))) stop_is whole in
    let of_none = subst (λ (n : ℕ). Goes (state start) (state after) (shown_text (stop_of text) n stands ++ text_of_end (shown_after (stop_of text) n stands))) shown_is of_stop in
    subst (λ (g : G). Goes (state before) (state g) (whole_text (stop_of text) stands)) (sym last_is)
    (subst (λ (g : G). Goes (state g) (state after) (whole_text (stop_of text) stands)) start_is of_none)
