-- What is told of a fault.
use Rattle.std.proofs.Common.{◌≡◌, ℕ, Bool, true, false, List, [], ◌++◌, Option, Some, None, inl, inr, refl, ap, sym, ◌∙◌, subst, append-nil, true≢false}
use Rattle.std.specs.Prelude.{if◌then◌else◌}
use Rattle.rtl_net.specs.Nets.{NetlistView}
use Rattle.fault_rules.specs.declared.expecting.ExpectRule.TheVariants as expecting
use Rattle.fault_rules.specs.declared.report.Report.{Report}
use Rattle.rtl_expect.specs.declared.faults.ExpectFault.TheVariants as expect
use Rattle.byte_streams.proofs.Writing.{Goes-append}
use Rattle.rtl_stim_lines.specs.declared.faults.StimFault.{StimFault}
use Rattle.rtl_stim_lines.specs.declared.faults.StimFault.TheVariants as stim
use Rattle.rtlsim_refusals.specs.Stimuli as refusing
use Rattle.rtlsim_command_faults.specs.Explanations.{IsRead, Source, explanation, files_of, is_read, source_report, source_said, told, unread}
use Rattle.rtlsim_command_faults.specs.Faults.{has_names, is_of_names, status_of, takes_memory}
use Rattle.rtlsim_command_faults.specs.Lines.{fault_lines, memory_line, stim_line, told_line}
use Rattle.rtlsim_command_faults.specs.Reports.{stim_report}
use Rattle.rtlsim_command_faults.specs.Told.{Explains, ExplainsRead, TellsFault}
use Rattle.rtlsim_command_faults.specs.declared.faults.Fault.{Fault}
use Rattle.rtlsim_command_faults.specs.declared.faults.Fault.TheVariants as f
use Rattle.rtlsim_command_faults.specs.declared.status.Status.{Status}
use Rattle.rtlsim_command_faults.specs.declared.status.Status.TheVariants as status
use Rattle.rtlsim_command_faults.specs.declared.telling.Telling.{Telling}
use Rattle.vhdl_source_files.specs.Files.{FileView}
use Rattle.vhdl_expand_rules.specs.declared.fault.ElabFault.{ElabFault}
use Rattle.vhdl_lexer.specs.declared.fault.LexFault.{LexFault}
use Rattle.vhdl_names_rules.specs.declared.fault.NameFault.{NameFault}
use Rattle.vhdl_parser_rules.specs.declared.fault.SyntaxFault.{SyntaxFault}
use Rattle.byte_streams.specs.Written.{SinkState, TakesBeginning, Goes}

-- a text that is the same
pub goes_along : (old new : SinkState) (x y : List ℕ) → x ≡ y → Goes old new x → Goes old new y
goes_along old new x y e h = subst (λ (t : List ℕ). Goes old new t) e h

-- ---- faults whose source isn't read, and those whose source is

pub not_read : (fault : Fault) → is_of_names fault ≡ true → is_read fault ≡ false
not_read (f.Syntax x) names = cc
not_read (f.Name x) names = cc
not_read (f.Elab x) names = cc
not_read _ names = refl

pub explains_plain : (telling : Telling) (fault : Fault) (whole : Bool) (old new : SinkState) → is_read fault ≡ false → whole ≡ true
    → ((net : NetlistView) → Goes old new (explanation telling unread net fault)) → Explains telling fault whole old new
explains_plain telling fault true old new plain all goes = (unread, (λ read. absurd (true≢false (sym read ∙ plain))), goes)
explains_plain telling fault false old new plain all goes = absurd (true≢false (sym all))

pub explains_read : (telling : Telling) (fault : Fault) (report : Option Report) (whole : Bool) (old new : SinkState) → is_read fault ≡ true
    → report ≡ source_report fault → ((read : Source) (net : NetlistView) → source_said telling.language (files_of telling) read report ≡ explanation telling read net fault)
    → ExplainsRead telling.language (files_of telling) report whole old new → Explains telling fault whole old new
explains_read telling fault report true old new reads is same h =
    (h.0, (λ _. subst (λ (r : Option Report). IsRead telling.language (files_of telling) r h.0) is h.1), λ net. goes_along old new _ _ (same h.0 net) h.2)
explains_read telling fault report false old new reads is same h = (reads, h)

-- of a fault that is none of these nothing is said
pub explains_none : (telling : Telling) (fault : Fault) (old new : SinkState) → is_of_names fault ≡ false → ((x : LexFault) → fault ≡ f.Lex x → ⊥)
    → ((x : SyntaxFault) → fault ≡ f.Syntax x → ⊥) → ((x : NameFault) → fault ≡ f.Name x → ⊥) → ((x : ElabFault) → fault ≡ f.Elab x → ⊥)
    → ((time : ℕ) → fault ≡ f.NoSettling time → ⊥) → Goes old new [] → Explains telling fault true old new
explains_none telling (f.Lex x) old new names lex syntax name elab time goes = absurd (lex x refl)
explains_none telling (f.Syntax x) old new names lex syntax name elab time goes = absurd (syntax x refl)
explains_none telling (f.Name x) old new names lex syntax name elab time goes = absurd (name x refl)
explains_none telling (f.Elab x) old new names lex syntax name elab time goes = absurd (elab x refl)
explains_none telling (f.NoSettling t) old new names lex syntax name elab time goes = absurd (time t refl)
explains_none telling (f.Rejected x) old new names lex syntax name elab time goes = absurd (true≢false names)
explains_none telling (f.Expect (expect.InLine expecting.NotASignal line)) old new names lex syntax name elab time goes = absurd (true≢false names)
explains_none telling (f.Stim x) old new names lex syntax name elab time goes = absurd (true≢false names)
explains_none telling (f.Differs x) old new names lex syntax name elab time goes = absurd (true≢false names)
explains_none telling (f.Untraced x) old new names lex syntax name elab time goes = absurd (true≢false names)
explains_none telling fault old new names lex syntax name elab time goes = explains_plain telling fault true old new refl refl (λ net. goes)

-- ---- a race takes memory for its names, and an input that is set twice for the words of lines

abbrev pub report_takes : Option Report → Bool
report_takes None = false
report_takes (Some report) = refusing.takes_memory report

pub fault_takes : (explains : Bool) (fault : StimFault) → report_takes (stim_report fault) ≡ true → takes_memory explains (f.Stim fault) ≡ true
fault_takes explains (stim.Race time input clock) takes = refl
fault_takes explains (stim.InLine its_rule line) takes = takes
fault_takes explains _ takes = absurd (true≢false (sym takes))

-- a fault of a stimulus without names
pub nameless_stim : (files : List FileView) (net : NetlistView) (fault : StimFault) → has_names (f.Stim fault) ≡ false
    → told_line files (stim_report fault) ≡ stim_line files net fault
nameless_stim files net (stim.Race time input clock) named = absurd (true≢false named)
nameless_stim files net _ quiet = refl

-- ---- what is told of a fault

module _ (telling : Telling) (net : NetlistView) (fault : Fault) (old between new : SinkState) where
  below : (read : Source) → (b : Bool) → telling.explains ≡ b
      → fault_lines (files_of telling) net fault ++ (if b then explanation telling read net fault else []) ≡ told telling read net fault
  below read b is = ap (λ (b : Bool). fault_lines (files_of telling) net fault ++ (if b then explanation telling read net fault else [])) (sym is)

  -- no explanation is asked for
  pub told_alone : telling.explains ≡ false → Goes old new (fault_lines (files_of telling) net fault) → (outcome : Status) → outcome ≡ status_of fault
      → TellsFault telling net fault old new outcome
  told_alone quiet lines outcome is = inl (
    record {
      read = unread;
      is = λ asked read. absurd (true≢false (sym asked ∙ quiet));
      goes = goes_along old new _ _ (sym (append-nil (fault_lines (files_of telling) net fault)) ∙ below unread false quiet) lines;
    },
    is,
  )

  -- it stands below the lines
  pub told_below : telling.explains ≡ true → Goes old between (fault_lines (files_of telling) net fault) → (whole : Bool) → whole ≡ true
      → Explains telling fault whole between new → (outcome : Status) → outcome ≡ status_of fault → TellsFault telling net fault old new outcome
  told_below asked lines true all explains outcome is = inl (
    record {
      read = explains.0;
      is = λ _ reads. explains.1 reads;
      goes = goes_along old new _ _ (below explains.0 true asked) (Goes-append old between new _ _ lines (explains.2 net));
    },
    is,
  )
  told_below asked lines false all explains outcome is = absurd (true≢false (sym all))

  -- memory to read the source is refused
  pub told_unread : telling.explains ≡ true → (lines_end : SinkState) → Goes old lines_end (fault_lines (files_of telling) net fault) → (whole : Bool) → whole ≡ false
      → Explains telling fault whole lines_end between → Goes between new memory_line → (outcome : Status) → outcome ≡ status.Memory
      → TellsFault telling net fault old new outcome
  told_unread asked lines_end lines true none explains memory outcome is = absurd (true≢false none)
  told_unread asked lines_end lines false none explains memory outcome is = inr (
    inr (record {
      asked = asked;
      source = explains.0;
      goes = Goes-append old lines_end new _ _ lines (subst (λ (s : SinkState). Goes s new memory_line) explains.1 memory);
    }),
    is,
  )

-- ---- faults that may have names

module _ (telling : Telling) (net : NetlistView) (fault : Fault) (old between new : SinkState) (outcome : Status) where
  pub named_whole : is_of_names fault ≡ true → Goes old new (told telling unread net fault) → outcome ≡ status_of fault → TellsFault telling net fault old new outcome
  named_whole names goes is = inl (
    record {
      read = unread;
      is = λ asked read. absurd (true≢false (sym read ∙ not_read fault names));
      goes = goes;
    },
    is,
  )

  pub named_part : takes_memory telling.explains fault ≡ true → TakesBeginning old between (told telling unread net fault) → Goes between new memory_line → outcome ≡ status.Memory
      → TellsFault telling net fault old new outcome
  named_part takes part memory is = inr (inl (record { takes = takes; between = between; part = part; memory = memory }), is)
