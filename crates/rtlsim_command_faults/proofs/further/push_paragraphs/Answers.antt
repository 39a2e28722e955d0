use Rattle.rtlsim_refusals.specs.Explained.{paragraph, told_view}
use Rattle.rtlsim_refusals.specs.declared.told.Told.{Told}
use Rattle.rtlsim_listing.proofs.Printing.{next_text}
use Rattle.rtlsim_findings_text.proofs.Texts.{written_each}
use Rattle.rtlsim_command_faults.proofs.further.push_paragraphs.Goals as goal

pub loop-one-preserved : goal.loop-one-preserved
loop-one-preserved g c =
    next_text _ _ _ (λ (t : Told). paragraph (told_view t)) c.args.told.now c.loop-one.one-index c.one-item.result c.loop-one-test.true c.loop-one.invariant
    (rw (← c.one-item.is) c.push_paragraph.ensures)

pub returns : goal.returns
returns g c = written_each paragraph told_view _ _ c.args.told.now c.loop-one.one-index c.loop-one-test.false c.loop-one.invariant
