use Rattle.std.proofs.Common.{◌+◌, ◌∙◌, None}
use Rattle.rtl_stim_lines.specs.Pairs.{after_pair, pair_view}
use Rattle.rtl_stim_lines.specs.Reading.{in_line}
use Rattle.rtl_stim_lines.specs.View.{inputs_view, said_view}
use Rattle.rtl_stim_lines.proofs.Pairing.{bad_pair}
use Rattle.rtl_stim_lines.proofs.Parts.{leads_wrong}
use Rattle.rtl_stim_lines.proofs.reading.Said.read_pairs.Goals as goal

pub returns-in_err-read_pair-clause-said : goal.returns-in_err-read_pair-clause-said
returns-in_err-read_pair-clause-said c =
    let new = said_view c.read_pair.new.self in
    leads_wrong _ _ new new c.in_err-read_pair.field-0.0 c.from_residual.result
    (rw c.in_err-read_pair.was at c.read_pair.ensures.said)
    (λ says. c.loop-index.invariant.0
    ∙ bad_pair pair_view (inputs_view c.args.inputs.now) (c.loop-index.index + 1) c.args.pairs.now c.loop-index.index None (said_view c.loop-index.self) c.in_err-read_pair.field-0.0 c.loop-index-test.true says)
    c.from_residual.ensures.1
