use Rattle.std.proofs.Common.{◌≡◌, ◌+◌, false, drop, sym, ap, ◌∙◌, arith}
use Rattle.std.proofs.lemmas.List.{take_rest}
use Rattle.rtlsim_listing.specs.DotText.{is_index}
use Rattle.rtlsim_listing.proofs.ArrowTexts.{no_index}
use Rattle.rtlsim_listing.proofs.graph.without_index.Goals as goal

pub loop-at-preserved : goal.loop-at-preserved
loop-at-preserved c =
    let name = c.args.name.now in
    let at = c.loop-at.at in
    let none_here : is_index (drop at name) ≡ false = sym (ap is_index (take_rest name at)) ∙ sym c.is_index.ensures ∙ c.if-is_index.false in
    c.loop-at.invariant ∙ no_index name at (at + 1) (omega arith) c.loop-at-test.true none_here
