use Rattle.std.proofs.Common.{[], append-nil}
use Rattle.vhdl_slips.specs.Listings.{names_from}
use Rattle.vhdl_slips.proofs.Names.{names_step, no_names}
use Rattle.vhdl_slips.proofs.listing.push_names.Goals as goal

pub loop-left-preserved : goal.loop-left-preserved
loop-left-preserved g c others end p = c.loop-left.invariant others end
    (rw (names_step c.args.listing c.args.words.text.now c.loop-left.left.now others c.in-len1-up.len_at_least) (c.push_at-is_first.ensures _ end p))

pub returns : goal.returns
returns g c =
    let last = rw c.closing.ensures at c.push_text.ensures in
    rw (← append-nil (names_from c.args.listing c.args.words.text.now c.args.words.tokens.now))
    (c.loop-left.invariant [] _ (rw (no_names c.args.listing c.args.words.text.now c.loop-left.left.now c.in_default.len_below) last))
