use Rattle.std.proofs.Common.{◌-◌, length, sym, ◌∙◌, arith, refl, ⊎_elim}
use Rattle.std.proofs.lemmas.Bool.{or_cases}
use Rattle.rtl_net_groups.proofs.BothEnds.{ends_alike, ends_written}
use Rattle.rtl_net_groups.proofs.Lanes.{others_from, same_from}
use Rattle.rtl_net_groups.proofs.Replaced.{neither, other_lanes}
use Rattle.rtl_net_groups.proofs.slices.replace_ends.Goals as goal

pub returns-clause-written : goal.returns-clause-written
returns-clause-written g c =
    let values = c.args.values.now in
    ends_written g.row.LANES (length values - g.row.LANES) c.args.over.now values c.requires.as_many c.requires.least c.requires.covers refl

pub returns-clause-alike : goal.returns-clause-alike
returns-clause-alike g c none =
    let values = c.args.values.now in
    let (front, back) = neither c.are_different-differ.result c.are_different.result none in
    ends_alike g.row.LANES (length values - g.row.LANES) c.args.over.now values c.requires.as_many c.requires.least c.requires.covers refl
    (same_from _ _ (sym front ∙ c.are_different-differ.ensures)) (same_from _ _ (sym back ∙ c.are_different.ensures))

pub returns-clause-other : goal.returns-clause-other
returns-clause-other g c told =
    let n = g.row.LANES in
    let over = c.args.over.now in
    let values = c.args.values.now in
    ⊎_elim (λ front. other_lanes n 0 0 values over over (omega arith) (omega (arith, c.requires.least)) (omega (arith, c.requires.least, c.requires.as_many)) (λ k l. refl)
    (others_from _ _ (sym front ∙ c.are_different-differ.ensures)))
    (λ back. other_lanes n (length values - n) 0 values over over (omega arith) (omega (arith, c.requires.least)) (omega (arith, c.requires.least, c.requires.as_many)) (λ k l. refl)
    (others_from _ _ (sym back ∙ c.are_different.ensures)))
    (or_cases c.are_different-differ.result c.are_different.result told)
