use Rattle.std.proofs.Common.{◌+◌, ◌-◌, ℕ, List, get_or, length, sym, ap, ◌∙◌, subst, arith}
use Rattle.std.proofs.lemmas.List.Edits.{get_or-between}
use borrow.Rule.Slice.PartMut.{put_mid}
use Rattle.rtl_net_groups.specs.Written.{IsWritten}
use Rattle.rtl_net_groups.proofs.Writing.{is_written}
use Rattle.rtl_net_groups.proofs.slices.replace.Goals as goal

pub returns-clause-written : goal.returns-clause-written
returns-clause-written c =
    let old = c.args.over.now in
    let first = c.args.first in
    let values = c.args.values.now in
    let many = first + length values - first in
    subst (λ new. IsWritten first values old (put_mid first many old new)) (sym c.replace_all.ensures.written) (is_written old first many values (omega arith) (omega (arith, c.requires)))

pub returns-clause-alike : goal.returns-clause-alike
returns-clause-alike c same k l =
    let over = c.args.over.now in
    let first = c.args.first in
    let values = c.args.values.now in
    sym (get_or-between over first (first + length values) k 0 (omega (arith, l))) ∙ ap (λ (vs : List ℕ). get_or vs k 0) (c.replace_all.ensures.alike same)

pub returns-clause-other : goal.returns-clause-other
returns-clause-other c told =
    let over = c.args.over.now in
    let first = c.args.first in
    let values = c.args.values.now in
    let O = c.replace_all.ensures.other told in
    record { place = O.place; there = O.there; differ = λ e. O.differ (get_or-between over first (first + length values) O.place 0 (omega (arith, O.there)) ∙ e) }
