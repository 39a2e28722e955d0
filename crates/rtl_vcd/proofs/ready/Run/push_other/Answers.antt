use Rattle.std.proofs.Common.{◌≤◌, ◌+◌, ◌-◌, ◌++◌, [], length, take, drop, ap, ◌∙◌, sym, subst, arith, slice_index}
use Rattle.std.proofs.lemmas.List.{length-map}
use Rattle.std.specs.Prelude.{codes, if◌then◌else◌}
use Rattle.rtl_vcd_values.specs.Values.{character}
use Rattle.rtl_vcd.specs.Ready.{beginning, elements_as}
use Rattle.rtl_vcd_values.proofs.Binaries.{length-binary}
use Rattle.rtl_vcd.proofs.Forms.{several_is, line_by, other_by}
use Rattle.rtl_vcd.proofs.ready.Run.push_other.Goals as goal

pub push_position-requires-clause-short : goal.push_position-requires-clause-short
push_position-requires-clause-short c =
    let run = c.args.self.now in
    let values = c.args.new.now in
    let short : length (elements_as run.form run.first run.count values) ≤ 64 = c.requires.short in
    let few = subst (λ f. length (elements_as f run.first run.count values) ≤ 64) c.in-Position.is short in
    omega (arith, few, length-binary c.in-Position.digits (slice_index values run.first))

pub push_vector-requires-clause-short : goal.push_vector-requires-clause-short
push_vector-requires-clause-short c =
    let run = c.args.self.now in
    let new = c.args.new.now in
    let slice = take (run.first + run.count - run.first) (drop run.first new) in
    omega (arith, length-map slice character, ap length (several_is run new c.in-Several.is), c.requires.short)

pub returns-in-Several-clause-line : goal.returns-in-Several-clause-line
returns-in-Several-clause-line c =
    let run = c.args.self.now in
    let new = c.args.new.now in
    c.push_vector.ensures.line
    ∙ ap (λ t. c.args.page.now ++ (if c.push_vector.result then t else []))
    (sym (line_by run new (codes "b") _ (ap beginning c.in-Several.is) (sym (several_is run new c.in-Several.is))))

pub returns-in-Several-clause-other : goal.returns-in-Several-clause-other
returns-in-Several-clause-other c =
    let run = c.args.self.now in
    let old = c.args.old.now in
    let new = c.args.new.now in
    other_by run old new _ _ c.push_vector.result (sym (several_is run old c.in-Several.is)) (sym (several_is run new c.in-Several.is)) c.push_vector.ensures.other
