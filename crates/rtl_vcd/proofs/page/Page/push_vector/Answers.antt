use Rattle.std.proofs.Common.{◌≡◌, ◌<◌, ◌++◌, length, map, take, sym, ap, ◌∙◌, arith, append-nil, length-take-le}
use Rattle.std.specs.Prelude.{codes}
use Rattle.rtl_vcd_values.specs.Values.{character}
use Rattle.rtl_vcd.proofs.Pages.{vector_kept, vector_line}
use Rattle.rtl_vcd.proofs.page.Page.push_vector.Goals as goal

pub returns-then-not-put_run-clause-line : goal.returns-then-not-put_run-clause-line
returns-then-not-put_run-clause-line c =
    let old = c.self.inside in
    let held : length c.args.self.now ≡ old.len =
    ap length (sym c.self.view_is) ∙ length-take-le old.len old.bytes (omega (arith, c.self.invariant, c.self.told)) in
    let within : old.len < length old.bytes = omega (arith, held, c.requires.room, c.self.told) in
    vector_kept old.bytes c.put_run.new.room old.len (length c.args.new.now) (map character c.args.new.now) within c.put_run.ensures.text
    ∙ c.self.view_is ∙ sym (append-nil c.args.self.now)

pub returns-clause-line : goal.returns-clause-line
returns-clause-line c =
    let old = c.self.inside in
    let end = c.args.end.now in
    let text = map character c.args.new.now in
    let held : length c.args.self.now ≡ old.len =
    ap length (sym c.self.view_is) ∙ length-take-le old.len old.bytes (omega (arith, c.self.invariant, c.self.told)) in
    let within : old.len < length old.bytes = omega (arith, held, c.requires.room, c.self.told) in
    vector_line old.bytes c.put_run.new.room old.len (length c.args.new.now) text within c.put_run.ensures.text c.put.new.room (take end.len end.bytes) end.len c.put.ensures.text
    ∙ ap (λ held. held ++ (codes "b" ++ text ++ take end.len end.bytes)) c.self.view_is
