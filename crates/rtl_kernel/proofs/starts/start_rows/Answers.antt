use Rattle.std.proofs.Common.{◌≡◌, ℕ, [], ◌∷◌, ◌++◌, Vec, ap, map, sym, ◌∙◌, get_or}
use Rattle.std.specs.Global.{Global}
use Rattle.std.proofs.lemmas.List.{map_more, map_push, take_all}
use Rattle.rtl_kernel.specs.drivers.Rows.{rows}
use Rattle.rtl_kernel.specs.drivers.Starts.{start_row, starts_of}
use Rattle.rtl_kernel.proofs.starts.start_rows.Goals as goal

pub loop-process-init : goal.loop-process-init
loop-process-init c = ap rows c.in_ok-all.ensures.items

pub loop-process-preserved : goal.loop-process-preserved
loop-process-preserved c =
    let ps = c.args.processes.now in
    let i = c.loop-process.process-index in
    let p = c.process-item.result in
    let row : c.in_ok-start_values.field-0.items ≡ start_row (get_or ps i p) =
    c.in_ok-start_values.ensures ∙ ap starts_of c.deref.ensures.value ∙ ap start_row c.process-item.is in
    ap rows c.in_ok-push.ensures.items ∙ map_push (λ (v : Vec ℕ Global). v.items) c.loop-process.all.items c.in_ok-start_values.field-0
    ∙ (λ j. c.loop-process.invariant j ++ row j ∷ []) ∙ sym (map_more start_row ps i p c.loop-process-test.true)

pub returns : goal.returns
returns c =
    c.loop-process.invariant ∙ ap (map start_row) (take_all c.loop-process.process-index c.args.processes.now c.loop-process-test.false)
