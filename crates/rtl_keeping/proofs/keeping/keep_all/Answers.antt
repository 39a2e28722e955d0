use Rattle.std.proofs.Common.{◌≡◌, map, length, slice_index_or, flat_map, ap, sym, ◌∙◌, subst, arith}
use Rattle.std.proofs.lemmas.List.{length-map}
use Rattle.rtl_kept_bodies.specs.Rules.{HasRoom, Refused}
use Rattle.rtl_net.specs.Nets.{type_of, process_view}
use Rattle.rtl_variable_registers.specs.Processes.{kept_process}
use Rattle.rtl_keeping.specs.Steps.{marked, types_of}
use Rattle.rtl_keeping.proofs.Marks.{as_many_marks, types_marked}
use Rattle.rtl_keeping.proofs.KeptSignals.{length_kept_types}
use Rattle.rtl_keeping.proofs.Walking.{next, next_reads, next_in_range, next_room, keeps_one, walked, as_long, all_walked, refused_along}
use Rattle.rtl_keeping.proofs.keeping.keep_all.Goals as goal

pub keep-requires-clause-reads : goal.keep-requires-clause-reads
keep-requires-clause-reads c =
    next_reads c.args.processes.now c.args.nets.now c.loop-number.number c.loop-number.processes c.loop-number.nets _
    (next c.args.processes.now c.args.nets.now c.loop-number.number c.loop-number.processes c.loop-number.nets c.loop-number.invariant
    (omega (arith, c.loop-number-test.true, as_long c.args.processes.now c.args.nets.now c.loop-number.number c.loop-number.processes c.loop-number.nets c.loop-number.invariant))
    (slice_index_or c.loop-number.processes c.loop-number.number c.index-processes-number.result) (ap (λ d. slice_index_or c.loop-number.processes c.loop-number.number d) c.index-processes-number.is)) c.requires.reads

pub keep-requires-clause-in_range : goal.keep-requires-clause-in_range
keep-requires-clause-in_range c =
    let many : c.len.result ≡ length c.loop-number.nets.kinds.items = c.len.ensures ∙ c.loop-number.nets.kinds.ok.0 in (
      map type_of c.args.nets.now.kinds.items,
      next_in_range c.args.processes.now c.args.nets.now c.loop-number.number c.loop-number.processes c.loop-number.nets _
          (next c.args.processes.now c.args.nets.now c.loop-number.number c.loop-number.processes c.loop-number.nets c.loop-number.invariant
          (omega (arith, c.loop-number-test.true, as_long c.args.processes.now c.args.nets.now c.loop-number.number c.loop-number.processes c.loop-number.nets c.loop-number.invariant))
          (slice_index_or c.loop-number.processes c.loop-number.number c.index-processes-number.result) (ap (λ d. slice_index_or c.loop-number.processes c.loop-number.number d) c.index-processes-number.is)) (map type_of c.args.nets.now.kinds.items) c.requires.in_range,
      omega (arith, many, length-map c.args.nets.now.kinds.items type_of, c.loop-number.invariant.longer),
    )

pub returns-in_err-marks-clause-too_many : goal.returns-in_err-marks-clause-too_many
returns-in_err-marks-clause-too_many c =
    let p = slice_index_or c.loop-number.processes c.loop-number.number c.index-processes-number.result in
    let many : c.len.result ≡ length c.loop-number.nets.kinds.items = c.len.ensures ∙ c.loop-number.nets.kinds.ok.0 in
    refused_along _ c.in_err-marks.field-0.0 _ c.from_residual.ensures.1
    (λ e room.
    subst (Refused c.len.result (process_view p)) e c.in_err-marks.ensures.fault
    (subst (λ n. HasRoom n (process_view p)) (sym many)
    (next_room c.args.processes.now c.args.nets.now c.loop-number.number c.loop-number.processes c.loop-number.nets p
    (next c.args.processes.now c.args.nets.now c.loop-number.number c.loop-number.processes c.loop-number.nets c.loop-number.invariant
    (omega (arith, c.loop-number-test.true, as_long c.args.processes.now c.args.nets.now c.loop-number.number c.loop-number.processes c.loop-number.nets c.loop-number.invariant))
    (slice_index_or c.loop-number.processes c.loop-number.number c.index-processes-number.result) (ap (λ d. slice_index_or c.loop-number.processes c.loop-number.number d) c.index-processes-number.is)) room)))

pub add_all-requires-clause-many : goal.add_all-requires-clause-many
add_all-requires-clause-many c =
    let p = slice_index_or c.loop-number.processes c.loop-number.number c.index-processes-number.result in
    ap length (c.deref.ensures.value ∙ c.in_ok-marks.ensures.kept) ∙ as_many_marks _ 0 p.variables.items ∙ ap (λ v. length v.items) (sym c.in_ok-marks.ensures.named.variables)

pub add_all-requires-clause-room : goal.add_all-requires-clause-room
add_all-requires-clause-room c =
    let p = slice_index_or c.loop-number.processes c.loop-number.number c.index-processes-number.result in
    let many : c.len.result ≡ length c.loop-number.nets.kinds.items = c.len.ensures ∙ c.loop-number.nets.kinds.ok.0 in
    let types = (λ i. flat_map types_of (marked ((c.deref.ensures.value ∙ c.in_ok-marks.ensures.kept) i) (c.in_ok-marks.ensures.named.variables i).items)) ∙ types_marked p in
    omega (arith, many, ap length types, length_kept_types (process_view p), c.in_ok-marks.ensures.room.nets)

pub loop-number-preserved : goal.loop-number-preserved
loop-number-preserved c =
    let p = slice_index_or c.loop-number.processes c.loop-number.number c.index-processes-number.result in
    let many : c.len.result ≡ length c.loop-number.nets.kinds.items = c.len.ensures ∙ c.loop-number.nets.kinds.ok.0 in
    walked c.args.processes.now c.args.nets.now c.loop-number.number c.loop-number.processes c.loop-number.nets p
    (next c.args.processes.now c.args.nets.now c.loop-number.number c.loop-number.processes c.loop-number.nets c.loop-number.invariant
    (omega (arith, c.loop-number-test.true, as_long c.args.processes.now c.args.nets.now c.loop-number.number c.loop-number.processes c.loop-number.nets c.loop-number.invariant))
    (slice_index_or c.loop-number.processes c.loop-number.number c.index-processes-number.result) (ap (λ d. slice_index_or c.loop-number.processes c.loop-number.number d) c.index-processes-number.is)) c.keep.new.process c.add_all.new.self
    (keeps_one c.loop-number.number p c.keep.new.process c.loop-number.nets c.add_all.new.self c.deref.result.now (c.in_ok-marks.ensures.process ∙ ap (λ n. kept_process n (process_view p)) many) c.in_ok-marks.ensures.reads
    c.in_ok-marks.ensures.named (subst (λ n. HasRoom n (process_view p)) many c.in_ok-marks.ensures.room) (c.deref.ensures.value ∙ c.in_ok-marks.ensures.kept) c.in_ok-add_all.ensures)

pub returns-clause-kept : goal.returns-clause-kept
returns-clause-kept c =
    all_walked c.args.processes.now c.args.nets.now c.loop-number.number c.loop-number.processes c.loop-number.nets c.loop-number.invariant (omega (arith, c.loop-number-test.false, as_long c.args.processes.now c.args.nets.now c.loop-number.number c.loop-number.processes c.loop-number.nets c.loop-number.invariant))
