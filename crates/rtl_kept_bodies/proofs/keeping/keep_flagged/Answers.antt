use Rattle.std.proofs.Common.{ℕ, List, ◌≡◌, length, map, sym, ap, subst, arith, ◌∙◌}
use Rattle.std.proofs.lemmas.List.{length-map}
use Rattle.std.specs.List.{range_with_len}
use Rattle.rtl_model.specs.nets.FlatNetlist.{FlatProcess}
use Rattle.rtl_net.specs.declared.process.Variable.{Variable}
use Rattle.rtl_net.specs.Nets.{driver_view, variable_view, process_view, body_of}
use Rattle.rtl_model.specs.bodies.Reads.{reads}
use Rattle.rtl_body_facts.specs.Reading.{is_in}
use Rattle.rtl_kept_bodies.specs.declared.kept.Kept.{Kept}
use Rattle.rtl_kept_bodies.specs.Steps.{kept_count, kept_from, recall_all, CanCompute, AreKept}
use Rattle.rtl_variable_registers.specs.Bodies.{reset_branch}
use Rattle.rtl_kept_bodies.proofs.Knowing.{can_compute}
use Rattle.rtl_kept_bodies.proofs.Ranks.{stand, counted}
use Rattle.rtl_kept_bodies.proofs.Reading.{are_one, recall_reads, reads_below, reads_follow}
use Rattle.rtl_kept_bodies.proofs.Whole.{as_many, count_is, are_kept, room_is, no_room_is, kept_reads, other_process}
use Rattle.rtl_kept_bodies.proofs.keeping.keep_flagged.Goals as goal

pub count_kept-many-requires-clause-flags : goal.count_kept-many-requires-clause-flags
count_kept-many-requires-clause-flags c =
    let vs = c.args.process.now.variables.items in
    ap length c.requires.flags ∙ as_many _ 0 (map variable_view vs) ∙ length-map vs variable_view ∙ sym (ap length c.deref.ensures.value)

pub returns-then-not-has_room-clause-fault : goal.returns-then-not-has_room-clause-fault
returns-then-not-has_room-clause-fault c =
    let p = c.args.process.now in
    let vs = p.variables.items in
    no_room_is c.args.first (process_view p) _ _ _ _
    (c.count_kept-many.ensures ∙ ap (λ (xs : List Variable). kept_count c.args.flags.now xs) c.deref.ensures.value ∙ count_is (body_of p) vs c.args.flags.now c.requires.flags)
    (c.len-drivers.ensures ∙ p.drives.ok.0 ∙ sym (length-map p.drives.items driver_view)) (ap length c.requires.starts) c.has_room.ensures c.if-not-has_room.true

pub returns-then-not-is_register-clause-process : goal.returns-then-not-is_register-clause-process
returns-then-not-is_register-clause-process c =
    other_process c.args.first (process_view c.args.process.now) (sym c.requires.register ∙ c.if-not-is_register.true)

pub returns-then-not-is_register-clause-room : goal.returns-then-not-is_register-clause-room
returns-then-not-is_register-clause-room c =
    let p = c.args.process.now in
    let vs = p.variables.items in
    room_is c.args.first (process_view p) _ _ _ _
    (c.count_kept-many.ensures ∙ ap (λ (xs : List Variable). kept_count c.args.flags.now xs) c.deref.ensures.value ∙ count_is (body_of p) vs c.args.flags.now c.requires.flags)
    (c.len-drivers.ensures ∙ p.drives.ok.0 ∙ sym (length-map p.drives.items driver_view)) (ap length c.requires.starts) c.has_room.ensures c.if-not-has_room.false

pub kept_of-requires-clause-flags : goal.kept_of-requires-clause-flags
kept_of-requires-clause-flags c =
    let vs = c.args.process.now.variables.items in
    ap length c.requires.flags ∙ as_many _ 0 (map variable_view vs) ∙ length-map vs variable_view ∙ sym (ap length c.deref-2.ensures.value)

pub keep_listed-requires-clause-kept : goal.keep_listed-requires-clause-kept
keep_listed-requires-clause-kept c =
    let p = c.args.process.now in
    let vs = p.variables.items in
    let (types, ranged, few) = c.requires.in_range in
    let at = c.len-drivers.ensures ∙ p.drives.ok.0 in
    let all = length-map p.drives.items driver_view in
    let many = c.count_kept-many.ensures ∙ ap (λ (xs : List Variable). kept_count c.args.flags.now xs) c.deref.ensures.value in
    let is = count_is (body_of p) vs c.args.flags.now c.requires.flags in
    let r = room_is c.args.first (process_view p) _ _ _ _ (many ∙ is) (at ∙ sym all) (ap length c.requires.starts) c.has_room.ensures c.if-not-has_room.false in
    subst (λ (ks : List Kept). AreKept c.args.first (process_view p) ks)
    (sym (c.deref-3.ensures.value ∙ c.in_ok-kept.ensures ∙ ap (λ (xs : List Variable). kept_from 0 c.args.first c.len-drivers.result c.args.flags.now xs) c.deref-2.ensures.value))
    (are_kept p c.args.flags.now c.args.first c.len-drivers.result c.requires.flags ranged.variables at (omega (arith, r.drivers, is, at, all)))

pub keep_listed-requires-clause-computes : goal.keep_listed-requires-clause-computes
keep_listed-requires-clause-computes c =
    let p = c.args.process.now in
    let (types, ranged, few) = c.requires.in_range in
    subst (λ (vs : List ℕ). CanCompute vs (reset_branch (body_of p))) (sym c.requires.starts) (can_compute types (process_view p) ranged (sym c.requires.register ∙ c.if-not-is_register.false))

pub keep_listed-requires-clause-many : goal.keep_listed-requires-clause-many
keep_listed-requires-clause-many c =
    let p = c.args.process.now in
    c.count_kept-many.ensures ∙ ap (λ (xs : List Variable). kept_count c.args.flags.now xs) c.deref.ensures.value
    ∙ count_is (body_of p) p.variables.items c.args.flags.now c.requires.flags

pub returns-clause-reads : goal.returns-clause-reads
returns-clause-reads c =
    let p = c.args.process.now in
    let vs = p.variables.items in
    let first = c.args.first in
    let base = c.len-drivers.result in
    let flags = c.args.flags.now in
    let ks = kept_from 0 first base flags vs in
    let (types, ranged, few) = c.requires.in_range in
    let at = c.len-drivers.ensures ∙ p.drives.ok.0 in
    let all = length-map p.drives.items driver_view in
    let many = c.count_kept-many.ensures ∙ ap (λ (xs : List Variable). kept_count flags xs) c.deref.ensures.value in
    let is = count_is (body_of p) vs flags c.requires.flags in
    let r = room_is first (process_view p) _ _ _ _ (many ∙ is) (at ∙ sym all) (ap length c.requires.starts) c.has_room.ensures c.if-not-has_room.false in
    let kept = are_kept p flags first base c.requires.flags ranged.variables at (omega (arith, r.drivers, is, at, all)) in
    let reg = sym c.requires.register ∙ c.if-not-is_register.false in
    let nets : reads (recall_all ks) ≡ range_with_len first c.count_kept-many.result =
    recall_reads 0 first base ks (stand 0 first base flags vs) (are_one 0 first base flags vs ranged.variables)
    ∙ ap (range_with_len first) (counted 0 first base flags vs ∙ sym many) in
    reads_follow p c.keep_listed.new.process first c.count_kept-many.result c.requires.reads (reads_below p types first c.requires.reads ranged few) c.in_ok-keep_listed.ensures.reads
    (λ n. ap (λ (q : FlatProcess). is_in n (reads q.body)) c.in_ok-keep_listed.ensures.process ∙ kept_reads first c.count_kept-many.result (process_view p) ks kept reg nets n)

pub returns-clause-room : goal.returns-clause-room
returns-clause-room c =
    let p = c.args.process.now in
    let vs = p.variables.items in
    room_is c.args.first (process_view p) _ _ _ _
    (c.count_kept-many.ensures ∙ ap (λ (xs : List Variable). kept_count c.args.flags.now xs) c.deref.ensures.value ∙ count_is (body_of p) vs c.args.flags.now c.requires.flags)
    (c.len-drivers.ensures ∙ p.drives.ok.0 ∙ sym (length-map p.drives.items driver_view)) (ap length c.requires.starts) c.has_room.ensures c.if-not-has_room.false
