use Rattle.std.proofs.Common.{◌≡◌, ℕ, ◌<◌, inl, inr, List, Option, length, get_or, sym, ap, subst, ◌∙◌, arith}
use Rattle.std.specs.Prelude.{IsSome}
use Rattle.std.proofs.lemmas.List.{get_or_default}
use Rattle.rtl_body_facts.specs.declared.kinds.ProcessKind.TheVariants as k
use Rattle.rtl_net.specs.Core.{core}
use Rattle.rtl_check_levels.specs.declared.counting.Counting.TheVariants.{Each}
use Rattle.rtl_check_levels.specs.Levels.{level_of, IsHighest}
use Rattle.rtl_check_levels.proofs.Growing.{some_within}
use Rattle.rtl_process_kinds.specs.KindViews.{resets}
use Rattle.rtl_check_nets.proofs.Acting.{acts, acts_by_reset, never_acts}
use Rattle.rtl_check_nets.proofs.levels.below_of.Goals as goal
use Rattle.rtl_check_nets.proofs.levels.below_of.Goals.{then-is_combinational, else-is_combinational+then-resets, else-is_combinational+else-resets}

moved : (ws vs : List ℕ) (ls ms from other : List (Option ℕ)) (b : ℕ) (p : Option ℕ) → ws ≡ vs → ms ≡ ls → other ≡ from → IsHighest Each ws ms other b p → IsHighest Each vs ls from b p
moved ws vs ls ms from other b p d e f h = rw (sym d, sym e, sym f) h

pub returns-then-not-may : goal.returns-then-not-may
returns-then-not-may c may =
    let net = core c.args.net.now in
    let kinds = c.args.kinds.now in
    let p = c.args.process in
    let l = c.requires.there in
    let there : p < length net.processes = (let e = c.requires.kinds.each_process in omega arith) in
    let wired = (c.nets_meet_the_laws.ensures c.args.net.now c.is_elaborated.ensures).elaborated.wiring in
    elim c.if-is_combinational.branch [
      | then-is_combinational w ↦ absurd (let a = w.may-is in let b = c.if-not-may.true in cc)
      | else-is_combinational+then-resets w ↦ never_acts net wired kinds c.requires.kinds p there (sym c.is_combinational.ensures ∙ w.if-is_combinational.false)
          (inr (sym w.follows_driver.ensures ∙ sym w.may-is ∙ c.if-not-may.true)) may
      | else-is_combinational+else-resets w ↦ never_acts net wired kinds c.requires.kinds p there (sym c.is_combinational.ensures ∙ w.if-is_combinational.false)
          (inl (ap resets (get_or_default kinds p k.Mixed _ l) ∙ sym w.resets.ensures ∙ w.if-resets.false)) may
    ]

pub highest_of-requires-clause-there : goal.highest_of-requires-clause-there
highest_of-requires-clause-there c i d h =
    let n = get_or c.wakes_of.result.now i d in
    let w : n < length c.args.net.now.types = c.wakes_of.ensures.there i d h in
    let e = c.is_elaborated.ensures.in_range.each_starts in
    let l = some_within c.args.nets.now.levels.items n (c.requires.levels.1 n (omega arith)) in
    let f = ap length c.deref.ensures.value in
    omega arith

pub highest_of-requires-clause-each : goal.highest_of-requires-clause-each
highest_of-requires-clause-each c i d h =
    let n = get_or c.wakes_of.result.now i d in
    let w : n < length c.args.net.now.types = c.wakes_of.ensures.there i d h in
    let e = c.is_elaborated.ensures.in_range.each_starts in
    subst (λ (ls : List (Option ℕ)). IsSome (level_of ls n)) (sym c.deref.ensures.value) (c.requires.levels.1 n (omega arith))

pub returns : goal.returns
returns c =
    let net = core c.args.net.now in
    let kinds = c.args.kinds.now in
    let p = c.args.process in
    let l = c.requires.there in
    let there : p < length net.processes = (let e = c.requires.kinds.each_process in omega arith) in
    let wired = (c.nets_meet_the_laws.ensures c.args.net.now c.is_elaborated.ensures).elaborated.wiring in (
      elim c.if-is_combinational.branch [
        | then-is_combinational w ↦ acts net wired kinds c.requires.kinds p there (sym c.is_combinational.ensures ∙ w.if-is_combinational.true)
        | else-is_combinational+then-resets w ↦ acts_by_reset net wired kinds c.requires.kinds p there
            (ap resets (get_or_default kinds p k.Mixed _ l) ∙ sym w.resets.ensures ∙ w.if-resets.true) (sym w.follows_driver.ensures ∙ sym w.may-is ∙ c.if-not-may.false)
        | else-is_combinational+else-resets w ↦ absurd (let a = w.may-is in let b = c.if-not-may.false in cc)
      ],
      moved _ _ _ _ _ _ _ _ c.wakes_of.ensures.value c.deref.ensures.value c.deref-2.ensures.value c.highest_of.ensures,
    )
