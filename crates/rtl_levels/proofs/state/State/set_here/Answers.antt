use Rattle.std.proofs.Common.{◌+◌, ℕ, List, get_or, length, ap, sym, ◌∙◌, arith}
use Rattle.rtl_kernel.specs.wakes.Woken.{wakers_of}
use Rattle.rtl_net_groups.proofs.Writing.{written_items}
use Rattle.rtl_levels.proofs.Setting.{get_new, get_same}
use Rattle.rtl_levels.proofs.Visiting.{listed_below}
use Rattle.rtl_levels.proofs.state.State.set_here.Goals as goal

pub replace-requires : goal.replace-requires
replace-requires c = rw (ap length c.deref_mut.ensures.value) c.requires.there

pub readers_of-requires : goal.readers_of-requires
readers_of-requires c = omega (arith, c.requires.there, (c.replace.ensures.other c.if-replace.true).there, c.requires.have_readers.each_net)

pub mark-requires : goal.mark-requires
mark-requires c = record { there = listed_below (wakers_of c.args.readers.now) c.args.first _ c.requires.have_readers.below c.readers_of.result.now c.readers_of.ensures }

pub mark_run-requires : goal.mark_run-requires
mark_run-requires c = omega (arith, c.requires.there, c.requires.have_readers.each_chunk)

pub returns-then-replace : goal.returns-then-replace
returns-then-replace c =
    let old = c.args.self.now.values in
    let done = rw c.deref_mut.ensures.value at c.replace.ensures.written in
    get_new c.args.readers.now c.args.first c.args.given.now c.args.self.now _ c.requires (written_items old c.replace.new.over c.args.first c.args.given.now done)
    (rw c.deref_mut.ensures.value at (c.replace.ensures.other c.if-replace.true)) c.readers_of.result.now c.readers_of.ensures c.mark.ensures.as_many c.mark.ensures.marks c.mark_run.ensures

pub returns-else-replace : goal.returns-else-replace
returns-else-replace c =
    let old = c.args.self.now.values in
    let done = rw c.deref_mut.ensures.value at c.replace.ensures.written in
    get_same c.args.readers.now c.args.first c.args.given.now c.args.self.now _ (written_items old c.replace.new.over c.args.first c.args.given.now done)
    (λ k l. ap (λ (vs : List ℕ). get_or vs (c.args.first + k) 0) (sym c.deref_mut.ensures.value) ∙ c.replace.ensures.alike c.if-replace.false k l)
