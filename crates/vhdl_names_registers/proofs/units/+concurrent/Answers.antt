use Rattle.std.proofs.Common.{sym, ap, ◌∙◌, arith, rules}
use Rattle.std.specs.Prelude.{vec_len}
use Rattle.std.proofs.lemmas.Grind.{common_steps}
use Rattle.vhdl_names_rules.specs.Registers.{concurrent_written}
use Rattle.vhdl_names_units.specs.declared.concurrent.Concurrent.{Concurrent}
use Rattle.vhdl_names_units.specs.declared.concurrent.Generate.{Generate}
use Rattle.vhdl_names_units.specs.views.Concurrent.{concurrent_view}
use Rattle.vhdl_names_registers.proofs.Replacing.{each_is_written, generate_is_written}
use Rattle.vhdl_names_registers.proofs.units.+concurrent.Goals as goal

pub concurrents-returns : goal.concurrents-returns
concurrents-returns t c = each_is_written c.args.all.now c.loop-index.all (first_of (search rules, grind (arith, common_steps)))

pub concurrent-returns-in-Instance : goal.concurrent-returns-in-Instance
unfolding concurrent_written
concurrent-returns-in-Instance t c =
    ap concurrent_view c.in-Instance.is ∙ sym (ap (λ (x : Concurrent). concurrent_written (concurrent_view x)) c.in-Instance.is)

pub concurrent-returns-in-Generate : goal.concurrent-returns-in-Generate
concurrent-returns-in-Generate t c =
    let g = c.in-Generate.x in
    let same = c.in-Generate.x-is in
    let made = generate_is_written c.concurrents.result g _ c.concurrents.new.all (c.deref_mut.ensures.value ∙ ap (λ (x : Generate). x.statements.items) same)
    (c.concurrents.auto.all ∙ (c.deref_mut.ensures.len ∙ ap (λ (x : Generate). vec_len x.statements) same)) c.concurrents.ensures in
    search (rules, made)
