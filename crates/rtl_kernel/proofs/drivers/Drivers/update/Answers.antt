use Rattle.std.proofs.Common.{List, ap, sym, subst, ◌∙◌, length, get_or, []}
use Rattle.std.proofs.lemmas.List.{length-map}
use Rattle.rtl_drives.specs.Outcomes.{Outcome}
use Rattle.rtl_model.proofs.basics.Lists.{Contains-none}
use Rattle.rtl_kernel.specs.drivers.Rows.{rows}
use Rattle.rtl_kernel.specs.drivers.Transactions.{IsActive, pending_of, without_entries}
use Rattle.rtl_kernel.specs.worklists.Numbers.{Numbers}
use Rattle.rtl_kernel.proofs.Active.{none_active, each_driver_taken, rows_taken}
use Rattle.rtl_kernel.proofs.drivers.Drivers.update.Goals as goal

pub invariant_of-self : goal.invariant_of-self
invariant_of-self c =
    let I = c.self.invariant in
    let E = c.update_rows.ensures in
    let outcomes = c.self.inside.outcomes.items in
    let old = rows c.self.inside.drivers.items in
    let new = rows c.update_rows.new.drivers.items in
    let many = ap length E.outcomes ∙ length-map outcomes without_entries in
    record {
      as_many = rows_taken outcomes old new E.drivers I.as_many ∙ sym many;
      bound = ap (λ (w : Numbers). w.bound) c.clear.ensures ∙ I.bound ∙ sym many;
      each_driver = λ p. each_driver_taken outcomes old new E.drivers I.each_driver p ∙ ap (λ (os : List Outcome). length (get_or (pending_of os) p [])) (sym E.outcomes);
      all_active = λ p a. absurd (none_active outcomes p (subst (λ (os : List Outcome). IsActive (pending_of os) p) E.outcomes a));
      no_other = λ p h. absurd (Contains-none p (rw (c.clear.ensures) at h));
    }
