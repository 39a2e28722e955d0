use Rattle.std.proofs.Common.{◌≡◌, ℕ, List, [], length, get_or, Option, None, IsSome, Contains, ap, sym, subst, ◌∙◌, arith}
use Rattle.std.proofs.lemmas.List.{length-map}
use Rattle.rtl_drives.specs.Outcomes.{Outcome}
use Rattle.rtl_kernel.specs.drivers.Starts.{no_entries, start_row}
use Rattle.rtl_kernel.specs.worklists.Numbers.{Numbers}
use Rattle.rtl_kernel.proofs.Started.{each_fresh, none_fresh}
use Rattle.rtl_kernel.proofs.drivers.Drivers.new.Goals as goal

pub invariant_of-result : goal.invariant_of-result
invariant_of-result g c =
    let ps = c.args.processes.now in
    let rows_are = c.in_ok-drivers.ensures in
    let pending = c.in_ok-outcomes.ensures.entries in
    let outcomes = c.in_ok-outcomes.outcomes.items in
    let many : length outcomes ≡ length ps = sym (length-map outcomes (λ (o : Outcome). o.entries)) ∙ ap length pending ∙ length-map ps no_entries in
    record {
      as_many = ap length rows_are ∙ length-map ps start_row ∙ sym many;
      bound = ap (λ (n : Numbers). n.bound) c.in_ok-active.ensures ∙ sym many;
      each_driver = λ p. ap (λ (rs : List (List ℕ)). length (get_or rs p [])) rows_are ∙ each_fresh ps p
          ∙ sym (ap (λ (rs : List (List (Option ℕ))). length (get_or rs p [])) pending);
      all_active = λ p a.
          absurd (none_fresh ps p (subst (λ (rs : List (List (Option ℕ))). (place : ℕ) × IsSome (get_or (get_or rs p []) place None)) pending a));
      no_other = λ p h.
          (let (k, l, is) = subst (λ (n : Numbers). Contains n.members p) c.in_ok-active.ensures h in absurd (omega (arith, l)));
    }
