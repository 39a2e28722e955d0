use Rattle.std.proofs.Common.{length, ap, refl, sym, ◌∙◌}
use Rattle.rtl_net_groups.specs.Groups.{Grouping}
use Rattle.rtl_kernel.specs.values.TwoValues.{TwoValues}
use Rattle.rtl_kernel.specs.worklists.Numbers.{Numbers}
use Rattle.rtl_kernel.proofs.nets.Nets.new.Goals as goal

pub new-requires-2-clause-each_net : goal.new-requires-2-clause-each_net
new-requires-2-clause-each_net c =
    c.in_ok-groups.ensures.as_many ∙ sym c.is_elaborated.ensures.in_range.each_starts ∙ sym c.in_ok-codes.ensures.as_many ∙ sym (ap length c.deref.ensures.value)

pub invariant_of-result : goal.invariant_of-result
invariant_of-result c =
    let v = c.in_ok-values.ensures in
    let same = ap (λ (w : TwoValues). w.groups) v in
    record {
      each_net = ap (λ (w : TwoValues). length w.current) v ∙ ap length c.deref.ensures.value ∙ c.in_ok-codes.ensures.as_many ∙ c.is_elaborated.ensures.in_range.each_starts;
      grouped = ap (λ (g : Grouping). length g.of_net) same ∙ c.in_ok-groups.ensures.as_many;
      marked = rw same c.in_ok-alone.ensures;
      bound = ap (λ (w : Numbers). w.bound) c.in_ok-noted.ensures ∙ c.count.ensures ∙ ap (λ (g : Grouping). length g.listed) (sym same);
    }

pub returns : goal.returns
returns c =
    let v = c.in_ok-values.ensures in
    record {
      net_is = refl;
      is_index = rw (ap (λ (w : TwoValues). w.groups) v) c.in_ok-groups.ensures.index;
      no_event = ap (λ (w : TwoValues). w.before) v ∙ sym (ap (λ (w : TwoValues). w.current) v);
      current = rw (ap (λ (w : TwoValues). w.current) v, c.deref.ensures.value) c.in_ok-codes.ensures;
      none_noted = ap (λ (w : Numbers). w.members) c.in_ok-noted.ensures;
    }
