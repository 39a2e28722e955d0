use Rattle.std.proofs.Common.{◌&&◌, not, List, ap, ◌∙◌}
use Rattle.rtl_body_facts.specs.Reading.{is_in}
use Rattle.rtl_body_facts.proofs.EveryPath.{in_filter}
use Rattle.rtl_latches.specs.declared.parts.Left.{Left}
use Rattle.rtl_latches.specs.Parts.{told, both, only_left, where_so, left_at}
use Rattle.rtl_latches.proofs.Telling.{inner-chosen}
use Rattle.rtl_latches.proofs.choosing.choose_in.Goals as goal

pub returns : goal.returns
returns c =
    let p = c.args.part.now in
    record {
      rise = c.sort_once.ensures.rise;
      are = λ n. c.sort_once.ensures.same n ∙ (ap (is_in n) c.in_ok-within.ensures ∙ in_filter (λ m. is_in m c.args.inner.now.assigned.items) c.args.some.now n);
      left = λ n.
          let so = is_in n c.args.some.now && not (is_in n c.args.inner.now.assigned.items) in
          inner-chosen (told n p) _ _ so _ (left_at n c.args.inner.now.left.items) c.args.itself
          (c.in_ok-push_inner.ensures n ∙ ap (λ (ls : List Left). both (told n p) (only_left (where_so so (left_at n ls)))) c.deref.ensures.value)
          (c.in_ok-leave_out.ensures n)
          (ap (is_in n) (c.deref-2.ensures.value ∙ c.in_ok-without.ensures) ∙ in_filter (λ m. not (is_in m c.args.inner.now.assigned.items)) c.args.some.now n);
    }
