use Rattle.std.proofs.Common.{sym, ap, ◌∙◌}
use Rattle.rtl_body_facts.specs.Reading.{is_in}
use Rattle.rtl_body_facts.proofs.Members.{in_append}
use Rattle.rtl_latches.specs.Parts.{left_at}
use Rattle.rtl_latches.proofs.Telling.{told-same, first-none}
use Rattle.rtl_latches.proofs.parts.Part.assign.Goals as goal

pub returns : goal.returns
returns c =
    let p = c.args.self.now in
    λ n. told-same _ _ _ _ (ap (is_in n) c.in_ok-extend_from_slice.ensures.items ∙ in_append n p.assigned.items c.args.nets.now) (sym (first-none (left_at n p.left.items)))
