use Rattle.std.proofs.Common.{ap, sym, ◌∙◌}
use Rattle.rtl_body_facts.specs.Paths.{driven}
use Rattle.rtl_body_facts.specs.Reading.{is_in}
use Rattle.rtl_mixed_reasons.proofs.Driven.{find-none, no-length}
use Rattle.rtl_mixed_reasons.proofs.nets.first_net.Goals as goal

pub returns-then-is_empty : goal.returns-then-is_empty
returns-then-is_empty c =
    let none = no-length c.args.nets.now (sym c.is_empty.ensures ∙ c.if-is_empty.true) in
    sym (find-none (λ n. is_in n c.args.nets.now) (driven c.args.process.now.drives.items) (λ n. ap (is_in n) none))
