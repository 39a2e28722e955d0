use Rattle.std.proofs.Common.{◌&&◌, ap, ◌∙◌}
use Rattle.rtl_body_facts.specs.Reading.{is_in}
use Rattle.rtl_mixed_reasons.proofs.Driven.{net-is}
use Rattle.rtl_mixed_reasons.proofs.ifs.common_net.Goals as goal

pub returns : goal.returns
returns c =
    c.first_common.ensures
    ∙ net-is c.args.process.now _ _ (λ n i. (ap (is_in n) c.deref.ensures.value ∙ c.in_ok-these.ensures.are n) i && (ap (is_in n) c.deref-2.ensures.value ∙ c.in_ok-those.ensures.are n) i)
