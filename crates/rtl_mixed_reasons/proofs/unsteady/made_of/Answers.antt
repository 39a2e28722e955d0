use Rattle.std.proofs.Common.{Some, None, ap, ◌∙◌}
use Rattle.rtl_mixed_reasons.specs.Unsteady.{seen_kind}
use Rattle.rtl_mixed_reasons.proofs.unsteady.made_of.Goals as goal

pub returns : goal.returns
returns c =
    let net = c.args.net.now in
    let seen = c.seen_by-second.ensures in
    λ i. record { kind = (c.seen_kind.ensures ∙ ap (seen_kind net) seen) i; at = c.args.at; net = Some c.args.number; driver = None; second = seen i }
