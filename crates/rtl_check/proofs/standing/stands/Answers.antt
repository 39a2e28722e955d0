use Rattle.std.proofs.Common.{ℕ, get_or, Option, None, subst}
use Rattle.std.specs.Prelude.{◌↔◌, IsTrue}
use Rattle.rtl_model.specs.simulation.Netlist as m
use Rattle.rtl_check.specs.declared.standing.Highest.{Highest}
use Rattle.rtl_net.specs.Core.{core}
use Rattle.rtl_check.specs.Standing as s
use Rattle.rtl_check.proofs.standing.stands.Goals as goal

pub returns : goal.returns
returns c =
    let net = c.args.net.now in
    let p = c.args.process in
    let result = IsTrue c.stands_as.result in
    let kind = (m.process (core net) p).kind in
    let from = get_or c.args.from.now p None in
    subst (λ (o : Option ℕ). result ↔ s.StandsAs (s.highest_of (core net) c.args.levels.now p) kind o from) c.level_at.ensures
    (subst (λ (h : Highest). result ↔ s.StandsAs h kind c.level_at.result from) c.highest_of-highest.ensures (c.stands_as.ensures (m.process (core net) p) c.kind_at-kind.ensures))
