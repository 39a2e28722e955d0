use Rattle.std.proofs.Common.{length, refl, ap, sym, subst}
use Rattle.vhdl_expand_rules.specs.declared.fault.ElabProblem.TheVariants.{StaticError}
use Rattle.vhdl_expand_rules.specs.Elab.{item_or}
use Rattle.vhdl_expand_rules.specs.views.Integers.{Computes}
use Rattle.vhdl_expand_rules.proofs.Behind.{found-front, found-behind}
use Rattle.vhdl_expand_rules.proofs.integer.Integers.constant.Goals as goal

pub returns-in-None : goal.returns-in-None
returns-in-None c =
    let self = c.args.self.now in
    let is = found-front self.constants.now self.own_constants.now c.args.number (length self.constants.now) c.checked_sub.result refl c.checked_sub.ensures c.in-None.is in
    subst (λ x. Computes x c.known.result) (sym (ap (item_or StaticError c.args.at) is)) c.known.ensures

pub returns-in-Some : goal.returns-in-Some
returns-in-Some c =
    let self = c.args.self.now in
    let is = found-behind self.constants.now self.own_constants.now c.args.number (length self.constants.now) c.checked_sub.result refl c.checked_sub.ensures c.in-Some.number c.in-Some.is in
    subst (λ x. Computes x c.known-in-Some.result) (sym (ap (item_or StaticError c.args.at) is)) c.known-in-Some.ensures
