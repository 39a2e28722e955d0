use Rattle.std.proofs.Common.{◌≡◌, ◌<◌, ◌+◌, ◌*◌, ◌-◌, Some, sym, arith, length, ap, ◌∙◌}
use Rattle.std.specs.Prelude.{unwrap_or}
use Rattle.vhdl_values.specs.declared.scalar.Nine.TheVariants.{X}
use Rattle.vhdl_values.specs.Scalar.{value_of_code}
use Rattle.vhdl_values.specs.Planes.{code_at}
use Rattle.vhdl_values.proofs.Kept.{IsKept-seen, values_at-get}
use Rattle.vhdl_values.proofs.vector.Vec9.get.Goals as goal

pub returns : goal.returns
returns c =
    let long : c.self.inside.len ≡ length c.args.self.now = (IsKept-seen _ _ _ _ _ _ c.self.invariant c.self.view_is).same in
    let within : c.args.at < c.self.inside.len = omega arith in
    let place : c.self.inside.len - 1 - c.args.at ≡ c.len.result - 1 - c.args.at = omega arith in
    let seen = values_at-get c.self.inside.len c.args.at c.self.inside.first c.self.inside.second c.self.inside.third c.self.inside.fourth within in
    let code : code_at c.self.inside.first c.self.inside.second c.self.inside.third c.self.inside.fourth (c.self.inside.len - 1 - c.args.at) ≡
    c.bit.result + 2 * c.bit-2.result + 4 * (c.bit-3.result + 2 * c.bit-4.result) =
    rw place (omega (arith, c.bit.ensures, c.bit-2.ensures, c.bit-3.ensures, c.bit-4.ensures)) in
    let value : c.unwrap_or.result ≡ value_of_code (c.bit.result + 2 * c.bit-2.result + 4 * (c.bit-3.result + 2 * c.bit-4.result)) =
    c.unwrap_or.ensures ∙ ap (λ o. unwrap_or o X) c.from_code.ensures in
    rw (← c.self.view_is) (seen ∙ ap (λ n. Some (value_of_code n)) code ∙ ap Some (sym value))
