use Rattle.std.proofs.Common.{◌≡◌, ◌+◌, ◌-◌, suc, length, map, arith, subst}
use Rattle.std.proofs.lemmas.List.{length-map}
use Rattle.byte_streams.specs.Written.{Goes}
use Rattle.rtl_net.specs.Nets.{scope_view}
use Rattle.rtl_vcd.specs.Header as spec
use Rattle.rtl_vcd.proofs.heading.push_closing_after.Goals as goal

pub returns : goal.returns
returns g c =
    let scopes = map scope_view c.args.scopes.now in
    let last = length c.args.scopes.now - 1 in
    let some : length c.args.scopes.now ≡ suc last = omega (arith, c.requires.scopes.some, length-map c.args.scopes.now scope_view) in
    let count : c.depth.result + 1 ≡ suc (spec.depth scopes last) = omega (arith, c.depth.ensures.depth) in
    rw some (subst (λ n. Goes (g.W.Sink.state c.args.out.now) (g.W.Sink.state c.push_upscopes.new.out) (spec.upscopes n)) count c.push_upscopes.ensures)
