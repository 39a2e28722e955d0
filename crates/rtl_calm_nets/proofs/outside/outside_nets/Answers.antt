use Rattle.std.proofs.Common.{◌↔◌, ℕ, Bool, false, IsTrue}
use Rattle.rtl_model.specs.simulation.Calm.{IsFromOutside}
use Rattle.rtl_net.specs.Core.{core}
use Rattle.rtl_calm_nets.proofs.Giving.{pushed}
use Rattle.rtl_calm_nets.proofs.outside.outside_nets.Goals as goal

pub loop-number-preserved : goal.loop-number-preserved
loop-number-preserved c =
    let l = c.loop-number in
    let more = pushed (λ (n : ℕ) (b : Bool). IsTrue b ↔ IsFromOutside (core c.args.net.now) n) l.outside.items c.push.new.self.items c.is_outside.result false l.number l.invariant.so_many c.in_ok-push.ensures.items l.invariant.so_far c.is_outside.ensures in
    record { so_many = more.0; so_far = more.1 }
