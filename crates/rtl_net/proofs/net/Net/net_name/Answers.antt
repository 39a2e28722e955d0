use Rattle.std.proofs.Common.{◌≡◌, ◌<◌, Option, Some, length, slice_get, subst, sym}
use Rattle.std.specs.Prelude.{IfOk, IfSome}
use Rattle.rtl_net.specs.Nets.{NetlistView, SignalView}
use Rattle.rtl_net.specs.Elaborated.{width_of}
use Rattle.rtl_net.specs.NetOf.{owner_view}
use Rattle.rtl_net.specs.Names as spec
use Rattle.rtl_net.proofs.Naming.{kept-element, kept-owner}
use Rattle.rtl_net.proofs.net.Net.net_name.Goals as goal

pub element_name-requires : goal.element_name-requires
element_name-requires c =
    let o = c.index-owner.result.now in
    let owner = kept-owner c.self.inside c.self.invariant c.args.net o (rw (← c.self.view_is) at c.requires.there) c.index-owner.ensures in
    record {
      there = subst (λ (v : NetlistView). o.signal < length v.signals) c.self.view_is owner.there;
      within = subst (λ (v : NetlistView). IfSome (slice_get v.signals o.signal) (λ (s : SignalView). o.place < width_of s.kind)) c.self.view_is (rw (owner.is) owner.within);
    }

pub returns : goal.returns
returns c =
    let o = c.index-owner.result.now in
    let e = kept-element c.self.inside c.self.invariant c.args.net o (rw (← c.self.view_is) at c.requires.there) c.index-owner.ensures in
    let is = subst (λ (v : NetlistView). spec.element_of v c.args.net ≡ Some (owner_view o)) c.self.view_is e in
    subst (λ (x : Option spec.Element). IfOk c.element_name.result (λ name. name.items ≡ spec.element_name c.args.self.now x)) (sym is) c.element_name.ensures
