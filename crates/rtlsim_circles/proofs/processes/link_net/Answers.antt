use Rattle.std.proofs.Common.{Option, Some, sym, ap, ◌∙◌}
use Rattle.std.specs.Prelude.{slice_get}
use Rattle.rtl_net.specs.declared.process.Process.{Process}
use Rattle.rtlsim_circles.specs.Circles.{link_net}
use Rattle.rtlsim_listing.proofs.Numbered.{there, missing}
use Rattle.rtlsim_circles.proofs.processes.link_net.Goals as goal

pub returns-in_default : goal.returns-in_default
returns-in_default c =
    let ps = c.args.net.now.processes in
    let none = missing c.processes.result.now ps c.args.process c.processes.ensures c.in_default.ensures.lookup.0 in
    sym (ap (λ (o : Option Process). link_net o (slice_get ps c.args.next)) none)

pub returns-in_default-get : goal.returns-in_default-get
returns-in_default-get c =
    let ps = c.args.net.now.processes in
    let x = c.in-Some.process.now in
    let process = c.in-Some.ensures.lookup.3 in
    let found = there c.processes.result.now ps c.args.process x c.processes.ensures process.0 (process.1 x) in
    let none = missing c.processes-2.result.now ps c.args.next c.processes-2.ensures c.in_default-get.ensures.lookup.0 in
    sym (ap (λ (o : Option Process). link_net o (slice_get ps c.args.next)) found ∙ ap (λ (o : Option Process). link_net (Some x) o) none)
