use Rattle.std.proofs.Common.{ℕ, List, All, length, sym, ap, subst, ◌∙◌, ◌<◌}
use Rattle.rtlsim_listing.specs.DotText.{arrows_by, wakes_of}
use Rattle.rtlsim_listing.specs.Printing.{Prints}
use Rattle.rtlsim_listing.proofs.ArrowTexts.{wakes_there}
use Rattle.rtlsim_listing.proofs.Numbered.{there}
use Rattle.rtlsim_listing.proofs.graph.push_arrows_to.Goals as goal

pub push_arrows_by-requires : goal.push_arrows_by-requires
push_arrows_by-requires g c =
    let net = c.args.net.now in
    let x = c.in-Some.process.now in
    let process = c.in-Some.ensures.lookup.3 in
    let found = there c.processes.result.now net.processes c.args.number x c.processes.ensures process.0 (process.1 x) in
    record { there = subst (λ (ns : List ℕ). All (λ n. n < length net.types) ns) (sym c.as_slice.ensures) (wakes_there net c.is_elaborated.ensures c.args.number x found) }

pub returns : goal.returns
returns g c =
    let net = c.args.net.now in
    let x = c.in-Some.process.now in
    let process = c.in-Some.ensures.lookup.3 in
    let found = there c.processes.result.now net.processes c.args.number x c.processes.ensures process.0 (process.1 x) in
    subst (λ (ns : List ℕ). Prints c.push_arrows_by.result (g.W.Sink.state c.args.out.now) (g.W.Sink.state c.push_arrows_by.new.out) (arrows_by net c.args.number ns))
    (c.as_slice.ensures ∙ sym (ap wakes_of found)) c.push_arrows_by.ensures
