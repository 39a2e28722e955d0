use Rattle.std.proofs.Common.{nat_eq, sym, ap, ◌∙◌}
use Rattle.std.specs.Map.{lookup}
use Rattle.rtl_latches.specs.Omissions.{omission_of}
use Rattle.rtl_body_facts.specs.Paths.{to_net}
use Rattle.rtlsim_findings.specs.Omitted.{omission_at}
use Rattle.rtlsim_listing.proofs.Numbered.{there, missing}
use Rattle.rtlsim_findings.proofs.omitted.places_of.Goals as goal

pub returns-in_ok-omissions-in-Some : goal.returns-in_ok-omissions-in-Some
returns-in_ok-omissions-in-Some c =
    let x = c.in-Some.process.now in
    let found = c.in-Some.ensures.lookup.3 in
    let is = there c.processes.result.now c.args.net.now.processes c.args.process x c.processes.ensures found.0 (found.1 x) in
    λ n. c.in_ok-omissions-in-Some.ensures n ∙ (λ i. omission_of (to_net (c.deref-in-Some.ensures.value i) n) (c.deref.ensures.value i)) ∙ sym (ap (omission_at n) is)

pub returns-in-None : goal.returns-in-None
returns-in-None c =
    let is = missing c.processes.result.now c.args.net.now.processes c.args.process c.processes.ensures c.in-None.ensures.lookup.0 in
    λ n. ap (lookup (nat_eq n)) c.new.ensures.empty ∙ sym (ap (omission_at n) is)
