use Rattle.std.proofs.Common.{◌≡◌, true, false, inl, sym, ◌∙◌}
use Rattle.rtl_model.specs.simulation.Accepted as f
use Rattle.rtl_net.specs.Core.{core}
use Rattle.rtl_recheck.proofs.Keeping.{no_fault, keeps}
use Rattle.rtl_recheck.proofs.rechecking.recheck.Goals as goal

pub returns-then-not-has_no_mixed : goal.returns-then-not-has_no_mixed
returns-then-not-has_no_mixed c =
    (λ e. absurd cc, λ (A, R). let t = c.has_no_mixed.ensures.1 (λ p is. A (f.MixedProcess p) (inl is)) in let h : true ≡ false = sym t ∙ c.if-not-has_no_mixed.true in cc)

pub returns-then-not-have_one_source : goal.returns-then-not-have_one_source
returns-then-not-have_one_source c = (
  λ e. absurd cc,
  λ (A, R). let t = c.have_one_source.ensures.1 (λ n s r is. A (f.TwoDrivers n s r) is) in let h : true ≡ false = sym t ∙ c.if-not-have_one_source.true in cc,
)

pub returns : goal.returns
returns c =
    let net = core c.args.net.now in
    let r = c.args.report.now in
    let clear = c.has_no_mixed.ensures.0 c.if-not-has_no_mixed.false in
    let R = (c.is_report.ensures clear).0 c.if-not-is_report.false in
    let shown = ((c.reports_are_shown.ensures net r.levels.items r.from.items r.clocks.items r.bound).0 R).shown in
    let loops = (c.levels_are_shown.ensures net r.levels.items r.from.items shown).1 in
    let one = c.have_one_source.ensures.0 c.if-not-have_one_source.false in
    let elaborated = (c.nets_meet_the_laws.ensures c.args.net.now c.is_elaborated.ensures).elaborated in
    let other = R.rest.by_processes in
    (λ t. (c.accepted_by_processes.ensures net elaborated (no_fault net clear other one (c.all_keep.ensures.0 t)) loops other, R), λ (A, S). c.all_keep.ensures.1 (keeps net A))
