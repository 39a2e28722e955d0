use Rattle.std.proofs.Common.{ℕ, ◌++◌, map, ap, ◌∙◌}
use Rattle.std.specs.Global.{Vec}
use Rattle.std.proofs.lemmas.Result.{IfOk-equal}
use Rattle.rtlsim_findings_text.specs.Json.{named_text, process_text}
use Rattle.rtlsim_findings_text.specs.Values.{array_text, string_text}
use Rattle.rtlsim_findings_text.proofs.Texts.{part, six}
use Rattle.rtlsim_findings_text.proofs.object.push_named.Goals as goal

pub returns : goal.returns
unfolding named_text
returns c =
    let net = c.args.site.now.net.now in
    let names = map (λ (t : Vec ℕ). t.items) in
    let processes = part _ _ _ _ c.in_ok-push_processes.ensures (ap (array_text (process_text net)) (c.deref.ensures.value ∙ c.in_ok-processes.ensures)) in
    let nets = part _ _ _ _ c.in_ok-push_array.ensures (ap (array_text string_text) (ap names c.deref-2.ensures.value ∙ c.in_ok-nets_in.ensures)) in
    let variables = ap names c.deref-3.ensures.value ∙ c.in_ok-variables_in.ensures in
    IfOk-equal c.push_array-2.result _ _ _ c.push_array-2.ensures
    (ap (λ ts. c.extend_from_slice-3.new.self.items ++ array_text string_text ts) variables
    ∙ six _ _ _ _ _ _ _ _ _ _ _ _ c.in_ok-extend_from_slice.ensures.items processes c.in_ok-extend_from_slice-2.ensures.items nets c.in_ok-extend_from_slice-3.ensures.items)
