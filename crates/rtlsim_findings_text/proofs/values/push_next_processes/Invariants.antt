use Rattle.std.proofs.Common.{◌≡◌, ◌++◌, take}
use Rattle.std.specs.Prelude.{flat_map}
use Rattle.rtlsim_findings_text.specs.Json.{process_text}
use Rattle.rtlsim_findings_text.specs.Values.{next_text}
use Rattle.rtlsim_findings_text.proofs.values.push_next_processes.Given as goal

abbrev pub invariant-loop-item : goal.invariant-loop-item
invariant-loop-item l =
    l.text.items ≡ l.initial.text.items ++ flat_map (next_text (process_text l.site.net.now)) (take l.item-index l.items)
