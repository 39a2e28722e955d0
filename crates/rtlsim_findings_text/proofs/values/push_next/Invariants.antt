use Rattle.std.proofs.Common.{◌≡◌, ◌++◌, map, take}
use Rattle.std.specs.Prelude.{if◌then◌else◌, flat_map}
use Rattle.rtlsim_findings_text.specs.Json.{itself}
use Rattle.rtlsim_findings_text.specs.Values.{next_text, string_text}
use Rattle.rtlsim_findings_text.proofs.values.push_next.Given as goal

abbrev pub invariant-loop-item : goal.invariant-loop-item
invariant-loop-item l =
    l.text.items
    ≡ l.initial.text.items
    ++ flat_map (next_text (if l.are_strings then string_text else itself)) (map (λ t. t.items) (take l.item-index l.items))
