use Rattle.std.proofs.Common.{◌≡◌, ◌++◌, take}
use Rattle.std.specs.Prelude.{flat_map}
use Rattle.rtlsim_findings_text.specs.Values.{byte_text}
use Rattle.rtlsim_findings_text.proofs.values.push_bytes.Given as goal

abbrev pub invariant-loop-byte : goal.invariant-loop-byte
invariant-loop-byte l = l.text.items ≡ l.initial.text.items ++ flat_map byte_text (take l.byte-index l.bytes)
