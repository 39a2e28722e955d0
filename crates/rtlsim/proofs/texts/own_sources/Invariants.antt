use Rattle.std.proofs.Common.{◌≡◌, map, string_bytes, take}
use Rattle.rtlsim.proofs.texts.own_sources.Given as goal

-- the names so far
abbrev pub invariant-loop-name : goal.invariant-loop-name
invariant-loop-name l = map string_bytes l.before.items ≡ map (λ name. name.now) (take l.name-index l.with)
