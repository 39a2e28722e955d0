use Rattle.std.proofs.Common.{◌≡◌, ◌++◌, map, take}
use Rattle.vhdl_expected.specs.Changes.{with_kind}
use Rattle.vhdl_expected.proofs.change.push_kinds.Given as goal

-- a token of each kind so far
abbrev pub invariant-loop-kind : goal.invariant-loop-kind
invariant-loop-kind l = l.tokens.items ≡ l.initial.tokens.items ++ map (with_kind l.token) (take l.kind-index l.kinds)
