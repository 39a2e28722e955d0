use Rattle.std.proofs.Common.{◌≡◌, drop}
use Rattle.vhdl_expand_rules.specs.views.Prefixes.{all_static}
use Rattle.vhdl_expand_rules.proofs.prefix.+is_static.Given as goal

-- all are static where those that are left are
abbrev pub invariant-are_static-loop-link : goal.invariant-are_static-loop-link
invariant-are_static-loop-link l = all_static l.links ≡ all_static (drop l.link-index l.links)
