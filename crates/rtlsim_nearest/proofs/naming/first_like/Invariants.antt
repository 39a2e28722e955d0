use Rattle.std.proofs.Common.{◌≡◌, map, drop}
use Rattle.std.specs.Prelude.{find}
use Rattle.rtl_net.specs.Nets.{label_at, scope_view}
use Rattle.rtlsim_nearest.specs.Likeness.{first_like, is_like}
use Rattle.rtlsim_nearest.proofs.Names.{name_in}
use Rattle.rtlsim_nearest.proofs.naming.first_like.Given as goal

-- the names that are left decide
abbrev pub invariant-loop-number : goal.invariant-loop-number
invariant-loop-number l =
    let scopes = map scope_view l.scopes in
    find (is_like l.way (label_at scopes 0) l.name) (map (name_in scopes) (drop l.number l.signals)) ≡ first_like l.net l.name l.way
