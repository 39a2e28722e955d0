use Rattle.std.proofs.Common.{◌≡◌, ℕ, List, map, length}
use Rattle.vhdl_names_rules.specs.problems.Missing.{is_named}
use Rattle.vhdl_names_sight.proofs.sight.is_among.Given as goal

-- the names that are left decide
abbrev pub invariant-loop-names : goal.invariant-loop-names
invariant-loop-names l = is_named (map {B = List ℕ} (λ d. d.now) l.names) l.name ≡ is_named (map {B = List ℕ} (λ d. d.now) l.initial.names) l.name

abbrev pub decreases-loop-names : goal.decreases-loop-names
decreases-loop-names l = length l.names
