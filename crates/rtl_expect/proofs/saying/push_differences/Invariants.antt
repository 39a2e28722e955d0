use Rattle.std.specs.Prelude.{flat_map, take}
use Rattle.byte_streams.specs.Written.{Goes}
use Rattle.rtl_expect.specs.Telling.{difference_said}
use Rattle.rtl_expect.specs.Watching.{difference_view}
use Rattle.rtl_expect.proofs.saying.push_differences.Given as goal

-- the lines of those before this one went out
abbrev pub invariant-loop-difference : goal.invariant-loop-difference
invariant-loop-difference g l =
    Goes (g.S.Sink.state l.initial.sink) (g.S.Sink.state l.sink)
    (flat_map (λ d. difference_said (g.L.Literals.names l.literals) l.file l.net (difference_view d)) (take l.difference-index l.told))
