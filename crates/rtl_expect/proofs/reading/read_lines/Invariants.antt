use Rattle.std.proofs.Common.{◌≡◌, ◌+◌, [], drop, map, Ok}
use Rattle.rtl_stim_lines.specs.Lines.{as_lines}
use Rattle.rtl_expect.specs.Lines.{after_lines, expectations_of}
use Rattle.rtl_expect.specs.Reading.{all_placed}
use Rattle.rtl_expect.specs.Watching.{list_view}
use Rattle.rtl_expect.proofs.reading.read_lines.Given as goal

-- what the text expects is what the lines that are left do, after those so far
abbrev pub invariant-loop-place : goal.invariant-loop-place
invariant-loop-place g l =
    expectations_of (g.L.Literals.positions l.literals) l.net l.text
    ≡ after_lines (g.L.Literals.positions l.literals) l.net (l.place + 1) (as_lines (drop l.place (map (λ part. part.now) l.parts.items))) (Ok (all_placed [] (list_view l.list)))
