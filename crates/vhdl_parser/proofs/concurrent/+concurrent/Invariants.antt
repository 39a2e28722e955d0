use Rattle.std.proofs.Common.{◌≡◌, ◌+◌, ◌-◌, ◌*◌}
use Rattle.vhdl_tree.specs.View.{concurrents_view}
use Rattle.vhdl_parser_expressions.specs.reader.Input.{many_from}
use Rattle.vhdl_parser.specs.reader.Concurrent as read
use Rattle.vhdl_parser.proofs.concurrent.+concurrent.Given as goal

-- each call goes down the grammar, and what stands in a generate statement is a level down
abbrev pub decreases-concurrents : goal.decreases-concurrents
decreases-concurrents l = 40 * l.levels + 20

abbrev pub decreases-concurrent : goal.decreases-concurrent
decreases-concurrent l = 40 * l.levels + 19

abbrev pub decreases-labelled : goal.decreases-labelled
decreases-labelled l = 40 * l.levels + 18

abbrev pub decreases-for_generate : goal.decreases-for_generate
decreases-for_generate l = 40 * l.levels + 17

abbrev pub decreases-if_generate : goal.decreases-if_generate
decreases-if_generate l = 40 * l.levels + 17

abbrev pub decreases-generated : goal.decreases-generated
decreases-generated l = 40 * l.levels + 31

abbrev pub decreases-generate_body : goal.decreases-generate_body
decreases-generate_body l = 40 * l.levels + 30

-- what is still to be read gives what was to be read
abbrev pub invariant-concurrents-loop-turn : goal.invariant-concurrents-loop-turn
invariant-concurrents-loop-turn l =
    read.concurrents l.language l.levels l.fn.parser ≡ many_from (read.begins_concurrent l.language) (read.concurrent l.language l.levels (read.deeper_concurrents l.language l.levels)) (l._turn-end - l._turn) (concurrents_view l.found) l.parser
