use Rattle.std.proofs.Common.{◌≡◌, ℕ, List, length, map, ap, ◌∙◌}
use Rattle.std.proofs.lemmas.Result.{IfOk-weaker}
use Rattle.rtl_net.specs.Core.{core}
use Rattle.rtl_stim.specs.Stimuli.{inputs_at}
use Rattle.rtl_run.specs.Evaluated.{IsFirstOf}
use Rattle.rtl_run.specs.Synchronous.{IsSynchronous}
use Rattle.rtl_simulation.specs.Engines.{CourseView, Shows}
use Rattle.rtl_run.proofs.Codes.{run_of, codes_run}
use Rattle.rtl_run.proofs.Traces.{is_of_run, never_settles}
use Rattle.rtl_run.proofs.evaluation.first_values.Goals as goal
use Rattle.rtl_run.proofs.evaluation.first_values.Goals.{After-is_elaborated, After-values}

runs : (c : After-is_elaborated) → (run : ℕ → List ℕ) × IsSynchronous (core c.args.net.now) c.args.admitted.now.bound (inputs_at c.args.admitted.now.stimulus) run
runs c =
    c.accepted_nets_are_synchronous.ensures c.args.net.now c.args.admitted.now.bound (inputs_at c.args.admitted.now.stimulus) c.is_elaborated.ensures c.requires.accepted c.requires.raceless

abbrev course : (c : After-is_elaborated) → CourseView
course c = record { net = c.args.net.now; stimulus = c.args.admitted.now.stimulus; limit = c.args.admitted.now.bound }

shows : (c : After-values) → Shows (record { net = c.args.net.now; stimulus = c.args.admitted.now.stimulus; limit = c.args.admitted.now.bound }) 0 c.values.result.now
shows c =
    let r : CourseView = record { net = c.args.net.now; stimulus = c.args.admitted.now.stimulus; limit = c.args.admitted.now.bound } in
    c.values.ensures.shows r 0 (c.in-Ok.ensures.starts r c.in_ok-engine.ensures)

pub new-requires : goal.new-requires
new-requires c = record {
  bodies = codes_run c.args.net.now c.deref.result.now (ap (map run_of) c.deref.ensures.value ∙ c.in_ok-bodies.ensures);
  ports = c.requires.ports;
  inputs = c.requires.inputs;
}

pub start-requires : goal.start-requires
start-requires c = (course (goal.at.start-requires c).After-is_elaborated, c.in_ok-engine.ensures)

pub unreachable-requires : goal.unreachable-requires
unreachable-requires c =
    let at = (goal.at.unreachable-requires c).After-is_elaborated in
    let run = runs at in
    let stuck = c.in-Err.ensures.starts (course at) c.in_ok-engine.ensures in
    never_settles c.args.net.now c.args.admitted.now.stimulus c.args.admitted.now.bound run.0 run.1 0 stuck.never

pub returns-clause-first : goal.returns-clause-first
returns-clause-first c =
    let at = goal.at.returns-clause-first c in
    let run = runs at.After-is_elaborated in
    let net = c.args.net.now in
    let s = c.args.admitted.now.stimulus in
    let bound = c.args.admitted.now.bound in
    let shows = shows at.After-values in
    IfOk-weaker c.from_slice.result (λ values. values.items ≡ c.values.result.now) (λ values. IsFirstOf net s bound values.items)
    (λ values is. record { run = run.0; synchronous = run.1; is = is ∙ is_of_run net s bound run.0 run.1 0 c.values.result.now shows.comes }) c.from_slice.ensures.items

pub returns-clause-as_many : goal.returns-clause-as_many
returns-clause-as_many c =
    let shows = shows (goal.at.returns-clause-as_many c).After-values in
    IfOk-weaker c.from_slice.result (λ values. values.items ≡ c.values.result.now) (λ values. length values.items ≡ length c.args.net.now.types)
    (λ values is. ap length is ∙ shows.as_many) c.from_slice.ensures.items
