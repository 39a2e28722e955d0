use Rattle.std.proofs.Common.{◌≡◌, List, ℕ, Bor, map, ap, sym, ◌∙◌}
use Rattle.rtl_stim_lines.specs.Pairs.{pair_view, schedule_of_pairs}
use Rattle.rtl_stim_lines.specs.Reading.{schedule_of}
use Rattle.rtl_stim.specs.Ports.{inputs_of}
use Rattle.rtl_run.specs.Faults.{of_stim}
use Rattle.rtl_run.specs.Words.{words_text}
use Rattle.rtl_simulation.proofs.Results.{fails_with}
use Rattle.rtl_run.proofs.Refusals.{refused_text}
use Rattle.rtl_run.proofs.admission.admit_words.Goals as goal
use Rattle.rtl_run.proofs.admission.admit_words.Goals.{After-deref}

abbrev words_of : List (Bor (List ℕ)) → List ℕ
words_of words = words_text (map (λ (word : Bor (List ℕ)). word.now) words)

-- the words say what their pairs do
same : (c : After-deref) → schedule_of (inputs_of c.args.net.now) (words_of c.args.words.now) ≡ schedule_of_pairs (inputs_of c.args.net.now) (map pair_view c.deref.result.now)
same c =
    c.each_word_sets.ensures (inputs_of c.args.net.now) (map (λ (word : Bor (List ℕ)). word.now) c.args.words.now)
    ∙ ap (schedule_of_pairs (inputs_of c.args.net.now)) (sym (ap (map pair_view) c.deref.ensures.value ∙ c.in_ok-pairs.ensures))

pub returns-in_err-acceptance-clause-refused : goal.returns-in_err-acceptance-clause-refused
returns-in_err-acceptance-clause-refused c =
    fails_with _ _ c.from_residual.result c.in_err-acceptance.field-0.0 c.from_residual.ensures.1 (c.in_err-acceptance.ensures.refused (words_of c.args.words.now))

pub returns-in_err-stimulus-clause-refused : goal.returns-in_err-stimulus-clause-refused
returns-in_err-stimulus-clause-refused c =
    let fault = c.in_err-stimulus.field-0.0 in
    let said = same (goal.at.returns-in_err-stimulus-clause-refused c).After-deref in
    fails_with _ _ c.from_residual-in_err-stimulus.result (of_stim fault) c.from_residual-in_err-stimulus.ensures.1
    (refused_text c.args.net.now (words_of c.args.words.now) fault c.in_ok-acceptance.ensures.accepted.says.accepted (λ n. said ∙ c.in_err-stimulus.ensures n))

pub without_race-requires-clause-inputs : goal.without_race-requires-clause-inputs
without_race-requires-clause-inputs c = c.in_ok-stimulus.ensures.0

pub returns-clause-admitted : goal.returns-clause-admitted
returns-clause-admitted c =
    let said = same (goal.at.returns-clause-admitted c).After-deref in
    c.without_race.ensures.admitted (words_of c.args.words.now) (c.in_ok-stimulus.ensures.0, said ∙ c.in_ok-stimulus.ensures.1)

pub returns-clause-refused : goal.returns-clause-refused
returns-clause-refused c =
    let said = same (goal.at.returns-clause-refused c).After-deref in
    c.without_race.ensures.refused (words_of c.args.words.now) (c.in_ok-stimulus.ensures.0, said ∙ c.in_ok-stimulus.ensures.1)
