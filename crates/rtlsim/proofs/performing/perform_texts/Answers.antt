use Rattle.std.proofs.Common.{◌≡◌, Bor, ℕ, List, inr, ap, map, rules, ◌∙◌}
use Rattle.rtlsim.specs.Sinks.{sinks}
use Rattle.rtlsim_command_faults.specs.declared.telling.Telling.{Telling}
use Rattle.rtlsim.proofs.Watching.{serves_same}
use Rattle.rtlsim.specs.Texts.{texts_view}
use Rattle.vhdl_source_files.specs.Files.{joined}
use Rattle.vhdl_lexer.specs.declared.language.Language.{Language}
use Rattle.vhdl_expand_rules.specs.Tops.{Setting}
use Rattle.vhdl_expand_rules.specs.views.Tops.{setting_view}
use Rattle.vhdl_front_rules.specs.Asking.{Asked}
use Rattle.rtlsim_command_line.specs.Words.{call_view}
use Rattle.rtlsim.specs.Served.{asked_of, choice_by, language_of}
use Rattle.rtlsim.proofs.performing.perform_texts.Goals as goal

pub returns : goal.returns
returns g c =
    let call = c.args.call.now in
    let telling : Telling = record {
      files = c.deref.result;
      source = record { text = c.source-source.result; tokens = c.deref-2.result };
      language = c.language_of.result;
      stimulus = c.stimulus_name.result;
      stimulus_text = c.map.result;
      expected = c.expected_name.result;
      expected_text = c.expected.result;
      trace = c.deref-3.result;
      explains = call.explains;
    } in
    let work = c.perform_shown in
    let s = sinks (g.O.Sink.state c.args.out.now) (g.O.Sink.state work.new.out) (g.E.Sink.state c.args.err.now) (g.E.Sink.state work.new.err) (g.G.Sink.state c.args.progress.now)
    (g.G.Sink.state work.new.progress) in
    let source = c.source-source.ensures ∙ c.in-Ok.ensures.source in
    let files = joined (texts_view c.args.texts.now).files in
    let language = language_of call.is_wide in
    let generics = ap (map setting_view) c.deref-4.ensures.value ∙ c.in-Ok.ensures.generics in
    let asked : ◌≡◌ {A = Asked} (record { language = c.language_of.result; source = c.source-source.result.now; top = record { name = c.as_bytes.result.now; generics = map setting_view c.deref-4.result.now } }) (asked_of (call_view call) files) =
    ap (λ (l : Language). record { language = l; source = c.source-source.result.now; top = record { name = c.as_bytes.result.now; generics = map setting_view c.deref-4.result.now } }) c.language_of.ensures
    ∙ ap (λ (s : List ℕ). record { language = language; source = s; top = record { name = c.as_bytes.result.now; generics = map setting_view c.deref-4.result.now } }) source
    ∙ ap (λ (n : List ℕ). record { language = language; source = files; top = record { name = n; generics = map setting_view c.deref-4.result.now } }) c.as_bytes.ensures.value
    ∙ ap (λ (gs : List Setting). record { language = language; source = files; top = record { name = (call_view call).top; generics = gs } }) generics in
    let now = λ (text : Bor (List ℕ)). text.now in
    let choice = ap (choice_by call.is_untraced) (ap (map now) c.deref-6.ensures.value ∙ c.in-Ok.ensures.traced) in
    let sets = ap (map now) c.deref-5.ensures.value ∙ c.in-Ok.ensures.sets in
    inr (record {
      telling = telling;
      told = record { files = search rules; source = source; language = c.language_of.ensures; tokens = search rules; stimulus = search rules; text = search rules; expected = search rules; expected_text = c.expected.ensures; trace = ap (map now) c.deref-3.ensures.value ∙ c.in-Ok.ensures.traced; explains = search rules };
      serves = serves_same telling work.result call.shows_progress s call.request _ _ _ _ _ _ _ _ _ _ asked choice sets c.texts.ensures.stimulus c.expected-2.ensures work.ensures.serves;
      silent = work.ensures.silent;
    })
