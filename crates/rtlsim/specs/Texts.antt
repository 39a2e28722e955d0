-- What was read, as the code holds it.
use Rattle.std.specs.Prelude.{ℕ, List, [], ◌∷◌, map, option_map}
use Rattle.rtlsim.specs.Halves.{halves_of}
use Rattle.rtlsim.specs.Requests.{TextsView, texts}
use Rattle.rtlsim.specs.declared.texts.Main.{Main}
use Rattle.rtlsim.specs.declared.texts.Main.TheVariants.{Alone, Apart, Together}
use Rattle.rtlsim.specs.declared.texts.ReadFile.{ReadFile}
use Rattle.rtlsim.specs.declared.texts.Texts.{Texts}
use Rattle.vhdl_source_files.specs.Files.{FileView}

-- the text of the source, and that of the stimulus
abbrev pub texts_of : Main → List ℕ × List ℕ
texts_of (Alone source) = (source.items, [])
texts_of (Apart source stimulus) = (source.items, stimulus.items)
texts_of (Together all) = halves_of all.items

abbrev pub read_view : ReadFile → FileView
read_view file = record { name = file.name.now; text = file.text.items }

abbrev pub texts_view : Texts → TextsView
texts_view t =
    texts t.file.now (map read_view t.before.items, (texts_of t.main, option_map (λ text. text.items) t.expected))

-- the text of these files: that of one is its own, and that of several was joined before
abbrev pub source_by : (joined : List ℕ) → List FileView → List ℕ
source_by joined (file ∷ []) = file.text
source_by joined _ = joined
