-- A sentence of the code's words with the same names.
use Rattle.std.proofs.Common.{◌≡◌, ℕ, List, refl}
use denote.Bor.{Bor}
use Rattle.fault_rules.specs.Rules.{Text, AreWords}
use Rattle.fault_rules.specs.declared.words.Words.{Words}
use Rattle.rtlsim_findings.specs.Sayings.{said_by, sentence}

pub same_sentence : (words : Words Text) (told : Words (Bor (List ℕ))) (a culprits b nets : List ℕ)
    → AreWords words told → a ≡ culprits → b ≡ nets → said_by told a b ≡ sentence words culprits nets
same_sentence words told a culprits b nets are p n = rw (are.opening, are.middle, are.closing, p, n) refl
