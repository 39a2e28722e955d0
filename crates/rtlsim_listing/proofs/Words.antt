-- What is said of a fault that is no loop of nets.
use Rattle.std.proofs.Common.{◌≡◌, ℕ, refl}
use Rattle.std.specs.Global.{Vec}
use Rattle.fault_rules.specs.Rules.{words_of}
use Rattle.rtl_check.specs.Views.{fault_view}
use Rattle.rtl_check.specs.declared.fault.CheckFault.{CheckFault}
use Rattle.rtl_check.specs.declared.fault.CheckFault.TheVariants.{NetLoop}
use Rattle.rtlsim_listing.specs.Reports.{report_of, words_for}

pub rule_words : (fault : CheckFault) → ((nets : Vec ℕ) → fault ≡ NetLoop nets → ⊥) → words_for (fault_view fault) ≡ words_of (report_of (fault_view fault)).rule
rule_words (NetLoop nets) other = absurd (other nets refl)
rule_words _ other = refl
