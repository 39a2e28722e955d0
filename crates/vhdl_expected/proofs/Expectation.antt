-- What is told of a token of a source, by the text in which it is looked at.
use Rattle.std.proofs.Common.{◌≡◌, ℕ, Bool, true, false, List, ◌++◌, length, refl, sym, subst}
use Rattle.vhdl_lexer.specs.declared.language.Language.{Language}
use Rattle.vhdl_lexer.specs.declared.token.Token.{Token}
use Rattle.vhdl_expected.specs.Reading.{before, from}
use Rattle.vhdl_expected.specs.Told.{IsExpected, IsTold, IsToldIf, IsToldOf, is_read}
use Rattle.vhdl_parser_rules.specs.Expected.{Expected, nothing}

module _ (language : Language) (source : List ℕ) (tokens : List Token) (at : ℕ) (front back : List Token) (front_is : front ≡ before at tokens) (back_is : back ≡ from at tokens) where
  of_source : (found : Expected) → IsToldOf language source front back found → IsExpected language source tokens at found
  unfolding IsExpected
  of_source found h =
      subst (λ (us : List Token). IsToldOf language source us (from at tokens) found) front_is (subst (λ (vs : List Token). IsToldOf language source front vs found) back_is h)

  pub nothing_expected : is_read front back ≡ false → IsExpected language source tokens at nothing
  nothing_expected not_so =
      of_source nothing (subst (λ (read : Bool). IsToldIf read (record { language = language; source = source; tokens = front ++ back; refused = length front }) nothing) (sym not_so) refl)

  pub something_expected : (text : List Token) (found : Expected) → text ≡ front ++ back → is_read front back ≡ true
      → IsTold (record { language = language; source = source; tokens = text; refused = length front }) found → IsExpected language source tokens at found
  something_expected text found is so h =
      of_source found (
      subst (λ (read : Bool). IsToldIf read (record { language = language; source = source; tokens = front ++ back; refused = length front }) found) (sym so)
      (subst (λ (us : List Token). IsTold (record { language = language; source = source; tokens = us; refused = length front }) found) is h)
      )
