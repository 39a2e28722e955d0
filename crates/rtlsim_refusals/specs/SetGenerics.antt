-- A value that is set for a generic of the top, which has none of that name: it is told at the name of the entity.
use Rattle.std.specs.Prelude.{ℕ, ◌-◌, Bool, true, false, List, [], ◌∷◌, ◌++◌, length, drop, codes}
use Rattle.fault_rules.specs.declared.source.ElabRule.TheVariants as elaboration
use Rattle.fault_rules.specs.declared.report.Rule.TheVariants as rule
use Rattle.vhdl_lexer.specs.declared.token.Token.{Token}
use Rattle.vhdl_lexer.specs.declared.token.TokenKind.TheVariants as k
use Rattle.vhdl_slips.specs.Forms.{Said}
use Rattle.vhdl_slips.specs.Interfaces.{formals, interface_of}
use Rattle.vhdl_slips.specs.Listings.{names_listed}
use Rattle.vhdl_slips.specs.Parts.{begins}
use Rattle.vhdl_slips.specs.Words.{Read, first_text}
use Rattle.vhdl_slips.specs.declared.listing.Listing.TheVariants.{Generics}
use Rattle.rtlsim_refusals.specs.Refused.{said_of}
use Rattle.rtlsim_refusals.specs.declared.unset.TheConstants.{NO_SUCH_GENERIC}

-- the last word before is `entity`, behind which no generic's own name stands
abbrev pub names_entity : (before : List Token) → Bool
names_entity before = begins k.Entity (drop (length before - 1) before)

abbrev pub no_generic_said : (of_entity : Bool) → Said
no_generic_said true = (NO_SUCH_GENERIC.0.now, NO_SUCH_GENERIC.1.now)
no_generic_said false = said_of (rule.Elab elaboration.NoGeneric)

-- a line with the generics that stand in these tokens
abbrev pub generics_line : (text : List ℕ) → List Token → List ℕ
generics_line text [] = []
generics_line text (t ∷ ts) = names_listed Generics text (t ∷ ts) ++ codes "\n"

-- with those of the entity whose name stands here
abbrev pub generics_below : (from source : Read) → List ℕ
generics_below from source =
    generics_line source.text (formals false (interface_of source.text (first_text from) source.tokens))
