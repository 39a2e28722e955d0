use Rattle.std.proofs.Common.{ℕ, ◌≡◌, ◌≤◌, List, [], ◌∷◌, ◌++◌, length, refl, subst, arith}
use Rattle.std.specs.Prelude.{codes}
use Rattle.byte_streams.specs.Written.{Goes}
use Rattle.byte_streams.proofs.Writing.{Goes-append}
use Rattle.vhdl_lexer.specs.declared.token.Token.{Token}
use Rattle.vhdl_slips.specs.Listings.{names_listed}
use Rattle.vhdl_slips.specs.declared.listing.Listing.TheVariants.{Generics}
use Rattle.rtlsim_refusals.specs.SetGenerics.{generics_line}
use Rattle.rtlsim_refusals.proofs.unset.push_generics.Goals as goal

of-some : (text : List ℕ) (ts : List Token) → 1 ≤ length ts → names_listed Generics text ts ++ codes "\n" ≡ generics_line text ts
of-some text [] some = absurd (omega arith)
of-some text (t ∷ ts) some = refl

pub returns-in_default : goal.returns-in_default
returns-in_default g c =
    let state = g.S.Sink.state in
    subst (Goes (state c.args.sink.now) (state c.push_text-in_default.new.sink)) (of-some c.args.text.now c.args.generics.now c.in_default.len_at_least)
    (Goes-append _ _ _ _ _ c.push_names.ensures c.push_text-in_default.ensures)
