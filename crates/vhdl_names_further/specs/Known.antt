-- Which faults of what is left of a source aren't told, by what was taken out of their architecture before them: those
-- of a name that is declared there, since they may follow from that; and those of a name that isn't known and stands
-- there, where the fault can't be taken out, since they are told already. Elsewhere than in a signal's or constant's
-- declaration nothing that is taken out declares a name for what is left.
use Rattle.std.specs.Prelude.{ℕ, ◌==◌, ◌&&◌, ◌||◌, not, nat_le, nat_lt, Bool, true, false, if◌then◌else◌, List, [], ◌∷◌, is_none, length, slice_index_or}
use Rattle.vhdl_lexer.specs.declared.token.Token.{Token}
use Rattle.vhdl_lexer.specs.declared.token.TokenKind.{TokenKind}
use Rattle.vhdl_lexer.specs.declared.token.TokenKind.TheVariants as k
use Rattle.vhdl_names_further.specs.Naming.{around, is_name, name_at}
use Rattle.vhdl_names_further.specs.Taken.{extent_of, is_architecture, is_unknown}
use Rattle.vhdl_names_rules.specs.declared.fault.NameFault.{NameFault}
use Rattle.vhdl_names_rules.specs.declared.fault.NameFault.TheVariants as names
use Rattle.vhdl_names_rules.specs.declared.fault.NameProblem.{NameProblem}
use Rattle.vhdl_names_rules.specs.declared.fault.NameProblem.TheVariants as problem

-- so a name is at fault whose declaration is gone: of another kind where a package has one of it
abbrev pub may_lack : NameProblem → Bool
may_lack problem.Undeclared = true
may_lack problem.WrongKind = true
may_lack problem.NotVisible = true
may_lack problem.LeftOut = true
may_lack _ = false

-- behind this token a name counts: where names are declared, from `signal` or `constant` on up to `:`, or anywhere
abbrev pub counts_behind : (anywhere counts : Bool) → TokenKind → Bool
counts_behind anywhere counts k.Signal = true
counts_behind anywhere counts k.Constant = true
counts_behind anywhere counts k.Colon = anywhere
counts_behind anywhere counts kind = counts

-- the token was taken out, since it begins with no blank itself
abbrev pub is_out : (left : List ℕ) → Token → Bool
is_out left t = nat_lt t.start (length left) && slice_index_or left t.start 0 == 32

-- Behind this token: the name was found in what was taken out of this architecture, if it counts where the token
-- stands. `found`: it was found before.
abbrev pub found_behind : (source left name : List ℕ) → (counts found : Bool) → Token → Bool
found_behind source left name counts found t =
    not (is_architecture t.kind) && (found || counts && is_out left t && is_name source name t)

-- the same, behind those of these tokens that stand before this byte
abbrev pub is_found : (source left name : List ℕ) → (at : ℕ) → (anywhere counts found : Bool) → List Token → Bool
is_found source left name at anywhere counts found [] = found
is_found source left name at anywhere counts found (t ∷ ts) =
    if nat_le at t.start then found
    else is_found source left name at anywhere (counts_behind anywhere counts t.kind)
    (found_behind source left name counts found t) ts

-- what is wrong at this byte can't be taken out, and is a name, wherever it stands
abbrev pub stays : List Token → NameProblem → (at : ℕ) → Bool
stays tokens problem at = is_none (extent_of tokens (names.At problem at)) && is_unknown (around at tokens) problem

abbrev pub is_known : (source : List ℕ) → List Token → (left : List ℕ) → NameFault → Bool
is_known source tokens left (names.At problem at) =
    may_lack problem && is_found source left (name_at source tokens at) at
    (stays tokens problem at) (stays tokens problem at) false tokens
is_known source tokens left names.NoMemory = false
