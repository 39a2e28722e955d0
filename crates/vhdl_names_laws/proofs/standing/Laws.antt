-- The bytes of units are bytes at which tokens of the text start.
use Rattle.std.proofs.Common.{ℕ, ◌<◌, List, [], ◌∷◌, length, None, All, Contains, arith}
use Rattle.std.proofs.lemmas.List.Elements.{All-nil, All-cons}
use Rattle.vhdl_tree.specs.Lexeme.{lexemes}
use Rattle.vhdl_tree.specs.grammar.Units.{spell_file}
use Rattle.vhdl_names_rules.specs.units.Bytes.{units_bytes}
use Rattle.vhdl_names_laws.specs.Placed.{bytes_of}
use Rattle.vhdl_names_laws.specs.Laws.{UnitsStandAtTokens, UnitsLieInTheText}
use Rattle.vhdl_names_laws.proofs.placed.Laws.{all_at, pieces_lie, tokens_lie}
use Rattle.vhdl_names_laws.proofs.standing.Holding.{Hold}
use Rattle.vhdl_names_laws.proofs.standing.Files.{units_hold}

all_hold : (P : ℕ → Type 0) (xs : List ℕ) → Hold P xs → All P xs
all_hold P [] h = All-nil P
all_hold P (x ∷ xs) h = All-cons P x xs h.0 (all_hold P xs h.1)

pub units_stand_at_tokens : UnitsStandAtTokens
units_stand_at_tokens language f units q = all_hold (Contains (bytes_of f)) (units_bytes units) (units_hold (Contains (bytes_of f)) language f units (all_at (spell_file f)) q)

pub units_lie_in_the_text : UnitsLieInTheText
units_lie_in_the_text language source tokens f units cuts spells q =
    all_hold (λ at. at < length source) (units_bytes units)
    (units_hold (λ at. at < length source) language f units
    (pieces_lie (length source) (spell_file f) (lexemes source tokens) (tokens_lie tokens source (length source) None 0 source (omega arith) cuts) spells) q)
