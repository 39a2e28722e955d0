-- Tokens of which a part begins no file begin none.
use Rattle.std.proofs.Common.{◌≡◌, ℕ, true, List, [], ◌∷◌, ◌++◌, inl, inr, sym, ap, ◌∙◌, subst, append_assoc, append-nil, true≢false}
use Rattle.std.proofs.lemmas.List.{map-append}
use Rattle.vhdl_lexer.specs.declared.language.Language.{Language}
use Rattle.vhdl_lexer.specs.declared.token.Token.{Token}
use Rattle.vhdl_tree.specs.Lexeme.{Lexeme, lexeme, lexemes}
use Rattle.vhdl_tree.specs.Pieces.{Spells}
use Rattle.vhdl_tree.specs.Tree.{File}
use Rattle.vhdl_tree.specs.grammar.Units.{IsFileIn, spell_file}
use Rattle.vhdl_parser_rules.specs.Fault.{IsTooDeep}
use Rattle.vhdl_parser_rules.specs.Stuck.{BeginsIn, IsFirstWrongIn, IsStuckIn}
use Rattle.vhdl_parser_rules.specs.declared.fault.SyntaxFault.{SyntaxFault}
use Rattle.vhdl_parser_rules.specs.declared.fault.SyntaxFault.TheVariants as fault
use Rattle.vhdl_tree.specs.Levels.{IsDeep, most_open}
use Rattle.vhdl_expected.specs.Changes.{Breaks}
use Rattle.vhdl_expected.specs.Told.{is_wrong}

pub whole_begins : (language : Language) (ts : List Lexeme) (f : File) → IsFileIn language f → Spells (spell_file f) ts [] → BeginsIn language ts
whole_begins language ts f formed spelled = record { more = []; file = f; formed = formed; spelled = subst (λ us. Spells (spell_file f) us []) (sym (append-nil ts)) spelled }

part_begins : (language : Language) (ts us : List Lexeme) → BeginsIn language (ts ++ us) → BeginsIn language ts
part_begins language ts us b = record { more = us ++ b.more; file = b.file; formed = b.formed; spelled = subst (λ vs. Spells (spell_file b.file) vs []) (append_assoc ts us b.more) b.spelled }

wrong_breaks : (language : Language) (source : List ℕ) (tokens : List Token) (at : ℕ) → IsFirstWrongIn language source tokens at → BeginsIn language (lexemes source tokens) → ⊥
wrong_breaks language source tokens at w b =
    let next = w.next in
    let read = next.before ++ next.token ∷ [] in
    let split : tokens ≡ read ++ next.after = next.split ∙ sym (append_assoc next.before (next.token ∷ []) next.after) in
    let is = ap (λ ts. lexemes source ts) split ∙ map-append (lexeme source) read next.after in
    w.no_further (part_begins language (lexemes source read) (lexemes source next.after) (subst (BeginsIn language) is b))

pub breaks : (language : Language) (source : List ℕ) (tokens : List Token) (why : SyntaxFault) → is_wrong why ≡ true → IsStuckIn language source tokens why
    → (IsTooDeep why → IsDeep most_open (lexemes source tokens)) → Breaks language source tokens
breaks language source tokens (fault.Unexpected at) so stuck deep = inl (wrong_breaks language source tokens at stuck)
breaks language source tokens (fault.TooDeep at) so stuck deep = inr (deep tt)
breaks language source tokens (fault.EndOfFile at) so stuck deep = absurd (true≢false (sym so))
breaks language source tokens fault.NoMemory so stuck deep = absurd (true≢false (sym so))
