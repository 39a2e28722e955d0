-- Which faults of grammar of a source follow its first, and what is told of them. What is at fault is taken out of the
-- tokens, and the next fault is the parser's refusal of what is left; so it goes on until what is left is a file, or is
-- refused no further behind.
use Rattle.std.specs.Prelude.{◌≡◌, ◌⊎◌, ℕ, zero, suc, ◌<◌, Bool, true, false, List, ◌++◌, Option, Some, None, option_to_list}
use Rattle.rtlsim_refusals.specs.Explained.{Told}
use Rattle.rtlsim_command_faults.specs.Expecting.{IsExpectedBy}
use Rattle.rtlsim_command_faults.specs.Further.{Found, before, ended, told_of}
use Rattle.rtlsim_command_faults.specs.Reports.{syntax_report}
use Rattle.rtlsim_command_faults.specs.declared.search.End.TheVariants as end
use Rattle.vhdl_source_files.specs.Files.{FileView}
use Rattle.vhdl_slips.specs.Words.{with_tokens}
use Rattle.vhdl_parser_rules.specs.Expected.{Expected}
use Rattle.vhdl_lexer.specs.Cut.{Cuts}
use Rattle.vhdl_lexer.specs.declared.token.Token.{Token}
use Rattle.vhdl_parser_rules.specs.declared.fault.SyntaxFault.{SyntaxFault}
use Rattle.vhdl_front_rules.specs.Asking.{Asked}
use Rattle.vhdl_parser_further.specs.Left.{left}
use Rattle.vhdl_parser_further.specs.Refusals.{HasNoFurther, Refuses}

-- what was expected at a fault of grammar of these tokens
abbrev pub IsExpectedOf : Asked → List Token → SyntaxFault → Expected → Type 0
IsExpectedOf asked tokens fault expected =
    IsExpectedBy asked.language (with_tokens asked.source tokens) (syntax_report fault) expected

-- what is told of it, where this was expected
abbrev pub grammar_told : List FileView → Asked → List Token → Expected → SyntaxFault → List Told
grammar_told files asked tokens expected fault =
    option_to_list (told_of asked.language files (with_tokens asked.source tokens) expected (syntax_report fault))

-- that is appended; or memory is refused, and nothing is
abbrev pub Appends : List FileView → Asked → List Token
    → SyntaxFault → (whole : Bool) → (old new : List Told) → Type 0
Appends files asked tokens fault true old new =
    (expected : Expected) × IsExpectedOf asked tokens fault expected
    × (new ≡ old ++ grammar_told files asked tokens expected fault)
Appends files asked tokens fault false old new = new ≡ old

-- What is left behind a fault that is told at this byte is read: memory is refused; or it has no further fault; or it
-- has one, and this is so of it and of the byte at which it is told.
abbrev pub ReadsLeft : Asked → (So : SyntaxFault → (told : ℕ) → Type 0)
    → (left : List Token) → (at : ℕ) → Found → Type 0
ReadsLeft asked So left at found =
    (found ≡ ended end.NoMemory)
    ⊎ ((HasNoFurther asked.language asked.source left at × (found ≡ ended end.Whole))
    ⊎ ((fault : SyntaxFault) × (told : ℕ) × Refuses asked.language asked.source left fault told × (at < told)
    × So fault told))

-- What is found behind a fault of these tokens that is told at this byte: so many faults at most, each of what is left
-- behind the one before.
abbrev pub GrammarFrom : List FileView → Asked
    → (more : ℕ) → (tokens : List Token) → (at : ℕ) → Found → Type 0
GrammarFrom files asked zero tokens at found =
    ReadsLeft asked (λ fault told. found ≡ ended end.More) (left tokens at) at found
GrammarFrom files asked (suc more) tokens at found =
    ReadsLeft asked
    (λ fault told. (expected : Expected) × (others : Found) × IsExpectedOf asked (left tokens at) fault expected
    × (found ≡ before (grammar_told files asked (left tokens at) expected fault) others)
    × GrammarFrom files asked more (left tokens at) told others)
    (left tokens at) at found

-- behind a first fault that is told at this byte; memory for the tokens may be refused
abbrev pub GrammarBehind : List FileView → Asked → (at : Option ℕ) → Found → Type 0
GrammarBehind files asked None found = found ≡ ended end.Whole
GrammarBehind files asked (Some at) found =
    ((tokens : List Token) × Cuts None 0 asked.source tokens × GrammarFrom files asked 19 tokens at found)
    ⊎ (found ≡ ended end.NoMemory)
