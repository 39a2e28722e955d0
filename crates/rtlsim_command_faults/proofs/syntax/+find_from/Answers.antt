use Rattle.std.proofs.Common.{map, sym, ◌∙◌, subst, arith}
use Rattle.std.proofs.lemmas.Bool.Decides.{nat_tests}
use Rattle.rtlsim_refusals.specs.Explained.{told_view}
use Rattle.vhdl_source_files.specs.Files.{file_view}
use Rattle.vhdl_front_rules.specs.Asking.{asked_view}
use Rattle.vhdl_lexer.specs.Cut.{AreWithin}
use Rattle.vhdl_parser_further.proofs.Within.{within_left}
use Rattle.rtlsim_command_faults.proofs.Grammar.{grammar_full, grammar_nothing, grammar_one, grammar_untold}
use Rattle.rtlsim_command_faults.proofs.syntax.+find_from.Goals as goal

pub returns-then-is_none : goal.returns-then-is_none
returns-then-is_none t c =
    let finds = c.in-Found.ensures in
    grammar_full (map file_view c.args.files.now) (asked_view c.args.asked) c.args.tokens.items c.args.at (map told_view c.args.told.now.items) c.args.more
    c.in-Found.fault c.in-Found.at finds.1 finds.2 (sym c.is_none.ensures ∙ c.if-is_none.true)

pub find_from-requires : goal.find_from-requires
find_from-requires t c =
    let enough = sym c.is_none.ensures ∙ c.if-is_none.false in
    (grind (arith, nat_tests, enough), subst (AreWithin c.args.asked.source.now) (sym c.in-Found.ensures.0) (within_left c.args.asked.source.now c.args.tokens.items c.args.at c.requires))

pub push_grammar-requires : goal.push_grammar-requires
push_grammar-requires t c =
    rw c.deref.ensures.value
    (subst (AreWithin c.args.asked.source.now) (sym c.in-Found.ensures.0) (within_left c.args.asked.source.now c.args.tokens.items c.args.at c.requires))

pub returns-in-Ok : goal.returns-in-Ok
returns-in-Ok t c =
    let finds = c.in-Found.ensures in
    grammar_one (map file_view c.args.files.now) (asked_view c.args.asked) c.args.tokens.items c.in-Found.left.items c.args.at c.in-Found.at c.in-Found.fault
    c.args.more _ _ _ c.find_from.result (sym c.is_none.ensures ∙ c.if-is_none.false) finds.0 finds.1 finds.2
    (rw (c.in-Ok.is, c.deref.ensures.value) at c.push_grammar.ensures) c.find_from.ensures

pub returns-in-Err : goal.returns-in-Err
returns-in-Err t c =
    rw (rw c.in-Err.is at c.push_grammar.ensures)
    (grammar_untold (map file_view c.args.files.now) (asked_view c.args.asked) c.args.tokens.items c.args.at (map told_view c.args.told.now.items) c.args.more)

pub returns-in-Nothing : goal.returns-in-Nothing
returns-in-Nothing t c =
    grammar_nothing (map file_view c.args.files.now) (asked_view c.args.asked) c.args.tokens.items c.args.at (map told_view c.args.told.now.items) c.args.more
    c.in-Nothing.ensures

pub returns-in-NoMemory : goal.returns-in-NoMemory
returns-in-NoMemory t c =
    grammar_untold (map file_view c.args.files.now) (asked_view c.args.asked) c.args.tokens.items c.args.at (map told_view c.args.told.now.items) c.args.more
