use Rattle.std.proofs.Common.{map, sym, ◌∙◌, None, arith}
use Rattle.rtlsim_refusals.specs.Explained.{told_view}
use Rattle.rtlsim_command_faults.specs.Next.{sought_of}
use Rattle.rtlsim_command_faults.proofs.Behind.{behind_full, behind_known, behind_last, behind_no_memory, behind_nothing, behind_one, behind_untold}
use Rattle.vhdl_lexer.proofs.Reached.{cut_within}
use Rattle.rtlsim_command_faults.proofs.search.+find_behind.Goals as goal

pub is_known-requires : goal.is_known-requires
is_known-requires g t c =
    cut_within c.args.search.now.asked.source.now None 0 c.args.search.now.asked.source.now c.args.search.now.tokens.now (omega arith) c.requires

pub returns-then-is_none : goal.returns-then-is_none
returns-then-is_none g t c =
    behind_last (sought_of c.args.search.now) c.args.more c.args.left.items c.args.fault (map told_view c.args.told.now.items) c.args.steps
    (sym c.is_none.ensures ∙ c.if-is_none.true)

pub returns-then-is_known : goal.returns-then-is_known
returns-then-is_known g t c =
    behind_known (sought_of c.args.search.now) c.args.more c.args.left.items c.in-Found.left c.args.fault c.in-Found.fault _ _ c.find_behind.result c.args.steps
    (sym c.is_none.ensures ∙ c.if-is_none.false) c.in-Found.ensures
    (rw (← c.deref.ensures.value) (sym c.is_known.ensures ∙ c.if-is_known.true)) c.find_behind.ensures

pub returns-then-is_none-2 : goal.returns-then-is_none-2
returns-then-is_none-2 g t c =
    behind_full (sought_of c.args.search.now) c.args.more c.args.left.items c.in-Found.left c.args.fault c.in-Found.fault (map told_view c.args.told.now.items) c.args.steps
    (sym c.is_none.ensures ∙ c.if-is_none.false) c.in-Found.ensures
    (rw (← c.deref.ensures.value) (sym c.is_known.ensures ∙ c.if-is_known.false)) (sym c.is_none-in-Found.ensures ∙ c.if-is_none-2.true)

pub returns-in-Ok : goal.returns-in-Ok
returns-in-Ok g t c =
    behind_one (sought_of c.args.search.now) c.args.more c.args.left.items c.in-Found.left c.args.fault c.in-Found.fault _ _ c.find_behind-in-Ok.result c.args.steps _
    (sym c.is_none.ensures ∙ c.if-is_none.false) c.in-Found.ensures
    (rw (← c.deref.ensures.value) (sym c.is_known.ensures ∙ c.if-is_known.false)) (sym c.is_none-in-Found.ensures ∙ c.if-is_none-2.false)
    (rw c.name_report.ensures at (rw c.in-Ok.is at c.push_report.ensures)) c.find_behind-in-Ok.ensures

pub returns-in-Err : goal.returns-in-Err
returns-in-Err g t c =
    rw (rw c.in-Err.is at c.push_report.ensures)
    (behind_untold (sought_of c.args.search.now) c.args.more c.args.left.items c.in-Found.left c.args.fault c.in-Found.fault (map told_view c.args.told.now.items) c.args.steps
    (sym c.is_none.ensures ∙ c.if-is_none.false) c.in-Found.ensures)

pub returns-in-Nothing : goal.returns-in-Nothing
returns-in-Nothing g t c =
    behind_nothing (sought_of c.args.search.now) c.args.more c.args.left.items c.args.fault (map told_view c.args.told.now.items) c.args.steps
    (sym c.is_none.ensures ∙ c.if-is_none.false) c.in-Nothing.ensures

pub returns-in-NoMemory : goal.returns-in-NoMemory
returns-in-NoMemory g t c =
    behind_no_memory (sought_of c.args.search.now) c.args.more c.args.left.items c.args.fault (map told_view c.args.told.now.items) c.args.steps
    (sym c.is_none.ensures ∙ c.if-is_none.false) c.in-NoMemory.ensures
