use Rattle.std.proofs.Common.{◌≡◌, false, refl, ap, sym}
use Rattle.vhdl_tree.specs.View as tree
use Rattle.vhdl_tree.specs.declared.sequential.Statement.{Statement}
use Rattle.vhdl_tree.specs.declared.sequential.Statement.TheVariants as st
use Rattle.vhdl_names_statements.specs.steps.Sequential.{is_dropped}
use Rattle.vhdl_names_statements.proofs.steps.Sequential.{if_is, for_is}
use Rattle.vhdl_names_statements.proofs.steps.Cases.{case_is}
use Rattle.vhdl_names_statements.proofs.statements.is_dropped.Goals as goal

stays : (x : Statement) → ((text : _) → x ≡ st.Assert text → ⊥) → ((text : _) → x ≡ st.Report text → ⊥) → false ≡ is_dropped (tree.statement_view x)
stays (st.Assert text) asserts reports = absurd (asserts text refl)
stays (st.Report text) asserts reports = absurd (reports text refl)
stays (st.If i) asserts reports = ap is_dropped (sym (if_is i))
stays (st.Case c) asserts reports = ap is_dropped (sym (case_is c))
stays (st.For l) asserts reports = ap is_dropped (sym (for_is l))
stays _ asserts reports = refl

pub returns-in_default : goal.returns-in_default
returns-in_default c = stays c.args.statement.now c.in_default.not-Assert c.in_default.not-Report
