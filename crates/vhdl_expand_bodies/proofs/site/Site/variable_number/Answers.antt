use Rattle.std.proofs.Common.{◌≡◌, Result, Ok, sym, ap, ◌∙◌, subst}
use Rattle.std.specs.Prelude.{slice_get, option_map}
use Rattle.rtl_model.specs.bodies.Fits.{width}
use Rattle.vhdl_expand_rules.specs.declared.fault.ElabFault.{ElabFault}
use Rattle.vhdl_expand_rules.specs.declared.range.IntegerRange.{IntegerRange}
use Rattle.vhdl_expand_rules.specs.Site.{integer_range}
use Rattle.vhdl_expand_rules.specs.views.Integers.{range_view, Makes}
use Rattle.vhdl_expand_rules.specs.views.Kinds.{kind_view}
use Rattle.vhdl_expand_operands.specs.declared.operand.Operand.{Operand}
use Rattle.vhdl_expand_operands.specs.Operands.{operand_view}
use Rattle.vhdl_expand_bodies.specs.Sites.{site_view}
use Rattle.vhdl_expand_bodies.proofs.Whole.{variable_long}
use Rattle.vhdl_expand_bodies.proofs.site.Site.variable_number.Goals as goal

pub of_object-requires : goal.of_object-requires
of_object-requires c =
    let here = site_view c.args.self.now in
    let made = c.in_ok-operand-2 in
    let ranged : integer_range c.args.at (slice_get here.variables c.args.number) ≡ Ok (range_view made.range) =
    ap (integer_range c.args.at) (sym c.variable_kind.ensures)
    ∙ subst (λ (q : Result IntegerRange ElabFault). Makes range_view (integer_range c.args.at (option_map kind_view c.variable_kind.result)) q) made.ensures.both.0 c.integer_range.ensures in
    sym made.operand.counted ∙ ap (λ (o : Operand). width (operand_view o)) (sym made.ensures.both.1)
    ∙ variable_long here c.args.at c.args.number _ (range_view made.range) c.in_ok-operand.ensures ranged
