use Rattle.std.proofs.Common.{◌≡◌, Result, Ok, sym, ap, ◌∙◌, subst}
use Rattle.std.specs.Prelude.{option_map}
use Rattle.rtl_model.specs.bodies.Fits.{width}
use Rattle.vhdl_names_trees.specs.views.Vectors.{signal_view}
use Rattle.vhdl_expand_rules.specs.declared.fault.ElabFault.{ElabFault}
use Rattle.vhdl_expand_rules.specs.declared.range.IntegerRange.{IntegerRange}
use Rattle.vhdl_expand_rules.specs.Site.{signal_kind, integer_range}
use Rattle.vhdl_expand_rules.specs.views.Integers.{range_view, Makes}
use Rattle.vhdl_expand_rules.specs.views.Kinds.{kind_view}
use Rattle.vhdl_expand_operands.specs.declared.operand.Operand.{Operand}
use Rattle.vhdl_expand_operands.specs.Operands.{operand_view}
use Rattle.vhdl_expand_bodies.specs.Sites.{site_view}
use Rattle.vhdl_expand_bodies.proofs.Whole.{signal_long}
use Rattle.vhdl_expand_bodies.proofs.site.Site.signal_number.Goals as goal

pub of_object-requires : goal.of_object-requires
of_object-requires c =
    let here = site_view c.args.self.now in
    let made = c.in_ok-operand-2 in
    let ranged : integer_range c.args.at (signal_kind here (signal_view c.args.signal)) ≡ Ok (range_view made.range) =
    ap (integer_range c.args.at) (sym c.signal_kind.ensures)
    ∙ subst (λ (q : Result IntegerRange ElabFault). Makes range_view (integer_range c.args.at (option_map kind_view c.signal_kind.result)) q) made.ensures.both.0 c.integer_range.ensures in
    sym made.operand.counted ∙ ap (λ (o : Operand). width (operand_view o)) (sym made.ensures.both.1)
    ∙ signal_long here c.args.at (signal_view c.args.signal) _ (range_view made.range) c.in_ok-operand.ensures ranged
