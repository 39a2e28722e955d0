use Rattle.std.proofs.Common.{ℕ, map, sym, ap, ◌∙◌}
use Rattle.std.specs.List.{range_with_len}
use Rattle.std.proofs.lemmas.Result.{IfOk-weaker}
use Rattle.rtl_net.specs.Bodies.{statements_of}
use Rattle.rtl_model.specs.bodies.Stored.{stores_element}
use Rattle.rtl_stored.proofs.Walking.{from_unmarked, stored_all}
use Rattle.rtl_stored.proofs.stored.stored_elements.Goals as goal

pub returns : goal.returns
returns c = IfOk-weaker c.stored.result _ _ (λ v h. h ∙ stored_all c.args.many (from_unmarked c.in_ok-marks.ensures c.in_ok-walk_statements.ensures)) c.stored.ensures

pub returns-then-many-eq0 : goal.returns-then-many-eq0
returns-then-many-eq0 c =
    c.new.ensures.items ∙ ap (λ (n : ℕ). map (λ e. stores_element e (statements_of c.args.body.now)) (range_with_len 0 n)) (sym c.if-many-eq0.true)
