use Rattle.std.proofs.Common.{drop, map, Some, sym, ap, ◌∙◌}
use Rattle.vhdl_tree.specs.Tree.{Expr}
use Rattle.vhdl_tree.specs.View.{association_view, view}
use Rattle.vhdl_names_rules.specs.Visibility.{Name}
use Rattle.vhdl_names_rules.specs.Instances.{GenericFormal, expression_of}
use Rattle.vhdl_names_rules.proofs.laws.Rules.{some_is}
use Rattle.vhdl_names_units.specs.Once.{names_view}
use Rattle.vhdl_names_rules.specs.problems.Broken.{Broken, any_of, of_any}
use Rattle.vhdl_names_rules.specs.problems.Instances.{association, generic_actual, generics_named}
use Rattle.vhdl_names_rules.proofs.Telling.{told_on}
use Rattle.vhdl_names_rules.proofs.Passing.{told_by}
use Rattle.vhdl_names_instances.specs.Breaking.{one_association}
use Rattle.vhdl_names_instances.specs.steps.Associations.{formal_at, one_taken}
use Rattle.vhdl_names_instances.specs.steps.Maps.{suits, holds_if_any}
use Rattle.vhdl_names_instances.proofs.Reading.{is_read, formal_told, actual_told, one_read_is}
use Rattle.vhdl_names_instances.proofs.Told.{told_along, only_memory, ok_on}
use Rattle.vhdl_names_instances.proofs.maps.read_generic.Goals as goal

pub returns-in_err-take-clause-told : goal.returns-in_err-take-clause-told
returns-in_err-take-clause-told c = λ all h k.
    let fs = map (λ (f : GenericFormal). f.name) all in
    let ts = names_view c.args.taken.now in
    let a = association_view c.args.association.now in
    let actual : Name → Expr → Broken = λ n e. any_of (λ f. generic_actual c.args.sight.now e f) (generics_named all n) in
    let fault = c.in_err-take.field-0.0 in
    told_by (association fs actual (drop c.args.index fs) c.args.is_behind_named ts a) fault _ c.from_residual.result c.from_residual.ensures.1 (λ e p. p)
    (formal_told fs actual c.args.index c.args.is_behind_named ts a fault
    (told_along (λ fs. one_association fs c.args.index c.args.is_behind_named ts a) _ fs h fault c.in_err-take.ensures.told))

pub returns-in_err-name-in-Some-clause-told : goal.returns-in_err-name-in-Some-clause-told
returns-in_err-name-in-Some-clause-told c = λ all h k.
    let fs = map (λ (f : GenericFormal). f.name) all in
    let ts = names_view c.args.taken.now in
    let a = association_view c.args.association.now in
    let actual : Name → Expr → Broken = λ n e. any_of (λ f. generic_actual c.args.sight.now e f) (generics_named all n) in
    let fault = c.in_err-name-in-Some.field-0.0 in
    let r = is_read (names_view c.args.formals.now.generics) c.args.index c.args.is_behind_named ts a (names_view c.take.new.taken) c.in_ok-take.ensures.given in
    told_by (association fs actual (drop c.args.index fs) c.args.is_behind_named ts a) fault _ c.from_residual-in_err-name-in-Some.result
    c.from_residual-in_err-name-in-Some.ensures.1 (λ e p. p)
    (only_memory (association fs actual (drop c.args.index fs) c.args.is_behind_named ts a) r.1.name fault (λ n. sym r.1.formal ∙ c.in_err-name-in-Some.ensures.given n))

pub returns-in_ok-name-in-Some-clause-told : goal.returns-in_ok-name-in-Some-clause-told
returns-in_ok-name-in-Some-clause-told c = λ all h k.
    let fs = map (λ (f : GenericFormal). f.name) all in
    let ts = names_view c.args.taken.now in
    let ts' = names_view c.take.new.taken in
    let a = association_view c.args.association.now in
    let n = c.in_ok-name-in-Some.name.now in
    let e = view c.in-Some.e.now in
    let actual : Name → Expr → Broken = λ n e. any_of (λ f. generic_actual c.args.sight.now e f) (generics_named all n) in
    let taken = ap (λ fs. one_taken fs c.args.index c.args.is_behind_named ts a) (sym h) ∙ c.in_ok-take.ensures.given in
    let formal = ap (λ fs. formal_at fs c.args.index a.formal) (sym h) ∙ c.in_ok-name-in-Some.ensures.given in
    told_on (actual n e) (association fs actual (drop c.args.index fs) c.args.is_behind_named ts a) c.named_generics.result
    (λ f w. actual_told fs actual c.args.index c.args.is_behind_named ts a ts' taken n formal f (told_along (of_any (actual n)) (Some e) (expression_of a.actual) c.in-Some.ensures f w))
    (c.named_generics.ensures.told all h k)

pub returns-in-None-clause-read : goal.returns-in-None-clause-read
returns-in-None-clause-read c = λ all h k.
    let fs = map (λ (f : GenericFormal). f.name) all in
    let ts = names_view c.args.taken.now in
    let a = association_view c.args.association.now in
    let taken = ap (λ fs. one_taken fs c.args.index c.args.is_behind_named ts a) (sym h) ∙ c.in_ok-take.ensures.given in
    one_read_is fs (suits c.args.sight.now all) c.args.index c.args.is_behind_named ts a (names_view c.take.new.taken) taken (λ n e. ap (holds_if_any (suits c.args.sight.now all n)) (sym c.in-None.ensures))

pub returns-in_ok-name-in-Some-clause-read : goal.returns-in_ok-name-in-Some-clause-read
returns-in_ok-name-in-Some-clause-read c = λ all h k.
    let fs = map (λ (f : GenericFormal). f.name) all in
    let ts = names_view c.args.taken.now in
    let a = association_view c.args.association.now in
    let e = view c.in-Some.e.now in
    let taken = ap (λ fs. one_taken fs c.args.index c.args.is_behind_named ts a) (sym h) ∙ c.in_ok-take.ensures.given in
    let formal = ap (λ fs. formal_at fs c.args.index a.formal) (sym h) ∙ c.in_ok-name-in-Some.ensures.given in
    ok_on c.named_generics.result (c.named_generics.ensures.fits all h k) (λ fit.
    one_read_is fs (suits c.args.sight.now all) c.args.index c.args.is_behind_named ts a (names_view c.take.new.taken) taken
    (λ n q. ap (holds_if_any (suits c.args.sight.now all n)) (sym c.in-Some.ensures) ∙ ap (λ n. suits c.args.sight.now all n e) (some_is n c.in_ok-name-in-Some.name.now (sym q ∙ formal)) ∙ fit))
