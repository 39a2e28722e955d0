use Rattle.std.proofs.Common.{◌≡◌, ◌++◌, [], length, ◌∙◌, subst, ap}
use Rattle.std.specs.Prelude.{decimal}
use Rattle.byte_streams.specs.Written.{Goes}
use Rattle.byte_streams.proofs.Writing.{Goes-append}
use Rattle.rtl_vcd_values.specs.Values as values
use Rattle.rtl_vcd.proofs.heading.push_variable.Goals as goal

pub returns : goal.returns
returns g c =
    let state = g.W.Sink.state in
    let count : c.digits.result ≡ values.digits c.args.signal.now.kind (length c.args.signal.now.nets.items) =
    c.digits.ensures ∙ ap (values.digits c.args.signal.now.kind) c.len.ensures.value in
    let kind = subst (λ text. Goes (state c.push_text.new.sink) (state c.push_text-2.new.sink) text) c.variable_type.ensures c.push_text-2.ensures in
    let begun = Goes-append _ _ _ _ _ (Goes-append _ _ _ _ _ c.push_text.ensures kind) c.push_text-3.ensures in
    let width = subst (λ n. Goes (state c.push_text-3.new.sink) (state c.push_number.new.sink) (decimal n)) count c.push_number.ensures in
    let empty : c.new-code.result.items ≡ [] = assumption (c.new-code.ensures) in
    let printed : c.deref.result.now ≡ values.code c.args.number = c.deref.ensures.0 ∙ c.push_code.ensures.code ∙ ap (λ xs. xs ++ values.code c.args.number) empty in
    let code = subst (λ text. Goes (state c.push_text-4.new.sink) (state c.push_text-5.new.sink) text) printed c.push_text-5.ensures in
    let name = subst (λ text. Goes (state c.push_text-6.new.sink) (state c.push_text-7.new.sink) text) c.deref-2.ensures.value c.push_text-7.ensures in
    let head = Goes-append _ _ _ _ _ (Goes-append _ _ _ _ _ begun width) c.push_text-4.ensures in
    let named = Goes-append _ _ _ _ _ (Goes-append _ _ _ _ _ (Goes-append _ _ _ _ _ head code) c.push_text-6.ensures) name in
    Goes-append _ _ _ _ _ (Goes-append _ _ _ _ _ named c.push_bounds.ensures) c.push_text-8.ensures
