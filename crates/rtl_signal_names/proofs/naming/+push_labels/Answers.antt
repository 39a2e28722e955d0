use Rattle.std.proofs.Common.{◌≡◌, ◌<◌, List, ℕ, length, map, Some, sym, ap, subst, ◌∙◌, arith}
use Rattle.std.proofs.lemmas.List.{length-map}
use Rattle.byte_streams.specs.Written.{Goes}
use Rattle.byte_streams.proofs.Writing.{Goes-append, Goes-nil}
use Rattle.rtl_net.specs.declared.signal.Scope.{Scope}
use Rattle.rtl_net.specs.Nets.{scope_view, parent_of, label_at}
use Rattle.rtl_net.proofs.Naming.{parent-at, label-at, parent-before}
use Rattle.rtl_signal_names.proofs.Labels.{labels-of_top, labels-in_parent}
use Rattle.rtl_signal_names.proofs.naming.+push_labels.Goals as goal

pub push_labels-requires : goal.push_labels-requires
push_labels-requires g t c κs within =
    let d = c.index-scopes-scope.result in
    let scopes = map scope_view c.args.scopes.now in
    let l : c.args.scope < length scopes = omega (arith, c.requires.there, length-map c.args.scopes.now scope_view) in
    let e : parent_of scopes c.args.scope ≡ Some c.in-Some.parent = parent-at c.args.scopes.now c.args.scope d c.requires.there ∙ ap (λ (s : Scope). s.parent) (sym c.index-scopes-scope.is) ∙ c.in-Some.is in
    let b = parent-before scopes c.requires.scopes c.args.scope c.in-Some.parent l e in
    (omega (arith, b, c.decreases), (within, (c.requires.scopes, omega (arith, b, c.requires.there))))

pub returns-in-Some : goal.returns-in-Some
returns-in-Some g t c =
    let state = g.S.Sink.state in
    let d = c.index-scopes-scope.result in
    let scopes = map scope_view c.args.scopes.now in
    let l : c.args.scope < length scopes = omega (arith, c.requires.there, length-map c.args.scopes.now scope_view) in
    let e : parent_of scopes c.args.scope ≡ Some c.in-Some.parent = parent-at c.args.scopes.now c.args.scope d c.requires.there ∙ ap (λ (s : Scope). s.parent) (sym c.index-scopes-scope.is) ∙ c.in-Some.is in
    let label : c.deref.result.now ≡ label_at scopes c.args.scope =
    c.deref.ensures.value ∙ ap (λ (s : Scope). s.label.items) c.index-scopes-scope.is ∙ sym (label-at c.args.scopes.now c.args.scope d c.requires.there) in
    let line = subst (λ (text : List ℕ). Goes (state c.push_labels.new.sink) (state c.push_text.new.sink) text) label c.push_text.ensures in
    subst (λ (text : List ℕ). Goes (state c.args.sink.now) (state c.push_text-in-Some.new.sink) text) (sym (labels-in_parent scopes c.requires.scopes c.args.scope c.in-Some.parent l e))
    (Goes-append _ _ _ _ _ (Goes-append _ _ _ _ _ c.push_labels.ensures line) c.push_text-in-Some.ensures)

pub returns-in_default : goal.returns-in_default
returns-in_default g t c =
    let state = g.S.Sink.state in
    let d = c.index-scopes-scope.result in
    let scopes = map scope_view c.args.scopes.now in
    let l : c.args.scope < length scopes = omega (arith, c.requires.there, length-map c.args.scopes.now scope_view) in
    let top = parent-at c.args.scopes.now c.args.scope d c.requires.there ∙ ap (λ (s : Scope). s.parent) (sym c.index-scopes-scope.is) ∙ c.in_default.is in
    subst (λ (text : List ℕ). Goes (state c.args.sink.now) (state c.args.sink.now) text) (sym (labels-of_top scopes c.requires.scopes c.args.scope l top)) (Goes-nil (state c.args.sink.now))
