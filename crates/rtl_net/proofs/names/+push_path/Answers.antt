use Rattle.std.proofs.Common.{◌≡◌, ◌<◌, ◌++◌, length, map, Some, sym, ap, ◌∙◌, arith, codes}
use Rattle.std.proofs.lemmas.List.{length-map}
use Rattle.rtl_net.specs.Nets.{scope_view, parent_of, label_at}
use Rattle.rtl_net.specs.declared.signal.Scope.{Scope}
use Rattle.rtl_net.specs.Names as spec
use Rattle.rtl_net.proofs.Naming.{parent-at, label-at, parent-before, path-of_top, path-in_parent, appended}
use Rattle.rtl_net.proofs.names.+push_path.Goals as goal
use Rattle.rtl_net.proofs.names.+push_path.Goals.{in-Some+in_ok-push_path+in_ok-push, in_default}

pub push_path-requires : goal.push_path-requires
push_path-requires t c =
    let d = c.index-scopes-scope.result in
    let scopes = map scope_view c.args.scopes.now in
    let l : c.args.scope < length scopes = omega (arith, c.requires.there, length-map c.args.scopes.now scope_view) in
    let e : parent_of scopes c.args.scope ≡ Some c.in-Some.parent = parent-at c.args.scopes.now c.args.scope d c.requires.there ∙ ap (λ (s : Scope). s.parent) (sym c.index-scopes-scope.is) ∙ c.in-Some.is in
    let b = parent-before scopes c.requires.scopes c.args.scope c.in-Some.parent l e in
    (omega (arith, b, c.decreases), (c.requires.scopes, omega (arith, b, c.requires.there)))

pub returns : goal.returns
returns t c =
    let d = c.index-scopes-scope.result in
    let scopes = map scope_view c.args.scopes.now in
    let l : c.args.scope < length scopes = omega (arith, c.requires.there, length-map c.args.scopes.now scope_view) in
    let label : label_at scopes c.args.scope ≡ c.deref.result.now = label-at c.args.scopes.now c.args.scope d c.requires.there ∙ ap (λ (s : Scope). s.label.items) (sym c.index-scopes-scope.is) ∙ sym c.deref.ensures.value in
    let parent : parent_of scopes c.args.scope ≡ d.parent = parent-at c.args.scopes.now c.args.scope d c.requires.there ∙ ap (λ (s : Scope). s.parent) (sym c.index-scopes-scope.is) in
    let wrote = c.in_ok-extend_from_slice.ensures.items in
    elim c.match-found.branch [
      | in-Some+in_ok-push_path+in_ok-push w ↦
          let path = path-in_parent scopes c.requires.scopes c.args.scope w.in-Some.parent l (parent ∙ w.in-Some.is) in
          wrote ∙ ap (λ v. v.items ++ c.deref.result.now) w.name-is ∙ ap (λ x. x ++ c.deref.result.now) (w.in_ok-push.ensures.items ∙ ap (λ x. x ++ codes ".") w.in_ok-push_path.ensures)
          ∙ appended c.args.name.now.items (spec.path scopes w.in-Some.parent) (codes ".") c.deref.result.now
          ∙ ap (λ x. c.args.name.now.items ++ x) (ap (λ x. (spec.path scopes w.in-Some.parent ++ codes ".") ++ x) (sym label) ∙ sym path)
      | in_default w ↦
          wrote ∙ ap (λ v. v.items ++ c.deref.result.now) w.name-is
          ∙ ap (λ x. c.args.name.now.items ++ x) (sym label ∙ sym (path-of_top scopes c.requires.scopes c.args.scope l (parent ∙ w.in_default.is)))
    ]
