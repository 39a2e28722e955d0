use Rattle.std.proofs.Common.{◌-◌, length, List, ℕ, Option, None, ap, subst, ◌∙◌}
use Rattle.std.specs.Prelude.{slice_index_or}
use Rattle.byte_streams.specs.Written.{Goes}
use Rattle.rtl_net.specs.Values.{value_text}
use Rattle.rtl_expect.specs.Telling as spec
use Rattle.rtl_expect.proofs.Coded.{as_bytes, all_said}
use Rattle.rtl_expect.proofs.saying.push_number_wanted.Goals as goal

pub returns-in-Some : goal.returns-in-Some
returns-in-Some g c =
    let wanted = c.args.wanted.now.items in
    let kind = c.args.kind in
    let last = slice_index_or wanted (length wanted - 1) None in
    let all = c.in-Some.ensures ∙ ap (λ (ws : List (Option ℕ)). as_bytes (spec.all_wanted ws)) c.deref.ensures.0 in
    let said = all_said kind (spec.all_wanted wanted) last c.in-Some.values.items all in
    let words = c.deref-in-Some-2.ensures.0 ∙ c.value_text.ensures ∙ ap (value_text kind) c.deref-in-Some.ensures.0 ∙ said in
    subst (Goes (g.S.Sink.state c.args.sink.now) (g.S.Sink.state c.push_text.new.sink)) words c.push_text.ensures
