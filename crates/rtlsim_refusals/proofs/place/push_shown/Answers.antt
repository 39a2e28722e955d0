use Rattle.std.proofs.Common.{List, ℕ, subst, sym}
use Rattle.std.specs.Prelude.{flat_map}
use Rattle.std.proofs.lemmas.Grind.{flat_map-append}
use Rattle.byte_streams.specs.Written.{Goes}
use Rattle.byte_streams.proofs.Writing.{Goes-append}
use Rattle.rtlsim_refusals.specs.Places.{blank}
use Rattle.rtlsim_refusals.proofs.place.push_shown.Goals as goal

pub returns : goal.returns
returns g c =
    let state = g.S.Sink.state in
    let cut = c.cut_line-line.result in
    let before = rw (c.line_before.ensures, c.line_after.ensures, c.halves.ensures.before, c.halves.ensures.after) at c.cut_line-line.ensures.before in
    let after = rw (c.line_before.ensures, c.line_after.ensures, c.halves.ensures.before, c.halves.ensures.after) at c.cut_line-line.ensures.after in
    let front = subst (λ (text : List ℕ). Goes (state c.args.sink.now) (state c.push_text-2.new.sink) text) before
    (Goes-append _ _ _ _ _ c.push_text.ensures c.push_text-2.ensures) in
    let back = subst (λ (text : List ℕ). Goes (state c.push_text-2.new.sink) (state c.push_text-4.new.sink) text) after
    (Goes-append _ _ _ _ _ c.push_text-3.ensures c.push_text-4.ensures) in
    let blanks = subst (λ (text : List ℕ). Goes (state c.push_text-5.new.sink) (state c.push_blanks-2.new.sink) (flat_map blank text)) before
    (subst (λ (text : List ℕ). Goes (state c.push_text-5.new.sink) (state c.push_blanks-2.new.sink) text) (sym (flat_map-append blank cut.cut.now cut.before.now))
    (Goes-append _ _ _ _ _ c.push_blanks.ensures c.push_blanks-2.ensures)) in
    Goes-append _ _ _ _ _ (Goes-append _ _ _ _ _ (Goes-append _ _ _ _ _ front back) c.push_text-5.ensures)
    (Goes-append _ _ _ _ _ blanks c.push_text-6.ensures)
