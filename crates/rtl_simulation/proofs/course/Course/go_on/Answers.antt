use Rattle.std.proofs.Common.{◌≡◌, ℕ, List, length, refl, sym, ap, subst, ◌∙◌, arith}
use Rattle.std.specs.Prelude.{slice_index}
use Rattle.rtl_net_groups.specs.Touching.{Chunks, IsLeft}
use Rattle.rtl_vcd.specs.Shown.{ShownView}
use Rattle.rtl_vcd.specs.Trace.{moment_text}
use Rattle.byte_streams.specs.Written.{Goes}
use Rattle.rtl_simulation.specs.Engines.{course_of, names_of}
use Rattle.rtl_simulation.specs.Progress.{GoesOn}
use Rattle.rtl_simulation.proofs.Results.{err_with}
use Rattle.rtl_simulation.proofs.MomentTexts.{moment_goes, some_change}
use Rattle.rtl_simulation.proofs.Going.{next_leaves, goes_further}
use Rattle.rtl_simulation.proofs.course.Course.go_on.Given.{Over}
use Rattle.rtl_simulation.proofs.course.Course.go_on.Goals as goal
use Rattle.rtl_simulation.proofs.course.Course.go_on.Goals.{After-values, After-moment}

goes : (g : Over) (c : After-moment g) → Goes (g.W.Sink.state c.args.out.now) (g.W.Sink.state c.moment.new.out)
    (moment_text (names_of c.args.self.now) c.args.time c.args.progress.now.shown.items c.values.result.now)
goes g c =
    moment_goes c.args.blocks.now.signals (names_of c.args.self.now) (ap (λ (v : ShownView). v.signals) c.requires.blocks) c.deref.result.now c.args.progress.now.shown.items c.values.result.now c.values.result.now
    c.deref.ensures.value refl (g.W.Sink.state c.args.out.now) (g.W.Sink.state c.moment.new.out) c.args.time c.moment.ensures.text

pub returns-in_err-is_printed-clause-goes_on : goal.returns-in_err-is_printed-clause-goes_on
returns-in_err-is_printed-clause-goes_on g c start come next =
    let r = course_of c.args.self.now in
    let names = names_of c.args.self.now in
    let new = g.W.Sink.state c.moment.new.out in
    let p = c.args.progress.now in
    let shows = c.values.ensures.shows r p.moments c.requires.settled in
    err_with (GoesOn r names start new p c.args.time p) c.from_residual.result c.in_err-is_printed.field-0.0 c.from_residual.ensures.1 (
      next_leaves r names start (g.W.Sink.state c.args.out.now) p come c.args.time next new c.values.result.now shows.comes
          (goes g (goal.at.returns-in_err-is_printed-clause-goes_on g c).After-moment) (come.text.whole c.requires.intact).0,
      c.in_err-is_printed.ensures.err,
    )

pub returns-clause-goes_on : goal.returns-clause-goes_on
returns-clause-goes_on g c start come next =
    let r = course_of c.args.self.now in
    let names = names_of c.args.self.now in
    let p = c.args.progress.now in
    let values = c.values.result.now in
    let shows = c.values.ensures.shows r p.moments c.requires.settled in
    let some = some_change c.args.blocks.now.signals names (ap (λ (v : ShownView). v.signals) c.requires.blocks) c.deref.result.now p.shown.items values values c.deref.ensures.value refl
    c.in_ok-is_printed.is_printed c.in_ok-is_printed.ensures.printed in (
      goes_further r names start (g.W.Sink.state c.args.out.now) p come c.args.time next (g.W.Sink.state c.moment.new.out) values shows.comes
          (goes g (goal.at.returns-clause-goes_on g c).After-moment) c.add.new.self c.in_ok-is_printed.is_printed c.in_ok-is_printed.ensures.ok some
          c.add.ensures.now (c.add.ensures.shown ∙ c.values-2.ensures.value ∙ sym c.values.ensures.value) c.add.ensures.printed c.add.ensures.moments,
      omega (arith, c.add.ensures.moments),
      c.add.ensures.now,
    )

pub returns-clause-shown : goal.returns-clause-shown
returns-clause-shown g c = c.add.ensures.shown ∙ c.values-2.ensures.value

pub returns-clause-as_many : goal.returns-clause-as_many
returns-clause-as_many g c = ap length c.add.ensures.shown ∙ (c.values-2.ensures.shows (course_of c.args.self.now) c.args.progress.now.moments c.requires.settled).as_many

-- ---- the marks

nets : (g : Over) (c : After-values g) → c.touched-touched.result.now.nets ≡ length c.args.self.now.shown.net.now.types
nets g c =
    let r = course_of c.args.self.now in
    let m = c.args.progress.now.moments in
    c.touched-touched.ensures.nets r m c.requires.settled (ap length (sym c.values.ensures.value) ∙ (c.values.ensures.shows r m c.requires.settled).as_many)

pub moment-requires-clause-nets : goal.moment-requires-clause-nets
moment-requires-clause-nets g c = nets g (goal.at.moment-requires-clause-nets g c).After-values ∙ ap (λ (v : ShownView). length v.net.types) (sym c.requires.blocks)

pub moment-requires-clause-left : goal.moment-requires-clause-left
moment-requires-clause-left g c = λ n left.
    ap (λ (vs : List ℕ). slice_index vs n) c.deref.ensures.value
    ∙ c.requires.left n (subst (λ (t : Chunks). IsLeft t n) c.touched-touched.ensures.value left)
    ∙ ap (λ (vs : List ℕ). slice_index vs n) (sym c.values.ensures.value)

pub add-requires-clause-as_many : goal.add-requires-clause-as_many
add-requires-clause-as_many g c =
    (c.values-2.ensures.shows (course_of c.args.self.now) c.args.progress.now.moments c.requires.settled).as_many ∙ sym c.requires.as_many

pub add-requires-clause-nets : goal.add-requires-clause-nets
add-requires-clause-nets g c =
    nets g (goal.at.add-requires-clause-nets g c).After-values
    ∙ sym (c.values-2.ensures.shows (course_of c.args.self.now) c.args.progress.now.moments c.requires.settled).as_many

pub add-requires-clause-left : goal.add-requires-clause-left
add-requires-clause-left g c = λ n left.
    c.requires.left n (subst (λ (t : Chunks). IsLeft t n) c.touched-touched.ensures.value left) ∙ ap (λ (vs : List ℕ). slice_index vs n) (sym c.values-2.ensures.value)
