use Rattle.std.proofs.Common.{◌≡◌, ◌++◌, length, take, codes, arith, subst, sym, ap, ap₂, ◌∙◌, slice_index, Some}
use Rattle.std.specs.List.{range_with_len}
use Rattle.rtl_net.specs.Nets.{signal_view}
use Rattle.rtl_vcd_values.specs.Values.{code}
use Rattle.rtl_vcd.specs.Ready.{behind, form_of}
use Rattle.rtl_vcd.proofs.Forms.{elements_short, run_line}
use Rattle.rtl_vcd.proofs.ready.run_of.Goals as goal

pub returns-in-Some : goal.returns-in-Some
returns-in-Some c =
    let items = c.args.signal.now.nets.items in
    let name = signal_view c.args.signal.now in
    let r = c.of.result in
    let near = subst (λ ns. ns ≡ range_with_len (slice_index ns 0) (length ns)) c.deref-then-is_short.ensures (c.are_neighbours.ensures c.if-are_neighbours.true) in
    let first : r.first ≡ slice_index items 0 = c.of.ensures.first ∙ ap (λ ns. slice_index ns 0) c.deref-in-Some.ensures in
    let count : r.count ≡ length items = c.of.ensures.count ∙ ap length c.deref-in-Some.ensures in
    let nets = near ∙ ap₂ range_with_len (sym first) (sym count) in
    let form : form_of name.kind ≡ Some r.form = c.in-Some.ensures.form ∙ ap Some (sym c.of.ensures.form) in
    let end = subst (λ f. take r.end.len r.end.bytes ≡ behind f ++ code c.args.number ++ codes "\n") (sym c.of.ensures.form) c.of.ensures.end in
    λ some. record {
      nets = nets;
      short = λ values. elements_short r.form r.first r.count values (λ digits e. c.in-Some.ensures.few digits (sym c.of.ensures.form ∙ e)) (omega (arith, count, c.requires.most));
      prints = run_line c.args.number name r (omega (arith, count, c.requires.some)) nets form
          (λ e. omega (arith, count, c.in-Some.ensures.one (sym c.of.ensures.form ∙ e), c.len.ensures.value)) end;
    }
