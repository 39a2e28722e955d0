use Rattle.std.proofs.Common.{List, ℕ, [], get_or, sym, ap, subst, ◌∙◌}
use Rattle.std.specs.Prelude.{Contains}
use Rattle.std.proofs.lemmas.Bool.{false≢true}
use Rattle.rtl_net_groups.proofs.MarkedLists.{net_more}
use Rattle.rtl_net_groups.proofs.touched.mark_others.Goals as goal
use Rattle.rtl_net_groups.proofs.touched.mark_others.Goals.{then-old-net, else-old-net}

pub loop-net-preserved : goal.loop-net-preserved
loop-net-preserved c =
    let I = c.loop-net.invariant in
    let listed = c.args.groups.now.listed in
    let net = c.loop-net.net in
    let more = net_more c.args.groups.now c.args.old.now c.args.new.now c.args.first net c.loop-net.marks in
    elim c.if-old-net.branch [
      | then-old-net w ↦
          let is_listed = w.listed.ensures ∙ ap (λ (of_net : List ℕ). get_or listed (get_or of_net net 0) []) w.of_net.ensures.value in
          rw w.marks-is (record {
            marked = more w.mark_all.new.marks I.marked w.mark_all.ensures.kept
                (λ p h is. absurd (false≢true (sym is ∙ w.mark_all.ensures.marked p (subst (λ (ps : List ℕ). Contains ps p) (sym is_listed) h))));
            kept = λ k is. w.mark_all.ensures.kept k (I.kept k is);
          })
      | else-old-net w ↦ rw w.marks-is (record { marked = more c.loop-net.marks I.marked (λ k is. is) (λ p h is. w.if-old-net.false); kept = I.kept })
    ]
