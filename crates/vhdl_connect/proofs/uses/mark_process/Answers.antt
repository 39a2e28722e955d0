use Rattle.std.proofs.Common.{◌++◌, ap, subst}
use Rattle.std.specs.Prelude.{◌↔◌, Contains}
use Rattle.rtl_model.specs.bodies.Reads.{reads}
use Rattle.rtl_net.specs.Bodies.{statements_of}
use Rattle.vhdl_expand_tree.specs.Views.{process_view}
use Rattle.vhdl_connect.proofs.Marking.{process_marked, uses_whole}
use Rattle.vhdl_connect.proofs.uses.mark_process.Goals as goal

pub returns : goal.returns
returns c = λ driven read h.
    process_marked (process_view c.args.process.now) c.in_ok-found.found.items
    (λ n. subst (λ xs. Contains c.in_ok-found.found.items n ↔ Contains (reads (statements_of xs)) n) c.deref.ensures.value (c.in_ok-found.ensures.all n))
    driven read c.mark_listed.new.uses
    (c.mark_listed.ensures _ _
    (uses_whole _ _ _ _ c.mark_read.new.uses (ap (λ es. driven ++ es) c.deref-2.ensures.value) (ap (λ es. read ++ es) c.deref-3.ensures.value)
    (c.mark_read.ensures _ read (c.mark_driven.ensures driven read h))))
