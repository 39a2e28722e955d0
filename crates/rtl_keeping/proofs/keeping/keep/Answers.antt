use Rattle.std.proofs.Common.{List, map, sym, subst}
use Rattle.std.specs.Vec.{with_items}
use Rattle.rtl_net.specs.Nets.{type_of}
use Rattle.rtl_net.specs.declared.process.Process.{Process}
use Rattle.rtl_keeping.specs.Steps.{AreReady, KeepsAll}
use Rattle.rtl_keeping.proofs.Whole.{are_ready, nets_of, keeps, is_net, idle_still, put_back}
use Rattle.rtl_keeping.proofs.keeping.keep.Goals as goal

pub keep_all-requires : goal.keep_all-requires
keep_all-requires c = subst (AreReady (map type_of c.args.parts.kinds.items)) (sym c.deref_mut.ensures.value) (are_ready c.args.parts c.requires.net c.requires.idle)

pub returns-clause-kept : goal.returns-clause-kept
returns-clause-kept c =
    keeps c.args.parts c.requires.net c.requires.idle (with_items c.args.parts.processes c.keep_all.new.processes) c.keep_all.new.nets c.put_in_order.new.self
    (put_back c.args.parts c.keep_all.new.processes (nets_of c.args.parts) c.keep_all.new.nets
    (subst (λ (ps : List Process). KeepsAll ps c.keep_all.new.processes (nets_of c.args.parts) c.keep_all.new.nets) c.deref_mut.ensures.value c.in_ok-keep_all.ensures.kept)) c.in_ok-put_in_order.ensures

pub returns-clause-net : goal.returns-clause-net
returns-clause-net c =
    is_net c.args.parts c.requires.net c.requires.idle (with_items c.args.parts.processes c.keep_all.new.processes) c.keep_all.new.nets c.put_in_order.new.self
    (put_back c.args.parts c.keep_all.new.processes (nets_of c.args.parts) c.keep_all.new.nets
    (subst (λ (ps : List Process). KeepsAll ps c.keep_all.new.processes (nets_of c.args.parts) c.keep_all.new.nets) c.deref_mut.ensures.value c.in_ok-keep_all.ensures.kept)) c.in_ok-put_in_order.ensures c.kept_is_sound.ensures

pub returns-clause-idle : goal.returns-clause-idle
returns-clause-idle c =
    idle_still c.args.parts c.requires.net c.requires.idle (with_items c.args.parts.processes c.keep_all.new.processes) c.keep_all.new.nets c.put_in_order.new.self
    (put_back c.args.parts c.keep_all.new.processes (nets_of c.args.parts) c.keep_all.new.nets
    (subst (λ (ps : List Process). KeepsAll ps c.keep_all.new.processes (nets_of c.args.parts) c.keep_all.new.nets) c.deref_mut.ensures.value c.in_ok-keep_all.ensures.kept)) c.in_ok-put_in_order.ensures
