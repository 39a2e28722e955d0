use Rattle.std.proofs.Common.{◌≡◌, ℕ, ◌+◌, List, [], ◌∷◌, length, sym, ap, ◌∙◌, arith}
use Rattle.std.proofs.lemmas.List.{length-append}
use Rattle.rtl_net.specs.declared.process.Process.{Process}
use Rattle.rtl_net.specs.Core.{core}
use Rattle.rtl_process_kinds.proofs.Processes.{many_processes, kinds_more}
use Rattle.rtl_process_kinds.proofs.kinds.kinds_of.Goals as goal

pub loop-process-preserved : goal.loop-process-preserved
loop-process-preserved c =
    let l = c.loop-process in
    record {
      so_many = ap length c.in_ok-push.ensures.items ∙ (length-append l.kinds.items (c.kind_at.result ∷ []) ∙ ap (λ (k : ℕ). k + 1) l.invariant.so_many);
      so_far = kinds_more (core c.args.net.now) l.kinds.items c.push.new.self.items l.process c.kind_at.result l.invariant.so_many l.invariant.so_far c.in_ok-push.ensures.items c.kind_at.ensures;
    }

pub returns : goal.returns
returns c =
    let net = c.args.net.now in
    let l = c.loop-process in
    let shown = ap (λ (ps : List Process). length ps) c.processes-processes.ensures in
    let all : l.process ≡ length net.processes = omega (arith, c.loop-process-test.false, l.auto.process-end, shown) in
    let many = many_processes net in
    record {
      each_process = l.invariant.so_many ∙ (all ∙ sym many);
      each = λ p h. l.invariant.so_far p (omega (arith, all, many, h));
    }
