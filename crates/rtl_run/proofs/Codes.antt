-- A netlist's codes run its bodies.
use Rattle.std.proofs.Common.{◌≡◌, ℕ, ◌<◌, List, length, map, get_or, sym, ap, ◌∙◌, arith}
use Rattle.std.proofs.lemmas.List.{get_or-map, length-map}
use Rattle.std.proofs.lemmas.List.FromFn.{length-map-range_with_len, get_or-map-range_with_len}
use Rattle.rtl_net.specs.Nets.{NetlistView, flat, process_view}
use Rattle.rtl_kernel.specs.kernel.Kept.{RunBodies}
use Rattle.rtl_eval.specs.Trees.{ProcessOf, process_of as run_by, processes_of}
use Rattle.rtl_eval_code.specs.Codes.{CodeOf, process_of}

abbrev pub run_of : CodeOf → ProcessOf
run_of code = code.process

abbrev of_number : NetlistView → ℕ → ProcessOf
of_number net number = record { net = net; number = number }

module _ (net : NetlistView) (codes : List CodeOf) (are : map run_of codes ≡ processes_of net) where
  many : length codes ≡ length net.processes
  many = sym (length-map codes run_of) ∙ ap length are ∙ length-map-range_with_len (of_number net) 0 (length net.processes)

  run_at : (p : ℕ) (d : CodeOf) → p < length codes → run_of (get_or codes p d) ≡ of_number net p
  run_at p d less =
      sym (get_or-map run_of codes p d (of_number net p) less) ∙ ap (λ (ps : List ProcessOf). get_or ps p (of_number net p)) are
      ∙ get_or-map-range_with_len (of_number net) 0 (length net.processes) p p (of_number net p) (omega (arith, less, many)) (omega arith)

  pub codes_run : RunBodies process_of (λ (c : CodeOf). c.process.net.types) (flat net) codes
  codes_run = record {
    as_many = many ∙ sym (length-map net.processes process_view);
    each = λ p d less. ap run_by (run_at p d less);
    among = λ p d less. ap (λ (q : ProcessOf). q.net.types) (run_at p d less);
  }
