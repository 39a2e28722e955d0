-- Bodies that run a netlist's bodies: its trees, its codes, and bodies that stand for others.
use Rattle.std.proofs.Common.{◌≡◌, ℕ, ◌<◌, List, length, map, get_or, sym, ap, ◌∙◌, subst, arith}
use Rattle.std.proofs.lemmas.List.{get_or-map, length-map}
use Rattle.std.proofs.lemmas.List.FromFn.{length-map-range_with_len, get_or-map-range_with_len}
use Rattle.rtl_model.specs.bodies.Types.{ElementType}
use Rattle.rtl_model.specs.nets.FlatNetlist.{FlatNetlist, FlatProcess}
use Rattle.rtl_net.specs.Nets.{NetlistView, flat, process_view}
use Rattle.rtl_kernel.specs.kernel.Kept.{RunBodies}
use Rattle.rtl_eval.specs.Trees.{ProcessOf, process_of, processes_of}
use Rattle.rtl_eval_code.specs.Codes.{CodeOf, process_of as code_process}

-- bodies run a netlist's bodies where what they stand for does
pub through : {B E : Type 0} (process : E → FlatProcess) (types : E → List ElementType) (net : FlatNetlist) (stands_for : B → E) (bodies : List B)
    → RunBodies process types net (map stands_for bodies) → RunBodies (λ b. process (stands_for b)) (λ b. types (stands_for b)) net bodies
through process types net stands_for bodies run = record {
  as_many = sym (length-map bodies stands_for) ∙ run.as_many;
  each = λ p d l. ap process (sym (get_or-map stands_for bodies p d (stands_for d) l)) ∙ run.each p (stands_for d) (omega (arith, l, length-map bodies stands_for));
  among = λ p d l. ap types (sym (get_or-map stands_for bodies p d (stands_for d) l)) ∙ run.among p (stands_for d) (omega (arith, l, length-map bodies stands_for));
}

abbrev of_number : NetlistView → ℕ → ProcessOf
of_number net number = record { net = net; number = number }

-- the trees of a netlist's processes run its bodies
pub trees_run : (net : NetlistView) (trees : List ProcessOf) → trees ≡ processes_of net → RunBodies process_of (λ (p : ProcessOf). p.net.types) (flat net) trees
trees_run net trees e = subst (λ (ts : List ProcessOf). RunBodies process_of (λ (p : ProcessOf). p.net.types) (flat net) ts) (sym e) (record {
  as_many = many ∙ sym (length-map net.processes process_view);
  each = λ p d l. ap process_of (tree_at p d (omega (arith, l, many)));
  among = λ p d l. ap (λ (q : ProcessOf). q.net.types) (tree_at p d (omega (arith, l, many)));
})
  where
    many : length (processes_of net) ≡ length net.processes
    many = length-map-range_with_len (of_number net) 0 (length net.processes)

    tree_at : (p : ℕ) (d : ProcessOf) → p < length net.processes → get_or (processes_of net) p d ≡ of_number net p
    tree_at p d l = get_or-map-range_with_len (of_number net) 0 (length net.processes) p p d l (omega arith)

-- and so do their codes
pub codes_run : (net : NetlistView) (codes : List CodeOf) → map (λ (c : CodeOf). c.process) codes ≡ processes_of net
    → RunBodies code_process (λ (c : CodeOf). c.process.net.types) (flat net) codes
codes_run net codes e = through process_of (λ (p : ProcessOf). p.net.types) (flat net) (λ (c : CodeOf). c.process) codes (trees_run net (map (λ (c : CodeOf). c.process) codes) e)
