-- Counting a numbered design is adding what its parts cost: by induction over the tree.
use Rattle.std.proofs.Common.{◌≡◌, ℕ, ◌+◌, List, [], ◌∷◌, ◌++◌, length, map, sum, sym, ap, ◌∙◌, arith}
use Rattle.std.proofs.lemmas.List.{length-append, map-append}
use Rattle.std.proofs.lemmas.List.Sums.{sum_by_push}
use Rattle.vhdl_expand_rules.specs.Tree.{Process, Instance, instance, Parts, no_parts, process, inner}
use Rattle.vhdl_elab_rules.specs.Numbering.{own_sizes, Placed, Located, Numbered, nothing_numbered, Above, above_top, above_parts, placed_instance, with_process, with_placed, with_instance, with_parts, numbered_design}
use Rattle.vhdl_elab_rules.specs.Limits.{Counts, statements_count, variable_elements_count, counts, is_within_limits}
use Rattle.vhdl_expand_tree.specs.Costs.{no_costs, plus, own_costs, process_costs, instance_costs, parts_costs}
use Rattle.vhdl_expand_tree.specs.Counts.{EachDesignCostsItsParts}
use Rattle.vhdl_expand_tree.proofs.Charging as charging
use Rattle.vhdl_expand_tree.proofs.Charging.{sum_assoc, each_number, plus-assoc}

-- ---- sums

none-more : (n : ℕ) → n ≡ n + 0
none-more n = omega arith

sum-push : {A : Type 0} (f : A → ℕ) (xs : List A) (x : A) → sum (map f (xs ++ x ∷ [])) ≡ sum (map f xs) + f x
sum-push f xs x = ap sum (map-append f xs (x ∷ [])) ∙ sum_by_push (λ n. n) (map f xs) (f x)

before-last : (a b c : ℕ) → a + c + b ≡ a + b + c
before-last a b c = omega arith

plus-none : (a : Counts) → a ≡ plus a no_costs
plus-none a = each_number (λ k l m. m) (λ k l m. m + 0) (λ k l m. none-more m) a a a

-- ---- one part more

placed-counts : (p : Placed) (d : Numbered) → counts (with_placed p d) ≡ plus (counts d) (own_costs p.objects p.turns)
placed-counts p d =
    let turns : sum (map (λ (q : Placed). q.turns) (d.instances ++ p ∷ [])) + sum (map (λ (x : Located). x.process.turns) d.processes)
    ≡ sum (map (λ (q : Placed). q.turns) d.instances) + sum (map (λ (x : Located). x.process.turns) d.processes) + p.turns =
    ap (λ n. n + sum (map (λ (x : Located). x.process.turns) d.processes)) (sum-push (λ (q : Placed). q.turns) d.instances p)
    ∙ before-last (sum (map (λ (q : Placed). q.turns) d.instances)) (sum (map (λ (x : Located). x.process.turns) d.processes)) p.turns in
    λ i. record {
      processes = none-more (length d.processes) i;
      instances = length-append d.instances (p ∷ []) i;
      nets = d.nets + own_sizes p.objects;
      turns = turns i;
      statements = none-more (sum (map (λ (x : Located). statements_count x.process.body) d.processes)) i;
      variable_elements = none-more (sum (map variable_elements_count d.processes)) i;
    }

process-counts : (number : ℕ) (round : Placed) (q : Process) (d : Numbered) → counts (with_process number round q d) ≡ plus (counts d) (process_costs q)
process-counts number round q d =
    let x : Located = record { scope = number; round = round; process = q } in
    let turns : sum (map (λ (p : Placed). p.turns) d.instances) + sum (map (λ (y : Located). y.process.turns) (d.processes ++ x ∷ []))
    ≡ sum (map (λ (p : Placed). p.turns) d.instances) + sum (map (λ (y : Located). y.process.turns) d.processes) + q.turns =
    ap (λ n. sum (map (λ (p : Placed). p.turns) d.instances) + n) (sum-push (λ (y : Located). y.process.turns) d.processes x)
    ∙ sym (sum_assoc (sum (map (λ (p : Placed). p.turns) d.instances)) (sum (map (λ (y : Located). y.process.turns) d.processes)) q.turns) in
    λ i. record {
      processes = length-append d.processes (x ∷ []) i;
      instances = none-more (length d.instances) i;
      nets = none-more d.nets i;
      turns = turns i;
      statements = sum-push (λ (y : Located). statements_count y.process.body) d.processes x i;
      variable_elements = sum-push variable_elements_count d.processes x i;
    }

-- ---- the tree

mutual
  instance-counts : (i : Instance) (a : Above) (label : List ℕ) (d : Numbered) → counts (with_instance a label i d) ≡ plus (counts d) (instance_costs i)
  instance-counts (instance os turns parts) a label d =
      let p : Placed = placed_instance a label d.nets (instance os turns parts) in
      parts-count parts (length d.instances) p (with_placed p d) ∙ ap (λ (c : Counts). plus c (parts_costs parts)) (placed-counts p d) ∙ plus-assoc (counts d) (own_costs os turns) (parts_costs parts)

  parts-count : (ps : Parts) (number : ℕ) (round : Placed) (d : Numbered) → counts (with_parts number round ps d) ≡ plus (counts d) (parts_costs ps)
  parts-count no_parts number round d = plus-none (counts d)
  parts-count (process q rest) number round d =
      parts-count rest number round (with_process number round q d) ∙ ap (λ (c : Counts). plus c (parts_costs rest)) (process-counts number round q d) ∙ plus-assoc (counts d) (process_costs q) (parts_costs rest)
  parts-count (inner label i rest) number round d =
      parts-count rest number round (with_instance (above_parts number round) label i d) ∙ ap (λ (c : Counts). plus c (parts_costs rest)) (instance-counts i (above_parts number round) label d)
      ∙ plus-assoc (counts d) (instance_costs i) (parts_costs rest)

pub each-design-costs-its-parts : EachDesignCostsItsParts
unfolding numbered_design
each-design-costs-its-parts design =
    let same : counts (numbered_design design) ≡ instance_costs design.top = instance-counts design.top above_top design.name nothing_numbered ∙ charging.plus-none (instance_costs design.top) in
    record { together = same; within = ap is_within_limits same }
