-- The lines of known designs.
use Rattle.std.proofs.Common.{◌≡◌, ℕ, List, [], ◌∷◌, ◌++◌, refl, ap, ◌∙◌, false}
use Rattle.std.specs.Fmt.{digits}
use Rattle.std.specs.Prelude.{Option, Some, None, codes, decimal, flat_map, slice_index, slice_index_or}
use Rattle.rtl_model.specs.nets.FlatNetlist.{FlatNetlist, FlatProcess, flat_sources}
use Rattle.rtl_model.specs.bodies.Types.{nine_valued}
use Rattle.rtl_definition_examples.specs.Counter as example
use Rattle.rtl_net.specs.declared.process.Process.{Process}
use Rattle.rtl_net.specs.Nets.{flat, process_view}
use Rattle.rtl_net.specs.Names.{net_name, name_of_process, generates_prefix}
use Rattle.rtl_body_facts.specs.Reading.{is_in}
use Rattle.rtl_check.specs.declared.judging.Judgement.TheVariants.{ByProcesses}
use Rattle.rtl_check.specs.declared.reporting.Report.{Report}
use Rattle.rtlsim_listing.specs.NetText.{net_text, lines, counts_text, start_text, sources_text}
use Rattle.rtlsim_listing.specs.CheckText.{report_text, bounds_text, check_text}
use Rattle.rtl_definition_examples.specs.Listing.{IsUnlabelled, IsBare, top, cnt, CounterIsListed, CounterIsReported, LoopIsListed, LevelIsListed, AreListed, LinesAreAsSaid}

-- the name of a process without a label
unlabelled : (name generates : List ℕ) (p : Process) (k : ℕ) → IsUnlabelled p generates
    → name_of_process (top name) p k ≡ name ++ codes "." ++ generates_prefix generates ++ (codes "#" ++ decimal k)
unlabelled name generates p k is = rw (is.scope, is.generates_are, is.no_label) refl

module _ (counting showing : Process) (c : IsBare counting example.counting) (s : IsBare showing example.showing) where
  with_processes : FlatProcess → FlatProcess → FlatNetlist
  with_processes p q = record {
    types = example.counter.types;
    start = example.counter.start;
    inputs = example.counter.inputs;
    idle = example.counter.idle;
    wide = false;
    processes = p ∷ q ∷ [];
  }

  seen : flat (cnt counting showing) ≡ example.counter
  unfolding with_processes
  seen = ap (λ p. with_processes p (process_view showing)) c.seen ∙ ap (with_processes example.counting) s.seen

  first : name_of_process (top (codes "cnt")) counting 0 ≡ codes "cnt.#0"
  unfolding digits
  first = unlabelled (codes "cnt") [] counting 0 c.unlabelled

  second : name_of_process (top (codes "cnt")) showing 1 ≡ codes "cnt.#1"
  unfolding digits
  second = unlabelled (codes "cnt") [] showing 1 s.unlabelled

  -- the text, by the flat netlist and the names of processes
  text_by : FlatNetlist → (p q : List ℕ) → List ℕ
  text_by f p q =
      counts_text 5 2
      ++ lines (λ n. decimal n ++ codes " " ++ net_name (cnt counting showing) n ++ codes " "
      ++ start_text (slice_index_or f.types n nine_valued) (slice_index f.start n) ++ codes " "
      ++ sources_text (is_in n f.inputs) (flat_sources f n) ++ codes "\n") 5
      ++ lines (λ k. codes "process " ++ decimal k ++ codes " " ++ slice_index_or (p ∷ q ∷ []) k [] ++ codes "\n") 2

  pub listed : net_text (cnt counting showing)
      ≡ codes "nets 5\nprocesses 2\n0 cnt.clk U in\n1 cnt.y(1) U 1\n2 cnt.y(0) U 1\n3 cnt.q(1) 0 0\n4 cnt.q(0) 0 0\nprocess 0 cnt.#0\nprocess 1 cnt.#1\n"
  unfolding text_by digits
  listed =
      let start : net_text (cnt counting showing) ≡ text_by (flat (cnt counting showing)) (name_of_process (top (codes "cnt")) counting 0) (name_of_process (top (codes "cnt")) showing 1) = refl in
      start ∙ ap (λ f. text_by f (name_of_process (top (codes "cnt")) counting 0) (name_of_process (top (codes "cnt")) showing 1)) seen
      ∙ ap (λ p. text_by example.counter p (name_of_process (top (codes "cnt")) showing 1)) first
      ∙ ap (λ q. text_by example.counter (codes "cnt.#0") q) second

  -- the report, by the name of the one combinational process
  report_by : (q : List ℕ) → List ℕ
  report_by q = bounds_text 1 2 ++ ([] ++ ((codes "level " ++ decimal 1 ++ codes " " ++ q ++ [] ++ codes "\n") ++ []))

  report_of : (levels from : List (Option ℕ)) → (bound : ℕ) → List ℕ
  report_of levels from bound = report_text (cnt counting showing) (record { by_nets = false; levels = levels; from = from; bound = bound })

  pub reported : (r : Report) → r.levels.items ≡ None ∷ Some 1 ∷ [] → r.from.items ≡ None ∷ None ∷ [] → r.bound ≡ 2
      → check_text (cnt counting showing) (ByProcesses r) ≡ codes "yes\nlevels 1\nbound 2\nlevel 1 cnt.#1\n"
  unfolding report_by report_of digits
  reported r levels from bound =
      ap (λ ls. report_of ls r.from.items r.bound) levels ∙ ap (λ fs. report_of (None ∷ Some 1 ∷ []) fs r.bound) from
      ∙ ap (report_of (None ∷ Some 1 ∷ []) (None ∷ None ∷ [])) bound ∙ ap report_by second

  pub said : AreListed (cnt counting showing)
  unfolding digits
  said = record {
    two_drivers = ap (λ q. codes "fault 1 TwoDrivers net " ++ codes "cnt.y(1)" ++ codes " by " ++ q ++ codes " and " ++ codes "idle" ++ codes "\n") second;
    mixed = ap (λ p. codes "fault 2 Mixed " ++ p ++ codes "\n") first;
    clock = ap (λ p. codes "fault 3 ClockNotInput " ++ p ++ codes " net " ++ codes "cnt.q(1)" ++ codes "\n") first;
    nets = refl;
    from_net = refl;
    no_source = refl;
    sources = refl;
    literal = refl;
    dash = refl;
  }

pub counter_is_listed : CounterIsListed
counter_is_listed counting showing c s = listed counting showing c s

pub counter_is_reported : CounterIsReported
counter_is_reported counting showing r c s levels from bound = reported counting showing c s r levels from bound

pub loop_is_listed : LoopIsListed
unfolding digits
loop_is_listed p q r a b c =
    let name = codes "l3" in
    let text : List ℕ → List ℕ → List ℕ → List ℕ = λ x y z. codes "fault 8 Loop" ++ flat_map (λ t. codes " " ++ t) (x ∷ z ∷ y ∷ []) ++ codes "\n" in
    ap (λ x. text x (name_of_process (top name) q 1) (name_of_process (top name) r 2)) (unlabelled name [] p 0 a)
    ∙ ap (λ y. text (codes "l3.#0") y (name_of_process (top name) r 2)) (unlabelled name [] q 1 b)
    ∙ ap (λ z. text (codes "l3.#0") (codes "l3.#1") z) (unlabelled name [] r 2 c)

pub level_is_listed : LevelIsListed
unfolding digits
level_is_listed p q a b =
    let name = codes "add4" in
    let text : List ℕ → List ℕ → List ℕ = λ x y. codes "level " ++ decimal 2 ++ codes " " ++ y ++ (codes " from " ++ x) ++ codes "\n" in
    ap (λ x. text x (name_of_process (top name) q 1)) (unlabelled name [] p 0 a)
    ∙ ap (text (codes "add4.#0")) (unlabelled name (codes "g(0)") q 1 b)

pub lines_are_as_said : LinesAreAsSaid
lines_are_as_said counting showing c s = said counting showing c s
