-- Entries of several processes that are taken over, process by process.
use Rattle.std.proofs.Common.{◌≡◌, ℕ, ◌<◌, Bool, true, false, List, length, get_or, set, Option, Some, None, refl, sym, ap, subst, ◌∙◌, ◌⊎◌, inl, inr, ◌==◌}
use Rattle.std.specs.List.{list_any}
use Rattle.std.proofs.lemmas.Bool.{cases_Bool, cases_eq}
use Rattle.std.proofs.lemmas.List.{get_or_default, get_or-set_other, get_or-set_same, length-set}
use Rattle.rtl_model.proofs.basics.Lists.{contains_in, in_contains}
use Rattle.rtl_model.specs.simulation.Netlist.{Netlist, process, target, HasPlace}
use Rattle.rtl_model.specs.simulation.Machine.{entry_or}
use Rattle.rtl_model.specs.simulation.Range.{IsValuation, limit}
use Rattle.rtl_model.proofs.simulation.Numbered.{Numbered}
use Rattle.rtl_model.proofs.simulation.Range.{entry_or_below}
use Rattle.rtl_levels.specs.Marks.{HasNoMark}
use Rattle.rtl_levels.specs.Running.{TakesOver}
use Rattle.rtl_levels.specs.Steps.{AllTakeOver, SomeTakeOver}
use Rattle.rtl_levels.proofs.Awake.{clash, fewer_marks, stays_unmarked}
use Rattle.rtl_levels.proofs.Settling.{one_process}

module _ (net : Netlist) (entries : ℕ → List (Option ℕ)) where
  pub none_takes_over : (marked : List Bool) (v : List ℕ) → SomeTakeOver net marked marked entries v v
  none_takes_over marked v = record {
    as_many = refl;
    fewer = λ p h. h;
    each_net = refl;
    on_targets = λ p place m f h. absurd (clash m f);
    on_others = λ n free. refl;
  }

  pub one_takes_over : (i : ℕ) (marked : List Bool) (v w : List ℕ) → i < length marked → get_or marked i false ≡ true → TakesOver (process net i).drives (entries i) v w
      → SomeTakeOver net marked (set marked i false) entries v w
  one_takes_over i marked v w there mark O = record {
    as_many = length-set marked i false;
    fewer = λ p h. (fewer_marks marked i there p h).1;
    each_net = O.each_net;
    on_targets = λ p place m f. on_targets p place m f (cases_eq p i);
    on_others = λ n free. O.on_others n (λ place h t. free i place mark (get_or-set_same marked i false false there) h t);
  }
    where
      on_targets : (p place : ℕ) → get_or marked p false ≡ true → get_or (set marked i false) p false ≡ false → (p ≡ i) ⊎ (p ≡ i → ⊥) → HasPlace net p place
          → get_or w (target net p place) 0 ≡ entry_or (get_or (entries p) place None) (get_or v (target net p place) 0)
      on_targets p place m f (inl e) = rw e (λ (h : HasPlace net i place). O.on_targets place h)
      on_targets p place m f (inr ne) = absurd (clash m (sym (get_or-set_other marked i p false false ne) ∙ f))

  -- and then others
  pub others_take_over : Numbered net → (a b c : List Bool) (u v w : List ℕ) → SomeTakeOver net a b entries u v → SomeTakeOver net b c entries v w → SomeTakeOver net a c entries u w
  others_take_over L a b c u v w T S = record {
    as_many = S.as_many ∙ T.as_many;
    fewer = λ p h. T.fewer p (S.fewer p h);
    each_net = S.each_net ∙ T.each_net;
    on_targets = λ p place m f h. on_targets p place m f h (cases_Bool (get_or b p false));
    on_others = λ n free. S.on_others n (λ q at m f h t. free q at (T.fewer q m) f h t) ∙ T.on_others n (λ q at m f h t. free q at m (stays_unmarked b c S.fewer q f) h t);
  }
    where
      same_mark : (p q at place : ℕ) → HasPlace net q at → HasPlace net p place → target net q at ≡ target net p place → get_or b q false ≡ get_or b p false
      same_mark p q at place has h t = sym (ap (λ (k : ℕ). get_or b k false) (one_process net L q p at place has h t))

      on_targets : (p place : ℕ) → get_or a p false ≡ true → get_or c p false ≡ false → HasPlace net p place → (get_or b p false ≡ true) ⊎ (get_or b p false ≡ false)
          → get_or w (target net p place) 0 ≡ entry_or (get_or (entries p) place None) (get_or u (target net p place) 0)
      on_targets p place m f h (inl on) =
          S.on_targets p place on f h
          ∙ ap (entry_or (get_or (entries p) place None)) (T.on_others (target net p place) (λ q at mq fq has t. clash (same_mark p q at place has h t ∙ on) fq))
      on_targets p place m f h (inr not) =
          S.on_others (target net p place) (λ q at mq fq has t. clash mq (same_mark p q at place has h t ∙ not)) ∙ T.on_targets p place m not h

  pub all_take_over : (marked still : List Bool) (v w : List ℕ) → HasNoMark still → SomeTakeOver net marked still entries v w → AllTakeOver net marked entries v w
  all_take_over marked still v w none T = record {
    each_net = T.each_net;
    on_targets = λ p place m h. T.on_targets p place m (none p) h;
    on_others = λ n free. T.on_others n (λ p place m f h t. free (p, place, m, h, t));
  }

-- what is taken over is in range where the entries are
pub taken_in_range : (net : Netlist) (p : ℕ) (entries : List (Option ℕ)) (v w : List ℕ) → TakesOver (process net p).drives entries v w → IsValuation net v
    → ((place x : ℕ) → HasPlace net p place → get_or entries place None ≡ Some x → x < limit net (target net p place)) → IsValuation net w
taken_in_range net p entries v w O V below =
    record { each_net = O.each_net ∙ V.each_net; in_range = λ n l. by n l (cases_Bool (list_any (λ m. m == n) (process net p).drives)) }
  where
    driven : (place : ℕ) → HasPlace net p place → target net p place < length net.start → get_or w (target net p place) 0 < limit net (target net p place)
    driven place h l = rw (O.on_targets place h) (entry_or_below (limit net (target net p place)) (get_or v (target net p place) 0) (get_or entries place None) (λ x e. below place x h e) (V.in_range (target net p place) l))

    by : (n : ℕ) → n < length net.start → (list_any (λ m. m == n) (process net p).drives ≡ true) ⊎ (list_any (λ m. m == n) (process net p).drives ≡ false) → get_or w n 0 < limit net n
    by n l (inl h) =
        let (k, m, is) = in_contains (process net p).drives n h in
        let t : target net p k ≡ n = get_or_default (process net p).drives k 0 n m ∙ is in
        subst (λ (x : ℕ). get_or w x 0 < limit net x) t (driven k m (rw t l))
    by n l (inr f) = rw (O.on_others n (λ place h t. none place h t)) (V.in_range n l)
      where
        none : (place : ℕ) → place < length (process net p).drives → get_or (process net p).drives place 0 ≡ n → ⊥
        none place h t = let c = contains_in (process net p).drives n (place, h, sym (get_or_default (process net p).drives place 0 n h) ∙ t) in cc
