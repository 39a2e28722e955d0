use Rattle.std.proofs.Common.{◌≡◌, ◌<◌, ◌||◌, ◌+◌, ℕ, Bool, List, [], ◌∷◌, length, get_or, take, sym, ap, ◌∙◌}
use Rattle.std.specs.List.{list_any}
use Rattle.std.proofs.lemmas.List.{take_all, take_more}
use Rattle.std.proofs.lemmas.List.Folds.{list_any-append}
use Rattle.rtl_model.specs.simulation.Netlist as m
use Rattle.rtl_net.specs.declared.net.Source.{Source}
use Rattle.rtl_net.specs.Nets.{source_view}
use Rattle.rtl_body_facts.specs.Reading.{is_in}
use Rattle.rtl_body_facts.proofs.Anys.{or_assoc, or_none}
use Rattle.rtl_check.specs.Feeders.{feeds_by}
use Rattle.rtl_process_kinds.proofs.Sources.{any_map}
use Rattle.rtl_check.proofs.graph.push_feeders.Goals as goal

-- what is pushed for one more source, behind what was there
one_more : (f : Source → Bool) (ss : List Source) (i : ℕ) (d : Source) (new old first : Bool) → i < length ss → new ≡ (old || f (get_or ss i d)) → old ≡ (first || list_any f (take i ss))
    → new ≡ (first || list_any f (take (i + 1) ss))
one_more f ss i d new old first l e so_far = e ∙ (ap (λ (b : Bool). b || f (get_or ss i d)) so_far ∙ (or_assoc first (list_any f (take i ss)) (f (get_or ss i d))
    ∙ ap (λ (b : Bool). first || b)
    (sym (ap (list_any f) (take_more ss i d l) ∙ (list_any-append f (take i ss) (get_or ss i d ∷ []) ∙ ap (λ (b : Bool). list_any f (take i ss) || b) (sym (or_none (f (get_or ss i d)))))))))

pub returns : goal.returns
returns c =
    let l = c.loop-source in
    let ss = c.sources-sources.result.now in
    let ks = c.args.kinds.now in
    λ p. l.invariant p ∙ ap (λ (b : Bool). is_in p c.args.feeders.now.items || b)
    (ap (list_any (λ (s : Source). feeds_by ks p (source_view s))) (take_all l.source-index ss c.loop-source-test.false)
    ∙ (sym (any_map (feeds_by ks p) source_view ss) ∙ ap (λ (xs : List m.Source). list_any (feeds_by ks p) xs) c.sources-sources.ensures))

pub loop-source-init : goal.loop-source-init
loop-source-init c = λ p. or_none (is_in p c.args.feeders.now.items)

pub loop-source-preserved : goal.loop-source-preserved
loop-source-preserved c = λ p.
    let l = c.loop-source in
    one_more (λ s. feeds_by c.args.kinds.now p (source_view s)) c.sources-sources.result.now l.source-index _ _ _ _ c.loop-source-test.true (c.in_ok-push_feeder.ensures p) (l.invariant p)
