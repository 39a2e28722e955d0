use Rattle.std.proofs.Common.{◌&&◌, not, ◌+◌, ◌∷◌, Some, ℕ, List, map, drop, refl, sym, ap, subst, ◌∙◌}
use Rattle.std.specs.Option.{option_or}
use Rattle.std.specs.List.Sorted.{IsStrictlyIncreasing}
use Rattle.std.proofs.lemmas.List.{at_drop_more, at_drop_all}
use Rattle.std.proofs.lemmas.List.Elements.{All-get_or}
use Rattle.rtl_body_facts.specs.Reading.{is_in}
use Rattle.rtl_latches.specs.declared.parts.Part.{Part}
use Rattle.rtl_latches.specs.Parts.{Told, told, both, only_left, where_so, rest_told, numbered}
use Rattle.rtl_latches.proofs.Telling.{rest-goes, rest-ends}
use Rattle.rtl_latches.proofs.choosing.choose_each.Goals as goal

pub loop-i-init : goal.loop-i-init
loop-i-init c = record { rise = c.requires.some; told = λ n. refl }

pub choose_in-requires : goal.choose_in-requires
choose_in-requires c =
    let p = c.index-parts-i.result in
    record {
      some = subst IsStrictlyIncreasing (sym c.deref.ensures.value) c.loop-i.invariant.rise;
      inner = subst (λ (q : Part). IsStrictlyIncreasing q.assigned.items) (sym c.index-parts-i.is)
          (All-get_or (λ (q : Part). IsStrictlyIncreasing q.assigned.items) c.args.parts.now c.loop-i.i p c.loop-i-test.true c.requires.parts);
    }

pub loop-i-preserved : goal.loop-i-preserved
loop-i-preserved c =
    let l = c.loop-i in
    let ps = c.args.parts.now in
    let p = c.index-parts-i.result in
    record {
      rise = c.in_ok-some.ensures.rise;
      told = λ n.
          rest-goes (numbered c.args.counted) (l.i + 1) (is_in n l.some.items) _ (told n l.part) _ (told n p) (map (told n) (drop (l.i + 1) ps))
          (c.in_ok-some.ensures.are n ∙ ap (λ (xs : List ℕ). is_in n xs && (told n p).must) c.deref.ensures.value)
          (c.in_ok-some.ensures.left n
          ∙ (λ j. both (told n l.part) (only_left (where_so (is_in n (c.deref.ensures.value j) && not (told n p).must) (option_or (told n p).left (Some (c.numbered.ensures j)))))))
          ∙ (ap (λ (ts : List Told). both (told n l.part) (rest_told (numbered c.args.counted) (l.i + 1) (is_in n l.some.items) ts))
          (ap (λ (q : Part). told n q ∷ map (told n) (drop (l.i + 1) ps)) c.index-parts-i.is ∙ sym (at_drop_more (map (told n)) ps l.i p c.loop-i-test.true)) ∙ l.invariant.told n);
    }

pub returns : goal.returns
returns c =
    let l = c.loop-i in
    λ n. rest-ends (numbered c.args.counted) (l.i + 1) (is_in n l.some.items) _ _ (told n l.part) _ (map (told n) (drop l.i c.args.parts.now))
    (at_drop_all (map (told n)) c.args.parts.now l.i c.loop-i-test.false) (ap (is_in n) c.deref-2.ensures.value) (c.in_ok-assign.ensures n) (l.invariant.told n)
