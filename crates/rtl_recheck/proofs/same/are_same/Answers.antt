use Rattle.std.proofs.Common.{◌≡◌, true, false, eqb, sym, ◌∙◌}
use Rattle.std.specs.Option.{option_eq}
use Rattle.std.proofs.lemmas.Bool.{eqb-true, eq-eqb}
use Rattle.rtl_recheck.proofs.SameReports.{numbers, options, same_lists}
use Rattle.rtl_recheck.proofs.same.are_same.Goals as goal

pub returns-then-ne : goal.returns-then-ne
returns-then-ne c =
    (λ e. absurd cc, λ same. (let h : true ≡ false = sym c.if-ne.true ∙ (same_lists (option_eq eqb) options c.args.one.now.levels.items c.args.other.now.levels.items c.ne.result c.ne.ensures).1 same.levels in absurd cc))

pub returns-then-ne-2 : goal.returns-then-ne-2
returns-then-ne-2 c =
    (λ e. absurd cc, λ same. (let h : true ≡ false = sym c.if-ne-2.true ∙ (same_lists (option_eq eqb) options c.args.one.now.from.items c.args.other.now.from.items c.ne-2.result c.ne-2.ensures).1 same.from in absurd cc))

pub returns-then-ne-4 : goal.returns-then-ne-4
returns-then-ne-4 c =
    (λ e. absurd cc, λ same. (let h : true ≡ false = sym c.if-ne-4.true ∙ (same_lists (option_eq eqb) options c.args.one.now.looks.items c.args.other.now.looks.items c.ne-4.result c.ne-4.ensures).1 same.looks in absurd cc))

pub returns : goal.returns
returns c = (
  λ e. record {
    levels = (same_lists (option_eq eqb) options c.args.one.now.levels.items c.args.other.now.levels.items c.ne.result c.ne.ensures).0 c.if-ne.false;
    from = (same_lists (option_eq eqb) options c.args.one.now.from.items c.args.other.now.from.items c.ne-2.result c.ne-2.ensures).0 c.if-ne-2.false;
    nets = (same_lists eqb numbers c.args.one.now.nets.items c.args.other.now.nets.items c.ne-3.result c.ne-3.ensures).0 c.if-ne-3.false;
    looks = (same_lists (option_eq eqb) options c.args.one.now.looks.items c.args.other.now.looks.items c.ne-4.result c.ne-4.ensures).0 c.if-ne-4.false;
    clocks = sym c.deref.ensures.value ∙ (c.are_same_clocks.ensures.0 c.if-not-are_same_clocks.false ∙ c.deref-2.ensures.value);
    bound = eqb-true c.args.one.now.bound c.args.other.now.bound e;
  },
  λ same. eq-eqb c.args.one.now.bound c.args.other.now.bound same.bound,
)
