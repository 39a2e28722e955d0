use Rattle.std.proofs.Common.{◌≡◌, get_or, drop, Some, Vec, Global, IfErr, ap, sym, subst, ◌∙◌}
use Rattle.std.specs.Prelude.{◌==◌, not, filter, flat_map, option_map}
use Rattle.std.proofs.lemmas.List.{take_rest}
use Rattle.vhdl_values.specs.declared.scalar.Nine.{Nine}
use Rattle.vhdl_lexer.specs.Bytes.{underscore}
use Rattle.vhdl_lexer.specs.Words.{base_class}
use Rattle.vhdl_names_rules.specs.declared.fault.NameProblem.TheVariants.{LeftOut}
use Rattle.vhdl_names_rules.specs.Rules.{◌>>=◌}
use Rattle.vhdl_names_rules.specs.Literals.{values_of_bits, values_by, at_least_one, bits_of, digit_value, quoted}
use Rattle.vhdl_names_rules.specs.problems.Broken.{Tells, lacking}
use Rattle.vhdl_names_operators.specs.Steps.{class_of}
use Rattle.vhdl_names_rules.proofs.Along.{gives_along}
use Rattle.vhdl_names_rules.proofs.Telling.{told_of}
use Rattle.vhdl_names_operators.proofs.Quotations.{bits_of_base}
use Rattle.vhdl_names_operators.proofs.literals.bit_string_values.Goals as goal

pub returns : goal.returns
returns c =
    let s = c.as_slice.result.now in
    let base : base_class (get_or s 0 0) ≡ Some (class_of c.in-Some.base) = c.base_of.ensures ∙ ap (option_map class_of) c.in-Some.is in
    let whole : values_of_bits c.args.literal.now.text.items ≡ at_least_one c.in_ok-values.values.items =
    ap values_of_bits (sym c.as_slice.ensures.value) ∙ bits_of_base s c.in-len1-up.len_at_least
    ∙ ap (λ b. values_by b (filter (λ d. not (d == underscore)) (quoted (drop 1 s))) >>= at_least_one) base
    ∙ ap (λ q. Some (flat_map (λ d. bits_of (class_of c.in-Some.base) (digit_value d)) (filter (λ d. not (d == underscore)) q)) >>= at_least_one) (ap quoted (sym (take_rest s 1)) ∙ sym c.quoted.ensures)
    ∙ ap (λ o. o >>= at_least_one) c.in_ok-values.ensures.given in
    record {
      given = gives_along (λ (v : Vec Nine Global). v.items) _ _ _ whole c.at_least_one.ensures.given;
      told =
          subst (λ o. IfErr c.at_least_one.result (Tells (lacking LeftOut c.args.literal.now.at o))) (sym whole)
          (told_of (λ (v : Vec Nine Global). v.items) LeftOut c.args.literal.now.at (at_least_one c.in_ok-values.values.items) c.at_least_one.result c.at_least_one.ensures.given c.at_least_one.ensures.told);
    }
