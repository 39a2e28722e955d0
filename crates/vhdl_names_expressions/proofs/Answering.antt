-- What a step of an expression's analysis answers, what it gives and what it tells, by what its parts answer.
use Rattle.std.proofs.Common.{◌≡◌, ◌≢◌, ℕ, ◌+◌, suc, ◌<◌, Bool, false, List, length, get_or, drop, option_map, Option, Some, None, Result, IfErr, Vec, Box, Global, refl, sym, ap, ◌∙◌, arith}
use Rattle.std.specs.Prelude.{IsErrAnd, map}
use Rattle.vhdl_lexer.specs.declared.language.Language.{Language}
use Rattle.vhdl_tree.specs.Tree as t
use Rattle.vhdl_tree.specs.Tree.{Ident, Attribute, elements_of}
use Rattle.vhdl_tree.specs.View.{view, element_view}
use Rattle.vhdl_tree.specs.declared.operator.Sign.{Sign}
use Rattle.vhdl_tree.specs.declared.expression.Expr.{Expr}
use Rattle.vhdl_tree.specs.declared.expression.Expr.TheVariants as x
use Rattle.vhdl_tree.specs.declared.expression.Chain.{Chain, out-Chain}
use Rattle.vhdl_tree.specs.declared.expression.Link.{Link}
use Rattle.vhdl_tree.specs.declared.expression.Element.{Element}
use Rattle.vhdl_names_rules.specs.declared.fault.NameFault.{NameFault}
use Rattle.vhdl_names_rules.specs.declared.fault.NameFault.TheVariants.{NoMemory}
use Rattle.vhdl_names_rules.specs.declared.fault.NameProblem.TheVariants.{TypeMismatch}
use Rattle.vhdl_names_trees.specs.declared.integer.Static as integers
use Rattle.vhdl_names_trees.specs.declared.typed.Typed as code
use Rattle.vhdl_names_rules.specs.Gives.{Gives}
use Rattle.vhdl_names_rules.specs.Rules.{◌>>=◌}
use Rattle.vhdl_names_rules.specs.Visibility.{Sight, Declared, declaration}
use Rattle.vhdl_names_rules.specs.Names.{Suffix}
use Rattle.vhdl_names_rules.specs.Types.{TypedElements}
use Rattle.vhdl_names_rules.specs.Expressions as are
use Rattle.vhdl_names_rules.specs.Expressions.{as_integer, in_parentheses}
use Rattle.vhdl_names_rules.specs.Operators.{Typed, as_computed, composite, inverse, raised}
use Rattle.vhdl_names_trees.specs.views.Integers.{static_view}
use Rattle.vhdl_names_trees.specs.views.Expressions.{typed_view}
use Rattle.vhdl_names_rules.specs.problems.Broken.{Broken, Tells, refused, ◌▸◌, lacking}
use Rattle.vhdl_names_rules.specs.problems.Places.{start}
use Rattle.vhdl_names_rules.specs.problems.Operators.{operator_problem}
use Rattle.vhdl_names_rules.specs.problems.Expressions.{typed, typed_suffix, typed_elements, static, meaning, by_declaration, qualified}
use Rattle.vhdl_names_rules.proofs.Along.{gives_along}
use Rattle.vhdl_names_rules.proofs.Memory.{memory_gives, memory_told}
use Rattle.vhdl_names_rules.proofs.Passing.{passed_on, told_by}
use Rattle.vhdl_names_rules.proofs.Telling.{told_same}
use Rattle.vhdl_names_operators.specs.Steps.{operated}
use Rattle.vhdl_names_operators.specs.Resolving.{kind_of, operand_breaks}
use Rattle.vhdl_names_expressions.specs.Breaking.{link_breaks, all_break, started_breaks}
use Rattle.vhdl_names_expressions.specs.Chosen.{started, links_of}
use Rattle.vhdl_names_expressions.specs.Steps.{is_parens, enclosed_if, linked, all_linked}
use Rattle.vhdl_names_expressions.proofs.Breaking.{told_as, asked_of, chain_first, chain_further, begun_first, begun_second, link_first, link_told, rest_goes, operator_on}
use Rattle.vhdl_names_expressions.proofs.BreakingForms.{parens_first, parens_told, negation_first, negation_told, absolute_first, absolute_told, sign_first, sign_told, base_told, exponent_told, power_told, named_meaning, named_suffix, named_both, mark_told, inside_told, qualified_told, static_first}
use Rattle.vhdl_names_expressions.proofs.Chains.{started_is, chain_begun, all_linked_none, link_fails, link_goes, static_is}
use Rattle.vhdl_names_expressions.proofs.Typing.{parens_give, negation_gives, absolute_gives, sign_gives, no_operand, aggregate_as, aggregate_broken, no_base, no_exponent, power_is, no_declaration, no_suffix, named_is, no_mark, no_elements_qualified, qualified_is}

abbrev pub Answer : {X Y : Type 0} → (X → Y) → Option Y → Broken → Result X NameFault → Type 0
Answer see o b r = record { given : Gives see o r; told : IfErr r (Tells b) }

-- what a part answers that fails
abbrev pub Refusal : {Y : Type 0} → Option Y → Broken → NameFault → Type 0
Refusal o b f = record { given : f ≢ NoMemory → o ≡ None; told : Tells b f }

abbrev pub Passes : {X : Type 0} → Result X NameFault → NameFault → Type 0
Passes r f = IsErrAnd r (λ e. e ≡ f)

-- a fault that is passed on
pub passed : {X Y Z : Type 0} (see : X → Y) (o : Option Y) (b : Broken) (p : Option Z) (c : Broken) (f : NameFault) (r : Result X NameFault) →
    (p ≡ None → o ≡ None) → (Tells c f → Tells b f) → Passes r f → Refusal p c f → Answer see o b r
passed see o b p c f r none tells is h = record {
  given = passed_on see o f (λ e. e ≡ f) r is (λ e p. p) (λ n. none (h.given n));
  told = told_by b f (λ e. e ≡ f) r is (λ e p. p) (tells h.told);
}

-- want of memory
pub out_of_memory : {X Y : Type 0} (see : X → Y) (o : Option Y) (b : Broken) (r : Result X NameFault) → Passes r NoMemory → Answer see o b r
out_of_memory see o b r is = record {
  given = memory_gives see o (λ e. e ≡ NoMemory) r is (λ e p. p);
  told = memory_told b (λ e. e ≡ NoMemory) r is (λ e p. p);
}

-- the same answer by equations
pub along : {X Y : Type 0} (see : X → Y) (o p : Option Y) (b c : Broken) (r : Result X NameFault) → o ≡ p → b ≡ c → Answer see p c r → Answer see o b r
along see o p b c r e d a = record { given = gives_along see o p r e a.given; told = told_as c b r (sym d) a.told }

-- ---- chains

module _ (sight : Sight) (k : Chain) where
  abbrev first_of_chain : Expr
  first_of_chain = (out-Chain k).first

  pub begun_passed : (f : NameFault) (r : Result code.Typed NameFault) → Passes r f → Refusal (are.typed sight (view first_of_chain)) (typed sight (view first_of_chain)) f →
      Answer typed_view (started sight k) (started_breaks sight k) r
  begun_passed f r =
      passed typed_view (started sight k) (started_breaks sight k) (are.typed sight (view first_of_chain)) (typed sight (view first_of_chain)) f r
      (λ h. started_is sight k ∙ ap (λ o. linked sight (is_parens (view first_of_chain)) o (out-Chain k).second) h) (begun_first sight k f)

  pub begun_answers : (b : Bool) (v : Typed) (r : Result code.Typed NameFault) → are.typed sight (view first_of_chain) ≡ Some v → b ≡ is_parens (view first_of_chain) →
      Answer typed_view (linked sight b (Some v) (out-Chain k).second) (link_breaks sight b (Some v) (out-Chain k).second) r → Answer typed_view (started sight k) (started_breaks sight k) r
  begun_answers b v r given is a = record {
    given = gives_along typed_view (started sight k) (linked sight b (Some v) (out-Chain k).second) r
        (started_is sight k ∙ ap (λ o. linked sight (is_parens (view first_of_chain)) o (out-Chain k).second) given ∙ ap (λ p. linked sight p (Some v) (out-Chain k).second) (sym is)) a.given;
    told = begun_second sight k b v r given is a.told;
  }

module _ (sight : Sight) (e : Expr) (box : Box Chain Global) (k : Chain) (is : e ≡ x.Chain box) (same : k ≡ box.value) where
  pub chain_passed : (f : NameFault) (r : Result code.Typed NameFault) → Passes r f → Refusal (started sight k) (started_breaks sight k) f →
      Answer typed_view (are.typed sight (view e)) (typed sight (view e)) r
  chain_passed f r =
      passed typed_view (are.typed sight (view e)) (typed sight (view e)) (started sight k) (started_breaks sight k) f r
      (λ h. chain_begun sight e box k box.value is same refl ∙ ap (λ o. all_linked sight o (links_of box.value)) h ∙ all_linked_none sight (links_of box.value))
      (chain_first sight e box k f is same)

  pub chain_answers : (k2 : Chain) (v : Typed) (r : Result code.Typed NameFault) → k2 ≡ box.value → started sight k ≡ Some v →
      Answer typed_view (all_linked sight (Some v) (links_of k2)) (all_break sight (Some v) (links_of k2)) r → Answer typed_view (are.typed sight (view e)) (typed sight (view e)) r
  chain_answers k2 v r same2 given a = record {
    given = gives_along typed_view (are.typed sight (view e)) (all_linked sight (Some v) (links_of k2)) r
        (chain_begun sight e box k k2 is same same2 ∙ ap (λ o. all_linked sight o (links_of k2)) given) a.given;
    told = chain_further sight e box k k2 v r is same same2 given a.told;
  }

-- ---- links

module _ (sight : Sight) (b : Bool) (v : Typed) (l : Link) where
  pub link_passed : (f : NameFault) (r : Result code.Typed NameFault) → Passes r f → Refusal (are.typed sight (view l.operand)) (typed sight (view l.operand)) f →
      Answer typed_view (linked sight b (Some v) l) (link_breaks sight b (Some v) l) r
  link_passed f r =
      passed typed_view (linked sight b (Some v) l) (link_breaks sight b (Some v) l) (are.typed sight (view l.operand)) (typed sight (view l.operand)) f r
      (no_operand sight b v l) (link_first sight b v l f)

  -- what an operator breaks that makes this of both operands
  abbrev operator_breaks : Typed → Option Typed → Broken
  operator_breaks z o = operand_breaks l.operator (kind_of z) v ▸ operand_breaks l.operator (kind_of v) z ▸ lacking (operator_problem l.operator v z) l.at o

  -- an operator on both operands, where the sight has this language, and this much of numbers
  pub link_answers : (y z : Typed) (w : Language) (n : Bool) (r : Result code.Typed NameFault) → are.typed sight (view l.operand) ≡ Some y → z ≡ enclosed_if b y →
      w ≡ sight.language → n ≡ sight.numbers → Answer typed_view (operated w n l.at l.operator v z) (operator_breaks z (operated w n l.at l.operator v z)) r →
      Answer typed_view (linked sight b (Some v) l) (link_breaks sight b (Some v) l) r
  link_answers y z w n r given same language numbers a =
      let made : operated w n l.at l.operator v z ≡ operated sight.language sight.numbers l.at l.operator v z =
      ap (λ k. operated k n l.at l.operator v z) language ∙ ap (λ m. operated sight.language m l.at l.operator v z) numbers in
      record {
        given =
            gives_along typed_view (linked sight b (Some v) l) (operated w n l.at l.operator v z) r
            (ap (λ o. o >>= λ y. operated sight.language sight.numbers l.at l.operator v (enclosed_if b y)) given
            ∙ ap (operated sight.language sight.numbers l.at l.operator v) (sym same) ∙ sym made)
            a.given;
        told = operator_on sight b v y z l r given same (told_as _ _ r (ap (operator_breaks z) made) a.told);
      }

-- the links that are left, on what is done, give the whole, and what they break first, the whole breaks first
module _ (sight : Sight) (first v : Typed) (ls : List Link) (i : ℕ) where
  abbrev Left : Typed → ℕ → Type 0
  Left w j = (all_linked sight (Some first) ls ≡ all_linked sight (Some w) (drop j ls)) × (all_break sight (Some first) ls ≡ all_break sight (Some w) (drop j ls))

  pub links_passed : (l : Link) (f : NameFault) (r : Result code.Typed NameFault) → Left v i → i < length ls → l ≡ get_or ls i l → Passes r f →
      Refusal (linked sight false (Some v) l) (link_breaks sight false (Some v) l) f → Answer typed_view (all_linked sight (Some first) ls) (all_break sight (Some first) ls) r
  links_passed l f r left lt is =
      passed typed_view (all_linked sight (Some first) ls) (all_break sight (Some first) ls) (linked sight false (Some v) l) (link_breaks sight false (Some v) l) f r
      (link_fails sight (all_linked sight (Some first) ls) v ls i l left.0 lt is)
      (λ h. told_same (all_break sight (Some v) (drop i ls)) (all_break sight (Some first) ls) f (sym left.1) (link_told sight v ls i l f lt is h))

  pub links_go : (l : Link) (w : Typed) → Left v i → i < length ls → l ≡ get_or ls i l → linked sight false (Some v) l ≡ Some w → Left w (i + 1)
  links_go l w left lt is given =
      let next : suc i ≡ i + 1 = omega arith in
      (left.0 ∙ link_goes sight v w ls i (i + 1) l lt is next given, left.1 ∙ rest_goes sight v w ls i (i + 1) l lt is next given)

-- ---- what stands in parentheses, or behind an operator

module _ (sight : Sight) (e d : Expr) (at : ℕ) (box : Box Expr Global) where
  abbrev Passed : Type 0
  Passed =
      (f : NameFault) (r : Result code.Typed NameFault) → d ≡ box.value → Passes r f → Refusal (are.typed sight (view d)) (typed sight (view d)) f →
      Answer typed_view (are.typed sight (view e)) (typed sight (view e)) r

  -- by what it is of its operand
  of_operand : (on : Typed → Option Typed) (f : NameFault) (r : Result code.Typed NameFault) → are.typed sight (view e) ≡ (are.typed sight (view d) >>= on) →
      (Tells (typed sight (view d)) f → Tells (typed sight (view e)) f) → Passes r f → Refusal (are.typed sight (view d)) (typed sight (view d)) f →
      Answer typed_view (are.typed sight (view e)) (typed sight (view e)) r
  of_operand on f r gives =
      passed typed_view (are.typed sight (view e)) (typed sight (view e)) (are.typed sight (view d)) (typed sight (view d)) f r (λ h. gives ∙ ap (λ o. o >>= on) h)

  pub parens_passed : e ≡ x.Parens at box → Passed
  parens_passed is = λ f r same. of_operand in_parentheses f r (parens_give sight e d at box is same) (parens_first sight e d at box f is same)

  pub negation_passed : e ≡ x.Not at box → Passed
  negation_passed is = λ f r same. of_operand inverse f r (negation_gives sight e d at box is same) (negation_first sight e d at box f is same)

  pub absolute_passed : e ≡ x.Abs at box → Passed
  absolute_passed is = λ f r same.
      of_operand (are.absolute at) f r (absolute_gives sight e d at box is same) (absolute_first sight e d at box f is same)

  pub sign_passed : (sign : Sign) → e ≡ x.Signed sign at box → Passed
  sign_passed sign is = λ f r same.
      of_operand (are.signed at sign) f r (sign_gives sight e d at box sign is same) (sign_first sight e d at box sign f is same)

  module _ (v : Typed) (r : Result code.Typed NameFault) (same : d ≡ box.value) (given : are.typed sight (view d) ≡ Some v) where
    abbrev Whole : Type 0
    Whole = Answer typed_view (are.typed sight (view e)) (typed sight (view e)) r

    gives_whole : (on : Typed → Option Typed) → are.typed sight (view e) ≡ (are.typed sight (view d) >>= on) → Gives typed_view (on v) r → Gives typed_view (are.typed sight (view e)) r
    gives_whole on gives = gives_along typed_view (are.typed sight (view e)) (on v) r (gives ∙ ap (λ o. o >>= on) given)

    pub parens_answer : (place : ℕ) → e ≡ x.Parens at box → place ≡ start (view d) → Answer typed_view (in_parentheses v) (lacking TypeMismatch place (in_parentheses v)) r → Whole
    parens_answer place is stands a = record {
      given = gives_whole in_parentheses (parens_give sight e d at box is same) a.given;
      told = parens_told sight e d at box v place r is same given stands a.told;
    }

    pub negation_answer : e ≡ x.Not at box → Answer typed_view (inverse v) (lacking TypeMismatch at (inverse v)) r → Whole
    negation_answer is a = record {
      given = gives_whole inverse (negation_gives sight e d at box is same) a.given;
      told = negation_told sight e d at box v r is same given a.told;
    }

    pub absolute_answer : e ≡ x.Abs at box → Answer typed_view (are.absolute at v) (lacking TypeMismatch at (as_computed v)) r → Whole
    absolute_answer is a = record {
      given = gives_whole (are.absolute at) (absolute_gives sight e d at box is same) a.given;
      told = absolute_told sight e d at box v r is same given a.told;
    }

    pub sign_answer : (sign : Sign) → e ≡ x.Signed sign at box → Answer typed_view (are.signed at sign v) (lacking TypeMismatch at (as_computed v)) r → Whole
    sign_answer sign is a = record {
      given = gives_whole (are.signed at sign) (sign_gives sight e d at box sign is same) a.given;
      told = sign_told sight e d at box sign v r is same given a.told;
    }

-- ---- aggregates

pub aggregate_passed : (sight : Sight) (e : Expr) (at : ℕ) (all : Vec Element Global) (es : List Element) (f : NameFault) (r : Result code.Typed NameFault) →
    e ≡ x.Aggregate at all → es ≡ all.items → Passes r f → Refusal (are.typed_elements sight (elements_of (map element_view es))) (typed_elements sight (elements_of (map element_view es))) f →
    Answer typed_view (are.typed sight (view e)) (typed sight (view e)) r
aggregate_passed sight e at all es f r is same =
    passed typed_view (are.typed sight (view e)) (typed sight (view e)) (are.typed_elements sight (elements_of (map element_view es))) (typed_elements sight (elements_of (map element_view es))) f r
    (λ h. aggregate_as sight e at all es is same ∙ ap (option_map (composite at)) h)
    (told_same (typed_elements sight (elements_of (map element_view es))) (typed sight (view e)) f (sym (aggregate_broken sight e at all es is same)))

-- ---- powers: the base first

module _ (sight : Sight) (d e : t.Expr) (at : ℕ) where
  pub base_passed : (f : NameFault) (r : Result code.Typed NameFault) → Passes r f → Refusal (are.typed sight d) (typed sight d) f →
      Answer typed_view (are.typed sight (t.power d at e)) (typed sight (t.power d at e)) r
  base_passed f r =
      passed typed_view (are.typed sight (t.power d at e)) (typed sight (t.power d at e)) (are.typed sight d) (typed sight d) f r (no_base sight d e at) (base_told sight d e at f)

  pub exponent_passed : (v : Typed) (f : NameFault) (r : Result code.Typed NameFault) → are.typed sight d ≡ Some v → Passes r f → Refusal (are.typed sight e) (typed sight e) f →
      Answer typed_view (are.typed sight (t.power d at e)) (typed sight (t.power d at e)) r
  exponent_passed v f r base =
      passed typed_view (are.typed sight (t.power d at e)) (typed sight (t.power d at e)) (are.typed sight e) (typed sight e) f r (no_exponent sight d e at v base) (exponent_told sight d e at v f base)

  pub power_answers : (v w : Typed) (r : Result code.Typed NameFault) → are.typed sight d ≡ Some v → are.typed sight e ≡ Some w →
      Answer typed_view (raised at v w) (refused TypeMismatch at) r → Answer typed_view (are.typed sight (t.power d at e)) (typed sight (t.power d at e)) r
  power_answers v w r base exponent a = record {
    given = gives_along typed_view (are.typed sight (t.power d at e)) (raised at v w) r (power_is sight d e at v w base exponent) a.given;
    told = power_told sight d e at typed_view v w r base exponent a.given a.told;
  }

-- ---- names: the identifier, and then what stands behind it

module _ (sight : Sight) (n : Ident) (y : t.Suffix) (a : Option Attribute) where
  pub declaration_passed : (f : NameFault) (r : Result code.Typed NameFault) → Passes r f → Refusal (declaration sight n.text) (meaning sight n) f →
      Answer typed_view (are.typed sight (t.named n y a)) (typed sight (t.named n y a)) r
  declaration_passed f r =
      passed typed_view (are.typed sight (t.named n y a)) (typed sight (t.named n y a)) (declaration sight n.text) (meaning sight n) f r (no_declaration sight n y a) (named_meaning sight n y a f)

  module _ (d : Declared) (declared : declaration sight n.text ≡ Some d) where
    pub suffix_passed : (f : NameFault) (r : Result code.Typed NameFault) → Passes r f → Refusal (are.typed_suffix sight y) (typed_suffix sight y) f →
        Answer typed_view (are.typed sight (t.named n y a)) (typed sight (t.named n y a)) r
    suffix_passed f r =
        passed typed_view (are.typed sight (t.named n y a)) (typed sight (t.named n y a)) (are.typed_suffix sight y) (typed_suffix sight y) f r
        (no_suffix sight n y a d declared) (named_suffix sight n y a d f declared)

    pub named_answers : (x : Suffix) (r : Result code.Typed NameFault) → are.typed_suffix sight y ≡ Some x →
        Answer typed_view (are.named sight.language n.at a d x) (by_declaration sight.language n.at a d x) r → Answer typed_view (are.typed sight (t.named n y a)) (typed sight (t.named n y a)) r
    named_answers x r given b = record {
      given = gives_along typed_view (are.typed sight (t.named n y a)) (are.named sight.language n.at a d x) r (named_is sight n y a d x declared given) b.given;
      told = named_both sight n y a d x r declared given b.told;
    }

-- ---- qualified expressions: the type, and then the elements

module _ (sight : Sight) (n : Ident) (at : ℕ) (es : t.Elements) where
  pub mark_passed : (f : NameFault) (r : Result code.Typed NameFault) → Passes r f → Refusal (declaration sight n.text) (meaning sight n) f →
      Answer typed_view (are.typed sight (t.qualified n at es)) (typed sight (t.qualified n at es)) r
  mark_passed f r =
      passed typed_view (are.typed sight (t.qualified n at es)) (typed sight (t.qualified n at es)) (declaration sight n.text) (meaning sight n) f r (no_mark sight n at es) (mark_told sight n at es f)

  module _ (d : Declared) (declared : declaration sight n.text ≡ Some d) where
    pub inside_passed : (f : NameFault) (r : Result code.Typed NameFault) → Passes r f → Refusal (are.typed_elements sight es) (typed_elements sight es) f →
        Answer typed_view (are.typed sight (t.qualified n at es)) (typed sight (t.qualified n at es)) r
    inside_passed f r =
        passed typed_view (are.typed sight (t.qualified n at es)) (typed sight (t.qualified n at es)) (are.typed_elements sight es) (typed_elements sight es) f r
        (no_elements_qualified sight n at es d declared) (inside_told sight n at es d f declared)

    pub qualified_answers : (xs : TypedElements) (r : Result code.Typed NameFault) → are.typed_elements sight es ≡ Some xs →
        Answer typed_view (are.qualified n.at at d xs) (qualified n.at at d xs) r → Answer typed_view (are.typed sight (t.qualified n at es)) (typed sight (t.qualified n at es)) r
    qualified_answers xs r given a = record {
      given = gives_along typed_view (are.typed sight (t.qualified n at es)) (are.qualified n.at at d xs) r (qualified_is sight n at es d xs declared given) a.given;
      told = qualified_told sight n at es d xs r declared given a.told;
    }

-- ---- static integers

module _ (sight : Sight) (e : t.Expr) where
  pub static_passed : (f : NameFault) (r : Result integers.Static NameFault) → Passes r f → Refusal (are.typed sight e) (typed sight e) f → Answer static_view (are.static sight e) (static sight e) r
  static_passed f r =
      passed static_view (are.static sight e) (static sight e) (are.typed sight e) (typed sight e) f r (λ h. static_is sight e ∙ ap (λ o. o >>= as_integer) h) (static_first sight e f)

  pub static_answers : (v : Typed) (at : ℕ) (r : Result integers.Static NameFault) → are.typed sight e ≡ Some v → at ≡ start e → Answer static_view (as_integer v) (refused TypeMismatch at) r →
      Answer static_view (are.static sight e) (static sight e) r
  static_answers v at r given stands a = record {
    given = gives_along static_view (are.static sight e) (as_integer v) r (static_is sight e ∙ ap (λ o. o >>= as_integer) given) a.given;
    told = asked_of sight e as_integer static_view at v r given stands a.given a.told;
  }
