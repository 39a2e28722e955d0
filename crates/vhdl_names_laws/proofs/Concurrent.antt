-- Each concurrent statement fits where it stands (IEEE 1076-2008, clause 11).
use Rattle.std.proofs.Common.{◌≡◌, ℕ, suc, true, List, [], ◌∷◌, length, Some, refl, subst, arith}
use Rattle.std.proofs.lemmas.Bool.{and_from, lt-ltb}
use Rattle.vhdl_tree.specs.Tree as t
use Rattle.vhdl_tree.specs.Tree.{Ident}
use Rattle.vhdl_lexer.specs.declared.language.Language.TheVariants.{Wide}
use Rattle.vhdl_tree.specs.Pieces.{IsEach}
use Rattle.vhdl_tree.specs.grammar.Concurrent.{IsConcurrentIn, AreConcurrentsIn}
use Rattle.vhdl_names_rules.specs.units.Units as u
use Rattle.vhdl_names_rules.specs.units.Units.{Units}
use Rattle.vhdl_names_rules.specs.Rules.{◌>>=◌}
use Rattle.vhdl_names_rules.specs.Visibility as visibility
use Rattle.vhdl_names_rules.specs.Visibility.{Name, Sight, are_distinct, ends}
use Rattle.vhdl_names_rules.specs.Expressions.{typed, static_range, as_static_test}
use Rattle.vhdl_names_rules.specs.Interfaces.{EntityView}
use Rattle.vhdl_names_rules.specs.Instances.{instance}
use Rattle.vhdl_names_rules.specs.Concurrent.{process, concurrent_labels, sight_within, generated, concurrent, concurrents}
use Rattle.vhdl_names_rules.specs.sound.Expressions.{Inside, range_fits, static_test_fits}
use Rattle.vhdl_names_rules.specs.sound.Units as w
use Rattle.vhdl_names_rules.specs.sound.Units.{concurrent_fits, concurrents_fit}
use Rattle.vhdl_names_laws.specs.Meanings.{Counts, IsInside}
use Rattle.vhdl_names_laws.proofs.Statics.{some_same, HasMore, more_of, keeps_all, all_more}
use Rattle.vhdl_names_rules.proofs.kept.Keeping.{mapped}
use Rattle.vhdl_names_laws.proofs.Served.{served}
use Rattle.vhdl_names_laws.proofs.Expressions.{typed_fits, static_range_fits}
use Rattle.vhdl_names_laws.proofs.Values.{static_condition_fits}
use Rattle.vhdl_names_laws.proofs.Processes.{IsOutside, process_is, assignment_is, selected_is}
use Rattle.vhdl_names_laws.proofs.Instances.{AreUnits, instance_is}
use Rattle.vhdl_names_rules.proofs.laws.Rules.{comes, kept}

-- ---- generates

-- what is inside a generate of a scheme
abbrev inside_scheme : Inside → t.Scheme → Inside
inside_scheme i (t.for_each n r) = w.within_generate i
inside_scheme i (t.if_holds d) = i

more_generates : (i : Inside) (counts : Counts) → HasMore i (w.within_generate i) counts counts
more_generates i counts =
    more_of i (w.within_generate i) counts (record { generics = omega arith; integers = omega arith; ranges = omega arith; generates = omega arith; loops = omega arith })
    (keeps_all i.constants) (keeps_all i.ports) (keeps_all i.signals) (keeps_all i.variables)

inside_generate : (i : Inside) (counts : Counts) (sight : Sight) (n : Ident) → IsInside i counts sight → IsInside (w.within_generate i) counts (visibility.within_generate sight n)
inside_generate i counts sight n h =
    let same : length sight.generates ≡ i.generates = h.generate_count in
    record {
      loops = all_more i (w.within_generate i) counts counts (more_generates i counts) sight.loops h.loops;
      variables = all_more i (w.within_generate i) counts counts (more_generates i counts) sight.variables h.variables;
      generates = (record { meaning = lt-ltb (length sight.generates) (suc i.generates) (omega (arith, same)); range = tt }, all_more i (w.within_generate i) counts counts (more_generates i counts) sight.generates h.generates);
      region = all_more i (w.within_generate i) counts counts (more_generates i counts) sight.region h.region;
      enclosing = all_more i (w.within_generate i) counts counts (more_generates i counts) sight.enclosing h.enclosing;
      packages = all_more i (w.within_generate i) counts counts (more_generates i counts) sight.packages h.packages;
      loop_count = h.loop_count;
      generate_count = omega (arith, same);
    }

outside_within : (i : Inside) (counts : Counts) (sight : Sight) (scheme : t.Scheme) → IsOutside i counts sight → IsOutside (inside_scheme i scheme) counts (sight_within sight scheme)
outside_within i counts sight (t.for_each n r) h =
    let c = h.counted in
    record {
      inside = inside_generate i counts sight n h.inside;
      counted = record { generics = c.generics; integers = c.integers; ranges = c.ranges; constants = c.constants; ports = c.ports; signals = c.signals; variables = c.variables; enumerations = c.enumerations };
      none_in_sight = h.none_in_sight;
    }
outside_within i counts sight (t.if_holds d) h = h

generated_is : (units : Units) (i : Inside) (counts : Counts) (sight : Sight) (label : Name) (at : ℕ) (scheme : t.Scheme) (body : u.Concurrents) (x : u.Concurrent) → IsInside i counts sight
    → concurrents_fit units (inside_scheme i scheme) body ≡ true → generated sight label at scheme body ≡ Some x → concurrent_fits units i x ≡ true
unfolding concurrent_fits
generated_is units i counts sight label at (t.for_each n r) body x h f q =
    let a = mapped (λ range. u.generate_for at label range body) (static_range sight r) x q in
    subst (λ x. concurrent_fits units i x ≡ true) a.is
    (and_from (range_fits i a.value) (concurrents_fit units (w.within_generate i) body) (static_range_fits i counts sight r a.value (served i counts sight h) a.from) f)
generated_is units i counts sight label at (t.if_holds d) body x h f q =
    let a = mapped (λ test. u.generate_if at label test body) (typed sight d >>= as_static_test) x q in
    let b = comes (typed sight d) as_static_test a.value a.from in
    subst (λ x. concurrent_fits units i x ≡ true) a.is
    (and_from (static_test_fits i a.value) (concurrents_fit units i body) (static_condition_fits i counts b.value a.value (typed_fits d i counts sight b.value (served i counts sight h) b.is) b.rest) f)

-- ---- all statements

-- one, and those behind it
one_and : (units : Units) (entities : List EntityView) (i : Inside) (sight : Sight) (c : t.Concurrent) (cs : t.Concurrents) (xs : u.Concurrents)
    → ((x : u.Concurrent) → concurrent entities sight c ≡ Some x → concurrent_fits units i x ≡ true) → ((xs : u.Concurrents) → concurrents entities sight cs ≡ Some xs → concurrents_fit units i xs ≡ true)
    → (concurrent entities sight c >>= λ x. concurrents entities sight cs >>= λ xs. Some (u.concurrent x xs)) ≡ Some xs → concurrents_fit units i xs ≡ true
unfolding concurrent_fits
one_and units entities i sight c cs xs is are q =
    let a = comes (concurrent entities sight c) _ xs q in
    let b = comes (concurrents entities sight cs) _ xs a.rest in
    subst (λ xs. concurrents_fit units i xs ≡ true) (some_same (u.concurrent a.value b.value) xs b.rest)
    (and_from (concurrent_fits units i a.value) (concurrents_fit units i b.value) (is a.value a.is) (are b.value b.is))

mutual
  unfolding concurrent concurrent_fits

  pub concurrent_is : (c : t.Concurrent) (units : Units) (entities : List EntityView) (i : Inside) (counts : Counts) (sight : Sight) (x : u.Concurrent) → IsConcurrentIn Wide c → AreUnits units entities
      → IsOutside i counts sight → concurrent entities sight c ≡ Some x → concurrent_fits units i x ≡ true
  concurrent_is (t.assignment a) units entities i counts sight x is all h q = assignment_is units i counts sight a x h q
  concurrent_is (t.selected label a) units entities i counts sight x is all h q = selected_is units i counts sight label a x h q
  concurrent_is (t.process label p) units entities i counts sight x is all h q =
      let a = mapped u.process (process sight label p) x q in
      subst (λ x. concurrent_fits units i x ≡ true) a.is (process_is i counts sight label p a.value is h a.from)
  concurrent_is (t.instance label y) units entities i counts sight x is all h q =
      let a = mapped u.instance (instance entities sight label y) x q in
      subst (λ x. concurrent_fits units i x ≡ true) a.is (instance_is units entities i counts sight label y a.value all h.inside a.from)
  concurrent_is (t.generated label at scheme word cs end) units entities i counts sight x is all h q =
      let a = kept (ends label.text end) _ x q in
      let b = kept (are_distinct (concurrent_labels cs)) _ x a.1 in
      let body = comes (concurrents entities (sight_within sight scheme) cs) _ x b.1 in
      generated_is units i counts sight label.text at scheme body.value x h.inside
      (concurrents_are cs units entities (inside_scheme i scheme) counts (sight_within sight scheme) body.value is.1 all (outside_within i counts sight scheme h) body.is) body.rest
  concurrent_is (t.assertion a) units entities i counts sight x is all h q = absurd cc

  pub concurrents_are : (cs : t.Concurrents) (units : Units) (entities : List EntityView) (i : Inside) (counts : Counts) (sight : Sight) (xs : u.Concurrents) → AreConcurrentsIn Wide cs → AreUnits units entities
      → IsOutside i counts sight → concurrents entities sight cs ≡ Some xs → concurrents_fit units i xs ≡ true
  concurrents_are t.no_concurrents units entities i counts sight xs is all h q = subst (λ xs. concurrents_fit units i xs ≡ true) (some_same u.no_concurrents xs q) refl
  concurrents_are (t.concurrent (t.assertion a) cs) units entities i counts sight xs is all h q = concurrents_are cs units entities i counts sight xs is.1 all h q
  concurrents_are (t.concurrent c cs) units entities i counts sight xs is all h q =
      one_and units entities i sight c cs xs (λ x q. concurrent_is c units entities i counts sight x is.0 all h q) (λ xs q. concurrents_are cs units entities i counts sight xs is.1 all h q) q

-- statements one by one
pub each_concurrent : (cs : List t.Concurrent) → IsEach (IsConcurrentIn Wide) cs → AreConcurrentsIn Wide (t.concurrents_of cs)
each_concurrent [] h = tt
each_concurrent (c ∷ cs) h = (h.0, each_concurrent cs h.1)
