-- The processes that wake on a net, by its group.
use Rattle.std.proofs.Common.{◌≡◌, ◌↔◌, ℕ, ◌+◌, ◌-◌, ◌<◌, ◌≤◌, ◌%◌, ◌==◌, Bool, true, false, List, [], ◌∷◌, ◌++◌, length, map, get_or, set, arith, sym, ap, subst, ◌∙◌, ◌⊎◌, inl, inr, Contains, All}
use Rattle.std.proofs.lemmas.Bool.{cases_eq, cases_lt, eq-eqb, eqb-true}
use Rattle.std.proofs.lemmas.List.{get_or_append_left, get_or-append_right, get_or-map, get_or-set_same, get_or-set_other, get_or_past, length-map}
use Rattle.std.proofs.lemmas.List.Elements.{All-contains}
use Rattle.rtl_net_groups.specs.Groups.{Grouping, AreGroups, AreRuns}
use Rattle.rtl_model.specs.nets.FlatNetlist.{FlatNetlist, flat_sources}
use Rattle.rtl_net.specs.Nets.{source_view}
use Rattle.rtl_net.specs.declared.net.Source as r
use Rattle.rtl_model.proofs.basics.Lists.{Contains-none}
use Rattle.rtl_kernel.specs.drivers.Brought.{AreAloneAlike, AreToldApart, IsAlone, MarkAlone}
use Rattle.rtl_kernel.specs.wakes.Woken.{IsIndex, wakers_of}

module _ (groups : Grouping) where
  pub wakers_at : (n : ℕ) → n < length groups.of_net → get_or (wakers_of groups) n [] ≡ get_or groups.listed (get_or groups.of_net n 0) []
  wakers_at n l = get_or-map (λ (g : ℕ). get_or groups.listed g []) groups.of_net n 0 [] l

  -- groups of the nets that processes wake on are their index
  pub groups_index : (declared : List ℕ) (wakes : List (List ℕ)) → All (λ (nets : List ℕ). All (λ n. n < length declared) nets) wakes → AreGroups declared wakes groups
      → IsIndex wakes (wakers_of groups)
  groups_index declared wakes there G = record {
    all_are_in = λ p n h. into p n h (cases_lt p (length wakes));
    no_other = λ n p h. from n p h (cases_lt n (length groups.of_net));
  }
    where
      into : (p n : ℕ) → Contains (get_or wakes p []) n → (p < length wakes) ⊎ (length wakes ≤ p) → Contains (get_or (wakers_of groups) n []) p
      into p n h (inl l) =
          let below = All-contains (λ m. m < length declared) (get_or wakes p []) n (there p [] l) h in
          rw (wakers_at n (rw (G.each_net) below)) ((G.listed n p below).1 h)
      into p n h (inr l) = absurd (Contains-none n (subst (λ (xs : List ℕ). Contains xs n) (get_or_past wakes p [] l) h))

      from : (n p : ℕ) → Contains (get_or (wakers_of groups) n []) p → (n < length groups.of_net) ⊎ (length groups.of_net ≤ n) → Contains (get_or wakes p []) n
      from n p h (inl l) = (G.listed n p (rw (← G.each_net) l)).0 (rw (wakers_at n l) at h)
      from n p h (inr l) = absurd (Contains-none p (subst (λ (xs : List ℕ). Contains xs p) (get_or_past (wakers_of groups) n [] (rw length-map l)) h))

  -- where the declarations of nets tell those with one source apart, so do the groups
  pub alone_alike : (wiring : FlatNetlist) (declared : List ℕ) (wakes : List (List ℕ)) → AreGroups declared wakes groups → AreToldApart wiring declared → AreAloneAlike wiring groups.of_net
  alone_alike wiring declared wakes G T m n l k same alone =
      let m' = rw (G.each_net) at l in
      let n' = rw (G.each_net) at k in
      let alike = (G.alike m n m' n' same).one_declaration in
      (T n n').1 (ap (λ (d : ℕ). d % 2) (sym alike) ∙ (T m m').0 alone)

-- one net more that is told apart
pub told_more : (wiring : FlatNetlist) (numbers : List ℕ) (each x : ℕ) (sources : List r.Source) (b : Bool) → each < length numbers → map source_view sources ≡ flat_sources wiring each
    → b ≡ (length sources == 1) → (b ≡ true) ↔ (x % 2 ≡ 1) → ((n : ℕ) → n < each → IsAlone wiring n ↔ (get_or numbers n 0 % 2 ≡ 1))
    → (n : ℕ) → n < each + 1 → IsAlone wiring n ↔ (get_or (set numbers each x) n 0 % 2 ≡ 1)
told_more wiring numbers each x sources b there are test odd before n l = by (cases_eq n each)
  where
    many : length sources ≡ length (flat_sources wiring each)
    many = sym (length-map sources source_view) ∙ ap length are

    here : IsAlone wiring each ↔ (get_or (set numbers each x) each 0 % 2 ≡ 1)
    here =
        let is = get_or-set_same numbers each x 0 there in
        (λ alone. ap (λ (m : ℕ). m % 2) is ∙ odd.0 (test ∙ eq-eqb (length sources) 1 (many ∙ alone)), λ h. sym many ∙ eqb-true (length sources) 1 (sym test ∙ odd.1 (sym (ap (λ (m : ℕ). m % 2) is) ∙ h)))

    by : (n ≡ each) ⊎ (n ≡ each → ⊥) → IsAlone wiring n ↔ (get_or (set numbers each x) n 0 % 2 ≡ 1)
    by (inl e) = rw e here
    by (inr other) = rw (get_or-set_other numbers each n x 0 other) (before n (omega (arith, l, other)))

-- one group more of which it is told whether its nets are alone
pub alone_more : (wiring : FlatNetlist) (first : List ℕ) (marks : List Bool) (group count : ℕ) (sources : List r.Source) → length marks ≡ group
    → map source_view sources ≡ flat_sources wiring (get_or first group 0) → count ≡ length sources
    → ((g : ℕ) → g < group → get_or marks g false ≡ true → IsAlone wiring (get_or first g 0))
    → (g : ℕ) → g < group + 1 → get_or (marks ++ (count == 1) ∷ []) g false ≡ true → IsAlone wiring (get_or first g 0)
alone_more wiring first marks group count sources many are is before g l told = by (cases_lt g group)
  where
    by : (g < group) ⊎ (group ≤ g) → IsAlone wiring (get_or first g 0)
    by (inl less) = before g less (sym (get_or_append_left marks ((count == 1) ∷ []) false g (omega (arith, less, many))) ∙ told)
    by (inr from) =
        let same : g ≡ group = omega arith in
        let none : group - group ≡ 0 = omega arith in
        let last : get_or (marks ++ (count == 1) ∷ []) group false ≡ (count == 1) =
        get_or-append_right marks ((count == 1) ∷ []) group group false many (omega arith) ∙ ap (λ (m : ℕ). get_or ((count == 1) ∷ []) m false) none in
        let one = eqb-true count 1 (sym last ∙ ap (λ (n : ℕ). get_or (marks ++ (count == 1) ∷ []) n false) (sym same) ∙ told) in
        let long : length (flat_sources wiring (get_or first group 0)) ≡ 1 = ap length (sym are) ∙ length-map sources source_view ∙ sym is ∙ one in
        rw same long

-- where all groups are told, each net is told by its group
pub marks_alone : (wiring : FlatNetlist) (groups : Grouping) (marks : List Bool) → AreRuns groups.of_net groups.first → length groups.listed ≡ length groups.first
    → AreAloneAlike wiring groups.of_net → length marks ≡ length groups.listed
    → ((g : ℕ) → g < length groups.listed → get_or marks g false ≡ true → IsAlone wiring (get_or groups.first g 0)) → MarkAlone wiring groups marks
marks_alone wiring groups marks R each_group alike many each = record {
  each_group = many;
  there = λ n l. rw each_group (R.there n l);
  alone = λ n l told.
      (let group = get_or groups.of_net n 0 in
      let within = R.there n l in
      let B = R.begins group within in
      alike (get_or groups.first group 0) n B.0 l B.1 (each group (rw each_group within) told));
}
