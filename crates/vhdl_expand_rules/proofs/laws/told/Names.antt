-- The names that a body assigns or reads have bytes of the body, or 0, and what is refused of them is told there.
use Rattle.std.proofs.Common.{Bool, true, false, cond, List, [], ◌∷◌, ◌++◌, All}
use Rattle.std.specs.Prelude.{flat_map}
use Rattle.std.proofs.lemmas.List.Elements.{All-cons, All-nil, All-head, All-tail, All-append}
use Rattle.vhdl_names_rules.specs.units.Expressions as e
use Rattle.vhdl_names_rules.specs.units.Expressions.{Signal, SignalPart, Computed, Chosen, Vector, Elements, Value, Test}
use Rattle.vhdl_names_rules.specs.units.Statements as s
use Rattle.vhdl_names_rules.specs.units.Bytes.{if_any_bytes, static_bytes, range_bytes, part_bytes, place_bytes, index_bytes, computed_bytes, chosen_bytes, vector_bytes, elements_bytes, value_bytes, test_bytes, given_bytes, choice_bytes, statement_bytes, statements_bytes, branches_bytes, alternatives_bytes}
use Rattle.vhdl_expand_rules.specs.Elab.{Told, each}
use Rattle.vhdl_expand_rules.specs.Site.{Site, place_elements}
use Rattle.vhdl_expand_rules.specs.declared.prefix.Sought.{Sought}
use Rattle.vhdl_expand_rules.specs.declared.prefix.Sought.TheVariants.{Read, Assigned}
use Rattle.vhdl_expand_rules.specs.Prefixes.{is_static_part, prefix, whole_of, computed_names, chosen_names, vector_names, elements_names, value_names, test_names, given_names, read_ones, assignment_names, chosen_assignment_names, statement_names, body_names, branches_names, alternatives_names, names_elements, prefixes_elements}
use Rattle.vhdl_expand_rules.proofs.Tells.{Tells, At, tells_none, tells_then, tells_each}
use Rattle.vhdl_expand_rules.proofs.laws.Targets.{all_left, all_right}
use Rattle.vhdl_expand_rules.proofs.laws.told.Static.{place_tells}

module _ (P : Told → Type 0) where
  -- the bytes of a name are such
  abbrev pub Stands : SignalPart → Type 0
  Stands p = All (At P) (place_bytes p)

  one-name : (p : SignalPart) → Stands p → All Stands (p ∷ [])
  one-name p h = All-cons Stands p [] h (All-nil Stands)

  -- ---- a signal of which a run chooses, or of an enumeration, has no byte, and is looked up at 0

  module _ (zero-stands : At P 0) where
    whole-stands : (x : Signal) → All Stands (whole_of x ∷ [])
    whole-stands x = one-name (whole_of x) (All-cons (At P) 0 [] zero-stands (All-nil (At P)))

    mutual
      computed-names : (c : Computed) → All (At P) (computed_bytes c) → All Stands (computed_names c)
      computed-names (e.static s) k = All-nil Stands
      computed-names (e.number_of at v) k = vector-names v (All-tail (At P) at (vector_bytes v) k)
      computed-names (e.signal_number x) k = whole-stands x
      computed-names (e.variable_number n) k = All-nil Stands
      computed-names (e.Computed.negated at c) k = computed-names c (All-tail (At P) at (computed_bytes c) k)
      computed-names (e.magnitude at c) k = computed-names c (All-tail (At P) at (computed_bytes c) k)
      computed-names (e.calculated at op c d) k =
          let rest : All (At P) (computed_bytes c ++ computed_bytes d) = All-tail (At P) at (computed_bytes c ++ computed_bytes d) k in
          All-append Stands (computed_names c) (computed_names d) (computed-names c (all_left (At P) (computed_bytes c) (computed_bytes d) rest))
          (computed-names d (all_right (At P) (computed_bytes c) (computed_bytes d) rest))

      chosen-names : (c : Chosen) → All (At P) (chosen_bytes c) → All Stands (chosen_names c)
      chosen-names (e.element_at c) k = computed-names c k
      chosen-names (e.slice_at c direction d) k =
          All-append Stands (computed_names c) (computed_names d) (computed-names c (all_left (At P) (computed_bytes c) (computed_bytes d) k))
          (computed-names d (all_right (At P) (computed_bytes c) (computed_bytes d) k))

      vector-names : (v : Vector) → All (At P) (vector_bytes v) → All Stands (vector_names v)
      vector-names (e.of_signal p) k = one-name p k
      vector-names (e.Vector.inverse v) k = vector-names v k
      vector-names (e.Vector.binary at op v w) k =
          let rest : All (At P) (vector_bytes v ++ vector_bytes w) = All-tail (At P) at (vector_bytes v ++ vector_bytes w) k in
          All-append Stands (vector_names v) (vector_names w) (vector-names v (all_left (At P) (vector_bytes v) (vector_bytes w) rest)) (vector-names w (all_right (At P) (vector_bytes v) (vector_bytes w) rest))
      vector-names (e.with_integer at op v n) k = vector-names v (all_left (At P) (vector_bytes v) (static_bytes n) (All-tail (At P) at (vector_bytes v ++ static_bytes n) k))
      vector-names (e.integer_with at op n v) k = vector-names v (all_right (At P) (static_bytes n) (vector_bytes v) (All-tail (At P) at (static_bytes n ++ vector_bytes v) k))
      vector-names (e.in_signal at x c) k =
          All-append Stands (whole_of x ∷ []) (chosen_names c) (whole-stands x) (chosen-names c (All-tail (At P) at (chosen_bytes c) k))
      vector-names (e.in_variable at n c) k = chosen-names c (All-tail (At P) at (chosen_bytes c) k)
      vector-names (e.in_constant at n c) k = chosen-names c (All-tail (At P) at (chosen_bytes c) k)
      vector-names (e.with_computed at op v n) k =
          let rest : All (At P) (vector_bytes v ++ computed_bytes n) = All-tail (At P) at (vector_bytes v ++ computed_bytes n) k in
          All-append Stands (vector_names v) (computed_names n) (vector-names v (all_left (At P) (vector_bytes v) (computed_bytes n) rest))
          (computed-names n (all_right (At P) (vector_bytes v) (computed_bytes n) rest))
      vector-names (e.computed_with at op n v) k =
          let rest : All (At P) (computed_bytes n ++ vector_bytes v) = All-tail (At P) at (computed_bytes n ++ vector_bytes v) k in
          All-append Stands (computed_names n) (vector_names v) (computed-names n (all_left (At P) (computed_bytes n) (vector_bytes v) rest))
          (vector-names v (all_right (At P) (computed_bytes n) (vector_bytes v) rest))
      vector-names (e.computed_encoded at n size) k = computed-names n (all_left (At P) (computed_bytes n) (static_bytes size) (All-tail (At P) at (computed_bytes n ++ static_bytes size) k))
      vector-names (e.shifted at by v n) k =
          let rest : All (At P) (vector_bytes v ++ computed_bytes n) = All-tail (At P) at (vector_bytes v ++ computed_bytes n) k in
          All-append Stands (vector_names v) (computed_names n) (vector-names v (all_left (At P) (vector_bytes v) (computed_bytes n) rest))
          (computed-names n (all_right (At P) (vector_bytes v) (computed_bytes n) rest))
      vector-names (e.counted at op v n) k = vector-names v (all_left (At P) (vector_bytes v) (static_bytes n) (All-tail (At P) at (vector_bytes v ++ static_bytes n) k))
      vector-names (e.aggregate at r es) k =
          elements-names es (all_right (At P) (if_any_bytes range_bytes r) (elements_bytes es) (All-tail (At P) at (if_any_bytes range_bytes r ++ elements_bytes es) k))
      vector-names (e.sized at r v) k = vector-names v (all_right (At P) (range_bytes r) (vector_bytes v) (All-tail (At P) at (range_bytes r ++ vector_bytes v) k))
      vector-names _ k = All-nil Stands

      elements-names : (es : Elements) → All (At P) (elements_bytes es) → All Stands (elements_names es)
      elements-names e.no_elements k = All-nil Stands
      elements-names (e.next v es) k =
          All-append Stands (vector_names v) (elements_names es) (vector-names v (all_left (At P) (vector_bytes v) (elements_bytes es) k))
          (elements-names es (all_right (At P) (vector_bytes v) (elements_bytes es) k))
      elements-names (e.chosen cs v es) k =
          let rest : All (At P) (vector_bytes v ++ elements_bytes es) = all_right (At P) (flat_map index_bytes cs) (vector_bytes v ++ elements_bytes es) k in
          All-append Stands (vector_names v) (elements_names es) (vector-names v (all_left (At P) (vector_bytes v) (elements_bytes es) rest))
          (elements-names es (all_right (At P) (vector_bytes v) (elements_bytes es) rest))
      elements-names (e.Elements.others v) k = vector-names v k

    value-names : (v : Value) → All (At P) (value_bytes v) → All Stands (value_names v)
    value-names (e.Value.elements v) k = vector-names v k
    value-names (e.state_of x) k = whole-stands x
    value-names (e.Value.computed c) k = computed-names c k
    value-names _ k = All-nil Stands

    two-values : (v w : Value) → All (At P) (value_bytes v ++ value_bytes w) → All Stands (value_names v ++ value_names w)
    two-values v w k =
        All-append Stands (value_names v) (value_names w) (value-names v (all_left (At P) (value_bytes v) (value_bytes w) k)) (value-names w (all_right (At P) (value_bytes v) (value_bytes w) k))

    test-names : (t : Test) → All (At P) (test_bytes t) → All Stands (test_names t)
    test-names (e.holds v) k = vector-names v k
    test-names (e.Test.fixed t) k = All-nil Stands
    test-names (e.alike at v w) k = two-values v w (All-tail (At P) at (value_bytes v ++ value_bytes w) k)
    test-names (e.unlike at v w) k = two-values v w (All-tail (At P) at (value_bytes v ++ value_bytes w) k)
    test-names (e.Test.compared at op v w) k =
        let rest : All (At P) (vector_bytes v ++ vector_bytes w) = All-tail (At P) at (vector_bytes v ++ vector_bytes w) k in
        All-append Stands (vector_names v) (vector_names w) (vector-names v (all_left (At P) (vector_bytes v) (vector_bytes w) rest)) (vector-names w (all_right (At P) (vector_bytes v) (vector_bytes w) rest))
    test-names (e.compared_to at op v n) k = vector-names v (all_left (At P) (vector_bytes v) (static_bytes n) (All-tail (At P) at (vector_bytes v ++ static_bytes n) k))
    test-names (e.compared_with at op n v) k = vector-names v (all_right (At P) (static_bytes n) (vector_bytes v) (All-tail (At P) at (static_bytes n ++ vector_bytes v) k))
    test-names (e.compared_to_computed at op v n) k =
        let rest : All (At P) (vector_bytes v ++ computed_bytes n) = All-tail (At P) at (vector_bytes v ++ computed_bytes n) k in
        All-append Stands (vector_names v) (computed_names n) (vector-names v (all_left (At P) (vector_bytes v) (computed_bytes n) rest))
        (computed-names n (all_right (At P) (vector_bytes v) (computed_bytes n) rest))
    test-names (e.compared_with_computed at op n v) k =
        let rest : All (At P) (computed_bytes n ++ vector_bytes v) = All-tail (At P) at (computed_bytes n ++ vector_bytes v) k in
        All-append Stands (computed_names n) (vector_names v) (computed-names n (all_left (At P) (computed_bytes n) (vector_bytes v) rest))
        (vector-names v (all_right (At P) (computed_bytes n) (vector_bytes v) rest))
    test-names (e.computed_compared at op n m) k =
        let rest : All (At P) (computed_bytes n ++ computed_bytes m) = All-tail (At P) at (computed_bytes n ++ computed_bytes m) k in
        All-append Stands (computed_names n) (computed_names m) (computed-names n (all_left (At P) (computed_bytes n) (computed_bytes m) rest))
        (computed-names m (all_right (At P) (computed_bytes n) (computed_bytes m) rest))
    test-names (e.edge kind p) k = one-name p k
    test-names (e.event p) k = one-name p k
    test-names (e.Test.negated t) k = test-names t k
    test-names (e.Test.both op t r) k =
        All-append Stands (test_names t) (test_names r) (test-names t (all_left (At P) (test_bytes t) (test_bytes r) k)) (test-names r (all_right (At P) (test_bytes t) (test_bytes r) k))

    given-names : (g : s.Given) → All (At P) (given_bytes g) → All Stands (given_names g)
    given-names (s.single v) k = value-names v k
    given-names (s.filled v) k = vector-names v k

    read-ones : (sought : Sought) (ps : List SignalPart) → All Stands ps → All Stands (read_ones sought ps)
    read-ones Read ps h = h
    read-ones Assigned ps h = All-nil Stands

    assignment-names : (sought : Sought) (p : SignalPart) (g : s.Given) → All (At P) (place_bytes p ++ given_bytes g) → All Stands (assignment_names sought p g)
    assignment-names Read p g k = given-names g (all_right (At P) (place_bytes p) (given_bytes g) k)
    assignment-names Assigned p g k = one-name p (all_left (At P) (place_bytes p) (given_bytes g) k)

    chosen-given : (c : Chosen) (g : s.Given) → All (At P) (chosen_bytes c ++ given_bytes g) → All Stands (chosen_names c ++ given_names g)
    chosen-given c g k =
        All-append Stands (chosen_names c) (given_names g) (chosen-names c (all_left (At P) (chosen_bytes c) (given_bytes g) k))
        (given-names g (all_right (At P) (chosen_bytes c) (given_bytes g) k))

    chosen-assignment : (sought : Sought) (x : Signal) (c : Chosen) (g : s.Given) → All (At P) (chosen_bytes c ++ given_bytes g) → All Stands (chosen_assignment_names sought x c g)
    chosen-assignment Read x c g k = chosen-given c g k
    chosen-assignment Assigned x c g k = whole-stands x

    module _ (sought : Sought) where
      mutual
        statement-names : (y : s.Statement) → All (At P) (statement_bytes y) → All Stands (statement_names sought y)
        statement-names s.null_of k = All-nil Stands
        statement-names (s.assign p g) k = assignment-names sought p g k
        statement-names (s.set at n part g) k =
            read-ones sought (given_names g) (given-names g (all_right (At P) (part_bytes part) (given_bytes g) (All-tail (At P) at (part_bytes part ++ given_bytes g) k)))
        statement-names (s.assign_in at x c g) k = chosen-assignment sought x c g (All-tail (At P) at (chosen_bytes c ++ given_bytes g) k)
        statement-names (s.set_in at n c g) k =
            read-ones sought (chosen_names c ++ given_names g) (chosen-given c g (All-tail (At P) at (chosen_bytes c ++ given_bytes g) k))
        statement-names (s.if_of at bs) k = branches-names bs (All-tail (At P) at (branches_bytes bs) k)
        statement-names (s.case_of at v alts) k =
            let rest : All (At P) (value_bytes v ++ alternatives_bytes alts) = All-tail (At P) at (value_bytes v ++ alternatives_bytes alts) k in
            All-append Stands (read_ones sought (value_names v)) (alternatives_names sought alts)
            (read-ones sought (value_names v) (value-names v (all_left (At P) (value_bytes v) (alternatives_bytes alts) rest)))
            (alternatives-names alts (all_right (At P) (value_bytes v) (alternatives_bytes alts) rest))
        statement-names (s.for_of at r body) k = names_stand body (all_right (At P) (range_bytes r) (statements_bytes body) (All-tail (At P) at (range_bytes r ++ statements_bytes body) k))

        pub names_stand : (ys : s.Statements) → All (At P) (statements_bytes ys) → All Stands (body_names sought ys)
        names_stand s.done k = All-nil Stands
        names_stand (s.step y ys) k =
            All-append Stands (statement_names sought y) (body_names sought ys)
            (statement-names y (all_left (At P) (statement_bytes y) (statements_bytes ys) k)) (names_stand ys (all_right (At P) (statement_bytes y) (statements_bytes ys) k))

        branches-names : (bs : s.Branches) → All (At P) (branches_bytes bs) → All Stands (branches_names sought bs)
        branches-names s.no_else k = All-nil Stands
        branches-names (s.otherwise ys) k = names_stand ys k
        branches-names (s.branch t ys bs) k =
            let rest : All (At P) (statements_bytes ys ++ branches_bytes bs) = all_right (At P) (test_bytes t) (statements_bytes ys ++ branches_bytes bs) k in
            All-append Stands (read_ones sought (test_names t)) (body_names sought ys ++ branches_names sought bs)
            (read-ones sought (test_names t) (test-names t (all_left (At P) (test_bytes t) (statements_bytes ys ++ branches_bytes bs) k)))
            (All-append Stands (body_names sought ys) (branches_names sought bs) (names_stand ys (all_left (At P) (statements_bytes ys) (branches_bytes bs) rest))
            (branches-names bs (all_right (At P) (statements_bytes ys) (branches_bytes bs) rest)))

        alternatives-names : (alts : s.Alternatives) → All (At P) (alternatives_bytes alts) → All Stands (alternatives_names sought alts)
        alternatives-names (s.others ys) k = names_stand ys k
        alternatives-names (s.complete cs ys) k = names_stand ys (all_right (At P) (flat_map choice_bytes cs) (statements_bytes ys) k)
        alternatives-names (s.alternative cs ys alts) k =
            let rest : All (At P) (statements_bytes ys ++ alternatives_bytes alts) = all_right (At P) (flat_map choice_bytes cs) (statements_bytes ys ++ alternatives_bytes alts) k in
            All-append Stands (body_names sought ys) (alternatives_names sought alts) (names_stand ys (all_left (At P) (statements_bytes ys) (alternatives_bytes alts) rest))
            (alternatives-names alts (all_right (At P) (statements_bytes ys) (alternatives_bytes alts) rest))

  -- ---- their elements

  prefix-stands : (p : SignalPart) → Stands p → Stands (prefix p)
  prefix-stands p h = by (is_static_part p.part)
    where
      by : (t : Bool) → Stands (cond t p (record p { part = e.whole }))
      by true = h
      by false = All-cons (At P) p.at [] (All-head (At P) p.at (part_bytes p.part) h) (All-nil (At P))

  pub names_tell : (here : Site) (ps : List SignalPart) → All Stands ps → Tells P (names_elements here ps)
  unfolding names_elements
  names_tell here ps h = tells_then P (each (place_elements here) ps) _ (tells_each P Stands (place_elements here) ps (λ p k. place_tells P here p k) h) (λ es. tells_none P _)

  pub prefixes_tell : (here : Site) (ps : List SignalPart) → All Stands ps → Tells P (prefixes_elements here ps)
  unfolding prefixes_elements
  prefixes_tell here ps h =
      tells_then P (each (λ p. place_elements here (prefix p)) ps) _
      (tells_each P Stands (λ p. place_elements here (prefix p)) ps (λ p k. place_tells P here (prefix p) (prefix-stands p k)) h) (λ es. tells_none P _)
