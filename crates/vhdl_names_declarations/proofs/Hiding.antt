-- Ports of the wider language: their names mean nothing in their list, and get what they mean behind it.
use Rattle.std.proofs.Common.{◌≡◌, ℕ, suc, ◌+◌, Bool, true, false, cond, List, [], ◌∷◌, ◌++◌, map, length, Option, Some, None, refl, sym, ap, ◌∙◌, append_assoc, append-nil, arith}
use Rattle.std.specs.Prelude.{if◌then◌else◌}
use Rattle.std.proofs.lemmas.List.{length-map, length-append, map-append}
use Rattle.std.proofs.lemmas.List.Sums.{sum_by-cons}
use Rattle.vhdl_lexer.specs.declared.language.Language.TheVariants.{Wide}
use Rattle.vhdl_tree.specs.declared.declaration.Mode.{Mode}
use Rattle.vhdl_tree.specs.declared.operator.Direction.{Direction}
use Rattle.vhdl_tree.specs.Tree as t
use Rattle.vhdl_names_rules.specs.declared.kind.ObjectType.{ObjectType}
use Rattle.vhdl_names_rules.specs.units.Units as u
use Rattle.vhdl_names_rules.specs.units.Units.{Fixed}
use Rattle.vhdl_names_rules.specs.Rules.{◌>>=◌, if_any, is_wide, met}
use Rattle.vhdl_names_rules.specs.Visibility as visibility
use Rattle.vhdl_names_rules.specs.Visibility.{Name, Sight, Declared, Declares, declare, names_of, count_of, ranges_count, with_declared, are_distinct, all_declared}
use Rattle.vhdl_names_rules.specs.Interfaces.{declared_names}
use Rattle.vhdl_names_rules.specs.Subtypes.{Subtype, object_subtype, form_range, form_direction, fixed_value}
use Rattle.vhdl_names_rules.specs.Declarations.{as_port_type, is_global, mode_of, port, without_port, without_ports, unfinished}
use Rattle.vhdl_names_rules.specs.problems.Broken.{◌▸◌}
use Rattle.vhdl_names_rules.specs.problems.Declarations as broken
use Rattle.vhdl_names_rules.specs.problems.Twice.{twice}
use Rattle.vhdl_names_rules.proofs.laws.Rules.{comes, some_is}
use Rattle.vhdl_names_declarations.specs.Entered.{entering}
use Rattle.vhdl_names_declarations.specs.Porting as typed
use Rattle.vhdl_names_declarations.specs.Porting.{Standing, Port}
use Rattle.vhdl_names_declarations.proofs.Portings.{ports_of, hidden_as, hides}
use Rattle.vhdl_names_declarations.proofs.Regions.{names-append, names-all}
use Rattle.vhdl_names_declarations.proofs.Settling.{standing_names, names_next, names_stand}
use Rattle.vhdl_names_declarations.proofs.Turns.{has_more, more_is}

-- ---- ports of one declaration

pub record Group : Type 0 where
  pub mode : Mode
  pub type : ObjectType
  pub direction : Option Direction
  pub is_global : Bool
  pub names : List Name

abbrev pub standing_of : Group → Standing
standing_of g = record { meaning = λ k. visibility.port k g.mode g.type; direction = g.direction; is_global = g.is_global }

-- hidden, and behind declarations
abbrev pub hidden_names : Group → List Declared
hidden_names g = all_declared visibility.unfinished g.names

abbrev pub stood : List Declared → Group → List Declared
stood ds g = standing_names (λ k. visibility.port k g.mode g.type) g.direction g.is_global (count_of visibility.is_port ds) (ranges_count ds) g.names

stood_names : (ds : List Declared) (g : Group) → declared_names (stood ds g) ≡ g.names
stood_names ds g = names_stand (λ k. visibility.port k g.mode g.type) g.direction g.is_global (count_of visibility.is_port ds) (ranges_count ds) g.names

pub stood_size : (ds : List Declared) (g : Group) → length (stood ds g) ≡ length g.names
stood_size ds g = sym (length-map (stood ds g) (λ (d : Declared). d.name)) ∙ ap length (stood_names ds g)

-- ---- several

abbrev pub hidden_all : List Group → List Declared
hidden_all [] = []
hidden_all (g ∷ gs) = hidden_names g ++ hidden_all gs

abbrev pub settled_list : List Declared → List Group → List Declared
settled_list ds [] = ds
settled_list ds (g ∷ gs) = settled_list (ds ++ stood ds g) gs

hidden_last : (gs : List Group) (g : Group) → hidden_all (gs ++ g ∷ []) ≡ hidden_all gs ++ hidden_names g
hidden_last [] g = append-nil (hidden_names g)
hidden_last (h ∷ gs) g = ap (λ l. hidden_names h ++ l) (hidden_last gs g) ∙ sym (append_assoc (hidden_names h) (hidden_all gs) (hidden_names g))

settled_last : (ds : List Declared) (gs : List Group) (g : Group) → settled_list ds (gs ++ g ∷ []) ≡ settled_list ds gs ++ stood (settled_list ds gs) g
settled_last ds [] g = refl
settled_last ds (h ∷ gs) g = settled_last (ds ++ stood ds h) gs g

-- ---- where ports mean nothing

without_standing : (m : Mode) (k : ObjectType) (d : Option Direction) (b : Bool) (number ranges : ℕ) (ns : List Name) →
    map without_port (standing_names (λ n. visibility.port n m k) d b number ranges ns) ≡ all_declared visibility.unfinished ns
without_standing m k d b number ranges [] = go d
  where
    go : (d : Option Direction) → map without_port (standing_names (λ n. visibility.port n m k) d b number ranges []) ≡ []
    go None = refl
    go (Some x) = refl
without_standing m k d b number ranges (n ∷ ns) =
    ap (map without_port) (names_next (λ n. visibility.port n m k) d b number ranges n ns)
    ∙ ap (λ l. declare n visibility.unfinished ∷ l) (without_standing m k d b (suc number) (suc ranges) ns)

names_without : (ds : List Declared) → declared_names (map without_port ds) ≡ declared_names ds
names_without [] = refl
names_without (d ∷ ds) = ap (λ n. n ∷ declared_names (map without_port ds)) (by (visibility.is_port d.meaning)) ∙ ap (λ l. d.name ∷ l) (names_without ds)
  where
    by : (b : Bool) → (if b then declare d.name visibility.unfinished else d).name ≡ d.name
    by true = refl
    by false = refl

pub portless : (ds : List Declared) → count_of visibility.is_port ds ≡ 0 → map without_port ds ≡ ds
portless [] h = refl
portless (d ∷ ds) h = go (portless ds) (visibility.is_port d.meaning) (sym (sum_by-cons (λ (y : Declared). cond (visibility.is_port y.meaning) 1 0) d ds) ∙ h)
  where
    go : (count_of visibility.is_port ds ≡ 0 → map without_port ds ≡ ds) → (b : Bool) → cond b 1 0 + count_of visibility.is_port ds ≡ 0 → (if b then declare d.name visibility.unfinished else d) ∷ map without_port ds ≡ d ∷ ds
    go rest true e = absurd (omega arith)
    go rest false e = ap (λ l. d ∷ l) (rest (omega (arith, e)))

outer_is : (t : Sight) (r : List Declared) → t.language ≡ Wide → map without_port t.region ≡ r → without_ports t ≡ record t { region = r }
outer_is t r h e = ap (λ l. if is_wide l then record t { region = map without_port t.region } else t) h ∙ ap (λ r. record t { region = r }) e

-- ---- what ports of a list declare, by what they are where it means nothing

module _ (s : Sight) (p : t.Port) where
  abbrev declares : Standing → List Name → List u.Port → Declares u.Port
  declares x ns ps = record { declared = standing_names x.meaning x.direction x.is_global (count_of visibility.is_port s.region) (ranges_count s.region) ns; analysed = ps }

  abbrev as_declared : Option Port → Option (Declares u.Port)
  as_declared o = o >>= λ x. Some (declares x.standing (names_of p.names) (ports_of p x))

  abbrev outer : Sight
  outer = without_ports s

  abbrev standing_as : Subtype → ObjectType → Standing
  standing_as x type = record { meaning = λ k. visibility.port k (mode_of p.mode) type; direction = form_direction x.form; is_global = is_global outer p.subtype }

  abbrev typed_as : Subtype → ObjectType → Option Fixed → Port
  typed_as x type default = record { standing = standing_as x type; subtype = x; default = default }

  abbrev declared_as : Subtype → ObjectType → Option Fixed → Declares u.Port
  declared_as x type default = declares (standing_as x type) (names_of p.names) (ports_of p (typed_as x type default))

  port_stands : port s p ≡ as_declared (typed.port outer p)
  unfolding port
  port_stands = first (object_subtype outer p.subtype)
    where
      last : (x : Subtype) (type : ObjectType) (o : Option (Option Fixed)) → (o >>= λ default. Some (declared_as x type default)) ≡ as_declared (o >>= λ default. Some (typed_as x type default))
      last x type None = refl
      last x type (Some default) = refl

      next : (x : Subtype) (o : Option ObjectType) → (o >>= λ type. (if_any (fixed_value outer x.type (form_range x.form)) p.default >>= λ default. Some (declared_as x type default)))
          ≡ as_declared (o >>= λ type. (if_any (fixed_value outer x.type (form_range x.form)) p.default >>= λ default. Some (typed_as x type default)))
      next x None = refl
      next x (Some type) = last x type (if_any (fixed_value outer x.type (form_range x.form)) p.default)

      first : (o : Option Subtype) → (o >>= λ x. (as_port_type x.type >>= λ type. (if_any (fixed_value outer x.type (form_range x.form)) p.default >>= λ default. Some (declared_as x type default))))
          ≡ as_declared (o >>= λ x. (as_port_type x.type >>= λ type. (if_any (fixed_value outer x.type (form_range x.form)) p.default >>= λ default. Some (typed_as x type default))))
      first None = refl
      first (Some x) = next x (as_port_type x.type)

record Shape (p : t.Port) (x : Port) : Type 0 where
  group : Group
  standing : x.standing ≡ standing_of group
  names : group.names ≡ names_of p.names

shape : (s : Sight) (p : t.Port) (x : Port) → typed.port s p ≡ Some x → Shape p x
shape s p x h =
    let a = comes (object_subtype s p.subtype) _ x h in
    let k = comes (as_port_type a.value.type) _ x a.rest in
    let d = comes (if_any (fixed_value s a.value.type (form_range a.value.form)) p.default) _ x k.rest in
    record {
      group = record { mode = mode_of p.mode; type = k.value; direction = form_direction a.value.form; is_global = is_global s p.subtype; names = names_of p.names };
      standing = sym (ap (λ (y : Port). y.standing) (some_is _ x d.rest));
      names = refl;
    }

-- ---- one port after another, as their names are hidden

-- what is in sight once they mean something
abbrev pub after : Sight → List Group → Sight
after s gs = record s { region = settled_list s.region gs }

-- where names of these are hidden
pub record Behind (s inner : Sight) (gs : List Group) : Type 0 where
  pub names : inner.region ≡ s.region ++ hidden_all gs
  pub without : map without_port (settled_list s.region gs) ≡ inner.region
  pub kept : inner ≡ record s { region = inner.region }

pub behind_none : (s : Sight) → count_of visibility.is_port s.region ≡ 0 → Behind s s []
behind_none s h = record { names = sym (append-nil s.region); without = portless s.region h; kept = refl }

-- one more port whose names are hidden
pub record Hidden (s inner inner' : Sight) (gs : List Group) (p : t.Port) (st : Standing) (ps : List u.Port) : Type 0 where
  pub group : Group
  pub standing : st ≡ standing_of group
  pub behind : Behind s inner' (gs ++ group ∷ [])
  pub size : length inner'.region ≡ length inner.region + length group.names
  pub enters : entering port (after s gs) p ≡ Some (after s (gs ++ group ∷ []), ps)

module _ (s inner : Sight) (gs : List Group) (b : Behind s inner gs) (wide : s.language ≡ Wide) (p : t.Port) where
  outer_then : without_ports (after s gs) ≡ inner
  outer_then = outer_is (after s gs) inner.region wide b.without ∙ sym b.kept

  all_names : declared_names (settled_list s.region gs) ≡ declared_names inner.region
  all_names = sym (names_without (settled_list s.region gs)) ∙ ap declared_names b.without

  pub breaks_same : typed.hidden_breaks inner p ≡ broken.port (after s gs) p
  breaks_same =
      ap (λ ns. twice ns p.names ▸ broken.typed_port inner p) (sym all_names)
      ∙ ap (λ o. twice (declared_names (settled_list s.region gs)) p.names ▸ broken.typed_port o p) (sym outer_then)

  -- they stand once where their names do
  same_names : (es : List Declared) → declared_names es ≡ names_of p.names → declared_names (settled_list s.region gs ++ es) ≡ declared_names (inner.region ++ unfinished p.names)
  same_names es is =
      names-append (settled_list s.region gs) es ∙ ap (λ l. l ++ declared_names es) all_names
      ∙ ap (λ l. declared_names inner.region ++ l) (is ∙ sym (names-all visibility.unfinished (names_of p.names)))
      ∙ sym (names-append inner.region (unfinished p.names))

  abbrev entered_as : Standing → List Name → List u.Port → Option (Sight × List u.Port)
  entered_as x ns ps =
      met (are_distinct (declared_names (settled_list s.region gs ++ (declares (after s gs) p x ns ps).declared))) >>= λ _. Some (with_declared (after s gs) (declares (after s gs) p x ns ps).declared, ps)

  abbrev entered_by : Option Port → Option (Sight × List u.Port)
  entered_by o = o >>= λ x. entered_as x.standing (names_of p.names) (ports_of p x)

  entering_is : entering port (after s gs) p ≡ entered_by (typed.port inner p)
  entering_is =
      ap (λ o. o >>= λ x. (met (are_distinct (declared_names (settled_list s.region gs ++ x.declared))) >>= λ _. Some (with_declared (after s gs) x.declared, x.analysed)))
      (port_stands (after s gs) p ∙ ap (λ o. as_declared (after s gs) p (typed.port o p)) outer_then)
      ∙ go (typed.port inner p)
    where
      go : (o : Option Port) → (as_declared (after s gs) p o >>= λ x. (met (are_distinct (declared_names (settled_list s.region gs ++ x.declared))) >>= λ _. Some (with_declared (after s gs) x.declared, x.analysed))) ≡ entered_by o
      go None = refl
      go (Some x) = refl

  pub wide_failed : typed.hidden_port inner p ≡ None → entering port (after s gs) p ≡ None
  wide_failed h = entering_is ∙ go (typed.port inner p) h
    where
      by : (b : Bool) (x : Port) → are_distinct (declared_names (inner.region ++ unfinished p.names)) ≡ b → (met b >>= λ _. Some (hidden_as inner p x)) ≡ None → are_distinct (declared_names (inner.region ++ unfinished p.names)) ≡ false
      by true x e k = absurd cc
      by false x e k = e

      go : (o : Option Port) → (o >>= λ x. (met (are_distinct (declared_names (inner.region ++ unfinished p.names))) >>= λ _. Some (hidden_as inner p x))) ≡ None → entered_by o ≡ None
      go None k = refl
      go (Some x) k =
          let es = (declares (after s gs) p x.standing (names_of p.names) (ports_of p x)).declared in
          ap (λ b. met b >>= λ _. Some (with_declared (after s gs) es, ports_of p x))
          (ap are_distinct (same_names es (names_stand x.standing.meaning x.standing.direction x.standing.is_global (count_of visibility.is_port (settled_list s.region gs)) (ranges_count (settled_list s.region gs)) (names_of p.names)))
          ∙ by (are_distinct (declared_names (inner.region ++ unfinished p.names))) x refl k)

  pub wide_hidden : (inner' : Sight) (st : Standing) (ps : List u.Port) → typed.hidden_port inner p ≡ Some (inner', (st, ps)) → inner' ≡ record inner { region = inner'.region } → Hidden s inner inner' gs p st ps
  wide_hidden inner' st ps h kept =
      let k = hides inner inner' p st ps h in
      let g = shape inner p k.port k.given in
      let grown = more_is inner.region (unfinished p.names) inner'.region k.hidden in
      let es = stood (settled_list s.region gs) g.group in
      let once = ap are_distinct (same_names es (stood_names (settled_list s.region gs) g.group ∙ g.names)) ∙ has_more inner.region (unfinished p.names) inner'.region k.hidden in
      let last = settled_last s.region gs g.group in
      let size : length (unfinished p.names) ≡ length g.group.names = length-map (names_of p.names) (λ n. declare n visibility.unfinished) ∙ sym (ap length g.names) in
      let both = length-append inner.region (unfinished p.names) in
      let all = ap length grown in
      record {
        group = g.group;
        standing = k.standing ∙ g.standing;
        behind = record {
          names = grown ∙ ap (λ l. l ++ unfinished p.names) b.names ∙ append_assoc s.region (hidden_all gs) (unfinished p.names)
              ∙ ap (λ l. s.region ++ l) (ap (λ ns. hidden_all gs ++ all_declared visibility.unfinished ns) (sym g.names) ∙ sym (hidden_last gs g.group));
          without = ap (map without_port) last ∙ map-append without_port (settled_list s.region gs) es ∙ ap (λ l. l ++ map without_port es) b.without
              ∙ ap (λ l. inner.region ++ l) (without_standing g.group.mode g.group.type g.group.direction g.group.is_global (count_of visibility.is_port (settled_list s.region gs)) (ranges_count (settled_list s.region gs)) g.group.names
              ∙ ap (all_declared visibility.unfinished) g.names) ∙ sym grown;
          kept = kept ∙ ap (λ (o : Sight). record o { region = inner'.region }) b.kept;
        };
        size = omega (arith, size, both, all);
        enters =
            entering_is ∙ ap entered_by k.given
            ∙ ap (λ x. entered_as x (names_of p.names) (ports_of p k.port)) g.standing
            ∙ ap (λ ns. entered_as (standing_of g.group) ns (ports_of p k.port)) (sym g.names)
            ∙ ap (λ b. met b >>= λ _. Some (with_declared (after s gs) es, ports_of p k.port)) once
            ∙ ap (λ r. Some (record s { region = r }, ports_of p k.port)) (sym last)
            ∙ ap (λ l. Some (after s (gs ++ g.group ∷ []), l)) (sym k.analysed);
      }
