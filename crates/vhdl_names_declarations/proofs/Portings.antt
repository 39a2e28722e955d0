-- What ports declare, in a list whose ports mean nothing in it in the wider language.
use Rattle.std.proofs.Common.{◌≡◌, ℕ, Bool, true, false, List, ◌++◌, map, length, Option, Some, None, refl, sym, ap, ◌∙◌}
use Rattle.std.specs.Prelude.{if◌then◌else◌}
use Rattle.vhdl_lexer.specs.declared.language.Language.TheVariants.{Profile}
use Rattle.vhdl_tree.specs.Tree as t
use Rattle.vhdl_names_rules.specs.declared.kind.ObjectType.{ObjectType}
use Rattle.vhdl_names_rules.specs.units.Units as u
use Rattle.vhdl_names_rules.specs.units.Units.{Fixed}
use Rattle.vhdl_names_rules.specs.Rules.{◌>>=◌, if_any, is_wide, met}
use Rattle.vhdl_names_rules.specs.Visibility as visibility
use Rattle.vhdl_names_rules.specs.Visibility.{Sight, Declared, Declares, names_of, numbered, ranged, global_if, count_of, ranges_count, with_declared, are_distinct}
use Rattle.vhdl_names_rules.specs.Interfaces.{declared_names}
use Rattle.vhdl_names_rules.specs.Subtypes.{Subtype, object_subtype, form_range, form_direction, fixed_value, object}
use Rattle.vhdl_names_rules.specs.Declarations.{as_port_type, is_global, mode_of, port, without_port, without_ports, unfinished, within, for_each}
use Rattle.vhdl_names_declarations.specs.declared.counts.Counts.{Counts}
use Rattle.vhdl_names_declarations.specs.declared.region.Settled.{Settled}
use Rattle.vhdl_names_declarations.specs.Counts.{AreCounts}
use Rattle.vhdl_names_declarations.specs.Entered.{entering, more}
use Rattle.vhdl_names_declarations.specs.Porting as typed
use Rattle.vhdl_names_declarations.specs.Porting.{Standing, Port, settled_view}
use Rattle.vhdl_names_declarations.specs.Settled.{settled_from}
use Rattle.vhdl_names_declarations.proofs.Turns.{declares_all, enters, refused, settled_whole, has_more, more_is, not_more}

abbrev pub port_standing : Port → Standing
port_standing x = x.standing

abbrev pub ports_of : t.Port → Port → List u.Port
ports_of p x = for_each (λ n. record { mode = mode_of p.mode; object = object x.subtype x.default n }) p.names

module _ (s : Sight) (p : t.Port) (c : Counts) (h : AreCounts c s.region) where
  abbrev outer : Sight
  outer = without_ports s

  abbrev port_names : ℕ → ℕ → Subtype → ObjectType → Option Fixed → Option (Declares u.Port)
  port_names number ranges x type default = Some (record {
    declared = global_if (is_global outer p.subtype) (ranged (form_direction x.form) ranges (numbered (λ k. visibility.port k (mode_of p.mode) type) number (names_of p.names)));
    analysed = for_each (λ n. record { mode = mode_of p.mode; object = object x default n }) p.names;
  })

  abbrev typed_as : Subtype → ObjectType → Option Fixed → Option Port
  typed_as x type default = Some (record {
    standing = record { meaning = λ k. visibility.port k (mode_of p.mode) type; direction = form_direction x.form; is_global = is_global outer p.subtype };
    subtype = x;
    default = default;
  })

  abbrev ports_from : Option Port → Option (Declares u.Port)
  ports_from o = declares_all c (names_of p.names) port_standing (ports_of p) o

  last : (x : Subtype) (type : ObjectType) (o : Option (Option Fixed)) → (o >>= λ default. port_names (count_of visibility.is_port s.region) (ranges_count s.region) x type default) ≡ ports_from (o >>= λ default. typed_as x type default)
  last x type None = refl
  last x type (Some default) =
      ap (λ n. port_names n (ranges_count s.region) x type default) (sym h.ports) ∙ ap (λ r. port_names c.ports r x type default) (sym h.ranges)

  next : (x : Subtype) (o : Option ObjectType) → (o >>= λ type. (if_any (fixed_value outer x.type (form_range x.form)) p.default >>= λ default. port_names (count_of visibility.is_port s.region) (ranges_count s.region) x type default))
      ≡ ports_from (o >>= λ type. (if_any (fixed_value outer x.type (form_range x.form)) p.default >>= λ default. typed_as x type default))
  next x None = refl
  next x (Some type) = last x type (if_any (fixed_value outer x.type (form_range x.form)) p.default)

  first : (o : Option Subtype) → (o >>= λ x. (as_port_type x.type >>= λ type. (if_any (fixed_value outer x.type (form_range x.form)) p.default >>= λ default. port_names (count_of visibility.is_port s.region) (ranges_count s.region) x type default)))
      ≡ ports_from (o >>= λ x. (as_port_type x.type >>= λ type. (if_any (fixed_value outer x.type (form_range x.form)) p.default >>= λ default. typed_as x type default)))
  first None = refl
  first (Some x) = next x (as_port_type x.type)

  pub port_is : entering port s p ≡ (declares_all c (names_of p.names) port_standing (ports_of p) (typed.port outer p) >>= enters (λ s. s.region) with_declared s)
  unfolding port
  port_is = ap (λ o. o >>= enters (λ s. s.region) with_declared s) (first (object_subtype outer p.subtype))

-- ---- the narrow language, whose ports have those before them in sight

pub as_it_is : (s : Sight) → s.language ≡ Profile → without_ports s ≡ s
as_it_is s h = ap (λ l. if is_wide l then record s { region = map without_port s.region } else s) h

abbrev pub hidden_as : Sight → t.Port → Port → Sight × (Standing × List u.Port)
hidden_as s p x = (within s p.names, (x.standing, ports_of p x))

same_parts : (a b : Sight × (Standing × List u.Port)) → Some a ≡ Some b → a ≡ b
same_parts a b h = cc

-- a port whose names are hidden: what it is, and that its names stand once
pub record Hides (s s' : Sight) (p : t.Port) (st : Standing) (ps : List u.Port) : Type 0 where
  pub port : Port
  pub given : typed.port s p ≡ Some port
  pub hidden : more s.region (unfinished p.names) ≡ Some s'.region
  pub standing : st ≡ port.standing
  pub analysed : ps ≡ ports_of p port

pub hides : (s s' : Sight) (p : t.Port) (st : Standing) (ps : List u.Port) → typed.hidden_port s p ≡ Some (s', (st, ps)) → Hides s s' p st ps
hides s s' p st ps h = go (typed.port s p) refl h
  where
    hidden_from : Port → Option (Sight × (Standing × List u.Port))
    hidden_from x = met (are_distinct (declared_names (s.region ++ unfinished p.names))) >>= λ _. Some (hidden_as s p x)

    by : (x : Port) → typed.port s p ≡ Some x → (b : Bool) → are_distinct (declared_names (s.region ++ unfinished p.names)) ≡ b →
        (met b >>= λ _. Some (hidden_as s p x)) ≡ Some (s', (st, ps)) → Hides s s' p st ps
    by x is true e k =
        let whole = same_parts (hidden_as s p x) (s', (st, ps)) k in
        record {
          port = x;
          given = is;
          hidden = ap (λ b. met b >>= λ _. Some (s.region ++ unfinished p.names)) e ∙ ap (λ (y : Sight × (Standing × List u.Port)). Some y.0.region) whole;
          standing = sym (ap (λ (y : Sight × (Standing × List u.Port)). y.1.0) whole);
          analysed = sym (ap (λ (y : Sight × (Standing × List u.Port)). y.1.1) whole);
        }
    by x is false e k = absurd cc

    go : (o : Option Port) → typed.port s p ≡ o → (o >>= hidden_from) ≡ Some (s', (st, ps)) → Hides s s' p st ps
    go None is k = absurd cc
    go (Some x) is k = by x is (are_distinct (declared_names (s.region ++ unfinished p.names))) refl k

-- ports whose names are hidden, by what is known of them
module _ (s : Sight) (p : t.Port) where
  abbrev hidden_by : Option Port → Option (Sight × (Standing × List u.Port))
  hidden_by o = o >>= λ x. (met (are_distinct (declared_names (s.region ++ unfinished p.names))) >>= λ _. Some (hidden_as s p x))

  pub hidden_refused : more s.region (unfinished p.names) ≡ None → typed.hidden_port s p ≡ None
  hidden_refused h = go (typed.port s p)
    where
      go : (o : Option Port) → hidden_by o ≡ None
      go None = refl
      go (Some x) = ap (λ b. met b >>= λ _. Some (hidden_as s p x)) (not_more s.region (unfinished p.names) h)

  pub hidden_unknown : typed.port s p ≡ None → typed.hidden_port s p ≡ None
  hidden_unknown h = ap hidden_by h

  pub hidden_whole : (x : Port) (hid : List Declared) → more s.region (unfinished p.names) ≡ Some hid → typed.port s p ≡ Some x →
      typed.hidden_port s p ≡ Some (record s { region = hid }, (x.standing, ports_of p x))
  hidden_whole x hid h is =
      ap hidden_by is
      ∙ ap (λ b. met b >>= λ _. Some (hidden_as s p x)) (has_more s.region (unfinished p.names) hid h)
      ∙ ap (λ r. Some (record s { region = r }, (x.standing, ports_of p x))) (sym (more_is s.region (unfinished p.names) hid h))

-- ports of the narrow language, once their names have their meaning
pub narrow_settled : (s s' : Sight) (p : t.Port) (c : Counts) (y : Settled) (ps : List u.Port) (first : ℕ) (new : List Declared) → s.language ≡ Profile → AreCounts c s.region →
    typed.hidden_port s p ≡ Some (s', (settled_view y, ps)) → first ≡ length s.region → new ≡ settled_from y c first s'.region → entering port s p ≡ Some (record s { region = new }, ps)
narrow_settled s s' p c y ps place new narrow h is size settles =
    let k = hides s s' p (settled_view y) ps is in
    port_is s p c h
    ∙ settled_whole (λ s. s.region) (λ s r. record s { region = r }) s c (names_of p.names) port_standing (ports_of p) (typed.port (without_ports s) p) k.port y place s'.region new ps
    k.standing size k.hidden (ap (λ o. typed.port o p) (as_it_is s narrow) ∙ k.given) settles (sym k.analysed)

-- and where they aren't given
pub narrow_failed : (s : Sight) (p : t.Port) (c : Counts) → s.language ≡ Profile → AreCounts c s.region → typed.hidden_port s p ≡ None → entering port s p ≡ None
narrow_failed s p c narrow h is =
    port_is s p c h
    ∙ ap (λ (o : Sight). declares_all c (names_of p.names) port_standing (ports_of p) (typed.port o p) >>= enters (λ s. s.region) with_declared s) (as_it_is s narrow)
    ∙ go (typed.port s p) is
  where
    none : (b : Bool) (x : Port) → (met b >>= λ _. Some (hidden_as s p x)) ≡ None → (met b >>= λ _. Some (s.region ++ unfinished p.names)) ≡ None
    none true x k = absurd cc
    none false x k = refl

    go : (o : Option Port) → (o >>= λ x. (met (are_distinct (declared_names (s.region ++ unfinished p.names))) >>= λ _. Some (hidden_as s p x))) ≡ None →
        (declares_all c (names_of p.names) port_standing (ports_of p) o >>= enters (λ s. s.region) with_declared s) ≡ None
    go None k = refl
    go (Some x) k = refused (λ s. s.region) with_declared s c (names_of p.names) port_standing (ports_of p) (none (are_distinct (declared_names (s.region ++ unfinished p.names))) x k) (Some x)

-- only the region changes
pub narrow : (s s' : Sight) → s ≡ record s' { region = s.region } → s'.language ≡ Profile → s.language ≡ Profile
narrow s s' is h = ap (λ (x : Sight). x.language) is ∙ h
