-- What contracts see of the constants and ranges that are declared.
use Rattle.std.specs.Prelude.{ℕ, List, [], ◌++◌, map, replicate, flat_map, Option, option_map, unwrap_or, ℤ}
use Rattle.vhdl_tree.specs.declared.expression.Identifier.{Identifier}
use Rattle.vhdl_names_rules.specs.units.Expressions.{Static}
use Rattle.vhdl_names_rules.specs.units.Units as u
use Rattle.vhdl_expand_rules.specs.Integers.{IntegerRange}
use Rattle.vhdl_expand_rules.specs.Kinds.{ranges_of}
use Rattle.vhdl_expand_rules.specs.Site.{Constant, Site}
use Rattle.vhdl_expand_rules.specs.views.Integers.{range_view, if_any}
use Rattle.vhdl_expand_bodies.specs.Sites.{constant_view}
use Rattle.vhdl_expand_declarations.specs.declared.region.Region as code
use Rattle.vhdl_expand_declarations.specs.declared.region.Entered.{Entered}
use Rattle.vhdl_expand_declarations.specs.declared.region.Entered.TheVariants as e

pub record Region : Type 0 where
  pub integers : List ℤ
  pub constants : List Constant
  pub ranges : List IntegerRange

abbrev pub region_view : code.Region → Region
region_view r = record {
  integers = r.integers.items;
  constants = map constant_view r.constants.items;
  ranges = map range_view r.ranges.items;
}

abbrev pub no_region : Region
no_region = record { integers = []; constants = []; ranges = [] }

-- what is known at a site
abbrev pub region_at : Site → Region
region_at here = record {
  integers = here.integers.constants;
  constants = here.constants;
  ranges = here.integers.ranges;
}

-- a site where these are declared
abbrev pub with_region : Site → Region → Site
with_region here r = record here {
  integers = record here.integers { constants = r.integers; ranges = r.ranges };
  constants = r.constants;
}

-- in a process of an instance that stands there, where the process declares these
abbrev pub with_own : Site → Region → Site
with_own here r = record here {
  integers = record here.integers {
    constants = here.integers.constants ++ r.integers;
    ranges = here.integers.ranges ++ r.ranges;
  };
  constants = here.constants ++ r.constants;
}

abbrev pub ranges_behind : Region → List IntegerRange → Region
ranges_behind r rs = record r { ranges = r.ranges ++ rs }

-- so many constants, each with its range
abbrev pub constants_behind : Region → List Constant → Region
constants_behind r cs = record r {
  constants = r.constants ++ cs;
  ranges = r.ranges ++ flat_map (λ (c : Constant). ranges_of c.kind) cs;
}

-- behind these what is computed of a declaration
abbrev pub entered : Region → Entered → Region
entered r e.Nothing = r
entered r (e.Integers x count) = record r { integers = r.integers ++ replicate count x }
entered r (e.Constants c count) = constants_behind r (replicate count (constant_view c))
entered r (e.Range range) = ranges_behind r (if_any (option_map range_view range))

abbrev pub entered_at : Site → Entered → Site
entered_at here made = with_region here (entered (region_at here) made)

-- integer constants of these names, of which what is wrong is told at this byte, or at the names
abbrev pub integers_of : List Identifier → Option ℕ → u.IntegerSubtype → Static → List u.Declaration
integers_of names told_at type s =
    map (λ (i : Identifier). u.Declaration.integer (unwrap_or told_at i.at) type s) names
