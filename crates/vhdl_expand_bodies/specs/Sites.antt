-- What contracts see of a site.
use Rattle.std.specs.Prelude.{◌≡◌, ℕ, ℤ, ◌+◌, ◌^◌, ◌<◌, ◌≤◌, List, ◌++◌, map, take, slice_get, Some}
use Rattle.rtl_model.specs.bodies.Fits.{IsWidth}
use Rattle.vhdl_expand_rules.specs.declared.bounds.Bounds.{Bounds}
use Rattle.vhdl_expand_rules.specs.declared.kind.Run.{Run}
use Rattle.vhdl_expand_rules.specs.Kinds as kinds
use Rattle.vhdl_expand_rules.specs.Kinds.{bounds_size, size}
use Rattle.vhdl_expand_rules.specs.Site as definition
use Rattle.vhdl_expand_rules.specs.Site.{elements_count}
use Rattle.vhdl_expand_rules.specs.views.Integers.{integers_view}
use Rattle.vhdl_expand_rules.specs.views.Kinds.{bounds_view, kind_view}
use Rattle.vhdl_expand_bodies.specs.declared.site.Placed.{Placed}
use Rattle.vhdl_expand_bodies.specs.declared.constant.Constant.{Constant}
use Rattle.vhdl_expand_bodies.specs.declared.site.Site.{Site}

abbrev pub placed_kind : Placed → kinds.ObjectKind
placed_kind p = kind_view p.kind

abbrev pub constant_view : Constant → definition.Constant
constant_view c = record { kind = kind_view c.kind; values = c.values }

abbrev pub site_view : Site → definition.Site
site_view s = record {
  integers = integers_view s.integers;
  constants = map constant_view s.constants.now ++ map constant_view s.own_constants.now;
  ports = map placed_kind s.ports.now;
  signals = map placed_kind s.signals.now;
  variables = map placed_kind s.variables.now;
}

-- this thing, before which so many others stand, begins behind the elements of those, and has from 1 to 64 elements
pub record IsSitePlaced (before : List kinds.ObjectKind) (p : Placed) : Type 0 where
  pub first : p.first ≡ elements_count before
  pub width : IsWidth (size (placed_kind p))

abbrev pub ArePlaced : List Placed → Type 0
ArePlaced ps = (k : ℕ) (p : Placed) → slice_get ps k ≡ Some p → IsSitePlaced (take k (map placed_kind ps)) p

pub record IsSite (s : Site) : Type 0 where
  pub ports : ArePlaced s.ports.now
  pub port_elements : s.port_elements ≡ elements_count (map placed_kind s.ports.now)
  pub signals : ArePlaced s.signals.now
  pub variables : ArePlaced s.variables.now
  -- the numbers of elements fit a word
  pub few_elements : s.port_elements + elements_count (map placed_kind s.signals.now) < 2 ^ 32
  pub few_variables : elements_count (map placed_kind s.variables.now) < 2 ^ 32

-- a run of 1 to 64 elements, whose numbers fit a word
abbrev pub IsShort : Run → Type 0
IsShort r = IsWidth r.len × (r.first < 2 ^ 32)

-- bounds that a vector can have
abbrev pub HasFew : Bounds → Type 0
HasFew b = bounds_size (bounds_view b) ≤ 64

-- within loops whose parameters have these values
abbrev pub with_loops : definition.Site → List ℤ → definition.Site
with_loops at values = record at { integers = record at.integers { loops = values } }
