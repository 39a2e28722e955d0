-- What is told of the wider reading.
use Rattle.std.proofs.Common.{◌≡◌, ℕ, ◌&&◌, Bool, true, nat_lt, List, [], Option, Some, None, refl, sym, ap, subst, ◌∙◌}
use Rattle.std.specs.Prelude.{if◌then◌else◌}
use Rattle.byte_streams.specs.Written.{SinkState, Goes}
use Rattle.rtlsim_commands.specs.Wider.{TellsWider, Widens, further_line, is_behind, is_further, stopped_line}
use Rattle.vhdl_source_files.specs.Files.{FileView, Spot, spot_in}
use Rattle.vhdl_front_rules.specs.Asking.{Asked}

-- the wider reading goes on
pub goes_further : (files : List FileView) (first at : ℕ) (begun stopped : Spot) (old new : SinkState) → begun ≡ spot_in files first → stopped ≡ spot_in files at
    → nat_lt first at ≡ true → is_further begun stopped ≡ true → Goes old new (further_line begun stopped) → Goes old new (stopped_line files first at)
goes_further files first at begun stopped old new b s before further goes =
    let line = further_line (spot_in files first) (spot_in files at) in
    let is : is_behind files first at ≡ true = ap (λ (t : Bool). t && is_further (spot_in files first) (spot_in files at)) before ∙ (rw (b, s) at further) in
    subst (λ (t : Bool). Goes old new (if t then line else [])) (sym is) (rw (b, s) at goes)

module _ (files : List FileView) (asked : Asked) where
  -- the first fault is told at a byte
  pub tells_line : (place : Option ℕ) (at : ℕ) (old new : SinkState) → place ≡ Some at → ((line : List ℕ) × Widens files asked at line × Goes old new line)
      → TellsWider true files asked place old new
  tells_line place at old new is h = rw is h

  -- and at none
  pub tells_none : (place : Option ℕ) (old : SinkState) → ((at : ℕ) → place ≡ Some at → ⊥) → TellsWider true files asked place old old
  tells_none None old nowhere = refl
  tells_none (Some at) old nowhere = absurd (nowhere at refl)
