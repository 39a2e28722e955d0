use Rattle.std.proofs.Common.{◌≡◌, ◌<◌, ℕ, Bool, true, false, not, refl, List, length, map, ap, sym, subst, ◌∙◌, rules}
use Rattle.std.specs.Prelude.{All}
use Rattle.rtl_stim_lines.specs.declared.inputs.Element.{Element as KeptElement}
use Rattle.rtl_stim_lines.specs.Inputs.{input_at}
use Rattle.rtl_stim_lines.specs.Times.{nets_of}
use Rattle.rtl_stim.specs.Stimuli.{StimulusView}
use Rattle.rtl_stim.specs.Kept.{stimulus_view}
use Rattle.rtl_stim.specs.Quiet.{IsNoClock}
use Rattle.rtl_stim.proofs.Places.{nets_seen}
use Rattle.rtl_stim.proofs.stimulus.Stimulus.is_data.Goals as goal

off : (b : Bool) → not b ≡ false → b ≡ true
off true h = refl
off false h = sym h

pub returns : goal.returns
returns c =
    let v = c.args.self.now in
    let s = stimulus_view c.self.inside in
    let view : v ≡ s = search rules in
    let within : c.args.place < length s.inputs = subst (λ (w : StimulusView). c.args.place < length w.inputs) view c.requires.there in
    let seen : nets_of (input_at v.inputs c.args.place) ≡ map (λ (e : KeptElement). e.net) c.elements_at.result.now =
    ap (λ (w : StimulusView). nets_of (input_at w.inputs c.args.place)) view ∙ nets_seen s.inputs c.args.place within c.elements_at.result.now c.elements_at.ensures in
    λ no. subst (λ (ns : List ℕ). All (λ n. IsNoClock c.args.clocks.now n → ⊥) ns) (sym seen) (c.are_clocks.ensures (off c.are_clocks.result no))
