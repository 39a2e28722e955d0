-- How a stimulus is kept.
use Rattle.std.specs.Prelude.{◌≡◌, ◌<◌, ◌≤◌, ℕ, List, AllPairs, map}
use Rattle.vhdl_values.specs.declared.scalar.Nine.{Nine}
use Rattle.rtl_stim_lines.specs.Inputs.{Element}
use Rattle.rtl_stim_lines.specs.Courses.{Course, course_value}
use Rattle.rtl_stim_lines.specs.Reading.{latest_time}
use Rattle.rtl_stim_lines.specs.Times.{all_nets}
use Rattle.rtl_stim_lines.specs.View.{inputs_view, schedule_view}
use Rattle.rtl_stim.specs.declared.stimulus.Stimulus.TheInside.{Inside}
use Rattle.rtl_stim.specs.Numbered.{numbered}
use Rattle.rtl_stim.specs.Stimuli.{StimulusView, initial_values}
use Rattle.rtl_stim.specs.Moments.{IsStimulus}
use Rattle.rtl_stim.specs.Pushes.{first_net}

abbrev pub stimulus_view : Inside → StimulusView
stimulus_view s = record { inputs = inputs_view s.inputs; schedule = schedule_view s.schedule }

-- the values at a time of these elements of an input with this course, from the left
abbrev pub element_values : Course → (t : ℕ) → List Element → List Nine
element_values course t elements = numbered (λ place element. course_value course place element.start t) 0 elements

pub record IsKept (s : Inside) : Type 0 where
  pub stimulus : IsStimulus (stimulus_view s)
  pub initial : s.initial.items ≡ initial_values (stimulus_view s)
  pub in_time : s.schedule.stop ≤ latest_time
  pub firsts : s.firsts.items ≡ map first_net (inputs_view s.inputs)
  pub rising : AllPairs (λ n m. n < m) (all_nets (inputs_view s.inputs))
