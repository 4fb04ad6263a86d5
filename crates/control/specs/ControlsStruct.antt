-- What the struct `Controls` stands for, and what each of its methods leaves.
use Rattle.std.specs.Prelude.{ℕ, ◌-◌, ◌≡◌, Bool, true, false, drop, replicate, None}
use Rattle.reading.specs.Numbers.{answer_number}
use Rattle.reading.specs.Controls.{range_list, target_list, no_controls}
use Rattle.reading.specs.Controls as reading
use Rattle.control.specs.declared.state.Controls.{Controls}
use Rattle.control.specs.declared.state.ChangeAnswer.{ChangeAnswer}

-- the controls that a struct holds: as many ranges and targets of its arrays as it counts
unfoldable pub controls_of : Controls → reading.Controls
controls_of c =
    record {
      mode = c.settings.mode;
      ranges = range_list c.ranges c.starts c.ends;
      targets = target_list c.targets c.phases c.positions;
      access = c.settings.access;
      processor = c.settings.processor;
    }

-- the struct with nothing set: both counts are 0, and so is every place of the arrays
unfoldable pub unset : Controls
unset =
    record {
      settings = record { mode = None; access = None; processor = None };
      starts = replicate 256 0;
      ends = replicate 256 0;
      ranges = 0;
      phases = replicate 64 0;
      positions = replicate 64 0;
      targets = 0;
    }

-- new controls: what they are, and what they stand for
pub record New (c : Controls) : Type 0 where
  pub whole : c ≡ unset
  pub meaning : controls_of c ≡ no_controls

-- the arrays of ranges and their count as they were
pub record RangesKept (before after : Controls) : Type 0 where
  pub count : after.ranges ≡ before.ranges
  pub starts : after.starts ≡ before.starts
  pub ends : after.ends ≡ before.ends

-- every place of theirs that is not in use is 0
pub record RestCleared (c : Controls) : Type 0 where
  pub starts : drop c.ranges c.starts ≡ replicate (256 - c.ranges) 0
  pub ends : drop c.ranges c.ends ≡ replicate (256 - c.ranges) 0

-- a change: what the controls then are, and what the places hold that are not in use. Where it adds ranges, the places after them are 0;
-- where it adds none, the arrays of ranges are as found. The places after the targets are as found.
pub record Became (adds : Bool) (before after : Controls) (c : reading.Controls) : Type 0 where
  pub meaning : controls_of after ≡ c
  pub kept : adds ≡ false → RangesKept before after
  pub cleared : adds ≡ true → RestCleared after
  pub phases : drop after.targets after.phases ≡ drop after.targets before.phases
  pub positions : drop after.targets after.positions ≡ drop after.targets before.positions

-- an addition of a range or of a target, with its answer: where that is not 0 the struct is handed back as it was
pub record Added (adds : Bool) (before : Controls) (r : ChangeAnswer) (answer : ℕ) (c : reading.Controls) : Type 0 where
  pub answer-is : answer_number r.answer ≡ answer
  pub became : answer ≡ 0 → Became adds before r.controls c
  pub refused : (answer ≡ 0 → ⊥) → r.controls ≡ before
