-- Request A.6 at its smallest telling inputs: the merged form of ranges, adding to it, and what is answered. One table.
use Rattle.std.specs.Prelude.{ℕ, ◌≡◌, refl, List, [], ◌∷◌, ◌++◌, Bool, true, false, length, replicate, eqb, Some}
use Rattle.reading.specs.declared.RuleEngineMode.{RuleEngineMode}
use Rattle.reading.specs.declared.BodyAccess.{BodyAccess}
use Rattle.reading.specs.declared.BodyProcessor.{BodyProcessor}
use Rattle.reading.specs.declared.RuleIdRange.{RuleIdRange}
use Rattle.reading.specs.Numbers.{mode_number, access_number, processor_setting_number}
use Rattle.reading.specs.Text.{largest, same}
use Rattle.reading.specs.Ranges.{is_merged, add_range, add_ranges}
use Rattle.reading.specs.Controls.{Controls, is_removed, bad_controls, ask_mode, ask_removed, ask_target_count, ask_target, ask_access, ask_processor, add_range_answer, add_target_answer, with_range, with_target}
use Rattle.reading.specs.Cases.Build.{eq_bool, range, apart, holding, same_ranges, all_true}

-- an id alone, and the number before the greatest
abbrev one : ℕ → RuleIdRange
one id = range id id

abbrev last : ℕ
last = 18446744073709551614

-- WHETHER A LIST HAS THE FORM (R82)

abbrev good : List RuleIdRange → Bool
good rs = is_merged rs

abbrev bad : List RuleIdRange → Bool
bad rs = eq_bool (is_merged rs) false

abbrev forms : List Bool
forms =
    good []
    ∷ good (range 1 2 ∷ range 4 5 ∷ [])
    ∷ good (range 0 largest ∷ [])
    ∷ good (one largest ∷ [])
    ∷ good (one 0 ∷ one 2 ∷ one largest ∷ [])
    -- the only id that is missing lies between the two
    ∷ good (range 0 18446744073709551613 ∷ one largest ∷ [])
    -- touching, also at the greatest number
    ∷ bad (range 1 2 ∷ range 3 4 ∷ [])
    ∷ bad (one last ∷ one largest ∷ [])
    -- overlapping, and covered
    ∷ bad (range 1 4 ∷ range 4 6 ∷ [])
    ∷ bad (range 1 9 ∷ range 4 6 ∷ [])
    -- equal starts
    ∷ bad (one 1 ∷ one 1 ∷ [])
    ∷ bad (one 1 ∷ range 1 5 ∷ [])
    -- not sorted
    ∷ bad (range 4 5 ∷ range 1 2 ∷ [])
    -- start above end, of the only one and of a later one
    ∷ bad (range 5 4 ∷ [])
    ∷ bad (range 1 2 ∷ range 9 8 ∷ [])
    -- the greatest number has no follower
    ∷ bad (range 3 largest ∷ one 5 ∷ [])
    ∷ bad (one largest ∷ one 0 ∷ [])
    -- the third of three
    ∷ bad (one 1 ∷ one 3 ∷ one 4 ∷ [])
    ∷ []

-- WHAT ADDING LEAVES

-- held, added in this order, and then held
abbrev adding : List RuleIdRange → List RuleIdRange → List RuleIdRange → Bool
adding held new after = same_ranges (add_ranges held new) after

abbrev sums : List Bool
sums =
    -- 02: "5-7 and 8-9 become 5-9", in either order
    adding [] (range 5 7 ∷ range 8 9 ∷ []) (range 5 9 ∷ [])
    ∷ adding [] (range 8 9 ∷ range 5 7 ∷ []) (range 5 9 ∷ [])
    -- R84
    ∷ adding (one 1 ∷ one 3 ∷ []) (one 2 ∷ []) (range 1 3 ∷ [])
    -- to nothing, and nothing
    ∷ adding [] (one 4 ∷ []) (one 4 ∷ [])
    ∷ adding (one 4 ∷ one 9 ∷ []) [] (one 4 ∷ one 9 ∷ [])
    -- apart: in front, between, at the end
    ∷ adding (range 5 6 ∷ one 9 ∷ []) (range 1 3 ∷ []) (range 1 3 ∷ range 5 6 ∷ one 9 ∷ [])
    ∷ adding (one 1 ∷ one 9 ∷ []) (range 3 7 ∷ []) (one 1 ∷ range 3 7 ∷ one 9 ∷ [])
    ∷ adding (one 1 ∷ range 3 4 ∷ []) (one 6 ∷ []) (one 1 ∷ range 3 4 ∷ one 6 ∷ [])
    -- covered by one: inside, at its start, at its end, equal to it
    ∷ adding (one 1 ∷ range 4 8 ∷ one 11 ∷ []) (range 5 6 ∷ []) (one 1 ∷ range 4 8 ∷ one 11 ∷ [])
    ∷ adding (range 4 8 ∷ []) (one 4 ∷ range 7 8 ∷ range 4 8 ∷ []) (range 4 8 ∷ [])
    -- covering one, and all
    ∷ adding (one 1 ∷ one 5 ∷ one 9 ∷ []) (range 4 6 ∷ []) (one 1 ∷ range 4 6 ∷ one 9 ∷ [])
    ∷ adding (one 1 ∷ one 5 ∷ one 9 ∷ []) (range 0 largest ∷ []) (range 0 largest ∷ [])
    -- overlapping: the greater end and the smaller start stay
    ∷ adding (range 4 8 ∷ []) (range 6 9 ∷ []) (range 4 9 ∷ [])
    ∷ adding (range 4 8 ∷ []) (range 2 5 ∷ []) (range 2 8 ∷ [])
    -- touching from below, from above, from both sides, and with an id between
    ∷ adding (range 4 8 ∷ []) (range 2 3 ∷ []) (range 2 8 ∷ [])
    ∷ adding (range 4 8 ∷ []) (range 9 9 ∷ []) (range 4 9 ∷ [])
    ∷ adding (one 1 ∷ range 4 8 ∷ []) (range 2 3 ∷ []) (range 1 8 ∷ [])
    ∷ adding (one 1 ∷ range 4 8 ∷ []) (one 10 ∷ []) (one 1 ∷ range 4 8 ∷ one 10 ∷ [])
    -- bridging three, with others before and after
    ∷ adding (one 1 ∷ range 4 5 ∷ one 8 ∷ range 11 12 ∷ one 20 ∷ []) (range 5 10 ∷ []) (one 1 ∷ range 4 12 ∷ one 20 ∷ [])
    -- at 0
    ∷ adding (one 1 ∷ []) (one 0 ∷ []) (range 0 1 ∷ [])
    ∷ adding (one 0 ∷ []) (one 0 ∷ one 2 ∷ []) (one 0 ∷ one 2 ∷ [])
    -- at the greatest number, which has no follower
    ∷ adding (one largest ∷ []) (one last ∷ []) (range last largest ∷ [])
    ∷ adding (one last ∷ []) (one largest ∷ []) (range last largest ∷ [])
    ∷ adding (one largest ∷ []) (one 0 ∷ []) (one 0 ∷ one largest ∷ [])
    ∷ adding (one 0 ∷ []) (one largest ∷ []) (one 0 ∷ one largest ∷ [])
    -- several, one after the other
    ∷ adding (one 1 ∷ []) (one 3 ∷ one 2 ∷ []) (range 1 3 ∷ [])
    ∷ adding [] (one 9 ∷ one 1 ∷ one 5 ∷ one 1 ∷ []) (one 1 ∷ one 5 ∷ one 9 ∷ [])
    -- 256 with an id between each two become one
    ∷ adding (apart 256) (range 1490 2000 ∷ []) (range 1490 2000 ∷ [])
    ∷ []

-- WHAT SINGLE ADDITIONS ANSWER AND LEAVE (R10, R84)

abbrev targets : ℕ → List RuleIdRange → Controls
targets count rs = record {
  mode = Some RuleEngineMode.DetectionOnly;
  ranges = rs;
  targets = replicate count (record { phase = 1; position = 4 });
  access = Some BodyAccess.Off;
  processor = Some BodyProcessor.Json;
}

-- the answer, and the ranges that are then held
abbrev single : Controls → RuleIdRange → ℕ → List RuleIdRange → List Bool
single c r answer after = eqb (add_range_answer c r) answer ∷ same_ranges (with_range c r).ranges after ∷ []

abbrev additions : List Bool
additions =
    -- 8 with 256 held, also where the range would merge, or is covered already; 5 comes first
    single (holding (apart 256)) (one 2001) 8 (apart 256)
    ++ single (holding (apart 256)) (one 2000) 8 (apart 256)
    ++ single (holding (apart 256)) (range 0 largest) 8 (apart 256)
    ++ single (holding (apart 256)) (range 2 1) 5 (apart 256)
    -- with 255 it is taken, and one more than 256 is 3
    ++ single (holding (apart 255)) (one 1490) 0 (apart 256)
    ++ single (holding (apart 257)) (one 2001) 3 (apart 257)
    -- a range may lower the count
    ++ single (holding (one 1 ∷ one 3 ∷ [])) (one 2) 0 (range 1 3 ∷ [])
    -- 3 for ranges that are not in the form, and it comes before 5
    ++ single (holding (range 1 2 ∷ range 3 4 ∷ [])) (one 9) 3 (range 1 2 ∷ range 3 4 ∷ [])
    ++ single (holding (range 4 5 ∷ range 1 2 ∷ [])) (range 2 1) 3 (range 4 5 ∷ range 1 2 ∷ [])
    ++ single (holding (range 5 4 ∷ [])) (one 9) 3 (range 5 4 ∷ [])
    -- start above end is 5, and changes nothing
    ++ single (holding (one 4 ∷ [])) (range 2 1) 5 (one 4 ∷ [])
    -- of a target too, and it comes before 9
    ++ eqb (add_target_answer (targets 64 (range 1 2 ∷ range 3 4 ∷ []))) 3
    ∷ eqb (add_target_answer (targets 64 (range 1 2 ∷ range 4 5 ∷ []))) 9
    ∷ eqb (add_target_answer (targets 63 (range 1 2 ∷ range 4 5 ∷ []))) 0
    ∷ eqb (length (with_target (targets 1 (range 5 4 ∷ [])) (record { phase = 1; position = 5 })).targets) 1
    ∷ []

-- EVERY QUESTION MEETS THE FORM: 3, with what stands in for the value

abbrev touching : Controls
touching = targets 2 (range 1 2 ∷ range 3 4 ∷ [])

abbrev questions : List Bool
questions =
    eqb (ask_mode RuleEngineMode.On touching).answer 3
    ∷ eqb (mode_number (ask_mode RuleEngineMode.On touching).value) 0
    ∷ eqb (ask_removed touching (Some 1)).answer 3
    ∷ eq_bool (ask_removed touching (Some 1)).value false
    ∷ eqb (ask_target_count touching).answer 3
    ∷ eqb (ask_target_count touching).value 0
    ∷ eqb (ask_target touching 0).answer 3
    ∷ eqb (ask_access touching).answer 3
    ∷ eqb (access_number (ask_access touching).value) 0
    ∷ eqb (ask_processor touching).answer 3
    ∷ eqb (processor_setting_number (ask_processor touching).value) 0
    ∷ eqb (ask_removed (holding (range 5 4 ∷ [])) (Some 5)).answer 3
    -- in the form both ends of a range are removed, and no id between two
    ∷ eqb (ask_removed (holding (range 1 2 ∷ range 4 5 ∷ [])) (Some 4)).answer 0
    ∷ eq_bool (ask_removed (holding (range 1 2 ∷ range 4 5 ∷ [])) (Some 4)).value true
    ∷ eq_bool (ask_removed (holding (range 1 2 ∷ range 4 5 ∷ [])) (Some 3)).value false
    ∷ eq_bool (ask_removed (holding (one largest ∷ [])) (Some largest)).value true
    ∷ eq_bool (ask_removed (holding (one largest ∷ [])) (Some last)).value false
    ∷ []

pub range-table : all_true (forms ++ sums ++ additions ++ questions) ≡ true
unfolding all_true same add_range add_ranges is_removed bad_controls add_range_answer add_target_answer
range-table = refl
