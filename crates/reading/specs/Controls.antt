-- What the directives of a transaction have set (`TransactionControls`), as lists without a limit.
use Rattle.std.specs.Prelude.{ℕ, zero, suc, Bool, true, false, not, cond, ◌&&◌, ◌||◌, List, [], ◌∷◌, ◌++◌, length, get_or, ltb, leb, eqb, Option, Some, None}
use Rattle.reading.specs.Limits.{most_ranges, most_targets}
use Rattle.reading.specs.declared.RuleEngineMode.{RuleEngineMode}
use Rattle.reading.specs.declared.BodyAccess.{BodyAccess}
use Rattle.reading.specs.declared.BodyProcessor.{BodyProcessor}
use Rattle.reading.specs.declared.RuleIdRange.{RuleIdRange}
use Rattle.reading.specs.declared.Place.{Place}
use Rattle.reading.specs.Lists.{any}
use Rattle.reading.specs.Ranges.{is_merged, add_range, add_ranges}
use Rattle.reading.specs.Directive.{Directive, rule_engine, rule_remove_by_id, rule_remove_target_by_id, request_body_access, request_body_processor, unsupported}

-- 01: "Addresses, msg and targets are likewise kept as phase and action position."
pub record Controls : Type 0 where
  pub mode : Option RuleEngineMode
  pub ranges : List RuleIdRange
  pub targets : List Place
  pub access : Option BodyAccess
  pub processor : Option BodyProcessor

-- nothing set
abbrev pub no_controls : Controls
no_controls = record { mode = None; ranges = []; targets = []; access = None; processor = None }

-- a mode, body access or processor set singly, which no limit refuses (docs/DECISIONS.md, D9)
abbrev pub with_mode : Controls → RuleEngineMode → Controls
with_mode c m = record { mode = Some m; ranges = c.ranges; targets = c.targets; access = c.access; processor = c.processor }

abbrev pub with_access : Controls → BodyAccess → Controls
with_access c a = record { mode = c.mode; ranges = c.ranges; targets = c.targets; access = Some a; processor = c.processor }

abbrev pub with_processor : Controls → BodyProcessor → Controls
with_processor c p = record { mode = c.mode; ranges = c.ranges; targets = c.targets; access = c.access; processor = Some p }

-- the same controls with other ranges, and with other targets
abbrev pub with_ranges : Controls → List RuleIdRange → Controls
with_ranges c rs = record { mode = c.mode; ranges = rs; targets = c.targets; access = c.access; processor = c.processor }

abbrev pub with_targets : Controls → List Place → Controls
with_targets c ts = record { mode = c.mode; ranges = c.ranges; targets = ts; access = c.access; processor = c.processor }

-- 01: "Ranges and targets are added at the end."; since 02's A.6 that is so of targets alone
abbrev pub add_target : List Place → Place → List Place
add_target held at = held ++ (at ∷ [])

-- 01: "the last mode, body access or processor wins.", and an unsupported directive "changes nothing". The place is that
-- of the ctl action.
abbrev pub applied : Controls → Place → Directive → Controls
applied c at (rule_engine m) = with_mode c m
applied c at (rule_remove_by_id rs) = with_ranges c (add_ranges c.ranges rs)
applied c at (rule_remove_target_by_id id target) = with_targets c (add_target c.targets at)
applied c at (request_body_access a) = with_access c a
applied c at (request_body_processor p) = with_processor c p
applied c at (unsupported r) = c

-- 01: "the one set last .., else the rule set's"
abbrev pub mode_or : RuleEngineMode → Option RuleEngineMode → RuleEngineMode
mode_or configured None = configured
mode_or configured (Some m) = m

abbrev pub is_off : RuleEngineMode → Bool
is_off RuleEngineMode.On = false
is_off RuleEngineMode.DetectionOnly = false
is_off RuleEngineMode.Off = true

abbrev pub is_on : RuleEngineMode → Bool
is_on RuleEngineMode.On = true
is_on RuleEngineMode.DetectionOnly = false
is_on RuleEngineMode.Off = false

-- 01: "Both ends of a range are removed." The manual's reading too.
abbrev pub in_range : ℕ → RuleIdRange → Bool
in_range id r = leb r.start id && leb id r.end

-- 01: "A rule without an id is never removed."
unfoldable pub is_removed : List RuleIdRange → Option ℕ → Bool
is_removed ranges None = false
is_removed ranges (Some id) = any (in_range id) ranges

-- 01: "Body access is on until set."
abbrev pub access_of : Option BodyAccess → BodyAccess
access_of None = BodyAccess.On
access_of (Some a) = a

-- 01: "Struct with arrays of start and end numbers and their count": the list of so many entries that two arrays stand for
abbrev pub pair_list : {A : Type 0} → (ℕ → ℕ → A) → ℕ → List ℕ → List ℕ → List A
pair_list make zero firsts seconds = []
pair_list make (suc k) firsts seconds = pair_list make k firsts seconds ++ (make (get_or firsts k 0) (get_or seconds k 0) ∷ [])

abbrev pub range_list : ℕ → List ℕ → List ℕ → List RuleIdRange
range_list count starts ends = pair_list (λ start end. record { start = start; end = end }) count starts ends

abbrev pub target_list : ℕ → List ℕ → List ℕ → List Place
target_list count phases positions = pair_list (λ phase position. record { phase = phase; position = position }) count phases positions

-- QUESTIONS AND SINGLE ADDITIONS

-- refusal 3, of the controls. 01: "more than 256 ranges, more than 64 targets"; 02: "3 also meets ranges not in this form or with start
-- above end"
unfoldable pub bad_controls : Controls → Bool
bad_controls c = ltb most_ranges (length c.ranges) || ltb most_targets (length c.targets) || not (is_merged c.ranges)

-- what a question answers: 0 and the value, or 3 and what stands in for it
pub record Asked (A : Type 0) : Type 0 where
  pub answer : ℕ
  pub value : A

-- 01: "Questions to the controls give only 3"
abbrev pub asked : {A : Type 0} → Controls → A → A → Asked A
asked c value other = cond (bad_controls c) (record { answer = 3; value = other }) (record { answer = 0; value = value })

-- the mode given the rule set's; whether an id, or none, is removed; how many targets there are, and which is the one at a
-- place, if any; the body access; the body processor, if set
abbrev pub ask_mode : RuleEngineMode → Controls → Asked RuleEngineMode
ask_mode configured c = asked c (mode_or configured c.mode) configured

abbrev pub ask_removed : Controls → Option ℕ → Asked Bool
ask_removed c id = asked c (is_removed c.ranges id) false

abbrev pub ask_target_count : Controls → Asked ℕ
ask_target_count c = asked c (length c.targets) 0

abbrev pub place_at : List Place → ℕ → Option Place
place_at [] k = None
place_at (p ∷ ps) zero = Some p
place_at (p ∷ ps) (suc k) = place_at ps k

abbrev pub ask_target : Controls → ℕ → Asked (Option Place)
ask_target c k = asked c (place_at c.targets k) None

abbrev pub ask_access : Controls → Asked BodyAccess
ask_access c = asked c (access_of c.access) BodyAccess.On

abbrev pub ask_processor : Controls → Asked (Option BodyProcessor)
ask_processor c = asked c c.processor None

-- 01: "a range or target added singly gives 3, 5 (start above end), then 8 or 9"; 02: 8 counts the ranges held "plus one when added
-- singly", whether or not the range would merge
unfoldable pub add_range_answer : Controls → RuleIdRange → ℕ
add_range_answer c r = cond (bad_controls c) 3 (cond (ltb r.end r.start) 5 (cond (leb most_ranges (length c.ranges)) 8 0))

unfoldable pub add_target_answer : Controls → ℕ
add_target_answer c = cond (bad_controls c) 3 (cond (leb most_targets (length c.targets)) 9 0)

-- the controls after an addition: as before where the answer is not 0
abbrev pub with_range : Controls → RuleIdRange → Controls
with_range c r = with_ranges c (cond (eqb (add_range_answer c r) 0) (add_range c.ranges r) c.ranges)

abbrev pub with_target : Controls → Place → Controls
with_target c at = with_targets c (cond (eqb (add_target_answer c) 0) (add_target c.targets at) c.targets)
