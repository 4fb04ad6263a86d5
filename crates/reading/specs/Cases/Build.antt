-- Cases written as 01 writes them, and the calls that they stand for.
use Rattle.std.specs.Prelude.{ℕ, zero, suc, ◌+◌, ◌-◌, ◌*◌, Bool, true, false, not, cond, ◌&&◌, ◌||◌, List, [], ◌∷◌, ◌++◌, map, length, take, drop as past, replicate, eqb, Option, Some, None}
use Prim.Native.String.{String}
use Rattle.reading.specs.declared.BodyProcessor.{BodyProcessor}
use Rattle.reading.specs.declared.BodyAccess.{BodyAccess}
use Rattle.reading.specs.declared.Place.{Place}
use Rattle.reading.specs.declared.RuleEngineMode.{RuleEngineMode}
use Rattle.reading.specs.declared.RuleIdRange.{RuleIdRange}
use Rattle.reading.specs.declared.UnsupportedReason.{UnsupportedReason}
use Rattle.reading.specs.declared.Part.{Part}
use Rattle.reading.specs.declared.Rule.{Rule}
use Rattle.reading.specs.declared.Action.{Action}
use Rattle.reading.specs.declared.Marker.{Marker}
use Rattle.reading.specs.declared.DataEntry.{DataEntry}
use Rattle.reading.specs.declared.JournalEntry.{JournalEntry}
use Rattle.reading.specs.declared.UnsupportedAt.{UnsupportedAt}
use Rattle.reading.specs.declared.Report.{Report}
use Rattle.reading.specs.declared.Intervention.{Intervention}
use Rattle.reading.specs.Lists.{gather, total}
use Rattle.reading.specs.Text.{ascii, same}
use Rattle.reading.specs.Numbers.{mode_number, mode_setting_number, access_setting_number, processor_setting_number, present_number, number_or_zero, reason_number}
use Rattle.reading.specs.Directive.{directive_of, reasons_of, start_of, end_of}
use Rattle.reading.specs.Controls.{Controls, no_controls, is_removed}
use Rattle.reading.specs.Reading.{Reading, rust, manual}
use Rattle.reading.specs.Call.{Call, Lists}
use Rattle.reading.specs.Units.{intervention_ids}
use Rattle.reading.specs.Replay.{replayed_ids, replayed_data, replayed_controls, replayed_allow, replayed_intervention}
use Rattle.reading.specs.Report.{report_of}
use Rattle.reading.specs.Outcome.{Outcome, outcome_of}
use Rattle.reading.specs.Demand3.{found_journal}

-- AN ACTION AS IT IS WRITTEN

pub data Act : Type 0 where
  other deny block pass allow drop chain multi_match : Act
  redirect skip_after msg logdata rev ver : String → Act
  skip id severity maturity accuracy status : ℕ → Act
  ctl : String → String → Act

-- 01's kind, the number, and the two texts
abbrev pub act_kind : Act → ℕ
act_kind other = 0
act_kind deny = 1
act_kind block = 2
act_kind pass = 3
act_kind allow = 4
act_kind (redirect s) = 5
act_kind drop = 6
act_kind chain = 7
act_kind (skip n) = 8
act_kind (skip_after s) = 9
act_kind multi_match = 10
act_kind (id n) = 11
act_kind (msg s) = 12
act_kind (logdata s) = 13
act_kind (rev s) = 14
act_kind (ver s) = 15
act_kind (severity n) = 16
act_kind (maturity n) = 17
act_kind (accuracy n) = 18
act_kind (ctl d v) = 19
act_kind (status n) = 20

abbrev pub act_number : Act → ℕ
act_number other = 0
act_number deny = 0
act_number block = 0
act_number pass = 0
act_number allow = 0
act_number (redirect s) = 0
act_number drop = 0
act_number chain = 0
act_number (skip n) = n
act_number (skip_after s) = 0
act_number multi_match = 0
act_number (id n) = n
act_number (msg s) = 0
act_number (logdata s) = 0
act_number (rev s) = 0
act_number (ver s) = 0
act_number (severity n) = n
act_number (maturity n) = n
act_number (accuracy n) = n
act_number (ctl d v) = 0
act_number (status n) = n

abbrev pub act_text : Act → List ℕ
act_text other = []
act_text deny = []
act_text block = []
act_text pass = []
act_text allow = []
act_text (redirect s) = ascii s
act_text drop = []
act_text chain = []
act_text (skip n) = []
act_text (skip_after s) = ascii s
act_text multi_match = []
act_text (id n) = []
act_text (msg s) = ascii s
act_text (logdata s) = ascii s
act_text (rev s) = ascii s
act_text (ver s) = ascii s
act_text (severity n) = []
act_text (maturity n) = []
act_text (accuracy n) = []
act_text (ctl d v) = ascii d
act_text (status n) = []

abbrev pub act_value : Act → List ℕ
act_value other = []
act_value deny = []
act_value block = []
act_value pass = []
act_value allow = []
act_value (redirect s) = []
act_value drop = []
act_value chain = []
act_value (skip n) = []
act_value (skip_after s) = []
act_value multi_match = []
act_value (id n) = []
act_value (msg s) = []
act_value (logdata s) = []
act_value (rev s) = []
act_value (ver s) = []
act_value (severity n) = []
act_value (maturity n) = []
act_value (accuracy n) = []
act_value (ctl d v) = ascii v
act_value (status n) = []

-- A RULE AND A MARKER AS THEY ARE WRITTEN

pub record Written : Type 0 where
  pub id : Option ℕ
  pub link : ℕ
  pub outcome : ℕ
  pub acts : List Act

pub record Named : Type 0 where
  pub name : String
  pub position : ℕ

-- 01: "every numbered rule has its id action", "all matched with outcome 2, unless said"
abbrev pub rule : ℕ → List Act → Written
rule n acts = record { id = Some n; link = 0; outcome = 2; acts = id n ∷ acts }

-- 01: ""20 link deny" is a link with rule id 20, an id action 20 and a deny"
abbrev pub link : ℕ → List Act → Written
link n acts = record { id = Some n; link = 1; outcome = 2; acts = id n ∷ acts }

-- a rule, and a link, without an id and without an id action
abbrev pub no_id : List Act → Written
no_id acts = record { id = None; link = 0; outcome = 2; acts = acts }

abbrev pub no_id_link : List Act → Written
no_id_link acts = record { id = None; link = 1; outcome = 2; acts = acts }

-- the same rule with another outcome
abbrev pub with_outcome : ℕ → Written → Written
with_outcome n w = record { id = w.id; link = w.link; outcome = n; acts = w.acts }

abbrev pub missed : Written → Written
missed w = with_outcome 0 w

abbrev pub in_error : Written → Written
in_error w = with_outcome 3 w

abbrev pub marker : String → ℕ → Named
marker name position = record { name = name; position = position }

-- THE RECORDS: each text stands after those before it

abbrev pub part_at : ℕ → List ℕ → Part
part_at start text = record { start = start; len = length text }

abbrev pub lay_acts : ℕ → List Act → List Action
lay_acts start [] = []
lay_acts start (a ∷ rest) =
    record { kind = act_kind a; number = act_number a; text = part_at start (act_text a); value = part_at (start + length (act_text a)) (act_value a) }
    ∷ lay_acts (start + length (act_text a) + length (act_value a)) rest

abbrev pub acts_text : List Act → List ℕ
acts_text acts = gather (λ a. act_text a ++ act_value a) acts

abbrev pub lay_rules : ℕ → List Written → List Rule
lay_rules first [] = []
lay_rules first (w ∷ ws) =
    record { present = present_number w.id; id = number_or_zero w.id; link = w.link; first = first; count = length w.acts }
    ∷ lay_rules (first + length w.acts) ws

abbrev pub lay_markers : ℕ → List Named → List Marker
lay_markers start [] = []
lay_markers start (m ∷ ms) =
    record { name = part_at start (ascii m.name); position = m.position } ∷ lay_markers (start + length (ascii m.name)) ms

abbrev pub markers_text : List Named → List ℕ
markers_text ms = gather (λ m. ascii m.name) ms

abbrev pub all_acts : List Written → List Act
all_acts ws = gather (λ w. w.acts) ws

-- what stands in the lent lists before the call
abbrev pub lent_data : DataEntry
lent_data = record { present = 9; id = 9; phase = 9; index = 9 }

abbrev pub lent_entry : JournalEntry
lent_entry = record { index = 9; verdict = 9 }

-- a phase 2 call of a rule set with a mode, under a reading, with the controls held and whether the transaction is allowed;
-- each lent list has two entries more than there are rules, and one id and one data entry are in use
abbrev pub call_with : Reading → RuleEngineMode → Controls → Bool → List Written → List Named → Call
call_with reading mode held allowed ws ms = record {
  given = record {
    reading = reading;
    settings = record { phase = 2; mode = mode_number mode; default_status = 500 };
    rules = lay_rules 0 ws;
    actions = lay_acts 0 (all_acts ws);
    markers = lay_markers (length (acts_text (all_acts ws))) ms;
    text = acts_text (all_acts ws) ++ markers_text ms;
    outcomes = map (λ w. w.outcome) ws;
  };
  transaction = record { controls = held; allowed = allowed; intervention = None; ids = 1; data-entries = 1 };
  lists = record {
    ids = replicate (length ws + 2) 9;
    data-entries = replicate (length ws + 2) lent_data;
    journal = replicate (length ws + 2) lent_entry;
  };
}

-- nothing held
abbrev pub call_in : RuleEngineMode → List Written → List Named → Call
call_in mode ws ms = call_with rust mode no_controls false ws ms

-- "Mode On .. unless said"
abbrev pub call : List Written → List Named → Call
call ws ms = call_in RuleEngineMode.On ws ms

-- ranges held, and the manual's reading
abbrev pub range : ℕ → ℕ → RuleIdRange
range from to = record { start = from; end = to }

-- so many ranges of one id each with an id between each two, in the merged form; the last one is 2000-2000
abbrev pub apart : ℕ → List RuleIdRange
apart zero = []
apart (suc n) = range (2000 - 2 * n) (2000 - 2 * n) ∷ apart n

abbrev pub holding : List RuleIdRange → Controls
holding rs = record { mode = None; ranges = rs; targets = []; access = None; processor = None }

abbrev pub call_holding : List RuleIdRange → List Written → Call
call_holding rs ws = call_with rust RuleEngineMode.On (holding rs) false ws []

abbrev pub call_manual : List Written → List Named → Call
call_manual ws ms = call_with manual RuleEngineMode.On no_controls false ws ms

-- A CALL WITH OTHER LISTS

abbrev pub with_lent : Lists → Call → Call
with_lent lent q = record { given = q.given; transaction = q.transaction; lists = lent }

abbrev pub with_journal : List JournalEntry → Call → Call
with_journal journal q = with_lent (record { ids = q.lists.ids; data-entries = q.lists.data-entries; journal = journal }) q

abbrev pub with_data : List DataEntry → Call → Call
with_data entries q = with_lent (record { ids = q.lists.ids; data-entries = entries; journal = q.lists.journal }) q

abbrev pub with_ids : List ℕ → Call → Call
with_ids ids q = with_lent (record { ids = ids; data-entries = q.lists.data-entries; journal = q.lists.journal }) q

-- lists of so many entries
abbrev pub with_room : ℕ → ℕ → ℕ → Call → Call
with_room ids entries journal q =
    with_lent (record { ids = replicate ids 9; data-entries = replicate entries lent_data; journal = replicate journal lent_entry }) q

-- WHAT A ROW STATES

pub record Seen : Type 0 where
  pub at : ℕ
  pub verdict : ℕ

abbrev pub matched : ℕ → Seen
matched i = record { at = i; verdict = 1 }

abbrev pub miss : ℕ → Seen
miss i = record { at = i; verdict = 0 }

abbrev pub removed : ℕ → Seen
removed i = record { at = i; verdict = 2 }

abbrev pub error : ℕ → Seen
error i = record { at = i; verdict = 3 }

pub record Entry : Type 0 where
  pub id : Option ℕ
  pub at : ℕ

abbrev pub entry : ℕ → ℕ → Entry
entry n i = record { id = Some n; at = i }

abbrev pub no_id_entry : ℕ → Entry
no_id_entry i = record { id = None; at = i }

-- no intervention; one with a status and ids, without address, log and drop; one with the positions of its address and
-- its log, if any, and whether it drops the connection
pub data Stop : Type 0 where
  none : Stop
  stopped : ℕ → List ℕ → Stop
  stopped_with : ℕ → List ℕ → Option ℕ → Option ℕ → Bool → Stop

-- a directive alone, and the number of its reason: 0 where it is supported
pub record Told : Type 0 where
  pub directive : String
  pub value : String
  pub reason : ℕ

-- what is found after a call: the visits, the ids and the data entries added, allowed or not, the intervention's status
-- and ids
pub record Found : Type 0 where
  pub visits : List Seen
  pub ids : List ℕ
  pub data-entries : List Entry
  pub allowed : Bool
  pub stop : Stop

-- nothing added
abbrev pub nothing : Found
nothing = record { visits = []; ids = []; data-entries = []; allowed = false; stop = none }

-- the name of a case, its call, the answer with the error's index, what is found, the settings that are then held, how many ranges and
-- which they are, if the row says it (none or one list), how many targets, ids that are removed and ids that are not, and directives
-- that are supported or not
pub record Row : Type 0 where
  pub name : String
  pub phase-call : Call
  pub answer : ℕ
  pub error-index : ℕ
  pub found : Found
  pub mode : Option RuleEngineMode
  pub access : Option BodyAccess
  pub processor : Option BodyProcessor
  pub ranges : ℕ
  pub held : List (List RuleIdRange)
  pub targets : ℕ
  pub gone : List ℕ
  pub kept : List ℕ
  pub told : List Told
  pub unsupported : UnsupportedAt

-- a row by all that may differ, the settings being those at entry; a row of a call that is answered 0; one that says also what is removed
-- and what is supported; one that adds targets; one that is answered 10
abbrev pub row_of : String → Call → ℕ → ℕ → Found → ℕ → ℕ → List ℕ → List ℕ → List Told → Row
row_of name q answer error-index found ranges targets gone kept told = record {
  name = name;
  phase-call = q;
  answer = answer;
  error-index = error-index;
  found = found;
  mode = q.transaction.controls.mode;
  access = q.transaction.controls.access;
  processor = q.transaction.controls.processor;
  ranges = ranges;
  held = [];
  targets = targets;
  gone = gone;
  kept = kept;
  told = told;
  unsupported = record { index = 0; reason = 0 };
}

abbrev pub row : String → Call → Found → Row
row name q found = row_of name q 0 0 found 0 0 [] [] []

abbrev pub removal : String → Call → Found → ℕ → List ℕ → List ℕ → List Told → Row
removal name q found ranges gone kept told = row_of name q 0 0 found ranges 0 gone kept told

abbrev pub targeting : String → Call → Found → ℕ → Row
targeting name q found targets = row_of name q 0 0 found 0 targets [] [] []

abbrev pub failing : String → Call → ℕ → Found → Row
failing name q at found = row_of name q 10 at found 0 0 [] [] []

-- a row that says which ranges are then held
abbrev pub leaving : List RuleIdRange → Row → Row
leaving rs r = record {
  name = r.name;
  phase-call = r.phase-call;
  answer = r.answer;
  error-index = r.error-index;
  found = r.found;
  mode = r.mode;
  access = r.access;
  processor = r.processor;
  ranges = length rs;
  held = rs ∷ [];
  targets = r.targets;
  gone = r.gone;
  kept = r.kept;
  told = r.told;
  unsupported = r.unsupported;
}

-- a row that is refused: what is held stays
abbrev pub refused : String → Call → ℕ → Row
refused name q number =
    leaving q.transaction.controls.ranges (row_of name q number 0 nothing 0 (length q.transaction.controls.targets) [] [] [])

-- a row after which other settings are held than at entry
abbrev pub settling : Option BodyAccess → Option BodyProcessor → Option RuleEngineMode → Row → Row
settling access processor mode r = record {
  name = r.name;
  phase-call = r.phase-call;
  answer = r.answer;
  error-index = r.error-index;
  found = r.found;
  mode = mode;
  access = access;
  processor = processor;
  ranges = r.ranges;
  held = r.held;
  targets = r.targets;
  gone = r.gone;
  kept = r.kept;
  told = r.told;
  unsupported = r.unsupported;
}

abbrev pub switching : RuleEngineMode → Row → Row
switching mode r = settling r.access r.processor (Some mode) r

-- a row that tells an unsupported directive, by its rule's index and its reason's number
abbrev pub passing_over : ℕ → ℕ → Row → Row
passing_over index reason r = record {
  name = r.name;
  phase-call = r.phase-call;
  answer = r.answer;
  error-index = r.error-index;
  found = r.found;
  mode = r.mode;
  access = r.access;
  processor = r.processor;
  ranges = r.ranges;
  held = r.held;
  targets = r.targets;
  gone = r.gone;
  kept = r.kept;
  told = r.told;
  unsupported = record { index = index; reason = reason };
}

-- WHETHER IT HOLDS

abbrev pub eq_bool : Bool → Bool → Bool
eq_bool true b = b
eq_bool false b = not b

-- a list holds the new entries, and then what was lent
unfoldable pub same_ids : List ℕ → List ℕ → Bool
same_ids [] [] = true
same_ids [] (n ∷ ns) = false
same_ids (x ∷ xs) [] = eqb x 9 && same_ids xs []
same_ids (x ∷ xs) (n ∷ ns) = eqb x n && same_ids xs ns

unfoldable pub same_visits : List JournalEntry → List Seen → Bool
same_visits [] [] = true
same_visits [] (s ∷ ss) = false
same_visits (e ∷ es) [] = eqb e.index 9 && eqb e.verdict 9 && same_visits es []
same_visits (e ∷ es) (s ∷ ss) = eqb e.index s.at && eqb e.verdict s.verdict && same_visits es ss

unfoldable pub same_data : List DataEntry → List Entry → Bool
same_data [] [] = true
same_data [] (s ∷ ss) = false
same_data (e ∷ es) [] = eqb e.present 9 && eqb e.id 9 && eqb e.phase 9 && eqb e.index 9 && same_data es []
same_data (e ∷ es) (s ∷ ss) =
    eqb e.present (present_number s.id) && eqb e.id (number_or_zero s.id) && eqb e.phase 2 && eqb e.index s.at && same_data es ss

-- how many visits found each verdict
abbrev pub seen_with : ℕ → List Seen → ℕ
seen_with verdict seen = total (λ s. cond (eqb s.verdict verdict) 1 0) seen

unfoldable pub same_report : Report → List Seen → UnsupportedAt → Bool
same_report r seen unsupported =
    eqb r.missed (seen_with 0 seen)
    && eqb r.matched (seen_with 1 seen)
    && eqb r.removed (seen_with 2 seen)
    && eqb r.errors (seen_with 3 seen)
    && eqb r.unsupported.index unsupported.index
    && eqb r.unsupported.reason unsupported.reason

-- a place in phase 2, or none
abbrev pub same_place : Option Place → Option ℕ → Bool
same_place None None = true
same_place None (Some n) = false
same_place (Some p) None = false
same_place (Some p) (Some n) = eqb p.phase 2 && eqb p.position n

abbrev pub same_intervention : Intervention → ℕ → List ℕ → Option ℕ → Option ℕ → Bool → Bool
same_intervention i code ids url log dropped =
    eqb i.status code
    && same (intervention_ids i) ids
    && eqb i.phase 2
    && same_place i.url url
    && same_place i.log log
    && same_place i.metadata.msg log
    && eq_bool i.drop dropped

unfoldable pub same_stop : Option Intervention → Stop → Bool
same_stop None none = true
same_stop None (stopped code ids) = false
same_stop None (stopped_with code ids url log dropped) = false
same_stop (Some i) none = false
same_stop (Some i) (stopped code ids) = same_intervention i code ids None None false
same_stop (Some i) (stopped_with code ids url log dropped) = same_intervention i code ids url log dropped

abbrev pub told_number : List UnsupportedReason → ℕ
told_number [] = 0
told_number (r ∷ rs) = reason_number r

abbrev pub all_told : List Told → Bool
all_told [] = true
all_told (t ∷ ts) = eqb (told_number (reasons_of (directive_of (ascii t.directive) (ascii t.value)))) t.reason && all_told ts

-- whether each of some ids is removed, or is not
abbrev pub all_gone : Controls → Bool → List ℕ → Bool
all_gone c gone [] = true
all_gone c gone (n ∷ ns) = eq_bool (is_removed c.ranges (Some n)) gone && all_gone c gone ns

-- the same ranges in the same order; those that a row says, if it does
abbrev pub same_ranges : List RuleIdRange → List RuleIdRange → Bool
same_ranges xs ys = same (map start_of xs) (map start_of ys) && same (map end_of xs) (map end_of ys)

abbrev pub as_held : List RuleIdRange → List (List RuleIdRange) → Bool
as_held found [] = true
as_held found (rs ∷ rest) = same_ranges found rs && as_held found rest

-- the replay of the journal found gives the same
abbrev pub holds_replayed : Row → List JournalEntry → Bool
holds_replayed r journal =
    same (replayed_ids r.phase-call.given journal) r.found.ids
    && same_data (replayed_data r.phase-call.given journal) r.found.data-entries
    && eq_bool (r.phase-call.transaction.allowed || replayed_allow r.phase-call.given journal) r.found.allowed
    && same_report (report_of r.phase-call.given journal) r.found.visits r.unsupported
    && same_stop (replayed_intervention r.phase-call.given r.phase-call.transaction journal) r.found.stop
    && eqb (length (replayed_controls r.phase-call.given r.phase-call.transaction journal).ranges) r.ranges
    && as_held (replayed_controls r.phase-call.given r.phase-call.transaction journal).ranges r.held
    && eqb (length (replayed_controls r.phase-call.given r.phase-call.transaction journal).targets) r.targets

-- the first entry of the two lists is in use and stays
abbrev pub holds_after : Row → Outcome → Bool
holds_after r o =
    eqb o.answer r.answer
    && eqb o.error r.error-index
    && eqb o.visits (length r.found.visits)
    && same_report o.report r.found.visits r.unsupported
    && eqb (length o.lists.journal) (length r.phase-call.lists.journal)
    && same_visits o.lists.journal r.found.visits
    && eqb o.transaction.ids (r.phase-call.transaction.ids + length r.found.ids)
    && eqb (length o.lists.ids) (length r.phase-call.lists.ids)
    && same_ids (take 1 o.lists.ids) []
    && same_ids (past 1 o.lists.ids) r.found.ids
    && eqb o.transaction.data-entries (r.phase-call.transaction.data-entries + length r.found.data-entries)
    && eqb (length o.lists.data-entries) (length r.phase-call.lists.data-entries)
    && same_data (take 1 o.lists.data-entries) []
    && same_data (past 1 o.lists.data-entries) r.found.data-entries
    && eq_bool o.transaction.allowed r.found.allowed
    && same_stop o.transaction.intervention r.found.stop
    && eqb (mode_setting_number o.transaction.controls.mode) (mode_setting_number r.mode)
    && eqb (access_setting_number o.transaction.controls.access) (access_setting_number r.access)
    && eqb (processor_setting_number o.transaction.controls.processor) (processor_setting_number r.processor)
    && eqb (length o.transaction.controls.ranges) r.ranges
    && as_held o.transaction.controls.ranges r.held
    && eqb (length o.transaction.controls.targets) r.targets
    && all_gone o.transaction.controls true r.gone
    && all_gone o.transaction.controls false r.kept
    && all_told r.told
    && holds_replayed r (found_journal o)

unfoldable pub holds : Row → Bool
holds r = holds_after r (outcome_of r.phase-call)

unfoldable pub all_hold : List Row → Bool
all_hold [] = true
all_hold (r ∷ rs) = holds r && all_hold rs

-- a condition for each line
unfoldable pub all_true : List Bool → Bool
all_true [] = true
all_true (b ∷ bs) = b && all_true bs
