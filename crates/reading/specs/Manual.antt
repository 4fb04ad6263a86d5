-- What the ModSecurity v3 Reference Manual says where the Rust does otherwise, each beside the Rust's rule. The manual is
-- stated as recalled: it was not at hand. docs/DIFFERENCES.md lists the pairs. What the two read alike has one definition,
-- in the files above: both ends of a range are removed; the last disruptive action wins; flow, disruptive action and
-- metadata are the chain starter's and wait for the whole chain; a chain matches where all its rules do.
use Rattle.std.specs.Prelude.{ℕ, zero, suc, ◌+◌, Bool, true, not, cond, ◌&&◌, ◌||◌, List, [], ◌∷◌, ◌++◌, ltb, leb, eqb, Option, Some, None}
use Rattle.reading.specs.declared.RuleEngineMode.{RuleEngineMode}
use Rattle.reading.specs.declared.DisruptiveOutcome.{DisruptiveOutcome}
use Rattle.reading.specs.declared.FlowOutcome.{FlowOutcome}
use Rattle.reading.specs.declared.IdPart.{IdPart}
use Rattle.reading.specs.declared.Rule.{Rule}
use Rattle.reading.specs.Lists.{any}
use Rattle.reading.specs.Text.{ascii, same, trim, fold, digits, id_part}
use Rattle.reading.specs.declared.UnsupportedReason.{UnsupportedReason}
use Rattle.reading.specs.Directive.{Directive, rule_remove_by_id, unsupported, removal_value}
use Rattle.reading.specs.Controls.{Controls, is_on}
use Rattle.reading.specs.Actions.{Placed, last_of, last_flow, flow_by}
use Rattle.reading.specs.Markers.{later, marker_position}
use Rattle.reading.specs.Call.{Given, Transaction}
use Rattle.reading.specs.Refusals.{number_limit}
use Rattle.reading.specs.Units.{rule_controls, unit_controls, is_allow, is_stopping}
use Rattle.reading.specs.Walk.{after_chain, is_stopped}

-- skipAfter. The manual: processing goes on with the first rule that follows the marker. The Rust's rule, and the manual's
-- as 02 takes it, are `rust` and `manual` of Reading.antt.
abbrev pub manual_jumps : ℕ → ℕ → Bool
manual_jumps position after = leb after position

-- skipAfter. The manual: the name may also be the id of a rule, and processing goes on with the first rule that follows that
-- rule. The position after the first of the rules with an id, where so many rules stand before them:
unfoldable pub after_rule : ℕ → ℕ → List Rule → Option ℕ
after_rule id before [] = None
after_rule id before (r ∷ rs) = cond (eqb r.present 1 && eqb r.id id) (Some (suc before)) (after_rule id (suc before) rs)

abbrev pub manual_rule_named : List Rule → Option ℕ → Option ℕ
manual_rule_named rules (Some id) = after_rule id 0 rules
manual_rule_named rules None = None

-- a marker of that name comes before a rule (our choice: the manual is silent)
abbrev pub manual_target : Given → List ℕ → Option ℕ
manual_target g name = later (marker_position g.text g.markers name) (manual_rule_named g.rules (digits name))

-- 01: "For a repeated marker name the latest record decides."
abbrev pub rust_target : Given → List ℕ → Option ℕ
rust_target g name = marker_position g.text g.markers name

-- skip. The manual: skips one or more rules, or chains. From the index after the closing rule:
unfoldable pub manual_skip : Given → ℕ → ℕ → ℕ
manual_skip g after zero = after
manual_skip g after (suc n) = manual_skip g (after_chain g after) n

-- 01: "Skip n passes n indexes; links count singly."
abbrev pub rust_skip : ℕ → ℕ → ℕ
rust_skip after n = after + n

-- SecRuleEngine. The manual: DetectionOnly never executes a disruptive action, allow among them.
abbrev pub manual_acts : RuleEngineMode → DisruptiveOutcome → Bool
manual_acts mode d = (is_allow d || is_stopping d) && is_on mode

-- 01: "Allow takes effect in any mode; the four stopping actions only in On"
abbrev pub rust_acts : RuleEngineMode → DisruptiveOutcome → Bool
rust_acts mode d = is_allow d || is_stopping d && is_on mode

-- redirect. The manual: a status action of 301, 302, 303 or 307 on the same rule is used, and else 302.
abbrev pub manual_redirect_status : Option ℕ → ℕ
manual_redirect_status None = 302
manual_redirect_status (Some status) = cond (eqb status 301 || eqb status 303 || eqb status 307) status 302

-- 01: "Redirect has status 302"
abbrev pub rust_redirect_status : Option ℕ → ℕ
rust_redirect_status last = 302

-- chain. The manual: a non-disruptive action, ctl among them, is executed if the rule that contains it matches, and not
-- only if the whole chain does. The controls after a matched rule m of a chain, whether it is a link or closes it:
abbrev pub manual_matched : Given → ℕ → Controls → Controls
manual_matched g m c = rule_controls g m c

-- 01: "A matched link holds its controls and waits." The controls after a matched link m, and after the unit that a rule closes:
abbrev pub rust_link : Given → ℕ → Controls → Controls
rust_link g m c = c

abbrev pub rust_closed : Given → List ℕ → Controls → Controls
rust_closed g unit c = unit_controls g unit c

-- chain, multiMatch. The manual: multiMatch says how variables are matched and chain that the next rule belongs to this
-- one; skip and skipAfter of a chain's starter act if the whole chain matches. So the last of skip and skipAfter decides.
abbrev pub manual_flow : List Placed → FlowOutcome
manual_flow ps = flow_by (last_of (λ kind. eqb kind 8 || eqb kind 9) ps)

-- 01: "and so does the last flow action: "skip:2,multiMatch" skips none"
abbrev pub rust_flow : List Placed → FlowOutcome
rust_flow ps = last_flow ps

-- phase 5. The manual: the logging phase is run for every transaction, whatever happened in it; allow passes the others.
abbrev pub manual_enters : Given → Transaction → Bool
manual_enters g t = eqb g.settings.phase 5 || not (t.allowed || is_stopped t.intervention)

-- 01: "Nothing is done if already allowed or stopped"
abbrev pub rust_enters : Transaction → Bool
rust_enters t = not (t.allowed || is_stopped t.intervention)

-- phase 5. The manual: it is too late to stop a request there.
abbrev pub manual_stops : Given → Bool
manual_stops g = not (eqb g.settings.phase 5)

-- 01 makes no difference between phases
abbrev pub rust_stops : Given → Bool
rust_stops g = true

-- ctl:ruleRemoveById. The manual: one id, or one range.
abbrev pub manual_removal_by : IdPart → Directive
manual_removal_by IdPart.Blank = unsupported UnsupportedReason.IdList
manual_removal_by IdPart.Bad = unsupported UnsupportedReason.IdList
manual_removal_by (IdPart.Range r) = rule_remove_by_id (r ∷ [])

abbrev pub manual_removal : List ℕ → Directive
manual_removal value = manual_removal_by (id_part value)

-- 01: "parts between commas"
abbrev pub rust_removal : List ℕ → Directive
rust_removal value = removal_value value

-- ctl. 01's directives, folded: "All else, auditEngine and auditLogParts included, is unsupported"
abbrev pub rust_directives : List (List ℕ)
rust_directives =
    ascii "ruleengine"
    ∷ ascii "ruleremovebyid"
    ∷ ascii "ruleremovetargetbyid"
    ∷ ascii "requestbodyaccess"
    ∷ ascii "requestbodyprocessor"
    ∷ []

-- The manual: these, and removal by tag or message, auditEngine, auditLogParts, forceRequestBodyVariable, and others that are not recalled by name.
abbrev pub manual_directives : List (List ℕ)
manual_directives =
    rust_directives
    ++ (ascii "ruleremovebytag"
    ∷ ascii "ruleremovebymsg"
    ∷ ascii "ruleremovetargetbytag"
    ∷ ascii "ruleremovetargetbymsg"
    ∷ ascii "auditengine"
    ∷ ascii "auditlogparts"
    ∷ ascii "forcerequestbodyvariable"
    ∷ [])

-- whether a directive's name is among them
abbrev pub manual_names : List ℕ → Bool
manual_names name = any (same (fold (trim name))) manual_directives

abbrev pub rust_names : List ℕ → Bool
rust_names name = any (same (fold (trim name))) rust_directives

-- WHICH RULES ARE TAKEN AT ALL: in the Rust's reading what refusal 5 takes

-- id. The manual: an id is required. It is metadata, so a chain's starter has it, and a later member needs none.
abbrev pub manual_takes_id : Bool → Rule → Bool
manual_takes_id later r = later || eqb r.present 1

-- 01: "id (64 bits) or none"
abbrev pub rust_takes_id : Rule → Bool
rust_takes_id r = not (ltb 1 r.present)

-- chain. The manual: metadata, kinds 11 to 18, stand in the starter alone. (Disruptive actions, skip and skipAfter too: 02's A.9
-- asks for these.) Whether a rule may have a metadata action of a kind, given whether it is a later member:
abbrev pub manual_takes_metadata : Bool → ℕ → Bool
manual_takes_metadata later kind = not (later && leb 11 kind && leb kind 18)

-- 01: "Flow, disruptive action and metadata are the starter's": a later member may have them, and they are not used
abbrev pub rust_takes_metadata : Bool → ℕ → Bool
rust_takes_metadata later kind = true

-- 01: "a number above its limit"
abbrev pub rust_takes_number : ℕ → ℕ → Bool
rust_takes_number kind number = not (ltb (number_limit kind) number)

-- severity, maturity, accuracy. The manual: 0 to 7, 1 to 9 and 1 to 9. It is silent on the numbers of other kinds.
abbrev pub manual_takes_number : ℕ → ℕ → Bool
manual_takes_number kind number =
    cond (eqb kind 16) (leb number 7)
    (cond (eqb kind 17 || eqb kind 18) (leb 1 number && leb number 9) (rust_takes_number kind number))
