-- Why a call is refused: 01's numbers 1 to 9 in their order, over everything lent. Sums are sums of natural numbers, so none wraps.
use Rattle.std.specs.Prelude.{ℕ, ◌+◌, Bool, not, cond, ◌&&◌, ◌||◌, length, ltb, leb, eqb}
use Rattle.reading.specs.declared.Part.{Part}
use Rattle.reading.specs.declared.Rule.{Rule}
use Rattle.reading.specs.declared.Action.{Action}
use Rattle.reading.specs.declared.Marker.{Marker}
use Rattle.reading.specs.Lists.{any, total}
use Rattle.reading.specs.Text.{largest}
use Rattle.reading.specs.Directive.{Directive, is_high, range_count, target_count}
use Rattle.reading.specs.Limits.{most_rules, most_actions, most_markers, most_bytes, most_ranges, most_targets}
use Rattle.reading.specs.Controls.{bad_controls}
use Rattle.reading.specs.Actions.{actions_of, controls_in, directive_in}
use Rattle.reading.specs.Call.{Given, Call, rule_count}

-- 1. "The phase is not 1 to 5, or the rule set's mode is not 0 (On), 1 (DetectionOnly) or 2 (Off)."
unfoldable pub refused1 : Call → Bool
refused1 q = ltb q.given.settings.phase 1 || ltb 5 q.given.settings.phase || ltb 2 q.given.settings.mode

-- 2. "There are more than 512 rules, 4,096 actions, 256 markers or 65,536 text bytes."
unfoldable pub refused2 : Call → Bool
refused2 q =
    ltb most_rules (rule_count q.given) || ltb most_actions (length q.given.actions) || ltb most_markers (length q.given.markers) || ltb most_bytes (length q.given.text)

-- 3. "The transaction counts more than 256 ranges, more than 64 targets, or more entries than a lent list has."; 02: "3 also meets ranges
-- not in this form or with start above end."
unfoldable pub refused3 : Call → Bool
refused3 q =
    bad_controls q.transaction.controls
    || ltb (length q.lists.ids) q.transaction.ids
    || ltb (length q.lists.data-entries) q.transaction.data-entries

-- 4. "The outcomes are not as many as the rules."
unfoldable pub refused4 : Call → Bool
refused4 q = not (eqb (length q.given.outcomes) (rule_count q.given))

-- "a part outside its list or text": one that ends after a list of so many entries
abbrev pub outside : ℕ → ℕ → ℕ → Bool
outside entries start len = ltb entries (start + len)

-- the same of a part of a text of so many bytes
abbrev pub outside_text : ℕ → Part → Bool
outside_text bytes p = outside bytes p.start p.len

-- the greatest number of a kind: "8 skip (number at most 4294967295)", "16 to 18: at most 255", "20 status (at most 65535)"
abbrev pub number_limit : ℕ → ℕ
number_limit kind =
    cond (eqb kind 8) 4294967295
    (cond (leb 16 kind && leb kind 18) 255
    (cond (eqb kind 20) 65535 largest))

-- a rule among so many actions
abbrev pub bad_rule : ℕ → Rule → Bool
bad_rule actions r = ltb 1 r.present || ltb 1 r.link || outside actions r.first r.count

-- "A kind without a text or number ignores it, but its parts must lie inside the text."
abbrev pub bad_action : ℕ → Action → Bool
bad_action bytes a = ltb 20 a.kind || ltb (number_limit a.kind) a.number || outside_text bytes a.text || outside_text bytes a.value

-- a marker of a text of so many bytes and so many rules
abbrev pub bad_marker : ℕ → ℕ → Marker → Bool
bad_marker bytes rules m = outside_text bytes m.name || ltb rules m.position

-- "Outcome per rule: 0 missed, 1 matched without a variable, 2 matched with one, 3 rule error."
abbrev pub bad_outcome : ℕ → Bool
bad_outcome outcome = ltb 3 outcome

-- 5. "A record holds an unknown kind, flag or outcome, a number above its limit, a part outside its list or text, or a
-- marker position above the rule count."
unfoldable pub refused5 : Call → Bool
refused5 q =
    any (bad_rule (length q.given.actions)) q.given.rules
    || any (bad_action (length q.given.text)) q.given.actions
    || any (bad_marker (length q.given.text) (rule_count q.given)) q.given.markers
    || any bad_outcome q.given.outcomes

-- 6. "The text has a byte of 80 (hexadecimal) or more."
unfoldable pub refused6 : Call → Bool
refused6 q = any is_high q.given.text

-- 7. "The ids, data or journal list has fewer free entries than there are rules."
unfoldable pub refused7 : Call → Bool
refused7 q =
    ltb (length q.lists.ids) (q.transaction.ids + rule_count q.given)
    || ltb (length q.lists.data-entries) (q.transaction.data-entries + rule_count q.given)
    || ltb (length q.lists.journal) (rule_count q.given)

-- what all ctl actions of a rule give, each counted by its directive: 0 where it is unsupported
unfoldable pub rule_total : Given → (Directive → ℕ) → Rule → ℕ
rule_total g counted r = total (λ p. counted (directive_in g.text p)) (controls_in (actions_of g.actions r))

-- 8. "Held ranges plus those of all supported ruleRemoveById actions, counted rule by rule, exceed 256."; 02: "8 counts the merged ranges
-- held plus the phase's own": these as written, also where they would merge
unfoldable pub refused8 : Call → Bool
refused8 q = ltb most_ranges (length q.transaction.controls.ranges + total (rule_total q.given range_count) q.given.rules)

-- 9. "Held targets plus those of all supported target actions, counted rule by rule, exceed 64."
unfoldable pub refused9 : Call → Bool
refused9 q = ltb most_targets (length q.transaction.controls.targets + total (rule_total q.given target_count) q.given.rules)

-- 01: "Number and order agree; the first that applies is the answer, else 0 or 10." 0: none applies.
unfoldable pub refusal_of : Call → ℕ
refusal_of q =
    cond (refused1 q) 1
    (cond (refused2 q) 2
    (cond (refused3 q) 3
    (cond (refused4 q) 4
    (cond (refused5 q) 5
    (cond (refused6 q) 6
    (cond (refused7 q) 7
    (cond (refused8 q) 8
    (cond (refused9 q) 9 0))))))))

abbrev pub is_accepted : Call → Bool
is_accepted q = eqb (refusal_of q) 0
