use Prim.Native.Nat.{◌*◌}
use mathlib.Core.Path.{refl, ap, ◌∙◌}
use Rattle.reading.specs.declared.RuleEngineMode.{RuleEngineMode}
use Rattle.reading.specs.Numbers.{mode_of_number}
use Rattle.reading.specs.Records.{marker_list, given_of}
use Rattle.apply.specs.Append.{struct_of}
use Rattle.transaction.specs.WalkRules.{members_at, left_under}
use Rattle.transaction.proofs.Found.{mode-law}
use Rattle.transaction.proofs.Parts.{lent_is, put_back}
use Rattle.transaction.proofs.walk.finish_unit.Goals as goal

pub returns : goal.returns
returns c =
    let a = c.args in
    let ids = a.ids.now in
    let entries = a.entries.now in
    let lists = c.close_unit-u.new in
    let arrays = c.unit_controls-h.new.arrays in
    let q = given_of a.call a.rules.now a.actions.now (marker_list a.markers.now) a.text.now a.outcomes.now in
    let counts = struct_of c.unit_controls-h.result arrays.starts arrays.ends arrays.phases arrays.positions in
    record {
      gave = c.close_unit-u.result;
      counts = c.unit_controls-h.result;
      free-ids = lists.ids;
      free-entries = lists.entries;
      wrote = rw (lent_is ids a.at.ids, lent_is entries (4 * a.at.entries)) at c.close_unit-u.ensures;
      ids-are = put_back ids a.at.ids lists.ids;
      entries-are = put_back entries (4 * a.at.entries) lists.entries;
      turned = c.unit_controls-h.ensures;
      left_is =
          c.leave_unit.ensures (marker_list a.markers.now) a.text.now a.outcomes.now
          ∙ ap (λ (m : RuleEngineMode). left_under m q (members_at a.at a.first a.journal.now) a.at c.close_unit-u.result
          c.unit_controls-h.result) (mode-law q counts (mode_of_number a.call.mode) _ refl refl);
    }
