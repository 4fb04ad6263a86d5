use Prim.Native.Nat.{◌+◌, ◌*◌, ◌/◌, ◌<◌}
use native.Mathlib.Omega.{arith}
use mathlib.Core.Path.{◌≡◌}
use mathlib.Core.List.{[], ◌∷◌}
use mathlib.Core.Bool.{◌&&◌}
use lib.Dec.{eqb}
use Rattle.reading.specs.Lists.{keep}
use lib.ListN.{length, get_or}
use Rattle.lists.proofs.Chunks.{entry-words}
use Rattle.reading.specs.Records.{rule_list}
use Rattle.unit.specs.CloseUnit.{member_entry}
use Rattle.unit.proofs.close.EntryLaws.{sofar-start, sofar-more, sofar-end, data_from, data-more, data-end, at_most_one}
use Rattle.unit.proofs.close.put_entries.Invariants.{entries_from}
use Rattle.unit.proofs.close.put_entries.Goals as goal

pub loop-index-init : goal.loop-index-init
loop-index-init c = let a = c.args in
    sofar-start (entries_from a.phase a.starter a.members.now a.rules.now a.outcomes.now 0) a.entries.now

pub loop-index-preserved : goal.loop-index-preserved
loop-index-preserved c = let a = c.args in
    let k = c.loop-index.index-index in
    let give = member_entry a.phase a.starter (rule_list a.rules.now) a.outcomes.now in
    let e = c.data_entry-e in
    let o = c.outcome_at in
    let p = c.put_entry-w in
    let h : k < length a.members.now / 2 = omega (arith, c.as_chunks.ensures.front_len) in
    let words = entry-words a.members.now _ c.as_chunks.ensures.front k h in
    let is : give (get_or a.members.now (2 * k) 0) ≡ keep (eqb o.result 2) (e.result ∷ []) =
    rw (
      ← words.0,
      o.ensures,
      e.ensures,
      c.own_or.ensures,
      c.rule_id-own.ensures,
      c.rule_at.ensures,
    ) in
    sofar-more (data_from a.members.now give 0) a.entries.now (data_from a.members.now give k) _
    (data_from a.members.now give (k + 1))
    c.loop-index.entries _
    c.loop-index.w p.result
    (data-more a.members.now give k o.result e.result h is)
    (at_most_one (eqb (get_or a.members.now (2 * k + 1) 0) 1 && eqb o.result 2) e.result)
    c.loop-index.invariant
    (rw words.1 at p.ensures)

pub returns : goal.returns
returns c = let a = c.args in
    let give = member_entry a.phase a.starter (rule_list a.rules.now) a.outcomes.now in
    let e = data-end a.members.now give c.loop-index.index-index (omega (arith, c.as_chunks.ensures.front_len)) in
    sofar-end (data_from a.members.now give 0) a.entries.now c.loop-index.entries c.loop-index.w
    (rw e at c.loop-index.invariant)
