use Rattle.std.specs.Prelude.{Option}
use Prim.Native.Nat.{ℕ}
use mathlib.Core.List.{List}
use Rattle.reading.specs.declared.DataEntry.{DataEntry}
use Rattle.reading.specs.Records.{rule_list}
use Rattle.unit.specs.CloseUnit.{member_entry}
use Rattle.unit.proofs.close.EntryLaws.{Sofar, data_from}
use borrow.Author.Rules.{rules}
use Rattle.unit.proofs.close.put_entries.Given as goal

-- the entries of the members from the k-th entry of the journal's part on
abbrev pub entries_from : ℕ → Option ℕ → List ℕ → List ℕ → List ℕ → ℕ → List DataEntry
entries_from phase starter members rules outcomes k = data_from members (member_entry phase starter (rule_list rules) outcomes) k

abbrev pub invariant-loop-index : goal.invariant-loop-index
invariant-loop-index l = Sofar
    (entries_from l.phase l.starter l.members l.rules l.outcomes 0) (entries_from l.phase l.starter l.members l.rules l.outcomes l.index-index) l.initial.entries l.entries l.w
