use lib.ListN.{length}
use Prim.Native.Nat.{min}
use Rattle.reading.specs.Text.{id_parts}
use Rattle.reading.specs.Directive.{start_of, end_of}
use Rattle.ctl.proofs.id_ranges.Filling.{Done}
use Rattle.ctl.proofs.id_ranges.write_ranges.Given as goal

abbrev pub invariant-loop-part : goal.invariant-loop-part
invariant-loop-part l =
    Done start_of (min (length l.initial.starts) (length l.initial.ends)) (id_parts l.value) l.initial.starts l.starts l.k (length l.yielded)
    × Done end_of (min (length l.initial.starts) (length l.initial.ends)) (id_parts l.value) l.initial.ends l.ends l.k (length l.yielded)
