use Rattle.apply.proofs.append.WrittenLaws.{written_after}
use Rattle.apply.proofs.append.write_after.Goals as goal

pub returns : goal.returns
returns c =
    let w = written_after c.args.value.now c.args.starts.now c.args.ends.now c.args.used c.requires.0 c.requires.1 _ _ c.write_ranges.ensures in
    record { starts_after = w.0; ends_after = w.1 }
