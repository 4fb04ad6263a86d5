use mathlib.Core.Path.{◌≡◌}
use lib.ListN.{length, take}
use Rattle.abi.specs.MarkerWords.{words_of}
use Rattle.abi.proofs.marker_words.unpack.Given as goal

-- the first records are copied
abbrev pub invariant-loop-i : goal.invariant-loop-i
invariant-loop-i l = (l.c.words ≡ words_of (take l.i l.markers)) × (l.c.count ≡ length l.markers)
