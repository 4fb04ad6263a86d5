use Prim.Native.Nat.{ℕ, min}
use mathlib.Core.Path.{◌≡◌, ap, ◌∙◌}
use mathlib.Core.List.{List}
use native.Mathlib.Omega.{arith}
use lib.ListN.{length, get_or, take}
use Rattle.abi.specs.declared.marker_words.MarkerWords.{MarkerWords}
use Rattle.abi.specs.MarkerWords.{words_of}
use Rattle.abi.proofs.marker_words.Padded.{no_marker, three_set, next-words, all_words}
use Rattle.abi.proofs.marker_words.unpack.Goals as goal

abbrev made : List ℕ → ℕ → MarkerWords
made ws n = record { words = ws; count = n }

pub loop-i-preserved : goal.loop-i-preserved
loop-i-preserved c =
    let ms = c.args.markers.now in
    let i = c.loop-i.i in (
      ap (λ (ws : List ℕ). three_set ws i (get_or ms i no_marker)) c.loop-i.invariant.0
          ∙ next-words ms i (omega (arith, c.min-i-end.ensures)) (omega (arith, c.min-i-end.ensures)),
      c.loop-i.invariant.1,
    )

pub returns : goal.returns
returns c =
    let ms = c.args.markers.now in
    let all : c.loop-i.i ≡ min (length ms) 257 = omega (arith, c.min-i-end.ensures) in
    let words : c.loop-i.c.words ≡ words_of ms = c.loop-i.invariant.0 ∙ ap (λ (n : ℕ). words_of (take n ms)) all ∙ all_words ms in
    ap (λ (ws : List ℕ). made ws c.loop-i.c.count) words
    ∙ ap (made (words_of ms)) c.loop-i.invariant.1
