use borrow.Author.Rules.{rules}
use Rattle.abi.specs.MarkerWords.{words_of}
use Rattle.abi.proofs.marker_words.zeros.Goals as goal

pub returns : goal.returns
unfolding words_of
returns c = search rules
