use Rattle.std.proofs.Common.{ℕ, List, ◌≡◌, ap, sym, ◌∙◌, length, drop, true, false, unwrap_or, ◌+◌, Bor}
use Rattle.std.specs.Option.{MatchOption}
use Rattle.std.specs.declared.option.Option.{Option}
use Rattle.std.specs.declared.option.Option.TheVariants.{Some, None}
use Rattle.reading.specs.Text.{digits, number_of}
use Rattle.text.proofs.number.Digits.{has_plus, number_plain, number_plus}
use Rattle.text.proofs.number.read_number.Goals as goal

stripped : (s : Bor (List ℕ)) (r : Option (Bor (List ℕ)))
    → MatchOption r (has_plus s.now ≡ false) (λ x. (has_plus s.now ≡ true) × (x.now ≡ drop 1 s.now) × (length x.now + 1 ≡ length s.now))
    → digits (unwrap_or r s).now ≡ number_of s.now
stripped s None e = sym (number_plain s.now e)
stripped s (Some x) e = ap digits e.1 ∙ sym (number_plus s.now e.0)

pub returns : goal.returns
returns c = c.read_digits.ensures ∙ ap (λ t. digits t.now) c.unwrap_or.ensures ∙ stripped c.args.s c.strip_prefix.result c.strip_prefix.ensures.cases
