-- A number of which the first bytes are read, at each stage of the pass. Assumes nothing.
use Rattle.std.specs.Prelude.{Option, Some, None}
use Prim.Native.Nat.{ℕ, ◌+◌, ◌-◌, ◌*◌, ◌≤◌}
use mathlib.Core.Path.{◌≡◌, refl, sym, ap, ◌∙◌}
use mathlib.Core.Bool.{Bool, true, false, cond, ◌&&◌}
use mathlib.Core.List.{List, [], ◌∷◌}
use native.Mathlib.Omega.{arith}
use borrow.Author.Tests.{le-leb, lt-leb, leb-true, leb-false, ne_eqb}
use lib.Dec.{leb, eqb}
use Rattle.reading.specs.Text.{is_blank, trim_start, before, trim_end, trim, is_digit, all_digits, value_from, largest, digits, without_plus, number_of}
use Rattle.text.proofs.number.Digits.{digits_from, digits-start, digits-over}
use Rattle.ctl.specs.declared.range_count.Stage.{Stage}
use Rattle.ctl.specs.Scan.{is_after_digits}

-- the digits so far come to v, and s follows: the value is held to the largest number at each digit
unfoldable pub run_from : ℕ → List ℕ → Option ℕ
run_from v [] = Some v
run_from v (d ∷ ds) =
    cond (is_digit d && leb (v * 10 + (d - 48)) largest) (run_from (v * 10 + (d - 48)) ds) None

-- the same where a digit must follow, and where nothing may
unfoldable pub some_from : ℕ → List ℕ → Option ℕ
some_from v [] = None
some_from v (d ∷ ds) = run_from v (d ∷ ds)

unfoldable pub none_from : ℕ → List ℕ → Option ℕ
none_from v [] = Some v
none_from v (x ∷ xs) = None

unfoldable pub num_from : Stage → ℕ → List ℕ → Option ℕ
num_from Stage.Start v s = some_from v (without_plus (trim s))
num_from Stage.Plus v s = some_from v (trim_end s)
num_from Stage.Digits v s = run_from v (trim_end s)
num_from Stage.AfterDigits v s = none_from v (trim_end s)

run-digits : (s : List ℕ) (v : ℕ) → v ≤ largest → run_from v s ≡ digits_from v s
unfolding run_from digits_from all_digits value_from
run-digits [] v h = rw (le-leb v largest h)
run-digits (d ∷ ds) v h =
    go (is_digit d) (leb (v * 10 + (d - 48)) largest) (λ l. run-digits ds (v * 10 + (d - 48)) (leb-true _ largest l))
    (λ l. digits-over ds (v * 10 + (d - 48)) (leb-false _ largest l))
  where
    go : (digit fits : Bool)
        → (fits ≡ true → run_from (v * 10 + (d - 48)) ds ≡ digits_from (v * 10 + (d - 48)) ds)
        → (fits ≡ false → digits_from (v * 10 + (d - 48)) ds ≡ None)
        → cond (digit && fits) (run_from (v * 10 + (d - 48)) ds) None
        ≡ cond ((digit && all_digits ds) && leb (value_from (v * 10 + (d - 48)) ds) largest)
        (Some (value_from (v * 10 + (d - 48)) ds)) None
    go true true next over = next refl
    go true false next over = sym (over refl)
    go false fits next over = refl

some-digits : (s : List ℕ) → some_from 0 s ≡ digits s
unfolding some_from digits
some-digits [] = refl
some-digits (d ∷ ds) = run-digits (d ∷ ds) 0 (omega arith) ∙ sym (digits-start (d ∷ ds) (λ e. omega arith))

pub num-start : (s : List ℕ) → num_from Stage.Start 0 s ≡ number_of (trim s)
unfolding num_from number_of
num-start s = some-digits (without_plus (trim s))

-- a byte that is no blank stays, and one in front that is goes
pub before-other : (b : ℕ) (t : List ℕ) → is_blank b ≡ false → before b t ≡ b ∷ t
unfolding before
before-other b [] e = rw e
before-other b (x ∷ xs) e = refl

pub trim-other : (b : ℕ) (s : List ℕ) → is_blank b ≡ false → trim (b ∷ s) ≡ b ∷ trim_end s
unfolding trim trim_start trim_end
trim-other b s e = rw e (before-other b (trim_end s) e)

pub trim-blank : (b : ℕ) (s : List ℕ) → is_blank b ≡ true → trim (b ∷ s) ≡ trim s
unfolding trim trim_start
trim-blank b s e = rw e

pub digit-not-blank : (b : ℕ) → 48 ≤ b → b ≤ 57 → is_blank b ≡ false
digit-not-blank b a z = rw (le-leb 9 b (omega arith), lt-leb b 13 (omega arith), ne_eqb b 32 (λ e. omega arith))

-- what each byte makes of a number
module _ (b : ℕ) (s : List ℕ) (v : ℕ) where
  module _ (a : 48 ≤ b) (z : b ≤ 57) where
    digit_here : is_digit b ≡ true
    digit_here = rw (le-leb 48 b a, le-leb b 57 z)

    not-blank : is_blank b ≡ false
    not-blank = digit-not-blank b a z

    pub num-digit : (stage : Stage)
        → num_from stage v (b ∷ s)
        ≡ cond (is_after_digits stage) None
        (cond (leb (v * 10 + (b - 48)) largest) (num_from Stage.Digits (v * 10 + (b - 48)) s) None)
    unfolding num_from some_from none_from run_from without_plus trim_end
    num-digit Stage.Start =
        ap (λ (l : List ℕ). some_from v (without_plus l)) (trim-other b s not-blank) ∙ rw (ne_eqb b 43 (λ e. omega arith), digit_here)
    num-digit Stage.Plus = ap (some_from v) (before-other b (trim_end s) not-blank) ∙ rw digit_here
    num-digit Stage.Digits = ap (run_from v) (before-other b (trim_end s) not-blank) ∙ rw digit_here
    num-digit Stage.AfterDigits = ap (none_from v) (before-other b (trim_end s) not-blank)

  module _ (e : is_blank b ≡ true) where
    pub num-blank-start : num_from Stage.Start v (b ∷ s) ≡ num_from Stage.Start v s
    unfolding num_from
    num-blank-start = ap (λ (l : List ℕ). some_from v (without_plus l)) (trim-blank b s e)

    pub num-blank-past : num_from Stage.AfterDigits v (b ∷ s) ≡ num_from Stage.AfterDigits v s
    unfolding num_from none_from trim_end before
    num-blank-past = go (trim_end s)
      where
        go : (t : List ℕ) → none_from v (before b t) ≡ none_from v t
        go [] = rw e
        go (x ∷ xs) = refl

    module _ (d : is_digit b ≡ false) where
      pub num-blank-plus : num_from Stage.Plus v (b ∷ s) ≡ None
      unfolding num_from some_from run_from trim_end before
      num-blank-plus = go (trim_end s)
        where
          go : (t : List ℕ) → some_from v (before b t) ≡ None
          go [] = rw e
          go (x ∷ xs) = rw d

      pub num-blank-digits : num_from Stage.Digits v (b ∷ s) ≡ num_from Stage.AfterDigits v s
      unfolding num_from none_from run_from trim_end before
      num-blank-digits = go (trim_end s)
        where
          go : (t : List ℕ) → run_from v (before b t) ≡ none_from v t
          go [] = rw e
          go (x ∷ xs) = rw d

  module _ (e : is_blank b ≡ false) where
    -- a "+" in front
    pub num-plus : eqb b 43 ≡ true → num_from Stage.Start v (b ∷ s) ≡ num_from Stage.Plus v s
    unfolding num_from without_plus
    num-plus p = ap (λ (l : List ℕ). some_from v (without_plus l)) (trim-other b s e) ∙ rw p

    -- any other byte, and a "+" that is not in front
    module _ (d : is_digit b ≡ false) where
      pub num-other-plus : num_from Stage.Plus v (b ∷ s) ≡ None
      unfolding num_from some_from run_from trim_end
      num-other-plus = ap (some_from v) (before-other b (trim_end s) e) ∙ rw d

      pub num-other-digits : num_from Stage.Digits v (b ∷ s) ≡ None
      unfolding num_from run_from trim_end
      num-other-digits = ap (run_from v) (before-other b (trim_end s) e) ∙ rw d

      pub num-other-past : num_from Stage.AfterDigits v (b ∷ s) ≡ None
      unfolding num_from none_from trim_end
      num-other-past = ap (none_from v) (before-other b (trim_end s) e)

      pub num-other : eqb b 43 ≡ false → (stage : Stage) → num_from stage v (b ∷ s) ≡ None
      unfolding num_from some_from run_from without_plus
      num-other p Stage.Start = ap (λ (l : List ℕ). some_from v (without_plus l)) (trim-other b s e) ∙ rw (p, d)
      num-other p Stage.Plus = num-other-plus
      num-other p Stage.Digits = num-other-digits
      num-other p Stage.AfterDigits = num-other-past
