-- Filling a list from its start. Assumes nothing.
use Prim.Native.Nat.{ℕ, suc, ◌+◌, ◌≤◌, ◌<◌}
use mathlib.Core.Path.{◌≡◌, refl, sym, ap, ◌∙◌}
use mathlib.Core.List.{List, [], ◌∷◌, ◌++◌, append_assoc, append-nil}
use native.Mathlib.Omega.{arith}
use native.Mathlib.Numerals.{add-one}
use lib.ListN.{length, take, drop, set, length-set, take-append-drop}
use lib.Seq.{take-suc-set, drop-set-lt, drop-drop, length-take-le, sets}
use Rattle.reading.specs.Lists.{over}

-- of the entries `all`, those of `todo` are still to be written at k; `old` is the list as lent, `cur` as it is
pub record Filled (all todo old cur : List ℕ) (k : ℕ) : Type 0 where
  pub kept : length cur ≡ length old
  pub room : k + length todo ≤ length cur
  pub written : take k cur ++ todo ≡ all
  pub rest : drop k cur ≡ drop k old

pub filled-start : (all old : List ℕ) → length all ≤ length old → Filled all all old old 0
filled-start all old h = record { kept = refl; room = omega arith; written = refl; rest = refl }

pub filled-done : (all old cur : List ℕ) (k : ℕ) → Filled all [] old cur k → cur ≡ over old all
filled-done all old cur k f =
    let a : take k cur ≡ all = sym (append-nil (take k cur)) ∙ f.written in
    let n : k ≡ length all = sym (length-take-le k cur (omega (arith, f.room))) ∙ ap length a in
    sym (take-append-drop k cur)
    ∙ (ap (λ (l : List ℕ). l ++ drop k cur) a ∙ (ap (λ (l : List ℕ). all ++ l) f.rest ∙ ap (λ (m : ℕ). all ++ drop m old) n))

filled-one : (x : ℕ) (all todo old cur : List ℕ) (k : ℕ) → Filled all (x ∷ todo) old cur k → Filled all todo old (set cur k x)
    (suc k)
filled-one x all todo old cur k f =
    let h : k < length cur = omega (arith, f.room) in
    let a : drop (suc k) (set cur k x) ≡ drop (suc k) cur = drop-set-lt (suc k) cur k x (omega arith) in
    let b : drop (k + 1) cur ≡ drop (k + 1) old = sym (drop-drop 1 k cur) ∙ (ap (drop 1) f.rest ∙ drop-drop 1 k old) in
    record {
      kept = length-set cur k x ∙ f.kept;
      room = simp length-set (omega (arith, f.room));
      written = rw (take-suc-set cur k x h, append_assoc) f.written;
      rest = a ∙ (rw add-one at b);
    }

-- the entries vs put at k
pub filled_put : (vs all todo old cur : List ℕ) (k : ℕ) → Filled all (vs ++ todo) old cur k → Filled all todo old (sets cur k vs)
    (k + length vs)
filled_put [] all todo old cur k f = let z : k + 0 ≡ k = omega arith in rw z f
filled_put (x ∷ vs) all todo old cur k f =
    let z : k + suc (length vs) ≡ suc k + length vs = omega arith in
    rw z (filled_put vs all todo old (set cur k x) (suc k) (filled-one x all (vs ++ todo) old cur k f))
