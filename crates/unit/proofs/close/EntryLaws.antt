-- The id and the data entries of a unit, written to lent parts. Assumes nothing.
use Prim.Native.Nat.{ℕ, suc, ◌+◌, ◌-◌, ◌*◌, ◌/◌, ◌≤◌, ◌<◌}
use mathlib.Core.Path.{◌≡◌, refl, sym, ap, subst, ◌∙◌}
use mathlib.Core.Bool.{Bool, true, false, ◌&&◌}
use mathlib.Core.List.{List, [], ◌∷◌, ◌++◌, append-nil}
use native.Mathlib.Omega.{arith}
use borrow.Author.Tests.{ltb-true, ltb-false}
use lib.Dec.{ltb, eqb}
use lib.ListN.{length, take, drop, get_or, length-take}
use lib.Seq.{sets, length-take-le, take-nil}
use Rattle.reading.specs.declared.DataEntry.{DataEntry}
use Rattle.reading.specs.Lists.{keep, gather}
use Rattle.reading.specs.Records.{data_words, journal_list, matched_in}
use Rattle.lists.proofs.Filled.{Filled, filled-start, filled-done, filled_put}
use Rattle.unit.proofs.members.MatchedLaws.{next-entries}
use Rattle.unit.proofs.members.WordLaws.{length-data-words, data-words-append}
use Rattle.lists.proofs.RecordLaws.{entries-end}
use Rattle.unit.specs.CloseUnit.{fitting, Put, Listed}

none-fits : (b : Bool) → keep {A = DataEntry} b [] ≡ []
none-fits true = refl
none-fits false = refl

-- the first entries that fit, by the first one or none
take-fit : (room w : ℕ) (new rest : List DataEntry) → length new ≤ 1
    → take (room - w) (new ++ rest) ≡ keep (ltb w room) new ++ take (room - (w + length (keep (ltb w room) new))) rest
take-fit room w [] rest h =
    let z : w + 0 ≡ w = omega arith in
    rw (none-fits (ltb w room), z)
take-fit room w (e ∷ []) rest h = go (ltb w room) refl
  where
    go : (b : Bool) → ltb w room ≡ b → take (room - w) (e ∷ rest) ≡ keep b (e ∷ []) ++ take
        (room - (w + length (keep b (e ∷ [])))) rest
    go true d =
        let z : room - w ≡ suc (room - (w + 1)) = omega (arith, ltb-true w room d) in
        rw z
    go false d =
        let z : room - w ≡ 0 = omega (arith, ltb-false w room d) in
        let y : room - (w + 0) ≡ 0 = omega (arith, ltb-false w room d) in
        rw (z, y)
take-fit room w (e ∷ f ∷ new) rest h = absurd (omega arith)

-- all entries that fit in `old`; those of `todo` are still to be written, from the place w on
abbrev pub Sofar : List DataEntry → List DataEntry → List ℕ → List ℕ → ℕ → Type 0
Sofar all todo old cur w = Filled (data_words (take (length old / 4) all)) (data_words (take (length old / 4 - w) todo)) old cur
    (4 * w)

module _ (all : List DataEntry) (old : List ℕ) where
  abbrev room : ℕ
  room = length old / 4

  pub sofar-start : Sofar all all old old 0
  sofar-start =
      let z : room - 0 ≡ room = omega arith in
      let l : length (data_words (take room all)) ≤ length old = omega (arith, length-data-words (take room all), length-take room all)
      in
      rw z (filled-start (data_words (take room all)) old l)

  pub sofar-more : (todo new rest : List DataEntry) (cur cur' : List ℕ) (w w' : ℕ) → todo ≡ new ++ rest → length new ≤ 1
      → Sofar all todo old cur w → Put new w cur w' cur' → Sofar all rest old cur' w'
  sofar-more todo new rest cur cur' w w' e h s p =
      let same : fitting cur w new ≡ keep (ltb w room) new = ap (λ (n : ℕ). keep (ltb w (n / 4)) new) s.kept in
      let fit = keep (ltb w room) new in
      let n : w' ≡ w + length fit = p.next-is ∙ ap (λ (l : List DataEntry). w + length l) same in
      let t : data_words (take (room - w) todo) ≡ data_words fit ++ data_words (take (room - w') rest)
      = ap (λ (l : List DataEntry). data_words (take (room - w) l)) e
      ∙ (ap data_words (take-fit room w new rest h) ∙ (data-words-append fit (take (room - (w + length fit)) rest)
      ∙ ap (λ (k : ℕ). data_words fit ++ data_words (take (room - k) rest)) (sym n))) in
      let f = subst (λ (l : List ℕ). Filled (data_words (take room all)) l old cur (4 * w)) t s in
      let g = filled_put (data_words fit) (data_words (take room all)) (data_words (take (room - w') rest)) old cur (4 * w) f in
      let k : 4 * w + length (data_words fit) ≡ 4 * w' = omega (arith, length-data-words fit, n) in
      let c : cur' ≡ sets cur (4 * w) (data_words fit) = p.words ∙ ap (λ (l : List DataEntry). sets cur (4 * w) (data_words l))
      same in
      rw c (rw k at g)

  pub sofar-end : (cur : List ℕ) (w : ℕ) → Sofar all [] old cur w → Listed all old w cur
  sofar-end cur w s =
      let f = subst (λ (l : List DataEntry). Filled (data_words (take room all)) (data_words l) old cur (4 * w))
      (take-nil (room - w)) s in
      let a : take (4 * w) cur ≡ data_words (take room all) = sym (append-nil (take (4 * w) cur)) ∙ f.written in
      let l : 4 * w ≡ 4 * length (take room all)
      = sym (length-take-le (4 * w) cur (omega (arith, f.room))) ∙ (ap length a ∙ length-data-words (take room all)) in
      record { count-is = omega (arith, l); words = filled-done (data_words (take room all)) old cur (4 * w) f }

-- one entry of a part of the journal: a member's data, or nothing
module _ (members : List ℕ) (give : ℕ → List DataEntry) where
  abbrev pub data_from : ℕ → List DataEntry
  data_from k = gather give (matched_in (drop k (journal_list members)))

  pub data-end : (k : ℕ) → length members / 2 ≤ k → data_from k ≡ []
  data-end k h = rw (entries-end members k h)

  -- give m is an entry where the outcome is 2
  pub data-more : (k outcome : ℕ) (e : DataEntry) → k < length members / 2
      → give (get_or members (2 * k) 0) ≡ keep (eqb outcome 2) (e ∷ [])
      → data_from k ≡ keep (eqb (get_or members (2 * k + 1) 0) 1 && eqb outcome 2) (e ∷ []) ++ data_from (k + 1)
  data-more k outcome e h g = rw (next-entries members k h) (go (eqb (get_or members (2 * k + 1) 0) 1))
    where
      more : List ℕ
      more = matched_in (drop (k + 1) (journal_list members))

      go : (b : Bool) → gather give (keep b (get_or members (2 * k) 0 ∷ []) ++ more) ≡ keep (b && eqb outcome 2) (e ∷ []) ++ gather
          give more
      go true = rw g
      go false = refl

pub at_most_one : (b : Bool) (e : DataEntry) → length (keep b (e ∷ [])) ≤ 1
at_most_one true e = omega arith
at_most_one false e = omega arith
