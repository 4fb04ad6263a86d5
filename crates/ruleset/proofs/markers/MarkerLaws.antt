-- Names that are the same byte for byte or not, and one step of the search for the latest marker. Assumes nothing.
use Rattle.std.specs.Prelude.{Option, Some, None}
use Prim.Native.Nat.{ℕ, suc, ◌+◌, ◌-◌, ◌*◌, ◌/◌, ◌≤◌, ◌<◌}
use mathlib.Core.Path.{◌≡◌, refl, ◌∙◌}
use mathlib.Core.Bool.{Bool, true, false, cond}
use mathlib.Core.List.{List, [], ◌∷◌, ◌++◌}
use borrow.Author.Tests.{eq-eqb, ne_eqb}
use native.Mathlib.Omega.{arith}
use lib.ListN.{length, get_or, take, drop, drop_of_length-le}
use lib.Seq.{drop-cons, take-suc, take_all}
use Rattle.reading.specs.declared.Marker.{Marker}
use Rattle.reading.specs.Text.{same, part_of}
use Rattle.reading.specs.Records.{marker_from, marker_list}
use Rattle.reading.specs.Markers.{later, marker_position}
use Rattle.lists.proofs.RecordLaws.{length-markers, marker-is}

-- two names of one length, looked through from an index on
module _ (a b : List ℕ) (j : ℕ) (l : length a ≡ length b) where
  pub same_byte : j < length a → get_or a j 0 ≡ get_or b j 0 → same (drop j a) (drop j b) ≡ same (drop (suc j) a) (drop (suc j) b)
  unfolding same
  same_byte h e =
      let k : j < length b = omega arith in
      rw (drop-cons a j 0 h, drop-cons b j 0 k, eq-eqb (get_or a j 0) (get_or b j 0) e)

  pub other_byte : j < length a → (get_or a j 0 ≡ get_or b j 0 → ⊥) → same (drop j a) (drop j b) ≡ false
  unfolding same
  other_byte h n =
      let k : j < length b = omega arith in
      rw (drop-cons a j 0 h, drop-cons b j 0 k, ne_eqb (get_or a j 0) (get_or b j 0) n)

  pub same_end : length a ≤ j → same (drop j a) (drop j b) ≡ true
  unfolding same
  same_end h =
      let k : length b ≤ j = omega arith in
      rw (drop_of_length-le a h, drop_of_length-le b k)

-- the latest marker decides if it has the name, else those before it
module _ (text name : List ℕ) where
  pub position-last : (ms : List Marker) (m : Marker)
      → marker_position text (ms ++ (m ∷ [])) name
      ≡ cond (same (part_of text m.name) name) (Some m.position) (marker_position text ms name)
  unfolding marker_position
  position-last [] m = refl
  position-last (x ∷ xs) m =
      rw (position-last xs m) (go (same (part_of text m.name) name))
    where
      first : Option ℕ
      first = cond (same (part_of text x.name) name) (Some x.position) None

      go : (b : Bool) → later (cond b (Some m.position) (marker_position text xs name)) first
          ≡ cond b (Some m.position) (later (marker_position text xs name) first)
      go true = refl
      go false = refl

-- the position of the name among the first k markers of a lent list
abbrev pub position_in : List ℕ → List ℕ → List ℕ → ℕ → Option ℕ
position_in markers text name k = marker_position text (take k (marker_list markers)) name

module _ (markers text name : List ℕ) where
  pub position-all : marker_position text (marker_list markers) name ≡ position_in markers text name (length markers / 3)
  position-all =
      let e : length (marker_list markers) ≤ length markers / 3 = omega (arith, length-markers markers) in
      rw (take_all (length markers / 3) (marker_list markers) e)

  pub position-none : (k : ℕ) → k ≡ 0 → position_in markers text name k ≡ None
  unfolding marker_position
  position-none k e = rw e

  position-suc : (k : ℕ) → k < length markers / 3 → position_in markers text name (suc k)
      ≡ cond (same (part_of text (marker_from markers k).name) name) (Some (get_or markers (3 * k + 2) 0))
      (position_in markers text name k)
  position-suc k h =
      let i : k < length (marker_list markers) = omega (arith, length-markers markers) in
      rw (take-suc (marker_list markers) k (marker_from markers k) i, marker-is markers k (marker_from markers k) h)
      (position-last text name (take k (marker_list markers)) (marker_from markers k))

  -- the marker before k, which the search has come to: it has another name, or it is the one
  module _ (k : ℕ) (some : 0 < k) (h : k ≤ length markers / 3) where
    position_at : position_in markers text name k
        ≡ cond (same (part_of text (marker_from markers (k - 1)).name) name) (Some (get_or markers (3 * (k - 1) + 2) 0))
        (position_in markers text name (k - 1))
    position_at =
        let e : suc (k - 1) ≡ k = omega arith in
        rw e at (position-suc (k - 1) (omega arith))

    pub position-other : (other : List ℕ) → other ≡ part_of text (marker_from markers (k - 1)).name → same other name ≡ false
        → position_in markers text name k ≡ position_in markers text name (k - 1)
    position-other other is e = let d = rw is at e in position_at ∙ rw d

    pub position-found : (other : List ℕ) → other ≡ part_of text (marker_from markers (k - 1)).name → same other name ≡ true
        → position_in markers text name k ≡ Some (get_or markers (3 * (k - 1) + 2) 0)
    position-found other is e = let d = rw is at e in position_at ∙ rw d
