-- What the additions to two lent arrays leave, by the laws of the struct's arrays. Assumes nothing.
use Prim.Native.Nat.{ℕ, ◌+◌, ◌≤◌, ◌<◌}
use mathlib.Core.Path.{◌≡◌, refl, sym, ap, ◌∙◌}
use mathlib.Core.Logic.{◌⊎◌, inl, inr}
use mathlib.Core.Bool.{Bool, true, false, cond}
use mathlib.Core.List.{List, [], map}
use native.Mathlib.Omega.{arith}
use borrow.Author.Tests.{lt-ltb, le-ltb, le-leb, lt-leb}
use lib.Dec.{ltb}
use lib.ListN.{length, drop, set}
use lib.Seq.{sets, length-sets}
use Rattle.reading.specs.declared.Place.{Place}
use Rattle.reading.specs.declared.RuleIdRange.{RuleIdRange}
use Rattle.reading.specs.Text.{trim, id_parts, ranges_in}
use Rattle.reading.specs.Directive.{removal_value, ranges_of, start_of, end_of}
use Rattle.reading.specs.Ranges.{add_ranges}
use Rattle.reading.specs.Controls as reading
use Rattle.control.specs.declared.state.Controls.{Controls}
use Rattle.control.specs.ControlsStruct.{controls_of, RestCleared, Became}
use Rattle.control.specs.Merging.{MergedAfter, cleared_from}
use Rattle.lists.proofs.Tests.{or-false-is}
use Rattle.control.proofs.state.HeldLaws as held
use Rattle.apply.specs.declared.append.ControlCounts.{ControlCounts}
use Rattle.apply.specs.Append.{struct_of, Changed, target_if_room, ranges_if_room, TargetAdded, Fitting, RangesAdded}
use Rattle.apply.proofs.append.ChangedLaws.{or-true, changed-same}

-- a change of the struct that adds no range
became-changed : {added : Bool} {a b : Controls} {x : reading.Controls} → Became false a b x → Changed false added a added b x
became-changed {added} k = record {
  meaning = k.meaning;
  flag = sym (or-false-is added);
  kept = k.kept;
  cleared = λ z. absurd (held.true-false (sym z));
  phases = k.phases;
  positions = k.positions;
}

module _ (h : ControlCounts) (at : Place) (phases positions : List ℕ) where
  pub target-full : 64 ≤ h.targets → TargetAdded h at phases positions h phases positions
  target-full l starts ends =
      let c = struct_of h starts ends phases positions in
      let e : controls_of c ≡ target_if_room (controls_of c) at = rw (held.targets-length c, le-leb 64 h.targets l) in
      rw (← e) (changed-same h.added c)

  pub target-put : length phases ≡ 64 → length positions ≡ 64 → h.targets < 64
      → TargetAdded h at phases positions (record { settings = h.settings; ranges = h.ranges; targets = h.targets + 1; added = h.added })
      (set phases h.targets at.phase) (set positions h.targets at.position)
  target-put lh lo l starts ends =
      let c = struct_of h starts ends phases positions in
      rw (held.targets-length c, lt-leb 64 h.targets l) (became-changed (held.target-put c at lh lo l))

-- the ranges of a value: none, and all written after those in use and merged in; v is the value, trimmed, and n what `fitting` gave. a and b
-- are the arrays cleared after the ranges, unless that was done
module _ (h : ControlCounts) (value v starts ends : List ℕ) (is : v ≡ trim value) (n : ℕ) (fitting : Fitting v h.ranges n)
    (ls : length starts ≡ 256) (le : length ends ≡ 256) where
  abbrev new : List RuleIdRange
  new = ranges_of (removal_value (trim value))

  -- a change that adds ranges, by what it means and what the places then hold
  adding : {a b : Controls} {x : reading.Controls} → controls_of b ≡ x → ((h.added ≡ true → RestCleared a) → RestCleared b)
      → drop b.targets b.phases ≡ drop b.targets a.phases → drop b.targets b.positions ≡ drop b.targets a.positions
      → Changed true h.added a true b x
  adding m k p q = record {
    meaning = m;
    flag = sym (or-true h.added);
    kept = λ z. absurd (held.true-false z);
    cleared = λ z. k;
    phases = p;
    positions = q;
  }

  add_none : (held : List RuleIdRange) → add_ranges held [] ≡ held
  unfolding add_ranges
  add_none held = refl

  -- the ranges held, where there are none or no room
  unchanged : (c : Controls) → c.ranges ≡ h.ranges → (new ≡ []) ⊎ (256 < h.ranges + length new) → controls_of c ≡ ranges_if_room (controls_of c) new
  unchanged c e (inl z) = rw (z, add_none (controls_of c).ranges) (go (ltb 256 (length (controls_of c).ranges + 0)))
    where
      go : (b : Bool) → controls_of c ≡ reading.with_ranges (controls_of c) (cond b (controls_of c).ranges (controls_of c).ranges)
      go true = refl
      go false = refl
  unchanged c e (inr l) =
      rw (lt-ltb 256 (length (controls_of c).ranges + length new) (omega (arith, held.ranges-length c)))

  pub lent_none : n ≡ 0 → (a b : List ℕ) → a ≡ cleared_from h.added h.ranges starts → b ≡ cleared_from h.added h.ranges ends
      → RangesAdded h value starts ends (record { settings = h.settings; ranges = h.ranges; targets = h.targets; added = true }) a b
  lent_none e a b a-is b-is phases positions =
      let c = struct_of h starts ends phases positions in
      let o : (new ≡ []) ⊎ (256 < h.ranges + length new) = rw is at (fitting.none e) in
      rw (a-is, b-is, ← (unchanged c refl o))
      (let t = held.none-added c ls le h.added in adding t.0 t.1 refl refl)

  pub lent-merged : (n ≡ 0 → ⊥) → (starts₁ ends₁ a b : List ℕ)
      → starts₁ ≡ cleared_from h.added h.ranges starts → ends₁ ≡ cleared_from h.added h.ranges ends
      → a ≡ sets starts₁ h.ranges (map start_of (ranges_in (id_parts v))) → b ≡ sets ends₁ h.ranges (map end_of (ranges_in (id_parts v)))
      → (count : ℕ) (starts' ends' : List ℕ) → MergedAfter h.ranges (h.ranges + n) a b count starts' ends'
      → RangesAdded h value starts ends (record { settings = h.settings; ranges = count; targets = h.targets; added = true }) starts' ends'
  lent-merged z starts₁ ends₁ a b starts-are ends-are a-is b-is count starts' ends' m phases positions =
      let c = struct_of h starts ends phases positions in
      let f = fitting.all z in
      let are : ranges_in (id_parts v) ≡ new = sym f.1 ∙ ap (λ (x : List ℕ). ranges_of (removal_value x)) is in
      let size : n ≡ length new = sym f.0 ∙ ap length are in
      let room : h.ranges + length new ≤ 256 = omega (arith, f.2) in
      let few : h.ranges ≤ 256 = omega arith in
      let long : length a ≡ 256
      = rw (a-is, starts-are) (length-sets (cleared_from h.added h.ranges starts) h.ranges (map start_of (ranges_in (id_parts v)))
      ∙ held.cleared-length h.added h.ranges starts ls few) in
      let long' : length b ≡ 256
      = rw (b-is, ends-are) (length-sets (cleared_from h.added h.ranges ends) h.ranges (map end_of (ranges_in (id_parts v)))
      ∙ held.cleared-length h.added h.ranges ends le few) in
      let all = m.merged (record { in_order = omega arith; in-starts = omega (arith, long, f.2); in-ends = omega (arith, long', f.2) }) in
      let t = held.ranges-added c ls le few h.added new room a b
      (rw (are, starts-are) at a-is) (rw (are, ends-are) at b-is) count starts' ends' (rw size at all) in
      rw (le-ltb 256 (length (controls_of c).ranges + length new) (omega (arith, held.ranges-length c))) (adding t.0 t.1 refl refl)
