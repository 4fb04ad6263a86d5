-- What the struct's tests and stores mean for the controls that it holds. Assumes nothing.
use Rattle.std.specs.Prelude.{Ok, Err}
use Prim.Native.Nat.{ℕ, ◌+◌, ◌-◌, ◌≤◌, ◌<◌}
use mathlib.Core.Path.{◌≡◌, refl, sym, ap, ◌∙◌}
use mathlib.Core.Bool.{Bool, true, false, not, cond, ◌||◌}
use mathlib.Core.List.{List, [], ◌∷◌, ◌++◌, map, append-nil}
use native.Mathlib.Omega.{arith}
use borrow.Author.Tests.{ltb-true, ltb-false, le-ltb, lt-leb, eq-eqb, not-false}
use lib.Dec.{ltb, leb}
use lib.ListN.{length, take, drop, set, replicate, drop_of_length-le, length-map, length-append, length-replicate, length-set, replicate-append-replicate}
use lib.Seq.{take_all, sets, drop-set-lt, drop_at, take_at, drop-drop, length-take-le}
use Rattle.reading.specs.declared.Refusal.{Refusal}
use Rattle.reading.specs.Numbers.{refusal_number}
use Rattle.reading.specs.declared.RuleIdRange.{RuleIdRange}
use Rattle.reading.specs.declared.Place.{Place}
use Rattle.reading.specs.Directive.{start_of, end_of}
use Rattle.reading.specs.Ranges.{is_merged, add_range, add_ranges}
use Rattle.reading.specs.Controls.{bad_controls, add_range_answer, add_target_answer, with_range, with_target, range_list}
use Rattle.reading.specs.Controls as reading
use Rattle.theorems.specs.MergedRanges as form
use Rattle.control.specs.declared.state.Controls.{Controls}
use Rattle.control.specs.ControlsStruct.{controls_of, RangesKept, RestCleared, Became, Added}
use Rattle.control.specs.Merging.{Merged, MergedAfter, cleared_from}
use Rattle.control.proofs.fields.PairLaws.{range_of, place_of, length_pairs}
use Rattle.control.proofs.ranges.RowLaws.{rows-front}
use Rattle.control.proofs.ranges.MergingLaws.{drop-replicate}
use Rattle.control.proofs.state.RunLaws.{drop-sets, pairs-sets, pairs-under}

pub ranges-length : (c : Controls) → length (controls_of c).ranges ≡ c.ranges
unfolding controls_of
ranges-length c = length_pairs range_of c.starts c.ends c.ranges

pub targets-length : (c : Controls) → length (controls_of c).targets ≡ c.targets
unfolding controls_of
targets-length c = length_pairs place_of c.phases c.positions c.targets

-- what `is_bad` tests
abbrev pub bad_parts : ℕ → ℕ → List ℕ → List ℕ → Bool
bad_parts ranges targets starts ends = ltb 256 ranges || ltb 64 targets || not (is_merged (range_list ranges starts ends))

pub bad : (c : Controls) → bad_controls (controls_of c) ≡ bad_parts c.ranges c.targets c.starts c.ends
unfolding bad_controls controls_of
bad c = rw (length_pairs range_of c.starts c.ends c.ranges, length_pairs place_of c.phases c.positions c.targets)

-- without a range only the targets are looked at
pub bad-empty : (c : Controls) → c.ranges ≡ 0 → ltb 64 c.targets ≡ bad_controls (controls_of c)
bad-empty c e = sym (bad c ∙ go (ltb 64 c.targets))
  where
    go : (b : Bool) → (ltb 256 c.ranges || b || not (is_merged (range_list c.ranges c.starts c.ends))) ≡ b
    go true = rw e
    go false = rw e

-- what it says where it gave false
pub record NotBad (ranges targets : ℕ) (starts ends : List ℕ) : Type 0 where
  pub few-ranges : ranges ≤ 256
  pub few-targets : targets ≤ 64
  pub form-kept : form.Merged (range_list ranges starts ends)

pub not-bad : (ranges targets : ℕ) (starts ends : List ℕ) (t : Bool) → t ≡ bad_parts ranges targets starts ends → t ≡ false → NotBad ranges targets starts ends
not-bad ranges targets starts ends t is e = go (ltb 256 ranges) refl (ltb 64 targets) refl (sym is ∙ e)
  where
    go : (a : Bool) → ltb 256 ranges ≡ a → (b : Bool) → ltb 64 targets ≡ b → (a || b || not (is_merged (range_list ranges starts ends))) ≡ false
        → NotBad ranges targets starts ends
    go true d b k h = absurd (let z : ◌≡◌ {A = ℕ} 0 1 = cc in omega arith)
    go false d true k h = absurd (let z : ◌≡◌ {A = ℕ} 0 1 = cc in omega arith)
    go false d false k h =
        record {
          few-ranges = ltb-false 256 ranges d;
          few-targets = ltb-false 64 targets k;
          form-kept = form.form-says 0 (range_list ranges starts ends) (not-false (is_merged (range_list ranges starts ends)) h);
        }

pub true-false : true ≡ false → ⊥
true-false e = let z : ◌≡◌ {A = ℕ} 0 1 = cc in omega arith

-- a change that leaves the ranges and their arrays
pub ranges-kept : (c : Controls) → RangesKept c c
ranges-kept c = record { count = refl; starts = refl; ends = refl }

-- an addition that hands the struct back, since its answer is not 0
handed-back : (adds : Bool) (c : Controls) (x : Refusal) (answer : ℕ) (m : reading.Controls) → answer ≡ refusal_number x → (refusal_number x ≡ 0 → ⊥)
    → Added adds c (record { answer = Err x; controls = c }) answer m
handed-back adds c x answer m e d =
    record { answer-is = sym e; became = λ z. absurd (d (sym e ∙ z)); refused = λ h. refl }

-- RANGES MERGED IN

-- the struct with other ranges
abbrev pub grown : Controls → List ℕ → List ℕ → ℕ → Controls
grown c starts ends count =
    record {
      settings = c.settings;
      starts = starts;
      ends = ends;
      ranges = count;
      phases = c.phases;
      positions = c.positions;
      targets = c.targets;
    }

-- new ranges written after those in use and merged in; a and b are the arrays as written
module _ (n : ℕ) (starts ends : List ℕ) (new : List RuleIdRange) (hs : n + length new ≤ length starts) (he : n + length new ≤ length ends)
    (a b : List ℕ) (a-is : a ≡ sets starts n (map start_of new)) (b-is : b ≡ sets ends n (map end_of new))
    (count : ℕ) (starts' ends' : List ℕ) (m : Merged n (n + length new) a b count starts' ends') where
  pub merged-list : range_list count starts' ends' ≡ add_ranges (range_list n starts ends) new
  merged-list =
      let held : range_list n a b ≡ range_list n starts ends
      = rw (a-is, b-is) (pairs-under range_of start_of end_of (λ r. refl) new starts ends n n (omega arith)) in
      let all : range_list (n + length new) a b ≡ range_list n starts ends ++ new
      = rw (a-is, b-is) (pairs-sets range_of start_of end_of (λ r. refl) new starts ends n hs he) in
      m.list
      ∙ (rw (held, all) (ap (add_ranges (range_list n starts ends)) (drop_at (range_list n starts ends) new n (length_pairs range_of starts ends n))))

  -- where the places after those in use were 0, they are
  rest-cleared : (read : RuleIdRange → ℕ) (old cur cur' : List ℕ) → cur ≡ sets old n (map read new) → drop n old ≡ replicate (256 - n) 0
      → drop count cur' ≡ replicate (n + length new - count) 0 ++ drop (n + length new) cur → n + length new ≤ 256
      → drop count cur' ≡ replicate (256 - count) 0
  rest-cleared read old cur cur' is z d l =
      let k : n + length (map read new) ≤ n + length new = simp length-map (omega arith) in
      let e : drop (n + length new) cur ≡ replicate (256 - n - length new) 0
      = rw is (drop-sets (map read new) old n (n + length new) k)
      ∙ (sym (drop-drop (length new) n old) ∙ (ap (drop (length new)) z ∙ drop-replicate (length new) (256 - n) 0)) in
      let y : n + length new - count + (256 - n - length new) ≡ 256 - count = omega (arith, m.fits) in
      d
      ∙ (ap (λ (r : List ℕ). replicate (n + length new - count) 0 ++ r) e
      ∙ (replicate-append-replicate (n + length new - count) (256 - n - length new) 0 ∙ ap (λ (i : ℕ). replicate i 0) y))

  pub starts-cleared : drop n starts ≡ replicate (256 - n) 0 → n + length new ≤ 256 → drop count starts' ≡ replicate (256 - count) 0
  starts-cleared z l = rest-cleared start_of starts a starts' a-is z m.starts-rest l

  pub ends-cleared : drop n ends ≡ replicate (256 - n) 0 → n + length new ≤ 256 → drop count ends' ≡ replicate (256 - count) 0
  ends-cleared z l = rest-cleared end_of ends b ends' b-is z m.ends-rest l

-- the same of the struct
pub all-merged : (c : Controls) (new : List RuleIdRange) → length c.starts ≡ 256 → length c.ends ≡ 256 → c.ranges + length new ≤ 256
    → (a b : List ℕ) → a ≡ sets c.starts c.ranges (map start_of new) → b ≡ sets c.ends c.ranges (map end_of new)
    → (count : ℕ) (starts' ends' : List ℕ) → Merged c.ranges (c.ranges + length new) a b count starts' ends'
    → (controls_of (grown c starts' ends' count) ≡ reading.with_ranges (controls_of c) (add_ranges (controls_of c).ranges new))
    × (RestCleared c → RestCleared (grown c starts' ends' count))
unfolding controls_of
all-merged c new ls le h a b a-is b-is count starts' ends' m =
    let hs : c.ranges + length new ≤ length c.starts = omega arith in
    let he : c.ranges + length new ≤ length c.ends = omega arith in (
      ap (reading.with_ranges (controls_of c)) (merged-list c.ranges c.starts c.ends new hs he a b a-is b-is count starts' ends' m),
      λ r. record {
        starts = starts-cleared c.ranges c.starts c.ends new hs he a b a-is b-is count starts' ends' m r.starts h;
        ends = ends-cleared c.ranges c.starts c.ends new hs he a b a-is b-is count starts' ends' m r.ends h;
      },
    )

-- THE PLACES AFTER THE RANGES CLEARED, unless that was done
abbrev pub cleared_unless : Bool → Controls → Controls
cleared_unless done c = grown c (cleared_from done c.ranges c.starts) (cleared_from done c.ranges c.ends) c.ranges

front : (n : ℕ) (l : List ℕ) → length l ≡ 256 → n ≤ 256 → length (take n l) ≡ n
front n l e h = length-take-le n l (omega arith)

pub cleared-length : (done : Bool) (n : ℕ) (l : List ℕ) → length l ≡ 256 → n ≤ 256 → length (cleared_from done n l) ≡ 256
cleared-length true n l e h = e
cleared-length false n l e h = simp (length-append, length-replicate) (omega (arith, front n l e h))

-- where there is nothing to clear
pub cleared-past : (n : ℕ) (l : List ℕ) → length l < n → l ≡ cleared_from false n l
cleared-past n l h =
    let z : length l - n ≡ 0 = omega arith in
    rw (z, take_all n l (omega arith), append-nil l)

module _ (c : Controls) (ls : length c.starts ≡ 256) (le : length c.ends ≡ 256) (h : c.ranges ≤ 256) where
  pub cleared-means : (done : Bool) → controls_of (cleared_unless done c) ≡ controls_of c
  unfolding controls_of
  cleared-means true = refl
  cleared-means false =
      ap (reading.with_ranges (controls_of c))
      (rows-front c.starts c.ends _ _ c.ranges c.ranges (omega arith)
      (take_at (take c.ranges c.starts) (replicate (length c.starts - c.ranges) 0) c.ranges (front c.ranges c.starts ls h))
      (take_at (take c.ranges c.ends) (replicate (length c.ends - c.ranges) 0) c.ranges (front c.ranges c.ends le h)))

  pub cleared-rest : (done : Bool) → (done ≡ true → RestCleared c) → RestCleared (cleared_unless done c)
  cleared-rest true r = let k = r refl in record { starts = k.starts; ends = k.ends }
  cleared-rest false r =
      record {
        starts = drop_at (take c.ranges c.starts) (replicate (length c.starts - c.ranges) 0) c.ranges (front c.ranges c.starts ls h)
            ∙ ap (λ (n : ℕ). replicate (n - c.ranges) 0) ls;
        ends = drop_at (take c.ranges c.ends) (replicate (length c.ends - c.ranges) 0) c.ranges (front c.ranges c.ends le h)
            ∙ ap (λ (n : ℕ). replicate (n - c.ranges) 0) le;
      }

  -- then new ranges written after those in use and merged in
  pub ranges-added : (done : Bool) (new : List RuleIdRange) → c.ranges + length new ≤ 256
      → (a b : List ℕ) → a ≡ sets (cleared_unless done c).starts c.ranges (map start_of new)
      → b ≡ sets (cleared_unless done c).ends c.ranges (map end_of new)
      → (count : ℕ) (starts' ends' : List ℕ) → Merged c.ranges (c.ranges + length new) a b count starts' ends'
      → (controls_of (grown c starts' ends' count) ≡ reading.with_ranges (controls_of c) (add_ranges (controls_of c).ranges new))
      × ((done ≡ true → RestCleared c) → RestCleared (grown c starts' ends' count))
  ranges-added done new k a b a-is b-is count starts' ends' m =
      let t = all-merged (cleared_unless done c) new (cleared-length done c.ranges c.starts ls h) (cleared-length done c.ranges c.ends le h)
      k a b a-is b-is count starts' ends' m in (
        t.0 ∙ ap (λ (x : reading.Controls). reading.with_ranges x (add_ranges x.ranges new)) (cleared-means done),
        λ r. let z = t.1 (cleared-rest done r) in record { starts = z.starts; ends = z.ends },
      )

-- no range is added, but the places are cleared, also where the count is above 256
module _ (c : Controls) (ls : length c.starts ≡ 256) (le : length c.ends ≡ 256) (done : Bool) where
  past_same : 256 < c.ranges → cleared_unless done c ≡ c
  past_same h = go done
    where
      go : (d : Bool) → cleared_unless d c ≡ c
      go true = refl
      go false =
          let s = cleared-past c.ranges c.starts (omega arith) in
          let e = cleared-past c.ranges c.ends (omega arith) in
          λ i. grown c (sym s i) (sym e i) c.ranges

  past-rest : (l : List ℕ) → length l ≡ 256 → 256 < c.ranges → drop c.ranges l ≡ replicate (256 - c.ranges) 0
  past-rest l e h =
      let z : 256 - c.ranges ≡ 0 = omega arith in
      rw z (drop_of_length-le l {i = c.ranges} (omega arith))

  pub none-added : (controls_of (cleared_unless done c) ≡ controls_of c) × ((done ≡ true → RestCleared c) → RestCleared (cleared_unless done c))
  none-added = go (ltb 256 c.ranges) refl
    where
      go : (b : Bool) → ltb 256 c.ranges ≡ b
          → (controls_of (cleared_unless done c) ≡ controls_of c) × ((done ≡ true → RestCleared c) → RestCleared (cleared_unless done c))
      go false e = let h = ltb-false 256 c.ranges e in (cleared-means c ls le h done, cleared-rest c ls le h done)
      go true e =
          let h = ltb-true 256 c.ranges e in
          rw (past_same h) (refl, λ r. record { starts = past-rest c.starts ls h; ends = past-rest c.ends le h })

add-single : (held : List RuleIdRange) (r : RuleIdRange) → add_ranges held (r ∷ []) ≡ add_range held r
unfolding add_ranges
add-single held r = refl

-- ONE RANGE: the cleared arrays, with the range after those in use and merged in
pub range-merged : (c : Controls) (r : RuleIdRange) → length c.starts ≡ 256 → length c.ends ≡ 256 → c.ranges < 256
    → (count : ℕ) (starts' ends' : List ℕ)
    → MergedAfter c.ranges (c.ranges + 1) (set (cleared_unless false c).starts c.ranges r.start)
    (set (cleared_unless false c).ends c.ranges r.end) count starts' ends'
    → Became true c (grown c starts' ends' count) (reading.with_ranges (controls_of c) (add_range (controls_of c).ranges r))
range-merged c r ls le h count starts' ends' m =
    let few : c.ranges ≤ 256 = omega arith in
    let merged = m.merged (record {
      in_order = omega arith;
      in-starts = simp length-set (omega (arith, cleared-length false c.ranges c.starts ls few));
      in-ends = simp length-set (omega (arith, cleared-length false c.ranges c.ends le few));
    }) in
    let t = ranges-added c ls le few false (r ∷ []) (omega arith) _ _ refl refl count starts' ends' merged in
    record {
      meaning = t.0 ∙ ap (reading.with_ranges (controls_of c)) (add-single (controls_of c).ranges r);
      kept = λ z. absurd (true-false z);
      cleared = λ z. t.1 (λ f. absurd (true-false (sym f)));
      phases = refl;
      positions = refl;
    }

-- A TARGET AT THE END
abbrev pub targeted : Controls → Place → Controls
targeted c at =
    record {
      settings = c.settings;
      starts = c.starts;
      ends = c.ends;
      ranges = c.ranges;
      phases = set c.phases c.targets at.phase;
      positions = set c.positions c.targets at.position;
      targets = c.targets + 1;
    }

pub target-put : (c : Controls) (at : Place) → length c.phases ≡ 64 → length c.positions ≡ 64 → c.targets < 64
    → Became false c (targeted c at) (reading.with_targets (controls_of c) (reading.add_target (controls_of c).targets at))
unfolding controls_of
target-put c at lh lo h =
    let list = pairs-sets place_of (λ p. p.phase) (λ p. p.position) (λ p. refl) (at ∷ []) c.phases c.positions c.targets
    (omega arith) (omega arith) in
    record {
      meaning = ap (reading.with_targets (controls_of c)) list;
      kept = λ z. record { count = refl; starts = refl; ends = refl };
      cleared = λ z. absurd (true-false (sym z));
      phases = drop-set-lt (c.targets + 1) c.phases c.targets at.phase (omega arith);
      positions = drop-set-lt (c.targets + 1) c.positions c.targets at.position (omega arith);
    }

-- SINGLE ADDITIONS: t is what `is_bad` gave
module _ (c : Controls) (t : Bool) (is : t ≡ bad_parts c.ranges c.targets c.starts c.ends) where
  range-answer : (r : RuleIdRange)
      → add_range_answer (controls_of c) r ≡ cond t 3 (cond (ltb r.end r.start) 5 (cond (leb 256 c.ranges) 8 0))
  unfolding add_range_answer
  range-answer r = rw (bad c, ← is, ranges-length c)

  target-answer : add_target_answer (controls_of c) ≡ cond t 3 (cond (leb 64 c.targets) 9 0)
  unfolding add_target_answer
  target-answer = rw (bad c, ← is, targets-length c)

  pub range-refused : (r : RuleIdRange) (x : Refusal) → cond t 3 (cond (ltb r.end r.start) 5 (cond (leb 256 c.ranges) 8 0)) ≡ refusal_number x
      → 0 < refusal_number x → Added true c (record { answer = Err x; controls = c }) (add_range_answer (controls_of c) r) (with_range (controls_of c) r)
  range-refused r x e h =
      handed-back true c x (add_range_answer (controls_of c) r) (with_range (controls_of c) r) (range-answer r ∙ e) (λ z. omega arith)

  -- c' is what `with_range` gave
  pub range-added : (r : RuleIdRange) (c' : Controls) → t ≡ false → r.start ≤ r.end → c.ranges < 256
      → Became true c c' (reading.with_ranges (controls_of c) (add_range (controls_of c).ranges r))
      → Added true c (record { answer = Ok tt; controls = c' }) (add_range_answer (controls_of c) r) (with_range (controls_of c) r)
  range-added r c' e o h b =
      let a : add_range_answer (controls_of c) r ≡ 0 = range-answer r ∙ rw (e, le-ltb r.end r.start o, lt-leb 256 c.ranges h) in
      record { answer-is = sym a; became = λ z. rw (eq-eqb (add_range_answer (controls_of c) r) 0 a) b; refused = λ z. absurd (z a) }

  pub target-refused : (at : Place) (x : Refusal) → cond t 3 (cond (leb 64 c.targets) 9 0) ≡ refusal_number x → 0 < refusal_number x
      → Added false c (record { answer = Err x; controls = c }) (add_target_answer (controls_of c)) (with_target (controls_of c) at)
  target-refused at x e h =
      handed-back false c x (add_target_answer (controls_of c)) (with_target (controls_of c) at) (target-answer ∙ e) (λ z. omega arith)

  pub target-added : (at : Place) → length c.phases ≡ 64 → length c.positions ≡ 64 → t ≡ false → c.targets < 64
      → Added false c (record { answer = Ok tt; controls = targeted c at }) (add_target_answer (controls_of c)) (with_target (controls_of c) at)
  target-added at lh lo e h =
      let a : add_target_answer (controls_of c) ≡ 0 = target-answer ∙ rw (e, lt-leb 64 c.targets h) in
      record {
        answer-is = sym a;
        became = λ z. rw (eq-eqb (add_target_answer (controls_of c)) 0 a) (target-put c at lh lo h);
        refused = λ z. absurd (z a);
      }
