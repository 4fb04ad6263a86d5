-- The entries of a journal one after the other, and the first unsupported directive of the units that they close. Assumes nothing.
use Prim.Native.Nat.{ℕ, suc, ◌+◌, ◌*◌, ◌/◌, ◌≤◌, ◌<◌}
use mathlib.Core.Path.{◌≡◌, refl, sym, ap, ◌∙◌}
use mathlib.Core.Bool.{Bool, true, false, not, cond, ◌&&◌, ◌||◌}
use mathlib.Core.List.{List, [], ◌∷◌, ◌++◌, append-nil}
use native.Mathlib.Omega.{arith}
use native.Mathlib.Numerals.{add-one}
use borrow.Author.Tests.{eq-eqb, ne_eqb, eqb-true, eqb-false}
use lib.Dec.{eqb}
use lib.ListN.{length, drop, get_or}
use Rattle.reading.specs.declared.JournalEntry.{JournalEntry}
use Rattle.reading.specs.declared.Rule.{Rule}
use Rattle.reading.specs.declared.UnsupportedAt.{UnsupportedAt}
use Rattle.reading.specs.Lists.{keep, gather}
use Rattle.reading.specs.Records.{journal_list}
use Rattle.reading.specs.Call.{Given, no_rule, rule_at, is_link}
use Rattle.reading.specs.Replay.{held_after, closed_by, units_from, units_of}
use Rattle.reading.specs.Report.{none_unsupported, first_or}
use Rattle.lists.proofs.RecordLaws.{drop-entries, entries-end}
use Rattle.lists.proofs.Tests.{gather_append}
use Rattle.theorems.specs.Reported.{first-append}
use Rattle.report.specs.ByCodes.{coded, member_coded, rules_alone, unsupported_by_codes}
use Rattle.report.proofs.unsupported.RuleLaws.{Reasons, reasons-append, reasons-coded}

-- the first of several that each have a reason: it is none where there are none
first-none : (us : List UnsupportedAt) → Reasons us → (first_or us none_unsupported).reason ≡ 0 → us ≡ []
first-none [] p e = refl
first-none (u ∷ us) p e = absurd (omega (arith, p.0, e))

-- the first of several is the first of them and more, and where there are none it is the first of those
first-kept : (us ws : List UnsupportedAt) (other : UnsupportedAt) → ((first_or us none_unsupported).reason ≡ 0 → ⊥) → first_or us none_unsupported ≡ first_or (us ++ ws) other
first-kept [] ws other n = absurd (n refl)
first-kept (u ∷ us) ws other n = refl

module _ (codes : List ℕ) (rules : List Rule) where
  abbrev g : Given
  g = rules_alone rules

  abbrev member : ℕ → List UnsupportedAt
  member = member_coded codes rules

  all-reasons : (ms : List ℕ) → Reasons (gather member ms)
  all-reasons [] = tt
  all-reasons (m ∷ ms) = reasons-append (member m) (gather member ms) (reasons-coded codes m (get_or rules m no_rule)) (all-reasons ms)

  -- that of the matched links since the last break, and of the units that entries close after them
  abbrev held_pair : List ℕ → UnsupportedAt
  held_pair held = first_or (gather member held) none_unsupported

  abbrev first_in : List ℕ → List JournalEntry → UnsupportedAt
  first_in held es = first_or (gather (gather member) (units_from g held es)) none_unsupported

  -- by the first entry's unit, and those after it
  entry_first : (held : List ℕ) (e : JournalEntry) (es : List JournalEntry)
      → first_in held (e ∷ es) ≡ first_or (gather (gather member) (closed_by g held e)) (first_in (held_after g held e) es)
  entry_first held e es =
      ap (λ (us : List UnsupportedAt). first_or us none_unsupported) (gather_append (gather member) (closed_by g held e) (units_from g (held_after g held e) es))
      ∙ first-append (gather (gather member) (closed_by g held e)) (gather (gather member) (units_from g (held_after g held e) es)) none_unsupported

  -- ENTRIES THAT ARE NOT MATCHED

  module _ (held : List ℕ) (e : JournalEntry) (es : List JournalEntry) (n : e.verdict ≡ 1 → ⊥) (link : Bool) (l : link ≡ is_link g e.index) where
    none-closed : first_in held (e ∷ es) ≡ first_in (held_after g held e) es
    none-closed =
        entry_first held e es
        ∙ ap (λ (b : Bool). first_or (gather (gather member) (keep (b && not (is_link g e.index)) ((held ++ (e.index ∷ [])) ∷ []))) (first_in (held_after g held e) es))
        (ne_eqb e.verdict 1 n)

    held_by : (miss one gone : Bool) → eqb e.verdict 0 ≡ miss → eqb e.verdict 1 ≡ one → eqb e.verdict 2 ≡ gone
        → held_after g held e ≡ cond miss [] (cond one (keep (is_link g e.index) (held ++ (e.index ∷ []))) (cond gone (keep (not link && true) held) held))
    held_by miss one gone a b c = rw (a, b, c, l)

    pub entry-breaks : (eqb e.verdict 0 || (eqb e.verdict 2 && link)) ≡ true → first_in held (e ∷ es) ≡ first_in [] es
    entry-breaks h =
        none-closed ∙ ap (λ (ms : List ℕ). first_in ms es)
        (held_by (eqb e.verdict 0) false (eqb e.verdict 2) refl (ne_eqb e.verdict 1 n) refl ∙ by (eqb e.verdict 0) (eqb e.verdict 2) link h)
      where
        by : (miss gone k : Bool) → (miss || (gone && k)) ≡ true → cond miss [] (cond gone (keep (not k && true) held) held) ≡ []
        by true gone k h = refl
        by false true true h = refl
        by false true false h = absurd (let z : ◌≡◌ {A = ℕ} 0 1 = cc in omega arith)
        by false false k h = absurd (let z : ◌≡◌ {A = ℕ} 0 1 = cc in omega arith)

    pub entry-stays : (eqb e.verdict 0 || (eqb e.verdict 2 && link)) ≡ false → first_in held (e ∷ es) ≡ first_in held es
    entry-stays h =
        none-closed ∙ ap (λ (ms : List ℕ). first_in ms es)
        (held_by (eqb e.verdict 0) false (eqb e.verdict 2) refl (ne_eqb e.verdict 1 n) refl ∙ by (eqb e.verdict 0) (eqb e.verdict 2) link h)
      where
        by : (miss gone k : Bool) → (miss || (gone && k)) ≡ false → cond miss [] (cond gone (keep (not k && true) held) held) ≡ held
        by true gone k h = absurd (let z : ◌≡◌ {A = ℕ} 0 1 = cc in omega arith)
        by false true true h = absurd (let z : ◌≡◌ {A = ℕ} 0 1 = cc in omega arith)
        by false true false h = refl
        by false false k h = refl

  -- MATCHED ENTRIES

  module _ (held : List ℕ) (e : JournalEntry) (es : List JournalEntry) (y : e.verdict ≡ 1) where
    abbrev unit : List ℕ
    unit = held ++ (e.index ∷ [])

    with-more : gather member unit ≡ gather member held ++ member e.index
    with-more = gather_append member held (e.index ∷ []) ∙ ap (λ (us : List UnsupportedAt). gather member held ++ us) (append-nil (member e.index))

    -- what is held then: as before, or the rule's own where none was held
    pub pair-kept : ((held_pair held).reason ≡ 0 → ⊥) → held_pair held ≡ held_pair unit
    pair-kept n = first-kept (gather member held) (member e.index) none_unsupported n ∙ sym (ap (λ (us : List UnsupportedAt). first_or us none_unsupported) with-more)

    pub pair-new : (held_pair held).reason ≡ 0 → first_or (member e.index) none_unsupported ≡ held_pair unit
    pair-new z =
        sym (ap (λ (us : List UnsupportedAt). first_or us none_unsupported)
        (with-more ∙ ap (λ (us : List UnsupportedAt). us ++ member e.index) (first-none (gather member held) (all-reasons held) z)))

    matched-first : (link : Bool) → is_link g e.index ≡ link
        → first_in held (e ∷ es) ≡ first_or (gather (gather member) (keep (not link) (unit ∷ []))) (first_in (keep link unit) es)
    matched-first link l =
        entry_first held e es ∙ rw (y, l)

    pub link-waits : is_link g e.index ≡ true → first_in held (e ∷ es) ≡ first_in unit es
    link-waits l = matched-first true l

    module _ (l : is_link g e.index ≡ false) where
      closed-first : first_in held (e ∷ es) ≡ first_or (gather member unit) (first_in [] es)
      closed-first = matched-first false l ∙ ap (λ (us : List UnsupportedAt). first_or us (first_in [] es)) (append-nil (gather member unit))

      pub unit-tells : ((held_pair unit).reason ≡ 0 → ⊥) → held_pair unit ≡ first_in held (e ∷ es)
      unit-tells n =
          first-kept (gather member unit) [] (first_in [] es) n
          ∙ (ap (λ (us : List UnsupportedAt). first_or us (first_in [] es)) (append-nil (gather member unit)) ∙ sym closed-first)

      module _ (z : (held_pair unit).reason ≡ 0) where
        nothing : gather member unit ≡ []
        nothing = first-none (gather member unit) (all-reasons unit) z

        pub unit-silent : first_in held (e ∷ es) ≡ first_in [] es
        unit-silent = closed-first ∙ ap (λ (us : List UnsupportedAt). first_or us (first_in [] es)) nothing

        pub unit-none : held_pair unit ≡ none_unsupported
        unit-none = ap (λ (us : List UnsupportedAt). first_or us none_unsupported) nothing

  -- BEFORE THE ENTRY k: the pair is that of some links held, and the entries from k on tell what all entries tell

  pub record Held (words : List ℕ) (pair : UnsupportedAt) (k : ℕ) : Type 0 where
    pub held : List ℕ
    pub pair_is : pair ≡ held_pair held
    pub same : first_in held (drop k (journal_list words)) ≡ unsupported_by_codes codes rules (journal_list words)

  module _ (words : List ℕ) where
    pub held_none : (pair : UnsupportedAt) → pair ≡ none_unsupported → Held words pair 0
    unfolding unsupported_by_codes units_of
    held_none pair e = record { held = []; pair_is = e; same = ap (first_in []) (drop-none (journal_list words)) }
      where
        drop-none : (l : List JournalEntry) → drop 0 l ≡ l
        drop-none [] = refl
        drop-none (x ∷ l) = refl

    pub held_all : (pair : UnsupportedAt) (k : ℕ) → length words / 2 ≤ k → Held words pair k → none_unsupported ≡ unsupported_by_codes codes rules (journal_list words)
    held_all pair k h s = sym (ap (first_in s.held) (entries-end words k h)) ∙ s.same

    module _ (pair : UnsupportedAt) (k : ℕ) (h : k < length words / 2) (s : Held words pair k) (index verdict : ℕ)
        (numbers : (index ≡ get_or words (2 * k) 0) × (verdict ≡ get_or words (2 * k + 1) 0)) (rule : Rule) (r : rule ≡ get_or rules index no_rule) where
      abbrev e : JournalEntry
      e = record { index = index; verdict = verdict }

      abbrev es : List JournalEntry
      es = drop (suc k) (journal_list words)

      here : first_in s.held (e ∷ es) ≡ unsupported_by_codes codes rules (journal_list words)
      here = rw (numbers.0, numbers.1) (sym (ap (first_in s.held) (drop-entries words k h)) ∙ s.same)

      next : (held : List ℕ) → first_in held es ≡ first_in held (drop (k + 1) (journal_list words))
      next held = ap (λ (n : ℕ). first_in held (drop n (journal_list words))) (sym (add-one k))

      is-link : eqb rule.link 1 ≡ is_link g e.index
      unfolding is_link rule_at
      is-link = ap (λ (x : Rule). eqb x.link 1) r

      -- an entry that is not matched
      module _ (n : e.verdict ≡ 1 → ⊥) (breaks : Bool) (b : breaks ≡ (eqb e.verdict 0 || (eqb e.verdict 2 && eqb rule.link 1))) where
        pub held-broken : (new : UnsupportedAt) → new ≡ none_unsupported → breaks ≡ true → Held words new (k + 1)
        held-broken new is t = record {
          held = [];
          pair_is = is;
          same = sym (next []) ∙ (sym (entry-breaks s.held e es n (eqb rule.link 1) is-link (sym b ∙ t)) ∙ here);
        }

        pub held_kept : breaks ≡ false → Held words pair (k + 1)
        held_kept f = record {
          held = s.held;
          pair_is = s.pair_is;
          same = sym (next s.held) ∙ (sym (entry-stays s.held e es n (eqb rule.link 1) is-link (sym b ∙ f)) ∙ here);
        }

      -- a matched one, with the pair that is then held
      module _ (y : e.verdict ≡ 1) where
        abbrev unit' : List ℕ
        unit' = s.held ++ (e.index ∷ [])

        new-held : (new : UnsupportedAt) → new ≡ cond (eqb pair.reason 0) (first_or (coded codes e.index rule) none_unsupported) pair → new ≡ held_pair unit'
        new-held new is = is ∙ by (eqb pair.reason 0) refl
          where
            by : (b : Bool) → eqb pair.reason 0 ≡ b → cond b (first_or (coded codes e.index rule) none_unsupported) pair ≡ held_pair unit'
            by true t =
                ap (λ (x : Rule). first_or (coded codes e.index x) none_unsupported) r
                ∙ pair-new s.held e es y (sym (ap (λ (u : UnsupportedAt). u.reason) s.pair_is) ∙ eqb-true pair.reason 0 t)
            by false f = s.pair_is ∙ pair-kept s.held e es y (λ z. eqb-false pair.reason 0 f (ap (λ (u : UnsupportedAt). u.reason) s.pair_is ∙ z))

        module _ (new : UnsupportedAt) (so : new ≡ cond (eqb pair.reason 0) (first_or (coded codes e.index rule) none_unsupported) pair) where
          is : new ≡ held_pair unit'
          is = new-held new so

          pub held-waits : rule.link ≡ 1 → Held words new (k + 1)
          held-waits l = record {
            held = unit';
            pair_is = is;
            same = sym (next unit') ∙ (sym (link-waits s.held e es y (sym is-link ∙ eq-eqb rule.link 1 l)) ∙ here);
          }

          module _ (l : rule.link ≡ 1 → ⊥) where
            no-link : is_link g e.index ≡ false
            no-link = sym is-link ∙ ne_eqb rule.link 1 l

            pub told : (new.reason ≡ 0 → ⊥) → new ≡ unsupported_by_codes codes rules (journal_list words)
            told n = is ∙ (unit-tells s.held e es y no-link (λ z. n (ap (λ (u : UnsupportedAt). u.reason) is ∙ z)) ∙ here)

            pub held-silent : new.reason ≡ 0 → Held words new (k + 1)
            held-silent z =
                let none = sym (ap (λ (u : UnsupportedAt). u.reason) is) ∙ z in
                record {
                  held = [];
                  pair_is = is ∙ unit-none s.held e es y no-link none;
                  same = sym (next []) ∙ (sym (unit-silent s.held e es y no-link none) ∙ here);
                }
