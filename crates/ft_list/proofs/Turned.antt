-- The words of a list's table while its items are swapped pairwise.
use Rattle.std.proofs.Common.{◌≡◌, ◌≢◌, ℕ, ◌+◌, ◌-◌, ◌/◌, ◌%◌, ◌<◌, ◌≤◌, List, [], ◌∷◌, length, refl, sym, ap, ◌∙◌, subst, inl, inr, arith}
use Rattle.std.specs.Prelude.{reverse, slice_index_or}
use Rattle.std.proofs.lemmas.Bool.{cases_lt, cases_eq}
use Rattle.std.proofs.lemmas.List.{length-reverse}
use Rattle.ft_model.specs.Classes.{IsClass}
use Rattle.ft_model.specs.declared.data.Value.{Value}
use Rattle.ft_layout.specs.declared.slot.Stored.{Stored}
use Rattle.ft_layout.specs.declared.slot.Stored.TheVariants.{Empty, Plain}
use Rattle.ft_layout.specs.Words.{FitsStored, IsStored, stored_kind}
use Rattle.ft_model.specs.declared.data.Value.TheVariants as value
use Rattle.ft_trace.specs.ItemWords.{words_at}
use Rattle.ft_trace.specs.Addresses.{slots}
use Rattle.ft_trace.specs.Pictures.{ContainerWords, item_field, item_offset}
use Rattle.ft_trace.proofs.Cases.{miss, here}
use Rattle.ft_list.specs.ListItemWrites.{PutsItem, IsPutting, stored_item, stored_words, but_at}
use Rattle.ft_list.specs.Internal.Reversing.{IsTurning}
use Rattle.ft_list.proofs.ItemWordsPut.{putting_again, putting_put, putting_ends, stored_by, stored_none, stored_some, words_stored, Changed}
use Rattle.ft_list.proofs.ValueLists.{reversed_at}

-- what stands at a place then stands now as far from the end
pub turned_at : (values : List Value) (p : ℕ) → p < length values → stored_item values (length values - 1 - p) ≡ stored_item (reverse values) p
turned_at values p low = stored_by values (reverse values) (length values - 1 - p) p (reversed_at values p low)

turned_past : (values : List Value) (p : ℕ) → length values ≤ p → stored_item values p ≡ stored_item (reverse values) p
turned_past values p past = stored_none values p past ∙ sym (stored_none (reverse values) p (let n = length-reverse values in omega (arith, n, past)))

pub reversed_none : (values : List Value) → length values ≡ 0 → reverse values ≡ values
reversed_none [] none = refl
reversed_none (x ∷ values) none = absurd (omega (arith, none))

-- a list stores something at each of its indexes
some_kind : (values : List Value) (p : ℕ) → p < length values → stored_kind (stored_item values p) ≢ 0
some_kind values p low e = by (slice_index_or values p value.Nothing) (sym (ap stored_kind (stored_some values p value.Nothing low)) ∙ e)
  where
    by : (v : Value) → stored_kind (Plain v) ≢ 0
    by value.Nothing e = omega (arith, e)
    by (value.Int n) e = omega (arith, e)
    by (value.Text t) e = omega (arith, e)

module _ (class : ℕ) (is_class : IsClass class) (values : List Value) where
  pub turning_starts : (ws : List ℕ) → IsPutting class values 0 (length values) (stored_item values) ws → IsTurning class values 0 ws
  turning_starts ws putting = record {
    now = stored_item values;
    putting = putting;
    first = λ p low. absurd (omega (arith, low));
    last = λ p past. turned_past values p (omega (arith, past));
    middle = λ p from low. refl;
  }

  pub turning_ends : (ws : List ℕ) → IsTurning class values (length values / 2) ws → length values ≤ slots class → Changed class values (reverse values) 0 (length values) ws
  turning_ends ws turning few =
      putting_ends class is_class values (reverse values) 0 (length values) turning.now ws turning.putting (let n = length-reverse values in omega (arith, n, few)) (λ p low.
      elim (cases_lt p (length values / 2)) [
        | inl less ↦ turning.first p less
        | inr more ↦ elim (cases_lt (p + length values / 2) (length values)) [
          | inl mid ↦
              let at : length values - 1 - p ≡ p = omega (arith, more, mid) in
              turning.middle p more mid ∙ (ap (λ (n : ℕ). stored_item values n) (sym at) ∙ turned_at values p (omega (arith, mid)))
          | inr past ↦ turning.last p past
        ]
      ])

  -- an item on its way is where it was
  pub turning_finds : (at p : ℕ) (ws : List ℕ) → IsTurning class values at ws → at ≤ p → p + at < length values → p < slots class → IsStored (item_field ws p 1) (item_field ws p 2) (stored_item values p)
  turning_finds at p ws turning from low inside = subst (λ (z : Stored). IsStored (item_field ws p 1) (item_field ws p 2) z) (turning.middle p from low) (turning.putting.items p inside)

  module _ (at other : ℕ) (low : at < other) (is : other + 1 + at ≡ length values) (early late : Stored) (is_early : early ≡ stored_item values at) (is_late : late ≡ stored_item values other) (fits_early : FitsStored early) (fits_late : FitsStored late) (inside_slots : other < slots class) where
    abbrev swapped : (ℕ → Stored) → ℕ → Stored
    swapped now = but_at (but_at now at late) other early

    at_first : (now : ℕ → Stored) → swapped now at ≡ stored_item (reverse values) at
    at_first now =
        let e : length values - 1 - at ≡ other = omega (arith, is) in
        miss at other early (but_at now at late at) (λ e. omega (arith, low, e))
        ∙ (here at at late (now at) refl ∙ (is_late ∙ (ap (λ (n : ℕ). stored_item values n) (sym e) ∙ turned_at values at (omega (arith, is, low)))))

    at_last : (now : ℕ → Stored) → swapped now other ≡ stored_item (reverse values) other
    at_last now =
        let e : length values - 1 - other ≡ at = omega (arith, is) in
        here other other early (but_at now at late other) refl ∙ (is_early ∙ (ap (λ (n : ℕ). stored_item values n) (sym e) ∙ turned_at values other (omega (arith, is, low))))

    at_else : (now : ℕ → Stored) (p : ℕ) → p ≢ at → p ≢ other → swapped now p ≡ now p
    at_else now p ne ne' = miss p other early (but_at now at late p) ne' ∙ miss p at late (now p) ne

    -- the later one is taken out first, and put where the earlier one was, which then takes its place
    pub turning_carried : (old p1 p2 new : ContainerWords) → IsTurning class values at old.table → PutsItem other Empty old p1 → PutsItem at late p1 p2 → PutsItem other early p2 new → stored_words early ≢ stored_words late → IsTurning class values (at + 1) new.table
    turning_carried old p1 p2 new turning puts1 puts2 puts3 differ =
        let inside : other < slots class = inside_slots in
        let now1 = but_at turning.now other Empty in
        let stands : now1 at ≡ stored_item values at = miss at other Empty (turning.now at) (λ e. omega (arith, low, e)) ∙ turning.middle at (omega arith) (omega (arith, is, low)) in
        let P1 = putting_put class is_class values 0 (length values) turning.now old p1 other Empty turning.putting puts1 tt (omega arith) (omega (arith, is)) (turning.middle other (omega (arith, low)) (omega (arith, is))) in
        let P2 = putting_put class is_class values 0 (length values) now1 p1 p2 at late P1 puts2 fits_late (omega arith) (omega (arith, is, low)) stands in
        let was = turning_finds at other old.table turning (omega (arith, low)) (omega (arith, is)) inside in
        let odd1 : item_field p1.table other 0 % 2 ≡ 1 = elim puts1.version [
          | inl opened ↦ opened.0
          | inr table ↦ absurd (some_kind values other (omega (arith, is)) (sym was.kind_is ∙ (ap (λ (l : List ℕ). item_field l other 1) (sym table) ∙ puts1.kind)))
        ] in
        let odd2 : item_field p2.table other 0 % 2 ≡ 1 = ap (λ (n : ℕ). n % 2) (puts2.rest (item_offset other 0) (inr (omega (arith, low)))) ∙ odd1 in
        let ne : stored_words early ≢ words_at values other = λ e. differ (e ∙ (sym (words_stored values other) ∙ ap stored_words (sym is_late))) in
        record {
          now = swapped now1;
          putting = putting_again class is_class values 0 (length values) (but_at now1 at late) p2 new other early P2 puts3 fits_early odd2 ne;
          first = λ p less. elim (cases_eq p at) [
            | inl e ↦ subst (λ (n : ℕ). swapped now1 n ≡ stored_item (reverse values) n) (sym e) (at_first now1)
            | inr far ↦ at_else now1 p far (λ e. omega (arith, e, less, low)) ∙ (miss p other Empty (turning.now p) (λ e. omega (arith, e, less, low)) ∙ turning.first p (omega (arith, less, far)))
          ];
          last = λ p past. elim (cases_eq p other) [
            | inl e ↦ subst (λ (n : ℕ). swapped now1 n ≡ stored_item (reverse values) n) (sym e) (at_last now1)
            | inr far ↦ at_else now1 p (λ e. omega (arith, e, past, is, low)) far ∙ (miss p other Empty (turning.now p) far ∙ turning.last p (omega (arith, past, is, far)))
          ];
          middle = λ p from less.
              let far : p ≢ other = λ e. omega (arith, e, less, is) in
              at_else now1 p (λ e. omega (arith, e, from)) far ∙ (miss p other Empty (turning.now p) far ∙ turning.middle p (omega (arith, from)) (omega (arith, less)));
        }

    -- two items that store the same stand as they are to stand
    pub turning_same : (ws : List ℕ) → IsTurning class values at ws → early ≡ late → IsTurning class values (at + 1) ws
    turning_same ws turning same =
        let first_is : turning.now at ≡ stored_item (reverse values) at =
        turning.middle at (omega arith) (omega (arith, is, low)) ∙ (sym is_early ∙ (same ∙ (is_late ∙ (ap (λ (n : ℕ). stored_item values n) (let e : other ≡ length values - 1 - at = omega (arith, is) in e) ∙ turned_at values at (omega (arith, is, low)))))) in
        let last_is : turning.now other ≡ stored_item (reverse values) other =
        turning.middle other (omega (arith, low)) (omega (arith, is)) ∙ (sym is_late ∙ (sym same ∙ (is_early ∙ (ap (λ (n : ℕ). stored_item values n) (let e : at ≡ length values - 1 - other = omega (arith, is) in e) ∙ turned_at values other (omega (arith, is, low)))))) in
        record {
          now = turning.now;
          putting = turning.putting;
          first = λ p less. elim (cases_eq p at) [
            | inl e ↦ subst (λ (n : ℕ). turning.now n ≡ stored_item (reverse values) n) (sym e) first_is
            | inr far ↦ turning.first p (omega (arith, less, far))
          ];
          last = λ p past. elim (cases_eq p other) [
            | inl e ↦ subst (λ (n : ℕ). turning.now n ≡ stored_item (reverse values) n) (sym e) last_is
            | inr far ↦ turning.last p (omega (arith, past, is, far))
          ];
          middle = λ p from less. turning.middle p (omega (arith, from)) (omega (arith, less));
        }
