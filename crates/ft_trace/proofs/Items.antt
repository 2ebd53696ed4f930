-- Puts with care, on lists of words alone: tables of lists.
use Rattle.std.proofs.Common.{◌≡◌, ◌≢◌, ℕ, suc, ◌%◌, ◌<◌, List, [], ◌∷◌, length, refl, sym, ap, ◌∙◌, arith, get_or-set_other, get_or-set_same, le_refl, le_trans}
use Rattle.std.specs.Prelude.{slice_index, slice_set}
use mathlib.Core.Logic.{dite}
use native.Mathlib.Decide.{ℕ_discrete}
use Rattle.ft_model.specs.declared.data.Value.{Value}
use Rattle.ft_trace.specs.Pictures.{item_offset, item_field}
use Rattle.ft_trace.specs.ItemWords.{said_at, words_at, ItemSound, ItemCareful, ItemClear, ItemLater}

pub item_self : (n : ℕ) (ws : List ℕ) → ItemLater n ws ws
item_self n ws = record { version = λ p low. le_refl (item_field ws p 0); same = λ p w low some_w small even e. refl }

pub item_trans : (n : ℕ) (ws ys zs : List ℕ) → ItemLater n ws ys → ItemLater n ys zs → ItemLater n ws zs
item_trans n ws ys zs a b = record {
  version = λ p low. le_trans (a.version p low) (b.version p low);
  same = λ p w low some_w small even e.
      let up = a.version p low in
      let more = b.version p low in
      let here : item_field ys p 0 ≡ item_field ws p 0 = omega (arith, up, more, e) in
      b.same p w low some_w small (ap (λ (n : ℕ). n % 2) here ∙ even) (e ∙ sym here) ∙ a.same p w low some_w small even here;
}

-- what is asked of a put but for what the list has
pub record ItemCarefulWords (n : ℕ) (ws : List ℕ) (i x : ℕ) : Type 0 where
  pub odd : (p w : ℕ) → p < n → 0 < w → w < 4 → i ≡ item_offset p w → item_field ws p 0 % 2 ≡ 1
  pub version : (p : ℕ) → p < n → i ≡ item_offset p 0 → x ≡ suc (item_field ws p 0)

pub item_careful_words : (n : ℕ) (ws : List ℕ) (values : List Value) (i x : ℕ) → ItemCareful n ws values i x → ItemCarefulWords n ws i x
item_careful_words n ws values i x care = record { odd = care.odd; version = care.version }

-- what stays of the table
pub item_put_later : (n long_is : ℕ) (ws : List ℕ) (i x : ℕ) → length ws ≡ long_is → i < long_is → ItemCarefulWords n ws i x → ItemLater n ws (slice_set ws i x)
item_put_later n long_is ws i x long low_i care = record {
  version = λ p low. dite (ℕ_discrete i (item_offset p 0)) (λ (e : i ≡ item_offset p 0). let v = care.version p low e in let h : item_field (slice_set ws i x) p 0 ≡ x = ap (λ (z : ℕ). slice_index (slice_set ws i x) z) (sym e) ∙ get_or-set_same ws i x 0 (omega arith) in omega (arith, v, h)) (λ ne. let h : item_field (slice_set ws i x) p 0 ≡ item_field ws p 0 = get_or-set_other ws i (item_offset p 0) x 0 (λ e. ne (sym e)) in omega (arith, h));
  same = λ p w low some_w small even e. get_or-set_other ws i (item_offset p w) x 0 (λ e2. let o = care.odd p w low some_w small (sym e2) in absurd (omega (arith, o, even)));
}

module _ (n long_is : ℕ) (ws : List ℕ) (values : List Value) (i x : ℕ) (long : length ws ≡ long_is) (low_i : i < long_is) (care : ItemCareful n ws values i x) where
  abbrev zs : List ℕ
  zs = slice_set ws i x

  else : (j : ℕ) → j ≢ i → slice_index zs j ≡ slice_index ws j
  else j ne = get_or-set_other ws i j x 0 ne

  here : (j : ℕ) → i ≡ j → slice_index zs j ≡ x
  here j e = ap (λ (z : ℕ). slice_index zs z) (sym e) ∙ get_or-set_same ws i x 0 (omega arith)

  kept : (p w : ℕ) → p < n → 0 < w → w < 4 → item_field ws p 0 % 2 ≡ 0 → item_field zs p w ≡ item_field ws p w
  kept p w low some_w small even = else (item_offset p w) (λ e. let o = care.odd p w low some_w small (sym e) in absurd (omega (arith, o, even)))

  says_same : (p : ℕ) → ((w : ℕ) → 0 < w → w < 4 → item_field zs p w ≡ item_field ws p w) → said_at zs p ≡ said_at ws p
  says_same p same =
      let a = same 1 (omega arith) (omega arith) in
      let b = same 2 (omega arith) (omega arith) in
      λ z. a z ∷ b z ∷ []

  item_right : (p : ℕ) → p < n → (item_field ws p 0 % 2 ≡ 0 → words_at values p ≡ said_at ws p) → item_field zs p 0 % 2 ≡ 0 → words_at values p ≡ said_at zs p
  item_right p low right even =
      dite (ℕ_discrete i (item_offset p 0))
      (λ (e : i ≡ item_offset p 0).
      let parity : x % 2 ≡ 0 = ap (λ (n : ℕ). n % 2) (sym (here (item_offset p 0) e)) ∙ even in
      care.closes p low e parity ∙ sym (says_same p (λ w up less. else (item_offset p w) (λ y. omega arith))))
      (λ ne.
      let v : item_field zs p 0 ≡ item_field ws p 0 = else (item_offset p 0) (λ e. ne (sym e)) in
      let was : item_field ws p 0 % 2 ≡ 0 = ap (λ (n : ℕ). n % 2) (sym v) ∙ even in
      right was ∙ sym (says_same p (λ w up less. kept p w low up less was)))

  pub item_careful_sound : ItemSound n ws values → ItemSound n zs values
  item_careful_sound old = record { right = λ p low. item_right p low (old.right p low); short = old.short }

pub item_clear_sound : (n : ℕ) (ws : List ℕ) (old new : List Value) → ItemClear n ws old new → ItemSound n ws old → ItemSound n ws new
item_clear_sound n ws old new clear was = record { right = λ p low even. clear.keeps p low even ∙ was.right p low even; short = clear.short }
