-- Puts with care, on lists of words alone: tables of dicts and sets.
use Rattle.std.proofs.Common.{◌≡◌, ◌≢◌, ◌⊎◌, ℕ, suc, ◌+◌, ◌%◌, ◌<◌, ◌≤◌, List, [], ◌∷◌, length, refl, sym, ap, ◌∙◌, inl, inr, ⊎_elim, arith, get_or-set_other, get_or-set_same, le_refl, le_trans}
use Rattle.std.specs.Prelude.{slice_index, slice_set}
use mathlib.Core.Logic.{dite}
use native.Mathlib.Decide.{ℕ_discrete}
use Rattle.ft_model.specs.declared.data.Key.{Key}
use Rattle.ft_model.specs.declared.data.Key.TheVariants as key
use Rattle.ft_layout.specs.Words.{key_kind, gone_kind}
use Rattle.ft_trace.specs.Pictures.{index_field, entry_offset, entry_field, Met}
use Rattle.ft_trace.specs.Carefuls.{Pairs, said_of, HasLiveKey, IsDead, Reached, Sound, Careful, Clear, Later}

-- the kinds of a key that is there and of one that was deleted
pub kind_is : (k : Key) → (0 < key_kind k) × (key_kind k < 3) × (gone_kind k ≡ key_kind k + 2)
kind_is (key.Int n) = (omega arith, omega arith, refl)
kind_is (key.Text sym) = (omega arith, omega arith, refl)

pub used_of : (n : ℕ) (ws : List ℕ) (p : ℕ) (k : Key) → HasLiveKey n ws p k ⊎ IsDead n ws p k → entry_field n ws p 2 ≢ 0
used_of n ws p k =
    let h = kind_is k in
    let h0 = h.0 in
    let h2 = h.2 in
    ⊎_elim (λ (l : HasLiveKey n ws p k). λ z. let a = l.0 in absurd (omega (arith, a, z, h0))) (λ (d : IsDead n ws p k). λ z. let a = d.0 in absurd (omega (arith, a, z, h0, h2)))

pub later_self : (n m : ℕ) (ws : List ℕ) → Later n m ws ws
later_self n m ws = record { index = λ s low used. refl; kind = λ p low u. inl refl; hash = λ p low u. refl; key = λ p low u. refl; version = λ p low. le_refl (entry_field n ws p 0); same = λ p w low some_w small even e. refl; gone = λ p low e even. refl }

-- a kind that only dies
two_kinds : (a b c : ℕ) → a ≢ 0 → (b ≡ a) ⊎ ((a < 3) × (b ≡ a + 2)) → (c ≡ b) ⊎ ((b < 3) × (c ≡ b + 2)) → (c ≡ a) ⊎ ((a < 3) × (c ≡ a + 2))
two_kinds a b c ne =
    ⊎_elim (λ (x : b ≡ a). ⊎_elim (λ (y : c ≡ b). inl (y ∙ x)) (λ (y : (b < 3) × (c ≡ b + 2)). let y0 = y.0 in let y1 = y.1 in inr (omega (arith, x, y0), omega (arith, x, y1))))
    (λ (x : (a < 3) × (b ≡ a + 2)) y'. ⊎_elim (λ (y : c ≡ b). let x1 = x.1 in inr (x.0, omega (arith, x1, y))) (λ (y : (b < 3) × (c ≡ b + 2)). let x1 = x.1 in let y0 = y.0 in absurd (omega (arith, x1, y0, ne))) y')

pub kind_used : (a b : ℕ) → a ≢ 0 → (b ≡ a) ⊎ ((a < 3) × (b ≡ a + 2)) → b ≢ 0
kind_used a b ne = ⊎_elim (λ (x : b ≡ a). λ z. ne (sym x ∙ z)) (λ (x : (a < 3) × (b ≡ a + 2)). λ z. let y = x.1 in absurd (omega (arith, y, z)))

kind_dead : (a b : ℕ) → 3 ≤ a → (b ≡ a) ⊎ ((a < 3) × (b ≡ a + 2)) → b ≡ a
kind_dead a b high = ⊎_elim (λ (x : b ≡ a). x) (λ (x : (a < 3) × (b ≡ a + 2)). let y = x.0 in absurd (omega (arith, y, high)))

pub later_used : (n m : ℕ) (ws zs : List ℕ) → Later n m ws zs → (p : ℕ) → p < m → entry_field n ws p 2 ≢ 0 → entry_field n zs p 2 ≢ 0
later_used n m ws zs later p low u = kind_used (entry_field n ws p 2) (entry_field n zs p 2) u (later.kind p low u)

pub later_dead : (n m : ℕ) (ws zs : List ℕ) → Later n m ws zs → (p : ℕ) → p < m → 3 ≤ entry_field n ws p 2 → entry_field n zs p 2 ≡ entry_field n ws p 2
later_dead n m ws zs later p low high = kind_dead (entry_field n ws p 2) (entry_field n zs p 2) high (later.kind p low (λ z. omega (arith, z, high)))

pub later_trans : (n m : ℕ) (ws ys zs : List ℕ) → Later n m ws ys → Later n m ys zs → Later n m ws zs
later_trans n m ws ys zs a b = record {
  index = λ s low used. let e = a.index s low used in b.index s low (λ none. used (sym e ∙ none)) ∙ e;
  kind = λ p low u. two_kinds (entry_field n ws p 2) (entry_field n ys p 2) (entry_field n zs p 2) u (a.kind p low u) (b.kind p low (later_used n m ws ys a p low u));
  hash = λ p low u. b.hash p low (later_used n m ws ys a p low u) ∙ a.hash p low u;
  key = λ p low u. b.key p low (later_used n m ws ys a p low u) ∙ a.key p low u;
  version = λ p low. le_trans (a.version p low) (b.version p low);
  same = λ p w low some_w small even e.
      let up = a.version p low in
      let more = b.version p low in
      let here : entry_field n ys p 0 ≡ entry_field n ws p 0 = omega (arith, up, more, e) in
      b.same p w low some_w small (ap (λ (n : ℕ). n % 2) here ∙ even) (e ∙ sym here) ∙ a.same p w low some_w small even here;
  gone = λ p low e even.
      let v = a.gone p low e even in
      let d = later_dead n m ws ys a p low e in
      b.gone p low (omega (arith, d, e)) (ap (λ (n : ℕ). n % 2) v ∙ even) ∙ v;
}

pub met_later : (n m : ℕ) (ws zs walk : List ℕ) (x : ℕ) → Later n m ws zs → x ≢ 0 → Met n ws walk x → Met n zs walk x
met_later n m ws zs walk x later ne met = record {
  step = met.step;
  low = met.low;
  inside = met.inside;
  here = later.index (slice_index walk met.step) (met.inside met.step (le_refl met.step)) (λ none. ne (sym met.here ∙ none)) ∙ met.here;
  before = λ j less none. met.before j less (sym (later.index (slice_index walk j) (met.inside j (omega arith)) (met.before j less)) ∙ none);
}

-- what is asked of a put but for what the content has
pub record CarefulWords (n m : ℕ) (ws : List ℕ) (i x : ℕ) : Type 0 where
  pub index : (s : ℕ) → s < n → i ≡ s → index_field ws s ≡ 0
  pub names : (s : ℕ) → s < n → i ≡ s → (p : ℕ) → p < m → x ≡ suc p → entry_field n ws p 2 ≢ 0
  pub odd : (p w : ℕ) → p < m → 0 < w → w < 8 → i ≡ entry_offset n p w → entry_field n ws p 0 % 2 ≡ 1
  pub key : (p w : ℕ) → p < m → (w ≡ 1) ⊎ (w ≡ 3) → i ≡ entry_offset n p w → entry_field n ws p 2 ≡ 0
  pub kind : (p : ℕ) → p < m → i ≡ entry_offset n p 2 → x ≢ 0
  pub dies : (p : ℕ) → p < m → i ≡ entry_offset n p 2 → entry_field n ws p 2 ≢ 0 → (entry_field n ws p 2 < 3) × (x ≡ entry_field n ws p 2 + 2)
  pub version : (p : ℕ) → p < m → i ≡ entry_offset n p 0 → x ≡ suc (entry_field n ws p 0)
  pub opens : (p : ℕ) → p < m → i ≡ entry_offset n p 0 → x % 2 ≡ 1 → entry_field n ws p 2 < 3

pub careful_words : (n m : ℕ) (ws : List ℕ) (c : Pairs) (i x : ℕ) → Careful n m ws c i x → CarefulWords n m ws i x
careful_words n m ws c i x care = record { index = care.index; names = care.names; odd = care.odd; key = care.key; kind = care.kind; dies = care.dies; version = care.version; opens = care.opens }

module _ (n m long_is : ℕ) (ws : List ℕ) (i x : ℕ) (long : length ws ≡ long_is) (low_i : i < long_is) (care : CarefulWords n m ws i x) where
  put_else : (j : ℕ) → j ≢ i → slice_index (slice_set ws i x) j ≡ slice_index ws j
  put_else j ne = get_or-set_other ws i j x 0 ne

  put_here : (j : ℕ) → i ≡ j → slice_index (slice_set ws i x) j ≡ x
  put_here j e = ap (λ (z : ℕ). slice_index (slice_set ws i x) z) (sym e) ∙ get_or-set_same ws i x 0 (omega arith)

  put_kept : (p w : ℕ) → p < m → 0 < w → w < 8 → entry_field n ws p 0 % 2 ≡ 0 → entry_field n (slice_set ws i x) p w ≡ entry_field n ws p w
  put_kept p w low some_w small even = put_else (entry_offset n p w) (λ e. let o = care.odd p w low some_w small (sym e) in absurd (omega (arith, o, even)))

  put_kind : (p : ℕ) → p < m → entry_field n ws p 2 ≢ 0 → (entry_field n (slice_set ws i x) p 2 ≡ entry_field n ws p 2) ⊎ ((entry_field n ws p 2 < 3) × (entry_field n (slice_set ws i x) p 2 ≡ entry_field n ws p 2 + 2))
  put_kind p low u =
      dite (ℕ_discrete i (entry_offset n p 2))
      (λ (e : i ≡ entry_offset n p 2). let d = care.dies p low e u in inr (d.0, put_here (entry_offset n p 2) e ∙ d.1))
      (λ ne. inl (put_else (entry_offset n p 2) (λ e. ne (sym e))))

  -- what stays of the table
  pub put_later : Later n m ws (slice_set ws i x)
  put_later = record {
    index = λ s low used. put_else s (λ e. used (care.index s low (sym e)));
    kind = λ p low u. put_kind p low u;
    hash = λ p low u. put_else (entry_offset n p 1) (λ e. u (care.key p 1 low (inl refl) (sym e)));
    key = λ p low u. put_else (entry_offset n p 3) (λ e. u (care.key p 3 low (inr refl) (sym e)));
    version = λ p low. dite (ℕ_discrete i (entry_offset n p 0)) (λ e. let v = care.version p low e in let h = put_here (entry_offset n p 0) e in omega (arith, v, h)) (λ ne. let h = put_else (entry_offset n p 0) (λ e. ne (sym e)) in omega (arith, h));
    same = λ p w low some_w small even e. put_kept p w low some_w small even;
    gone = λ p low e even. put_else (entry_offset n p 0) (λ y. let v = care.version p low (sym y) in let o = care.opens p low (sym y) (omega (arith, v, even)) in absurd (omega (arith, o, e)));
  }

module _ (n m long_is : ℕ) (ws : List ℕ) (c : Pairs) (i x : ℕ) (long : length ws ≡ long_is) (low_i : i < long_is) (care : Careful n m ws c i x) where
  abbrev zs : List ℕ
  zs = slice_set ws i x

  else : (j : ℕ) → j ≢ i → slice_index zs j ≡ slice_index ws j
  else j ne = get_or-set_other ws i j x 0 ne

  here : (j : ℕ) → i ≡ j → slice_index zs j ≡ x
  here j e = ap (λ (z : ℕ). slice_index zs z) (sym e) ∙ get_or-set_same ws i x 0 (omega arith)

  -- a word of an entry whose version is even stays
  kept : (p w : ℕ) → p < m → 0 < w → w < 8 → entry_field n ws p 0 % 2 ≡ 0 → entry_field n zs p w ≡ entry_field n ws p w
  kept p w low some_w small even = else (entry_offset n p w) (λ e. let o = care.odd p w low some_w small (sym e) in absurd (omega (arith, o, even)))

  careful_kind : (p : ℕ) → p < m → entry_field n ws p 2 ≢ 0 → (entry_field n zs p 2 ≡ entry_field n ws p 2) ⊎ ((entry_field n ws p 2 < 3) × (entry_field n zs p 2 ≡ entry_field n ws p 2 + 2))
  careful_kind p low u =
      dite (ℕ_discrete i (entry_offset n p 2))
      (λ (e : i ≡ entry_offset n p 2). let d = care.dies p low e u in inr (d.0, here (entry_offset n p 2) e ∙ d.1))
      (λ ne. inl (else (entry_offset n p 2) (λ e. ne (sym e))))

  careful_later : Later n m ws zs
  careful_later = put_later n m long_is ws i x long low_i (careful_words n m ws c i x care)

  -- all that an entry says stays
  says_same : (p : ℕ) → ((w : ℕ) → 1 < w → w < 7 → entry_field n zs p w ≡ entry_field n ws p w) → said_of n zs p ≡ said_of n ws p
  says_same p same =
      let a = same 4 (omega arith) (omega arith) in
      let b = same 5 (omega arith) (omega arith) in
      let d = same 6 (omega arith) (omega arith) in
      λ z. a z ∷ b z ∷ d z ∷ []

  live_before : (p : ℕ) (key : Key) → ((w : ℕ) → 1 < w → w < 7 → entry_field n zs p w ≡ entry_field n ws p w) → HasLiveKey n zs p key → HasLiveKey n ws p key
  live_before p key same live = (sym (same 2 (omega arith) (omega arith)) ∙ live.0, sym (same 3 (omega arith) (omega arith)) ∙ live.1)

  careful_right : (p : ℕ) (key : Key) → p < m → (entry_field n ws p 0 % 2 ≡ 0 → HasLiveKey n ws p key → c key ≡ said_of n ws p) → entry_field n zs p 0 % 2 ≡ 0 → HasLiveKey n zs p key → c key ≡ said_of n zs p
  careful_right p key low right even live =
      dite (ℕ_discrete i (entry_offset n p 0))
      (λ (e : i ≡ entry_offset n p 0).
      let same : (w : ℕ) → 1 < w → w < 7 → entry_field n zs p w ≡ entry_field n ws p w = λ w up less. else (entry_offset n p w) (λ y. omega arith) in
      let parity : x % 2 ≡ 0 = ap (λ (n : ℕ). n % 2) (sym (here (entry_offset n p 0) e)) ∙ even in
      care.closes p key low e parity (live_before p key same live) ∙ sym (says_same p same))
      (λ ne.
      let v : entry_field n zs p 0 ≡ entry_field n ws p 0 = else (entry_offset n p 0) (λ e. ne (sym e)) in
      let was : entry_field n ws p 0 % 2 ≡ 0 = ap (λ (n : ℕ). n % 2) (sym v) ∙ even in
      let same : (w : ℕ) → 1 < w → w < 7 → entry_field n zs p w ≡ entry_field n ws p w = λ w up less. kept p w low (omega arith) (omega arith) was in
      right was (live_before p key same live) ∙ sym (says_same p same))

  careful_mine : (p : ℕ) (key : Key) → p < m → HasLiveKey n ws p key ⊎ IsDead n ws p key → HasLiveKey n zs p key ⊎ IsDead n zs p key
  careful_mine p key low mine =
      let h = kind_is key in
      let h1 = h.1 in
      let h2 = h.2 in
      let u = used_of n ws p key mine in
      let pay = careful_later.key p low u in
      ⊎_elim
      (λ (l : HasLiveKey n ws p key).
      let l0 = l.0 in
      ⊎_elim (λ (e : entry_field n zs p 2 ≡ entry_field n ws p 2). inl (e ∙ l.0, pay ∙ l.1))
      (λ (e : (entry_field n ws p 2 < 3) × (entry_field n zs p 2 ≡ entry_field n ws p 2 + 2)). let e1 = e.1 in inr (omega (arith, e1, l0, h2), pay ∙ l.1)) (careful_kind p low u))
      (λ (d : IsDead n ws p key).
      let d0 = d.0 in
      ⊎_elim (λ (e : entry_field n zs p 2 ≡ entry_field n ws p 2). inr (e ∙ d.0, pay ∙ d.1))
      (λ (e : (entry_field n ws p 2 < 3) × (entry_field n zs p 2 ≡ entry_field n ws p 2 + 2)). let e0 = e.0 in let h0 = h.0 in absurd (omega (arith, e0, d0, h0, h2))) (careful_kind p low u))
      mine

  careful_reached : (walk : List ℕ) (key : Key) → c key ≢ [] → Reached n m ws walk key → Reached n m zs walk key
  careful_reached walk key there r =
      let p = r.place in
      let low = r.low in
      record {
        place = p;
        low = low;
        mine = careful_mine p key low r.mine;
        met = met_later n m ws zs walk (suc p) careful_later (λ e. omega arith) r.met;
        alive =
            (dite (ℕ_discrete i (entry_offset n p 0))
            (λ (y : i ≡ entry_offset n p 0).
            let v = here (entry_offset n p 0) y in
            let kind : entry_field n zs p 2 ≡ entry_field n ws p 2 = else (entry_offset n p 2) (λ z. omega arith) in
            dite (ℕ_discrete (x % 2) 0)
            (λ (even : x % 2 ≡ 0).
            ⊎_elim (λ (live : HasLiveKey n ws p key). inl (kind ∙ live.0)) (λ (dead : IsDead n ws p key). absurd (there (care.shuts p key low y even dead))) r.mine)
            (λ odd. inr (omega (arith, odd, v))))
            (λ ne.
            let v : entry_field n zs p 0 ≡ entry_field n ws p 0 = else (entry_offset n p 0) (λ z. ne (sym z)) in
            ⊎_elim
            (λ (live : entry_field n ws p 2 ≡ key_kind key).
            dite (ℕ_discrete i (entry_offset n p 2))
            (λ (y : i ≡ entry_offset n p 2). let o = care.odd p 2 low (omega arith) (omega arith) y in inr (omega (arith, o, v)))
            (λ no. inl (else (entry_offset n p 2) (λ z. no (sym z)) ∙ live)))
            (λ (odd : entry_field n ws p 0 % 2 ≡ 1). inr (omega (arith, odd, v)))
            r.alive));
      }

  careful_named : (s p : ℕ) → s < n → p < m → (index_field ws s ≡ suc p → entry_field n ws p 2 ≢ 0) → index_field zs s ≡ suc p → entry_field n zs p 2 ≢ 0
  careful_named s p less low named e =
      later_used n m ws zs careful_later p low
      (dite (ℕ_discrete i s)
      (λ (y : i ≡ s). care.names s less y p low (sym (here s y) ∙ e))
      (λ ne. named (sym (else s (λ y. ne (sym y))) ∙ e)))

  pub careful_sound : (walk : Key → List ℕ) → Sound walk n m ws c → Sound walk n m zs c
  careful_sound walk old = record {
    right = λ p key low. careful_right p key low (old.right p key low);
    named = λ s p less low e. careful_named s p less low (old.named s p less low) e;
    reached = λ key fits there. careful_reached (walk key) key there (old.reached key fits there);
  }

-- whether there is anything under a key
pub none_or : (l : List ℕ) → (l ≡ []) ⊎ (l ≢ [])
none_or [] = inl refl
none_or (x ∷ xs) = inr (λ e. absurd (cc))

pub clear_sound : (walk : Key → List ℕ) (n m : ℕ) (ws : List ℕ) (c d : Pairs) → Clear walk n m ws c d → Sound walk n m ws c → Sound walk n m ws d
clear_sound walk n m ws c d clear old = record {
  right = λ p key low even live. clear.keeps p key low even live ∙ old.right p key low even live;
  named = old.named;
  reached = λ key fits there. ⊎_elim (λ (none : c key ≡ []). clear.adds key fits none there) (λ (some_one : c key ≢ []). old.reached key fits some_one) (none_or (c key));
}
