-- That an entry of a dict or set may be put while others read it, on lists of words alone.
use Rattle.std.proofs.Common.{◌≡◌, ◌≢◌, ◌⊎◌, ℕ, ◌+◌, ◌*◌, ◌%◌, ◌<◌, ◌≤◌, false, List, [], ◌∷◌, length, refl, sym, ap, ◌∙◌, subst, inl, inr, ⊎_elim, arith, length-set, get_or-set_same, get_or-set_other}
use Rattle.std.specs.Prelude.{slice_index, slice_set}
use mathlib.Core.Logic.{dite}
use native.Mathlib.Decide.{ℕ_discrete}
use Rattle.ft_model.specs.declared.data.Key.{Key}
use Rattle.ft_layout.specs.Words.{key_kind, gone_kind, key_payload}
use Rattle.ft_layout.proofs.WordLaws.{gone_is, kind_range}
use Rattle.ft_trace.specs.Pictures.{entry_offset, entry_field}
use Rattle.ft_trace.specs.Carefuls.{Pairs, said_of, HasLiveKey, IsDead, Careful, Clear, OpensChanged}
use Rattle.ft_trace.specs.OddVersions.{Shut, Timely}
use Rattle.ft_trace.proofs.Opened.{only_opens}

-- the version of an entry is made odd, whose key isn't deleted
pub entry_open : (n m : ℕ) (ws : List ℕ) (c : Pairs) (p : ℕ) → entry_field n ws p 0 % 2 ≡ 0 → entry_field n ws p 2 < 3 → Careful n m ws c (entry_offset n p 0) (entry_field n ws p 0 + 1)
entry_open n m ws c p even alive = record {
  index = λ s less e. absurd (omega (arith, less, e));
  names = λ s less e. absurd (omega (arith, less, e));
  odd = λ q w less some few e. absurd (omega (arith, some, few, e));
  key = λ q w less which e. ⊎_elim (λ (z : w ≡ 1). absurd (omega (arith, z, e))) (λ (z : w ≡ 3). absurd (omega (arith, z, e))) which;
  kind = λ q less e. absurd (omega (arith, e));
  dies = λ q less e. absurd (omega (arith, e));
  version = λ q less e. let same : p ≡ q = omega (arith, e) in let v : entry_field n ws q 0 ≡ entry_field n ws p 0 = ap (λ (z : ℕ). entry_field n ws z 0) (sym same) in omega (arith, v);
  opens = λ q less e odd. let same : p ≡ q = omega (arith, e) in subst (λ (z : ℕ). entry_field n ws z 2 < 3) same alive;
  closes = λ q key less e two. absurd (omega (arith, two, even));
  shuts = λ q key less e two. absurd (omega (arith, two, even));
}

-- a word of the value or the serial of an entry whose version is odd
pub entry_value : (n m : ℕ) (ws : List ℕ) (c : Pairs) (p w x : ℕ) → 4 ≤ w → w < 8 → entry_field n ws p 0 % 2 ≡ 1 → Careful n m ws c (entry_offset n p w) x
entry_value n m ws c p w x high few odd = record {
  index = λ s less e. absurd (omega (arith, less, e));
  names = λ s less e. absurd (omega (arith, less, e));
  odd = λ q u less some low e. let same : p ≡ q = omega (arith, high, few, some, low, e) in subst (λ (z : ℕ). entry_field n ws z 0 % 2 ≡ 1) same odd;
  key = λ q u less which e. ⊎_elim (λ (z : u ≡ 1). absurd (omega (arith, z, e, high, few))) (λ (z : u ≡ 3). absurd (omega (arith, z, e, high, few))) which;
  kind = λ q less e. absurd (omega (arith, e, high, few));
  dies = λ q less e. absurd (omega (arith, e, high, few));
  version = λ q less e. absurd (omega (arith, e, high, few));
  opens = λ q less e. absurd (omega (arith, e, high, few));
  closes = λ q key less e. absurd (omega (arith, e, high, few));
  shuts = λ q key less e. absurd (omega (arith, e, high, few));
}

-- the version is made even, where the entry says what the content has
pub entry_close : (n m : ℕ) (ws : List ℕ) (c : Pairs) (p x : ℕ) → x ≡ entry_field n ws p 0 + 1 → x % 2 ≡ 0 → ((key : Key) → HasLiveKey n ws p key → c key ≡ said_of n ws p) → ((key : Key) → IsDead n ws p key → c key ≡ []) → Careful n m ws c (entry_offset n p 0) x
entry_close n m ws c p x is two right gone = record {
  index = λ s less e. absurd (omega (arith, less, e));
  names = λ s less e. absurd (omega (arith, less, e));
  odd = λ q w less some few e. absurd (omega (arith, some, few, e));
  key = λ q w less which e. ⊎_elim (λ (z : w ≡ 1). absurd (omega (arith, z, e))) (λ (z : w ≡ 3). absurd (omega (arith, z, e))) which;
  kind = λ q less e. absurd (omega (arith, e));
  dies = λ q less e. absurd (omega (arith, e));
  version = λ q less e. let same : p ≡ q = omega (arith, e) in let v : entry_field n ws q 0 ≡ entry_field n ws p 0 = ap (λ (z : ℕ). entry_field n ws z 0) (sym same) in omega (arith, v, is);
  opens = λ q less e odd. absurd (omega (arith, odd, two));
  closes = λ q key less e _. let same : p ≡ q = omega (arith, e) in subst (λ (z : ℕ). HasLiveKey n ws z key → c key ≡ said_of n ws z) same (right key);
  shuts = λ q key less e _. let same : p ≡ q = omega (arith, e) in subst (λ (z : ℕ). IsDead n ws z key → c key ≡ []) same (gone key);
}

-- ---- another value in an entry that is live

module _ (n m : ℕ) (ws : List ℕ) (c d : Pairs) (p : ℕ) (key : Key) (kind payload : ℕ) (low : p < m) (long : n + 8 * m ≤ length ws) (even : entry_field n ws p 0 % 2 ≡ 0) (live : HasLiveKey n ws p key) where
  abbrev ver : ℕ
  ver = entry_field n ws p 0

  abbrev b1 : List ℕ
  b1 = slice_set ws (entry_offset n p 0) (ver + 1)

  abbrev b2 : List ℕ
  b2 = slice_set b1 (entry_offset n p 4) kind

  abbrev b3 : List ℕ
  b3 = slice_set b2 (entry_offset n p 5) payload

  abbrev b4 : List ℕ
  b4 = slice_set b3 (entry_offset n p 0) (ver + 2)

  long3 : n + 8 * m ≤ length b3
  long3 = let a = length-set ws (entry_offset n p 0) (ver + 1) in let b = length-set b1 (entry_offset n p 4) kind in let c = length-set b2 (entry_offset n p 5) payload in omega (arith, a, b, c, long)

  pub ver1 : entry_field n b1 p 0 ≡ ver + 1
  ver1 = get_or-set_same ws (entry_offset n p 0) (ver + 1) 0 (omega (arith, low, long))

  pub ver2 : entry_field n b2 p 0 ≡ ver + 1
  ver2 = get_or-set_other b1 (entry_offset n p 4) (entry_offset n p 0) kind 0 (λ e. omega arith) ∙ ver1

  pub ver3 : entry_field n b3 p 0 ≡ ver + 1
  ver3 = get_or-set_other b2 (entry_offset n p 5) (entry_offset n p 0) payload 0 (λ e. omega arith) ∙ ver2

  pub else3 : (i : ℕ) → i ≢ entry_offset n p 0 → i ≢ entry_offset n p 4 → i ≢ entry_offset n p 5 → slice_index b3 i ≡ slice_index ws i
  else3 i n0 n4 n5 = get_or-set_other b2 (entry_offset n p 5) i payload 0 n5 ∙ (get_or-set_other b1 (entry_offset n p 4) i kind 0 n4 ∙ get_or-set_other ws (entry_offset n p 0) i (ver + 1) 0 n0)

  -- the key's words of each entry, and all words of the others
  pub key3 : (q w : ℕ) → (w ≡ 2) ⊎ (w ≡ 3) → entry_field n b3 q w ≡ entry_field n ws q w
  key3 q w = ⊎_elim (λ (z : w ≡ 2). else3 (entry_offset n q w) (λ e. omega (arith, z, e)) (λ e. omega (arith, z, e)) (λ e. omega (arith, z, e))) (λ (z : w ≡ 3). else3 (entry_offset n q w) (λ e. omega (arith, z, e)) (λ e. omega (arith, z, e)) (λ e. omega (arith, z, e)))

  pub other3 : (q w : ℕ) → q ≢ p → w < 8 → entry_field n b3 q w ≡ entry_field n ws q w
  other3 q w ne few = else3 (entry_offset n q w) (λ e. ne (omega (arith, few, e))) (λ e. ne (omega (arith, few, e))) (λ e. ne (omega (arith, few, e)))

  pub live3 : (q : ℕ) (k : Key) → HasLiveKey n b3 q k → HasLiveKey n ws q k
  live3 q k l = (sym (key3 q 2 (inl refl)) ∙ l.0, sym (key3 q 3 (inr refl)) ∙ l.1)

  pub value_open : Careful n m ws c (entry_offset n p 0) (ver + 1)
  value_open = let k = live.0 in let r = (kind_range key).1 in entry_open n m ws c p even (omega (arith, k, r))

  pub value_kind : Careful n m b1 c (entry_offset n p 4) kind
  value_kind = let v = ver1 in entry_value n m b1 c p 4 kind (omega arith) (omega arith) (omega (arith, v, even))

  pub value_payload : Careful n m b2 c (entry_offset n p 5) payload
  value_payload = let v = ver2 in entry_value n m b2 c p 5 payload (omega arith) (omega arith) (omega (arith, v, even))

  -- where the words as they were say what c has, and the words as they are what d has
  module _ (was : (q : ℕ) (k : Key) → q < m → HasLiveKey n ws q k → c k ≡ said_of n ws q) (now : (q : ℕ) (k : Key) → q < m → HasLiveKey n b3 q k → d k ≡ said_of n b3 q) (all : (k : Key) → d k ≢ [] → (q : ℕ) × (q < m) × HasLiveKey n b3 q k) where
    pub live_still : HasLiveKey n b3 p key
    live_still = (key3 p 2 (inl refl) ∙ live.0, key3 p 3 (inr refl) ∙ live.1)

    -- something else is under the key, where another value is put
    pub value_changed : (entry_field n ws p 4 ≡ kind → entry_field n ws p 5 ≡ payload → ⊥) → d key ≢ c key
    value_changed other same =
        let l = long in
        let f = length-set ws (entry_offset n p 0) (ver + 1) in
        let g = length-set b1 (entry_offset n p 4) kind in
        let said : said_of n b3 p ≡ said_of n ws p = sym (now p key low live_still) ∙ (same ∙ was p key low live) in
        let w4 : entry_field n b3 p 4 ≡ kind = get_or-set_other b2 (entry_offset n p 5) (entry_offset n p 4) payload 0 (λ e. omega arith) ∙ get_or-set_same b1 (entry_offset n p 4) kind 0 (omega (arith, low, l, f)) in
        let w5 : entry_field n b3 p 5 ≡ payload = get_or-set_same b2 (entry_offset n p 5) payload 0 (omega (arith, low, l, f, g)) in
        other (sym (ap (λ (l : List ℕ). slice_index l 0) said) ∙ w4) (sym (ap (λ (l : List ℕ). slice_index l 1) said) ∙ w5)

    pub value_clear : (entry_field n ws p 4 ≡ kind → entry_field n ws p 5 ≡ payload → ⊥) → Shut (λ q. entry_offset n q 0) m ws → (walk : Key → List ℕ) → Clear walk n m b3 c d
    value_clear other shut walk = record {
      keeps = λ q k less two l.
          dite (ℕ_discrete q p)
          (λ (e : q ≡ p). let v : entry_field n b3 q 0 ≡ ver + 1 = ap (λ (z : ℕ). entry_field n b3 z 0) e ∙ ver3 in absurd (omega (arith, v, two, even)))
          (λ ne.
          let w4 = other3 q 4 ne (omega arith) in
          let w5 = other3 q 5 ne (omega arith) in
          let w6 = other3 q 6 ne (omega arith) in
          let same : said_of n b3 q ≡ said_of n ws q = λ i. w4 i ∷ w5 i ∷ w6 i ∷ [] in
          now q k less l ∙ (same ∙ sym (was q k less (live3 q k l))));
      opens = only_opens n m b3 c d p key (λ q less ne. let v = other3 q 0 ne (omega arith) in let two = shut q less in omega (arith, v, two)) (inl live_still) (value_changed other);
      adds = λ k fits none some. let a = all k some in let x : [] ≡ said_of n ws a.0 = sym none ∙ was a.0 k a.1 (live3 a.0 k a.2) in absurd (cc);
    }

    pub value_late : Careful n m b3 d (entry_offset n p 0) (ver + 2)
    value_late =
        let v = ver3 in
        entry_close n m b3 d p (ver + 2) (omega (arith, v)) (omega (arith, even)) (λ k l. now p k low l)
        (λ k dead. let g = gone_is k in let b = (kind_range k).0 in let h = (kind_range key).1 in let x = key3 p 2 (inl refl) in let l = live.0 in let e = dead.0 in absurd (omega (arith, g, b, h, x, l, e)))

  pub value_shut : Shut (λ q. entry_offset n q 0) m ws → Shut (λ q. entry_offset n q 0) m b4
  value_shut shut q less =
      dite (ℕ_discrete q p)
      (λ (e : q ≡ p). let v : entry_field n b4 q 0 ≡ ver + 2 = ap (λ (z : ℕ). entry_field n b4 z 0) e ∙ get_or-set_same b3 (entry_offset n p 0) (ver + 2) 0 (let l = long3 in omega (arith, low, l)) in omega (arith, v, even))
      (λ ne.
      let v : entry_field n b4 q 0 ≡ entry_field n ws q 0 = get_or-set_other b3 (entry_offset n p 0) (entry_offset n q 0) (ver + 2) 0 (λ e. ne (omega (arith, e))) ∙ other3 q 0 ne (omega arith) in
      let old = shut q less in
      omega (arith, v, old))

  pub value_time : (at : ℕ → ℕ) → ((q : ℕ) → at q ≡ entry_offset n q 0) → (w x : ℕ) → w < 8 → (w ≡ 0 → x % 2 ≡ 1) → Timely at m (entry_offset n p w) x false
  value_time at is w x few odd = record { before = λ q less e one. refl; later = λ q less e two. absurd (let i = is q in let o = odd (omega (arith, few, e, i)) in omega (arith, two, o)) }

-- the kind of an entry whose version is odd, from that of a key that is there to that of a deleted one
pub entry_dies : (n m : ℕ) (ws : List ℕ) (c : Pairs) (p : ℕ) (key : Key) → entry_field n ws p 0 % 2 ≡ 1 → entry_field n ws p 2 ≡ key_kind key → Careful n m ws c (entry_offset n p 2) (gone_kind key)
entry_dies n m ws c p key odd live = record {
  index = λ s less e. absurd (omega (arith, less, e));
  names = λ s less e. absurd (omega (arith, less, e));
  odd = λ q u less more low e. let same : p ≡ q = omega (arith, more, low, e) in subst (λ (z : ℕ). entry_field n ws z 0 % 2 ≡ 1) same odd;
  key = λ q u less other e. ⊎_elim (λ (z : u ≡ 1). absurd (omega (arith, z, e))) (λ (z : u ≡ 3). absurd (omega (arith, z, e))) other;
  kind = λ q less e. let g = gone_is key in λ z. absurd (omega (arith, g, z));
  dies = λ q less e used.
      let same : p ≡ q = omega (arith, e) in
      let is : entry_field n ws q 2 ≡ key_kind key = ap (λ (z : ℕ). entry_field n ws z 2) (sym same) ∙ live in
      let g = gone_is key in
      let r = (kind_range key).1 in
      (omega (arith, is, r), omega (arith, is, g));
  version = λ q less e. absurd (omega (arith, e));
  opens = λ q less e. absurd (omega (arith, e));
  closes = λ q key less e. absurd (omega (arith, e));
  shuts = λ q key less e. absurd (omega (arith, e));
}

-- ---- a live entry is deleted

module _ (n m : ℕ) (ws : List ℕ) (p : ℕ) (key : Key) (low : p < m) (long : n + 8 * m ≤ length ws) (even : entry_field n ws p 0 % 2 ≡ 0) (live : HasLiveKey n ws p key) where
  abbrev was : ℕ
  was = entry_field n ws p 0

  abbrev d1 : List ℕ
  d1 = slice_set ws (entry_offset n p 0) (was + 1)

  abbrev d2 : List ℕ
  d2 = slice_set d1 (entry_offset n p 2) (gone_kind key)

  abbrev d3 : List ℕ
  d3 = slice_set d2 (entry_offset n p 0) (was + 2)

  dead_long : n + 8 * m ≤ length d2
  dead_long = let a = length-set ws (entry_offset n p 0) (was + 1) in let b = length-set d1 (entry_offset n p 2) (gone_kind key) in omega (arith, a, b, long)

  odd1 : entry_field n d1 p 0 ≡ was + 1
  odd1 = get_or-set_same ws (entry_offset n p 0) (was + 1) 0 (omega (arith, low, long))

  odd2 : entry_field n d2 p 0 ≡ was + 1
  odd2 = get_or-set_other d1 (entry_offset n p 2) (entry_offset n p 0) (gone_kind key) 0 (λ e. omega arith) ∙ odd1

  kind1 : entry_field n d1 p 2 ≡ key_kind key
  kind1 = get_or-set_other ws (entry_offset n p 0) (entry_offset n p 2) (was + 1) 0 (λ e. omega arith) ∙ live.0

  kind2 : entry_field n d2 p 2 ≡ gone_kind key
  kind2 = let a = length-set ws (entry_offset n p 0) (was + 1) in get_or-set_same d1 (entry_offset n p 2) (gone_kind key) 0 (omega (arith, low, long, a))

  pub dead_others : (q w : ℕ) → q ≢ p → w < 8 → entry_field n d2 q w ≡ entry_field n ws q w
  dead_others q w ne few = get_or-set_other d1 (entry_offset n p 2) (entry_offset n q w) (gone_kind key) 0 (λ e. ne (omega (arith, few, e))) ∙ get_or-set_other ws (entry_offset n p 0) (entry_offset n q w) (was + 1) 0 (λ e. ne (omega (arith, few, e)))

  pub dead_open : (c : Pairs) → Careful n m ws c (entry_offset n p 0) (was + 1)
  dead_open c = let k = live.0 in let r = (kind_range key).1 in entry_open n m ws c p even (omega (arith, k, r))

  pub dead_kind : (c : Pairs) → Careful n m d1 c (entry_offset n p 2) (gone_kind key)
  dead_kind c = let v = odd1 in entry_dies n m d1 c p key (omega (arith, v, even)) kind1

  -- entries with an even version are as they were
  pub dead_same : (q w : ℕ) → q < m → entry_field n d2 q 0 % 2 ≡ 0 → w < 8 → entry_field n d2 q w ≡ entry_field n ws q w
  dead_same q w less two few =
      dite (ℕ_discrete q p)
      (λ (e : q ≡ p). let v : entry_field n d2 q 0 ≡ was + 1 = ap (λ (z : ℕ). entry_field n d2 z 0) e ∙ odd2 in absurd (omega (arith, v, two, even)))
      (λ ne. dead_others q w ne few)

  -- the version is made even once the content has nothing under the key
  pub dead_late : (d : Pairs) → ((k : Key) → IsDead n d2 p k → d k ≡ []) → Careful n m d2 d (entry_offset n p 0) (was + 2)
  dead_late d none =
      let v = odd2 in
      entry_close n m d2 d p (was + 2) (omega (arith, v)) (omega (arith, even))
      (λ k l. let g = gone_is key in let b = (kind_range key).0 in let h = (kind_range k).1 in let y = kind2 in let e = l.0 in absurd (omega (arith, g, b, h, y, e)))
      none

  pub dead_shut : Shut (λ q. entry_offset n q 0) m ws → Shut (λ q. entry_offset n q 0) m d3
  dead_shut shut q less =
      let l = dead_long in
      dite (ℕ_discrete q p)
      (λ (e : q ≡ p). let v : entry_field n d3 q 0 ≡ was + 2 = ap (λ (z : ℕ). entry_field n d3 z 0) e ∙ get_or-set_same d2 (entry_offset n p 0) (was + 2) 0 (omega (arith, low, l)) in omega (arith, v, even))
      (λ ne.
      let v : entry_field n d3 q 0 ≡ entry_field n ws q 0 = get_or-set_other d2 (entry_offset n p 0) (entry_offset n q 0) (was + 2) 0 (λ e. ne (omega (arith, e))) ∙ dead_others q 0 ne (omega arith) in
      let old = shut q less in
      omega (arith, v, old))

  pub dead_now : IsDead n d2 p key
  dead_now = (kind2, get_or-set_other d1 (entry_offset n p 2) (entry_offset n p 3) (gone_kind key) 0 (λ e. omega arith) ∙ (get_or-set_other ws (entry_offset n p 0) (entry_offset n p 3) (was + 1) 0 (λ e. omega arith) ∙ live.1))

  -- its entry is still of the key, under which nothing is then
  pub dead_opens : (c d : Pairs) → Shut (λ q. entry_offset n q 0) m ws → c key ≢ [] → d key ≡ [] → OpensChanged n m d2 c d
  dead_opens c d shut some none =
      only_opens n m d2 c d p key
      (λ q less ne. let v = dead_others q 0 ne (omega arith) in let two = shut q less in omega (arith, v, two))
      (inr dead_now)
      (λ same. some (sym same ∙ none))

  -- the key of a deleted entry
  pub dead_is : (k : Key) → IsDead n d2 p k → (key_kind k ≡ key_kind key) × (key_payload k ≡ key_payload key)
  dead_is k dead =
      let g = gone_is k in
      let h = gone_is key in
      let y = kind2 in
      let e = dead.0 in
      let pay : entry_field n d2 p 3 ≡ entry_field n ws p 3 = get_or-set_other d1 (entry_offset n p 2) (entry_offset n p 3) (gone_kind key) 0 (λ e. omega arith) ∙ get_or-set_other ws (entry_offset n p 0) (entry_offset n p 3) (was + 1) 0 (λ e. omega arith) in
      (omega (arith, g, h, y, e), sym dead.1 ∙ (pay ∙ live.1))
