-- That a new entry of a dict may be put while others read its table, on lists of words alone.
use Rattle.std.proofs.Common.{◌≡◌, ◌≢◌, ◌⊎◌, ℕ, ◌+◌, ◌*◌, ◌%◌, ◌<◌, List, [], length, inl, sym, ap, ◌∙◌, subst, ⊎_elim, arith, length-set, get_or-set_same, get_or-set_other, ◌≤◌}
use Rattle.std.specs.Prelude.{slice_set}
use mathlib.Core.Logic.{dite}
use native.Mathlib.Decide.{ℕ_discrete}
use Rattle.ft_model.specs.declared.data.Key.{Key}
use Rattle.ft_layout.specs.Words.{key_kind, key_payload}
use Rattle.ft_layout.proofs.WordLaws.{gone_is, kind_range}
use Rattle.ft_trace.specs.Pictures.{index_field, entry_offset, entry_field}
use Rattle.ft_trace.specs.Carefuls.{Pairs, said_of, HasLiveKey, Careful, OpensChanged}
use Rattle.ft_trace.proofs.Opened.{only_opens}
use Rattle.ft_trace.specs.OddVersions.{Shut}
use Rattle.ft_trace.proofs.EntryPuts.{entry_open, entry_value, entry_close}

-- the hash or the payload of an entry that has no key yet
entry_key : (n m : ℕ) (ws : List ℕ) (c : Pairs) (p w x : ℕ) → (w ≡ 1) ⊎ (w ≡ 3) → entry_field n ws p 0 % 2 ≡ 1 → entry_field n ws p 2 ≡ 0 → Careful n m ws c (entry_offset n p w) x
entry_key n m ws c p w x which odd none =
    let some : 0 < w = ⊎_elim (λ (e : w ≡ 1). omega (arith, e)) (λ (e : w ≡ 3). omega (arith, e)) which in
    let few : w < 4 = ⊎_elim (λ (e : w ≡ 1). omega (arith, e)) (λ (e : w ≡ 3). omega (arith, e)) which in
    let two : w ≢ 2 = ⊎_elim (λ (e : w ≡ 1). λ (z : w ≡ 2). absurd (omega (arith, e, z))) (λ (e : w ≡ 3). λ (z : w ≡ 2). absurd (omega (arith, e, z))) which in
    record {
      index = λ s less e. absurd (omega (arith, less, e));
      names = λ s less e. absurd (omega (arith, less, e));
      odd = λ q u less more low e. let same : p ≡ q = omega (arith, few, more, low, e) in subst (λ (z : ℕ). entry_field n ws z 0 % 2 ≡ 1) same odd;
      key = λ q u less other e. let below : u < 4 = ⊎_elim (λ (z : u ≡ 1). omega (arith, z)) (λ (z : u ≡ 3). omega (arith, z)) other in let same : p ≡ q = omega (arith, few, below, e) in subst (λ (z : ℕ). entry_field n ws z 2 ≡ 0) same none;
      kind = λ q less e. absurd (two (omega (arith, few, e)));
      dies = λ q less e. absurd (two (omega (arith, few, e)));
      version = λ q less e. absurd (omega (arith, some, few, e));
      opens = λ q less e. absurd (omega (arith, some, few, e));
      closes = λ q key less e. absurd (omega (arith, some, few, e));
      shuts = λ q key less e. absurd (omega (arith, some, few, e));
    }

-- its kind, once
entry_kind : (n m : ℕ) (ws : List ℕ) (c : Pairs) (p x : ℕ) → x ≢ 0 → entry_field n ws p 0 % 2 ≡ 1 → entry_field n ws p 2 ≡ 0 → Careful n m ws c (entry_offset n p 2) x
entry_kind n m ws c p x some odd none = record {
  index = λ s less e. absurd (omega (arith, less, e));
  names = λ s less e. absurd (omega (arith, less, e));
  odd = λ q u less more low e. let same : p ≡ q = omega (arith, more, low, e) in subst (λ (z : ℕ). entry_field n ws z 0 % 2 ≡ 1) same odd;
  key = λ q u less other e. ⊎_elim (λ (z : u ≡ 1). absurd (omega (arith, z, e))) (λ (z : u ≡ 3). absurd (omega (arith, z, e))) other;
  kind = λ q less e. some;
  dies = λ q less e used. let same : p ≡ q = omega (arith, e) in absurd (used (subst (λ (z : ℕ). entry_field n ws z 2 ≡ 0) same none));
  version = λ q less e. absurd (omega (arith, e));
  opens = λ q less e. absurd (omega (arith, e));
  closes = λ q key less e. absurd (omega (arith, e));
  shuts = λ q key less e. absurd (omega (arith, e));
}

-- an index word that was 0 names an entry that has a key
index_put : (n m : ℕ) (ws : List ℕ) (c : Pairs) (s p : ℕ) → s < n → index_field ws s ≡ 0 → entry_field n ws p 2 ≢ 0 → Careful n m ws c s (p + 1)
index_put n m ws c s p less free used = record {
  index = λ t small e. ap (index_field ws) (sym e) ∙ free;
  names = λ t small e q low is none. let same : q ≡ p = omega (arith, is) in used (subst (λ (z : ℕ). entry_field n ws z 2 ≡ 0) same none);
  odd = λ q w small some few e. absurd (omega (arith, less, e));
  key = λ q w small which e. absurd (omega (arith, less, e));
  kind = λ q small e. absurd (omega (arith, less, e));
  dies = λ q small e. absurd (omega (arith, less, e));
  version = λ q small e. absurd (omega (arith, less, e));
  opens = λ q small e. absurd (omega (arith, less, e));
  closes = λ q key small e. absurd (omega (arith, less, e));
  shuts = λ q key small e. absurd (omega (arith, less, e));
}

-- ---- a new entry, put word by word

module _ (n m : ℕ) (ws : List ℕ) (p slot : ℕ) (low : p < m) (in_index : slot < n) (long : n + 8 * m ≤ length ws) (even : entry_field n ws p 0 % 2 ≡ 0) (none : entry_field n ws p 2 ≡ 0) (free : index_field ws slot ≡ 0) where
  abbrev ver : ℕ
  ver = entry_field n ws p 0

  -- how far the puts have come, before the kind
  pub record Stage (l : List ℕ) : Type 0 where
    pub ver_is : entry_field n l p 0 ≡ ver + 1
    pub none_yet : entry_field n l p 2 ≡ 0
    pub still_free : index_field l slot ≡ 0
    pub size : n + 8 * m ≤ length l
    pub rest : (q w : ℕ) → q ≢ p → w < 8 → entry_field n l q w ≡ entry_field n ws q w

  pub stage_next : (l : List ℕ) → Stage l → (w x : ℕ) → w < 8 → w ≢ 0 → w ≢ 2 → Stage (slice_set l (entry_offset n p w) x)
  stage_next l s w x few n0 n2 = record {
    ver_is = get_or-set_other l (entry_offset n p w) (entry_offset n p 0) x 0 (λ e. n0 (omega (arith, e))) ∙ s.ver_is;
    none_yet = get_or-set_other l (entry_offset n p w) (entry_offset n p 2) x 0 (λ e. n2 (omega (arith, e))) ∙ s.none_yet;
    still_free = get_or-set_other l (entry_offset n p w) slot x 0 (λ e. absurd (omega (arith, e, in_index))) ∙ s.still_free;
    size = let a = length-set l (entry_offset n p w) x in let b = s.size in omega (arith, a, b);
    rest = λ q u ne small. get_or-set_other l (entry_offset n p w) (entry_offset n q u) x 0 (λ e. ne (omega (arith, e, few, small))) ∙ s.rest q u ne small;
  }

  -- the version is made odd
  pub stage_first : Stage (slice_set ws (entry_offset n p 0) (ver + 1))
  stage_first = record {
    ver_is = get_or-set_same ws (entry_offset n p 0) (ver + 1) 0 (omega (arith, low, long));
    none_yet = get_or-set_other ws (entry_offset n p 0) (entry_offset n p 2) (ver + 1) 0 (λ e. absurd (omega (arith, e))) ∙ none;
    still_free = get_or-set_other ws (entry_offset n p 0) slot (ver + 1) 0 (λ e. absurd (omega (arith, e, in_index))) ∙ free;
    size = let a = length-set ws (entry_offset n p 0) (ver + 1) in omega (arith, a, long);
    rest = λ q u ne small. get_or-set_other ws (entry_offset n p 0) (entry_offset n q u) (ver + 1) 0 (λ e. ne (omega (arith, e, small)));
  }

  pub stage_odd : (l : List ℕ) → Stage l → entry_field n l p 0 % 2 ≡ 1
  stage_odd l s = let v = s.ver_is in omega (arith, v, even)

  -- each put
  pub new_open : (c : Pairs) → Careful n m ws c (entry_offset n p 0) (ver + 1)
  new_open c = entry_open n m ws c p even (omega (arith, none))

  pub new_key : (c : Pairs) (l : List ℕ) → Stage l → (w x : ℕ) → (w ≡ 1) ⊎ (w ≡ 3) → Careful n m l c (entry_offset n p w) x
  new_key c l s w x which = entry_key n m l c p w x which (stage_odd l s) s.none_yet

  pub new_value : (c : Pairs) (l : List ℕ) → Stage l → (w x : ℕ) → 4 ≤ w → w < 8 → Careful n m l c (entry_offset n p w) x
  new_value c l s w x high few = entry_value n m l c p w x high few (stage_odd l s)

  -- the last two puts: the kind, and the index word that names the entry
  module _ (key : Key) (l : List ℕ) (s : Stage l) where
    abbrev l7 : List ℕ
    l7 = slice_set l (entry_offset n p 2) (key_kind key)

    abbrev pub l8 : List ℕ
    l8 = slice_set l7 slot (p + 1)

    ver7 : entry_field n l7 p 0 ≡ ver + 1
    ver7 = get_or-set_other l (entry_offset n p 2) (entry_offset n p 0) (key_kind key) 0 (λ e. absurd (omega (arith, e))) ∙ s.ver_is

    kind7 : entry_field n l7 p 2 ≡ key_kind key
    kind7 = let long = s.size in get_or-set_same l (entry_offset n p 2) (key_kind key) 0 (omega (arith, low, long))

    free7 : index_field l7 slot ≡ 0
    free7 = get_or-set_other l (entry_offset n p 2) slot (key_kind key) 0 (λ e. absurd (omega (arith, e, in_index))) ∙ s.still_free

    -- the last puts an index word, which is none of an entry
    entry8 : (q w : ℕ) → entry_field n l8 q w ≡ entry_field n l7 q w
    entry8 q w = get_or-set_other l7 slot (entry_offset n q w) (p + 1) 0 (λ e. absurd (omega (arith, e, in_index)))

    ver8 : entry_field n l8 p 0 ≡ ver + 1
    ver8 = entry8 p 0 ∙ ver7

    rest8 : (q w : ℕ) → q ≢ p → w < 8 → entry_field n l8 q w ≡ entry_field n ws q w
    rest8 q w ne few = entry8 q w ∙ (get_or-set_other l (entry_offset n p 2) (entry_offset n q w) (key_kind key) 0 (λ e. ne (omega (arith, e, few))) ∙ s.rest q w ne few)

    long8 : n + 8 * m ≤ length l8
    long8 = let a = length-set l7 slot (p + 1) in let b = length-set l (entry_offset n p 2) (key_kind key) in let long = s.size in omega (arith, a, b, long)

    pub new_kind : (c : Pairs) → Careful n m l c (entry_offset n p 2) (key_kind key)
    new_kind c = let r = (kind_range key).0 in entry_kind n m l c p (key_kind key) (λ e. absurd (omega (arith, e, r))) (stage_odd l s) s.none_yet

    pub new_index : (c : Pairs) → Careful n m l7 c slot (p + 1)
    new_index c = let r = (kind_range key).0 in let k = kind7 in index_put n m l7 c slot p in_index free7 (λ e. absurd (omega (arith, e, r, k)))

    -- entries with an even version are as they were
    pub new_same : (q w : ℕ) → q < m → entry_field n l8 q 0 % 2 ≡ 0 → w < 8 → entry_field n l8 q w ≡ entry_field n ws q w
    new_same q w less two few =
        dite (ℕ_discrete q p)
        (λ (e : q ≡ p). let v : entry_field n l8 q 0 ≡ ver + 1 = ap (λ (z : ℕ). entry_field n l8 z 0) e ∙ ver8 in absurd (omega (arith, v, two, even)))
        (λ ne. rest8 q w ne few)

    -- the version is made even once the content has what the entry says
    pub new_late : (d : Pairs) → ((k : Key) → HasLiveKey n l8 p k → d k ≡ said_of n l8 p) → Careful n m l8 d (entry_offset n p 0) (ver + 2)
    new_late d right =
        let v = ver8 in
        entry_close n m l8 d p (ver + 2) (omega (arith, v)) (omega (arith, even)) right
        (λ k dead. let g = gone_is k in let b = (kind_range k).0 in let h = (kind_range key).1 in let x = entry8 p 2 in let y = kind7 in let e = dead.0 in absurd (omega (arith, g, b, h, x, y, e)))

    new_live : entry_field n l p 3 ≡ key_payload key → HasLiveKey n l8 p key
    new_live pay = (entry8 p 2 ∙ kind7, entry8 p 3 ∙ (get_or-set_other l (entry_offset n p 2) (entry_offset n p 3) (key_kind key) 0 (λ e. absurd (omega (arith, e))) ∙ pay))

    -- the entry is of the key, under which nothing was
    pub new_opens : (c d : Pairs) → entry_field n l p 3 ≡ key_payload key → Shut (λ q. entry_offset n q 0) m ws → c key ≡ [] → ((k : Key) → HasLiveKey n l8 p k → d k ≡ said_of n l8 p) → OpensChanged n m l8 c d
    new_opens c d pay shut none right =
        only_opens n m l8 c d p key
        (λ q less ne. let v = rest8 q 0 ne (omega arith) in let two = shut q less in omega (arith, v, two))
        (inl (new_live pay))
        (λ same. let x : said_of n l8 p ≡ [] = sym (right key (new_live pay)) ∙ (same ∙ none) in absurd (cc))

    pub new_shut : Shut (λ q. entry_offset n q 0) m ws → Shut (λ q. entry_offset n q 0) m (slice_set l8 (entry_offset n p 0) (ver + 2))
    new_shut shut q less =
        let long = long8 in
        dite (ℕ_discrete q p)
        (λ (e : q ≡ p). let v : entry_field n (slice_set l8 (entry_offset n p 0) (ver + 2)) q 0 ≡ ver + 2 = ap (λ (z : ℕ). entry_field n (slice_set l8 (entry_offset n p 0) (ver + 2)) z 0) e ∙ get_or-set_same l8 (entry_offset n p 0) (ver + 2) 0 (omega (arith, low, long)) in omega (arith, v, even))
        (λ ne.
        let v : entry_field n (slice_set l8 (entry_offset n p 0) (ver + 2)) q 0 ≡ entry_field n ws q 0 = get_or-set_other l8 (entry_offset n p 0) (entry_offset n q 0) (ver + 2) 0 (λ e. ne (omega (arith, e))) ∙ rest8 q 0 ne (omega arith) in
        let old = shut q less in
        omega (arith, v, old))
