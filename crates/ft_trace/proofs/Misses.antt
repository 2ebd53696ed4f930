-- The look-up of a key that is not found: it is absent at the counter that was loaded, whatever was written meanwhile under other keys.
use Rattle.std.proofs.Common.{◌≡◌, ◌≢◌, ◌⊎◌, ℕ, suc, ◌+◌, ◌%◌, ◌<◌, ◌≤◌, true, List, [], ◌∷◌, ◌++◌, refl, sym, ap, ◌∙◌, subst, ⊎_elim, arith, le_refl}
use Rattle.std.specs.Prelude.{slice_index}
use Rattle.std.proofs.Math.Decide.{dec_lt}
use mathlib.Core.Option.{some}
use mathlib.Core.Logic.{dite}
use native.Mathlib.Decide.{ℕ_discrete}
use lib.ListN.{get_elem?}
use Rattle.ft_model.specs.declared.call.Call.{Call}
use Rattle.ft_model.specs.declared.data.Key.{Key}
use Rattle.ft_layout.specs.Words.{FitsKey, key_kind, gone_kind, key_payload}
use Rattle.ft_trace.specs.declared.Shape.{Shape}
use Rattle.ft_trace.specs.declared.View.{View}
use Rattle.ft_trace.specs.declared.Act.{Act}
use Rattle.ft_trace.specs.declared.Act.TheVariants.{ReadTable, ReadCounter}
use Rattle.ft_trace.specs.Addresses.{container_count, IsTableName, class_of, slots}
use Rattle.ft_trace.specs.Acts.{reads}
use Rattle.ft_trace.specs.Ages.{whose}
use Rattle.ft_trace.specs.ContainerStates.{container_after, first_writes, kind_in}
use Rattle.ft_trace.specs.Pictures.{index_field, entry_offset, entry_field, walk_of}
use Rattle.ft_trace.specs.Carefuls.{HasLiveKey, IsDead, Reached, Later}
use Rattle.ft_trace.specs.Kinds.{rows, under, IsKeyed}
use Rattle.ft_trace.specs.LoggedLookUps.{OtherKind, OtherPayload, Dead, Beyond, Passed, Visit, Miss, Full}
use Rattle.ft_trace.specs.Traces.{Event, run, history, Valid}
use Rattle.ft_trace.proofs.Contents.{count, tab}
use Rattle.ft_trace.proofs.Carefuls.{kind_is, later_used, later_dead, none_or}
use Rattle.ft_trace.proofs.ByKind.{keyed_low, keyed_later}
use Rattle.ft_trace.proofs.Sounds.{LaterIn, sound_named, sound_reached}
use Rattle.ft_trace.proofs.Spots.{Under, under_trans, stamp_then, Spot, Back, go, Opened, open_window, named_by, found}

-- an entry that was passed on the walk is not one that the key's walk meets
module _ (k : Shape) (o : ℕ) (key : Key) (t j : ℕ) (low : o < container_count k) (keyed : IsKeyed (kind_in k.starts o)) (table : IsTableName k t) (start walk : List Act) (read : reads t start ≡ true) (s : Spot k t j start walk) (whom : whose s.es t ≡ o) (slot place p : ℕ) (in_table : slot < slots (class_of t)) (low_place : place < rows (kind_in k.starts o) (class_of t)) (low_p : p < rows (kind_in k.starts o) (class_of t))
    (here : index_field (tab k s.es t) slot ≡ suc p) (mine : HasLiveKey (slots (class_of t)) (tab k s.es t) p key ⊎ IsDead (slots (class_of t)) (tab k s.es t) p key) (alive : (entry_field (slots (class_of t)) (tab k s.es t) p 2 ≡ key_kind key) ⊎ (entry_field (slots (class_of t)) (tab k s.es t) p 0 % 2 ≡ 1)) where
  abbrev N : ℕ
  N = slots (class_of t)

  abbrev M : ℕ
  M = rows (kind_in k.starts o) (class_of t)

  back : (walk : List Act) (s : Spot k t j start walk) (xs : List Act) (a : Act) (rest : List Act) → walk ≡ xs ++ a ∷ rest → Back k t j start s.es a rest
  back walk s xs a rest is = go k t j start walk table read s xs a rest is

  later_from : (from : List Event) (a : Act) (rest : List Act) → whose from t ≡ o → (b : Back k t j start from a rest) → Later N M (tab k b.spot.es t) (tab k from t)
  later_from from a rest whom b = keyed_later (kind_in k.starts o) keyed (class_of t) (tab k b.spot.es t) (tab k from t) (subst (λ (z : ℕ). LaterIn k z t (tab k b.spot.es t) (tab k from t)) whom b.later)

  pub beyond_table : Beyond walk t (rows (kind_in k.starts o) (class_of t)) slot → ⊥
  beyond_table h =
      let ia : Act = ReadTable t slot (suc h.place) in
      let iw = back walk s h.newer ia h.rest h.is in
      let index_read : suc h.place ≡ index_field (tab k iw.spot.es t) slot = found k t j slot (suc h.place) start h.rest s.es (omega arith) iw in
      let x = (later_from s.es ia h.rest whom iw).index slot in_table (λ none. absurd (omega (arith, none, index_read))) in
      let high = h.high in
      absurd (omega (arith, x, index_read, here, high, low_p))

  -- a word of the entry that was read after the slot, and its kind then
  module _ (newer mid rest : List Act) (w f : ℕ) (small : w < 8) (is : walk ≡ newer ++ ReadTable t (entry_offset N place w) f ∷ (mid ++ ReadTable t slot (suc place) ∷ rest)) where
    abbrev ka : Act
    ka = ReadTable t (entry_offset N place w) f

    abbrev ia : Act
    ia = ReadTable t slot (suc place)

    abbrev kw : Back k t j start s.es ka (mid ++ ia ∷ rest)
    kw = back walk s newer ka (mid ++ ia ∷ rest) is

    abbrev iw : Back k t j start kw.spot.es ia rest
    iw = back (mid ++ ia ∷ rest) kw.spot mid ia rest refl

    word_read : f ≡ entry_field N (tab k kw.spot.es t) place w
    word_read = found k t j (entry_offset N place w) f start (mid ++ ia ∷ rest) s.es (keyed_low (kind_in k.starts o) keyed (class_of t) place w low_place small) kw

    index_read : suc place ≡ index_field (tab k iw.spot.es t) slot
    index_read = found k t j slot (suc place) start rest kw.spot.es (omega arith) iw

    k_later : Later N M (tab k kw.spot.es t) (tab k s.es t)
    k_later = later_from s.es ka (mid ++ ia ∷ rest) whom kw

    i_later : Later N M (tab k iw.spot.es t) (tab k kw.spot.es t)
    i_later = later_from kw.spot.es ia rest (kw.whom ∙ whom) iw

    used : entry_field N (tab k kw.spot.es t) place 2 ≢ 0
    used =
        let names = named_by k iw.spot.es iw.spot.valid o t table iw.spot.now (iw.whom ∙ (kw.whom ∙ whom)) in
        later_used N M (tab k iw.spot.es t) (tab k kw.spot.es t) i_later place low_place (sound_named k iw.spot.es iw.spot.valid o low keyed t names slot place in_table low_place (sym index_read))

    same : place ≡ p
    same =
        let x = i_later.index slot in_table (λ none. absurd (omega (arith, none, index_read))) in
        let y : index_field (tab k kw.spot.es t) slot ≡ suc place = x ∙ sym index_read in
        let z = k_later.index slot in_table (λ none. absurd (omega (arith, none, y))) in
        omega (arith, y, z, here)

  other_kind : OtherKind walk t slot place key → ⊥
  other_kind h =
      let u = used h.newer h.mid h.rest 2 h.found (omega arith) h.is in
      let f = word_read h.newer h.mid h.rest 2 h.found (omega arith) h.is in
      let e = same h.newer h.mid h.rest 2 h.found (omega arith) h.is in
      let l = (k_later h.newer h.mid h.rest 2 h.found (omega arith) h.is).kind place low_place u in
      let there : entry_field N (tab k s.es t) place 2 ≡ entry_field N (tab k s.es t) p 2 = ap (λ (z : ℕ). entry_field N (tab k s.es t) z 2) e in
      let ks = kind_is key in
      let k0 = ks.0 in
      let k1 = ks.1 in
      let k2 = ks.2 in
      let live = h.live in
      let dead = h.dead in
      let kind_then = entry_field N (tab k (kw h.newer h.mid h.rest 2 h.found (omega arith) h.is).spot.es t) place 2 in
      ⊎_elim
      (λ (x : entry_field N (tab k s.es t) place 2 ≡ kind_then).
      ⊎_elim (λ (m : HasLiveKey N (tab k s.es t) p key). live (f ∙ (sym x ∙ (there ∙ m.0)))) (λ (m : IsDead N (tab k s.es t) p key). dead (f ∙ (sym x ∙ (there ∙ m.0)))) mine)
      (λ (x : (kind_then < 3) × (entry_field N (tab k s.es t) place 2 ≡ kind_then + 2)).
      let x0 = x.0 in
      let x1 = x.1 in
      ⊎_elim (λ (m : HasLiveKey N (tab k s.es t) p key). let m0 = m.0 in absurd (omega (arith, x1, there, m0, k1, u)))
      (λ (m : IsDead N (tab k s.es t) p key). let m0 = m.0 in let z : kind_then ≡ key_kind key = omega (arith, x1, there, m0, k2) in live (f ∙ z)) mine)
      l

  other_payload : OtherPayload walk t slot place key → ⊥
  other_payload h =
      let u = used h.newer h.mid h.rest 3 h.found (omega arith) h.is in
      let f = word_read h.newer h.mid h.rest 3 h.found (omega arith) h.is in
      let e = same h.newer h.mid h.rest 3 h.found (omega arith) h.is in
      let l = (k_later h.newer h.mid h.rest 3 h.found (omega arith) h.is).key place low_place u in
      let there : entry_field N (tab k s.es t) place 3 ≡ entry_field N (tab k s.es t) p 3 = ap (λ (z : ℕ). entry_field N (tab k s.es t) z 3) e in
      let payload : entry_field N (tab k s.es t) p 3 ≡ key_payload key = ⊎_elim (λ (m : HasLiveKey N (tab k s.es t) p key). m.1) (λ (m : IsDead N (tab k s.es t) p key). m.1) mine in
      h.apart (f ∙ (sym l ∙ (there ∙ payload)))

  dead_entry : Dead walk t slot place key → ⊥
  dead_entry h =
      let va : Act = ReadTable t (entry_offset N place 0) h.version in
      let da : Act = ReadTable t (entry_offset N place 2) (gone_kind key) in
      let ia : Act = ReadTable t slot (suc place) in
      let vw = back walk s h.newer va (h.mid ++ da ∷ h.rest) h.is in
      let dw = back (h.mid ++ da ∷ h.rest) vw.spot h.mid da h.rest refl in
      let iw = back walk s h.before ia h.older h.named in
      let v_later = later_from s.es va (h.mid ++ da ∷ h.rest) whom vw in
      let d_later = later_from vw.spot.es da h.rest (vw.whom ∙ whom) dw in
      let i_later = later_from s.es ia h.older whom iw in
      let index_read : suc place ≡ index_field (tab k iw.spot.es t) slot = found k t j slot (suc place) start h.older s.es (omega arith) iw in
      let same : place ≡ p = (let x = i_later.index slot in_table (λ none. absurd (omega (arith, none, index_read))) in omega (arith, x, index_read, here)) in
      let dead : gone_kind key ≡ entry_field N (tab k dw.spot.es t) place 2 = found k t j (entry_offset N place 2) (gone_kind key) start h.rest vw.spot.es (keyed_low (kind_in k.starts o) keyed (class_of t) place 2 low_place (omega arith)) dw in
      let version : h.version ≡ entry_field N (tab k vw.spot.es t) place 0 = found k t j (entry_offset N place 0) h.version start (h.mid ++ da ∷ h.rest) s.es (keyed_low (kind_in k.starts o) keyed (class_of t) place 0 low_place (omega arith)) vw in
      let ks = kind_is key in
      let k0 = ks.0 in
      let k1 = ks.1 in
      let k2 = ks.2 in
      let high0 : 3 ≤ entry_field N (tab k dw.spot.es t) place 2 = omega (arith, dead, k0, k2) in
      let then_dead = later_dead N M (tab k dw.spot.es t) (tab k vw.spot.es t) d_later place low_place high0 in
      let high1 : 3 ≤ entry_field N (tab k vw.spot.es t) place 2 = omega (arith, then_dead, high0) in
      let even : entry_field N (tab k vw.spot.es t) place 0 % 2 ≡ 0 = ap (λ (z : ℕ). z % 2) (sym version) ∙ h.even in
      let now_dead : entry_field N (tab k s.es t) place 2 ≡ entry_field N (tab k vw.spot.es t) place 2 = later_dead N M (tab k vw.spot.es t) (tab k s.es t) v_later place low_place high1 in
      let now_even : entry_field N (tab k s.es t) place 0 % 2 ≡ 0 = ap (λ (z : ℕ). z % 2) (v_later.gone place low_place high1 even) ∙ even in
      let kind_p : entry_field N (tab k s.es t) place 2 ≡ entry_field N (tab k s.es t) p 2 = ap (λ (z : ℕ). entry_field N (tab k s.es t) z 2) same in
      let version_p : entry_field N (tab k s.es t) place 0 ≡ entry_field N (tab k s.es t) p 0 = ap (λ (z : ℕ). entry_field N (tab k s.es t) z 0) same in
      ⊎_elim (λ (live : entry_field N (tab k s.es t) p 2 ≡ key_kind key). absurd (omega (arith, live, kind_p, now_dead, high1, k1))) (λ (odd : entry_field N (tab k s.es t) p 0 % 2 ≡ 1). absurd (omega (arith, odd, version_p, now_even))) alive

-- a slot that was passed is not one that the key's walk meets
pub passed_by : (k : Shape) (o : ℕ) (key : Key) (t j : ℕ) (low : o < container_count k) (keyed : IsKeyed (kind_in k.starts o)) (table : IsTableName k t) (start walk : List Act) (read : reads t start ≡ true) (s : Spot k t j start walk) (whom : whose s.es t ≡ o) (slot : ℕ) (in_table : slot < slots (class_of t)) (probe : List ℕ)
    (r : Reached (slots (class_of t)) (rows (kind_in k.starts o) (class_of t)) (tab k s.es t) probe key) → index_field (tab k s.es t) slot ≡ suc r.place → Passed walk t (rows (kind_in k.starts o) (class_of t)) slot key → ⊥
passed_by k o key t j low keyed table start walk read s whom slot in_table probe r here =
    ⊎_elim
    (λ (v : Visit walk t (rows (kind_in k.starts o) (class_of t)) slot key).
    ⊎_elim
    (other_kind k o key t j low keyed table start walk read s whom slot v.place r.place in_table v.low r.low here r.mine r.alive)
    (λ rest. ⊎_elim
    (other_payload k o key t j low keyed table start walk read s whom slot v.place r.place in_table v.low r.low here r.mine r.alive)
    (dead_entry k o key t j low keyed table start walk read s whom slot v.place r.place in_table v.low r.low here r.mine r.alive) rest)
    v.how)
    (λ (b : Beyond walk t (rows (kind_in k.starts o) (class_of t)) slot). beyond_table k o key t j low keyed table start walk read s whom slot r.place r.place in_table r.low r.low here r.mine r.alive b)

-- from a moment at which no entry of the key is met
absent_at : (k : Shape) (es : List Event) (valid : Valid k es) (o t : ℕ) (key : Key) (n : ℕ) (fits : FitsKey key) (low : o < container_count k) (keyed : IsKeyed (kind_in k.starts o)) (table : IsTableName k t) (j : ℕ) (start rest : List Act) (s : Spot k t j start rest) → Under s.es es → whose s.es t ≡ o → n ≡ count k s.es
    → (Reached (slots (class_of t)) (rows (kind_in k.starts o) (class_of t)) (tab k s.es t) (walk_of (kind_in k.starts o) k.texts (class_of t) key) key → ⊥) → (n ≤ count k es) × (under (container_after k.starts (first_writes n (history es)) o).content key ≡ [])
absent_at k es valid o t key n fits low keyed table j start rest s below whom is never =
    let names = named_by k s.es s.valid o t table s.now whom in
    let none : under (container_after k.starts (history s.es) o).content key ≡ [] = ⊎_elim (λ e. e) (λ there. absurd (never (sound_reached k s.es s.valid o low keyed t names key fits there))) (none_or (under (container_after k.starts (history s.es) o).content key)) in
    let c = stamp_then k s.es es s.valid valid below n is in
    (c.0, ap (λ (cs : List Call). under (container_after k.starts cs o).content key) c.1 ∙ none)

module _ (k : Shape) (es : List Event) (valid : Valid k es) (o t : ℕ) (key : Key) (n : ℕ) (fits : FitsKey key) (low : o < container_count k) (keyed : IsKeyed (kind_in k.starts o)) (j : ℕ) (u : View) (at : get_elem? (run k es).views j ≡ some u) (h : Miss u.log o t (rows (kind_in k.starts o) (class_of t)) (walk_of (kind_in k.starts o) k.texts (class_of t) key) key n) where
  abbrev probe : List ℕ
  probe = walk_of (kind_in k.starts o) k.texts (class_of t) key

  abbrev last : Act
  last = ReadTable t (slice_index probe h.steps) 0

  abbrev start : List Act
  start = h.window.rest

  abbrev open_ : Opened k es o t j start h.walk
  open_ = open_window k es valid j u at o t low h.walk h.window

  abbrev top : Back k t j start open_.spot.es last (h.mid ++ ReadCounter n ∷ h.rest)
  top = go k t j start h.walk open_.table h.window.before open_.spot h.newer last (h.mid ++ ReadCounter n ∷ h.rest) h.is

  abbrev loaded : Back k t j start top.spot.es (ReadCounter n) h.rest
  loaded = go k t j start (h.mid ++ ReadCounter n ∷ h.rest) open_.table h.window.before top.spot h.mid (ReadCounter n) h.rest refl

  abbrev then_ : List Event
  then_ = loaded.spot.es

  whom_then : whose then_ t ≡ o
  whom_then = loaded.whom ∙ (top.whom ∙ open_.whom)

  still_free : slice_index probe h.steps < slots (class_of t) → index_field (tab k then_ t) (slice_index probe h.steps) ≡ 0
  still_free less =
      let free : 0 ≡ index_field (tab k top.spot.es t) (slice_index probe h.steps) = found k t j (slice_index probe h.steps) 0 start (h.mid ++ ReadCounter n ∷ h.rest) open_.spot.es (omega arith) top in
      let l = keyed_later (kind_in k.starts o) keyed (class_of t) (tab k then_ t) (tab k top.spot.es t) (subst (λ (z : ℕ). LaterIn k z t (tab k then_ t) (tab k top.spot.es t)) (top.whom ∙ open_.whom) loaded.later) in
      dite (ℕ_discrete (index_field (tab k then_ t) (slice_index probe h.steps)) 0) (λ e. e)
      (λ used. absurd (used (sym (l.index (slice_index probe h.steps) less used) ∙ sym free)))

  never : Reached (slots (class_of t)) (rows (kind_in k.starts o) (class_of t)) (tab k then_ t) probe key → ⊥
  never r =
      let m = r.met in
      dite (ℕ_discrete m.step h.steps)
      (λ (e : m.step ≡ h.steps).
      let f = still_free (m.inside h.steps (omega arith)) in
      let x : index_field (tab k then_ t) (slice_index probe m.step) ≡ 0 = ap (λ (z : ℕ). index_field (tab k then_ t) (slice_index probe z)) e ∙ f in
      let y = m.here in
      absurd (omega (arith, x, y)))
      (λ ne.
      dite (dec_lt m.step h.steps)
      (λ less. passed_by k o key t j low keyed open_.table start h.rest h.window.before loaded.spot whom_then (slice_index probe m.step) (m.inside m.step (le_refl m.step)) probe r m.here (h.visits m.step less))
      (λ no. m.before h.steps (omega arith) (still_free (m.inside h.steps (omega arith)))))

  -- the miss
  pub miss_at : (n ≤ count k es) × (under (container_after k.starts (first_writes n (history es)) o).content key ≡ [])
  miss_at = absent_at k es valid o t key n fits low keyed open_.table j start h.rest loaded.spot (under_trans then_ top.spot.es es loaded.under (under_trans top.spot.es open_.spot.es es top.under open_.under)) whom_then loaded.tells never

module _ (k : Shape) (es : List Event) (valid : Valid k es) (o t : ℕ) (key : Key) (n : ℕ) (fits : FitsKey key) (low : o < container_count k) (keyed : IsKeyed (kind_in k.starts o)) (j : ℕ) (u : View) (at : get_elem? (run k es).views j ≡ some u) (h : Full u.log o t (rows (kind_in k.starts o) (class_of t)) (walk_of (kind_in k.starts o) k.texts (class_of t) key) key n) where
  abbrev begin : List Act
  begin = h.window.rest

  abbrev opened_at : Opened k es o t j begin h.walk
  opened_at = open_window k es valid j u at o t low h.walk h.window

  abbrev counted_at : Back k t j begin opened_at.spot.es (ReadCounter n) h.rest
  counted_at = go k t j begin h.walk opened_at.table h.window.before opened_at.spot h.mid (ReadCounter n) h.rest h.is

  -- the miss where every slot was used
  pub full_at : (n ≤ count k es) × (under (container_after k.starts (first_writes n (history es)) o).content key ≡ [])
  full_at =
      absent_at k es valid o t key n fits low keyed opened_at.table j begin h.rest counted_at.spot (under_trans counted_at.spot.es opened_at.spot.es es counted_at.under opened_at.under) (counted_at.whom ∙ opened_at.whom) counted_at.tells
      (λ r.
      let m = r.met in
      passed_by k o key t j low keyed opened_at.table begin h.rest h.window.before counted_at.spot (counted_at.whom ∙ opened_at.whom) (slice_index (walk_of (kind_in k.starts o) k.texts (class_of t) key) m.step) (m.inside m.step (le_refl m.step)) (walk_of (kind_in k.starts o) k.texts (class_of t) key) r m.here (h.visits m.step m.low))
