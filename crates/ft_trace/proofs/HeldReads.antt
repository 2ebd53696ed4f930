-- What was read in a box after the look-up, under a reference that was held since before the counter was loaded, is what the box had then.
use Rattle.std.proofs.Common.{◌≡◌, ◌≢◌, ◌⊎◌, ℕ, suc, ◌-◌, ◌<◌, ◌≤◌, List, [], ◌∷◌, ◌++◌, refl, sym, ap, ◌∙◌, subst, ⊎_elim, arith, append_assoc}
use Rattle.std.specs.Prelude.{slice_index}
use mathlib.Core.Option.{some}
use lib.ListN.{get_elem?}
use Rattle.ft_model.specs.declared.call.Call.{Call}
use Rattle.ft_model.specs.Worlds.{list_of}
use Rattle.ft_trace.specs.declared.Shape.{Shape}
use Rattle.ft_trace.specs.declared.View.{View}
use Rattle.ft_trace.specs.declared.Act.{Act}
use Rattle.ft_trace.specs.declared.Act.TheVariants.{ReadRoot, ReadTable, ReadCounter, ReadBox}
use Rattle.ft_trace.specs.Addresses.{container_count, box_word, class_of, slots}
use Rattle.ft_trace.specs.ContainerStates.{container_after, first_writes}
use Rattle.ft_trace.specs.Pictures.{entry_offset, entry_field, item_offset, item_field}
use Rattle.ft_trace.specs.ItemWords.{words_at}
use Rattle.ft_trace.specs.Kinds.{under}
use Rattle.ft_trace.specs.Boxes.{references_held}
use Rattle.ft_trace.specs.BoxTraces.{references_held_by, references}
use Rattle.ft_trace.specs.LoggedReads.{Among}
use Rattle.ft_trace.specs.LoggedLookUps.{LookUpWindow, Hit, ItemHit}
use Rattle.ft_trace.specs.HeldBoxes.{HeldSince}
use Rattle.ft_trace.specs.HeldReads.{IsReadHeld, HeldHitsAreRight, HeldItemsAreRight}
use Rattle.ft_trace.specs.Traces.{Event, did, forked, joined, sent, run, word, history, Valid}
use Rattle.ft_trace.proofs.Cases.{here}
use Rattle.ft_trace.proofs.Contents.{count, counted, tab}
use Rattle.ft_trace.proofs.Stamps.{stays}
use Rattle.ft_trace.proofs.Sums.{total_at}
use Rattle.ft_trace.proofs.BoxValues.{value_stays}
use Rattle.ft_trace.proofs.EarlierMoments.{Was, was}
use Rattle.ft_trace.proofs.Spots.{Back, go, go_kept, Opened, open_window, window_kept}
use Rattle.ft_trace.proofs.Hits as hits
use Rattle.ft_trace.proofs.ItemHits as items

-- ---- held at a moment between

-- the log at that moment has some of the actions since
pub held_at : (k : Shape) (b : ℕ) (zs ys rest : List Act) → HeldSince k b (zs ++ ys) rest → references_held k b (ys ++ rest) ≢ 0
held_at k b [] [] rest h = h
held_at k b [] (a ∷ ys) rest h = h.0
held_at k b (z ∷ zs) ys rest h = held_at k b zs ys rest h.1

held_by : (k : Shape) (b : ℕ) (all zs ys rest log : List Act) → HeldSince k b all rest → all ≡ zs ++ ys → log ≡ ys ++ rest → references_held k b log ≢ 0
held_by k b all zs ys rest log h split is z = held_at k b zs ys rest (subst (λ (l : List Act). HeldSince k b l rest) split h) (ap (references_held k b) (sym is) ∙ z)

-- an event before which a pass holds a reference leaves the value
box_step : (k : Shape) (b i : ℕ) → (i ≡ 1) ⊎ (i ≡ 2) → (j : ℕ) (e : Event) (now : List Event) → Valid k (e ∷ now) → (u : View) → get_elem? (run k now).views j ≡ some u → references_held k b u.log ≢ 0 → word k (e ∷ now) (box_word b i) ≡ word k now (box_word b i)
box_step k b i which j (did id v a) now valid u there held_it =
    let some_ : references k b now ≢ 0 = λ z. (let t = total_at (references_held_by k b) (run k now).views j u there in held_it (omega (arith, t, z))) in
    value_stays k now id v b i valid.0 valid.1.0 some_
    (⊎_elim (λ (e : i ≡ 1). omega (arith, e)) (λ (e : i ≡ 2). omega (arith, e)) which)
    (λ z. ⊎_elim (λ (e : i ≡ 1). omega (arith, e, z)) (λ (e : i ≡ 2). omega (arith, e, z)) which)
    (λ z. ⊎_elim (λ (e : i ≡ 1). omega (arith, e, z)) (λ (e : i ≡ 2). omega (arith, e, z)) which)
    a valid.1.3
box_step k b i which j (forked id v) now valid u there held_it = refl
box_step k b i which j (sent id v given) now valid u there held_it = refl
box_step k b i which j (joined id v other w) now valid u there held_it = refl

-- ---- lists

app : (xs ys zs : List Act) → (xs ++ ys) ++ zs ≡ xs ++ (ys ++ zs)
app xs ys zs = append_assoc xs ys zs

-- a walk in its parts
walk_is : (newer mid rest before upper lower : List Act) (load stamp : Act) → mid ≡ upper ++ stamp ∷ lower → (mid ++ load ∷ rest) ++ before ≡ (upper ++ stamp ∷ []) ++ ((lower ++ load ∷ rest) ++ before)
walk_is newer mid rest before upper lower load stamp is =
    ap (λ (l : List Act). (l ++ load ∷ rest) ++ before) is
    ∙ (ap (λ (l : List Act). l ++ before) (app upper (stamp ∷ lower) (load ∷ rest))
    ∙ (app upper (stamp ∷ (lower ++ load ∷ rest)) before
    ∙ sym (app upper (stamp ∷ []) ((lower ++ load ∷ rest) ++ before))))

-- ---- from the load of the counter to the read in the box

module _ (k : Shape) (es : List Event) (valid : Valid k es) (j : ℕ) (u : View) (at : get_elem? (run k es).views j ≡ some u) (o t : ℕ) (low : o < container_count k) (walk : List Act) (window : LookUpWindow u.log o t walk) (newer mid rest : List Act) (load : Act) (is : walk ≡ newer ++ load ∷ (mid ++ load ∷ rest)) (n : ℕ) (stamp : Among (ReadCounter n) mid)
    (b i f : ℕ) (which : (i ≡ 1) ⊎ (i ≡ 2)) (read : IsReadHeld k u.log o t walk window newer load mid rest n stamp b i f) where
  abbrev root_read : Act
  root_read = ReadRoot o (suc t)

  abbrev counted_read : Act
  counted_read = ReadCounter n

  abbrev before : List Act
  before = (stamp.rest ++ load ∷ rest) ++ window.rest

  abbrev one : List Act
  one = read.after ++ root_read ∷ []

  abbrev two : List Act
  two = newer ++ load ∷ []

  abbrev three : List Act
  three = stamp.newer ++ counted_read ∷ []

  log_is : u.log ≡ read.later ++ ReadBox b i f ∷ (read.after ++ root_read ∷ (walk ++ window.rest))
  log_is =
      window.is
      ∙ (ap (λ (l : List Act). l ++ root_read ∷ (walk ++ window.rest)) read.is
      ∙ app read.later (ReadBox b i f ∷ read.after) (root_read ∷ (walk ++ window.rest)))

  -- the moment of the read
  abbrev Then : Was k es j read.later (ReadBox b i f) (read.after ++ root_read ∷ (walk ++ window.rest))
  Then = was k es valid j u at read.later (ReadBox b i f) (read.after ++ root_read ∷ (walk ++ window.rest)) log_is

  -- the look-up, as the log shows it then
  abbrev window_then : LookUpWindow Then.view.log o t walk
  window_then = record { newer = read.after; rest = window.rest; is = Then.log; online = window.online; before = window.before }

  abbrev open_then : Opened k Then.older o t j window.rest walk
  open_then = open_window k Then.older Then.valid j Then.view Then.at o t low walk window_then

  abbrev top : Back k t j window.rest open_then.spot.es load (mid ++ load ∷ rest)
  top = go k t j window.rest walk open_then.table window.before open_then.spot newer load (mid ++ load ∷ rest) is

  abbrev counting : Back k t j window.rest top.spot.es counted_read (stamp.rest ++ load ∷ rest)
  counting = go k t j window.rest (mid ++ load ∷ rest) open_then.table window.before top.spot stamp.newer counted_read (stamp.rest ++ load ∷ rest) (ap (λ (l : List Act). l ++ load ∷ rest) stamp.is ∙ append_assoc stamp.newer (counted_read ∷ stamp.rest) (load ∷ rest))

  lower_is : (mid ++ load ∷ rest) ++ window.rest ≡ three ++ before
  lower_is = walk_is newer mid rest window.rest stamp.newer stamp.rest load counted_read stamp.is

  upper_is : walk ++ window.rest ≡ (two ++ three) ++ before
  upper_is =
      ap (λ (l : List Act). l ++ window.rest) is
      ∙ (app newer (load ∷ (mid ++ load ∷ rest)) window.rest
      ∙ (sym (app newer (load ∷ []) ((mid ++ load ∷ rest) ++ window.rest))
      ∙ (ap (λ (l : List Act). two ++ l) lower_is ∙ sym (app two three before))))

  -- the value in the box is the same as at the load of the counter
  box_same : word k Then.older (box_word b i) ≡ word k counting.spot.es (box_word b i)
  box_same =
      window_kept k Then.older Then.valid j Then.view Then.at o t low walk window_then (λ now. word k now (box_word b i))
      (λ e now ok w there zs ys split log. box_step k b i which j e now ok w there
      (held_by k b (one ++ (two ++ three)) zs (ys ++ (two ++ three)) before w.log read.held
      (ap (λ (l : List Act). l ++ (two ++ three)) (sym split) ∙ app zs ys (two ++ three))
      (log ∙ (ap (λ (l : List Act). ys ++ l) upper_is ∙ sym (app ys (two ++ three) before)))))
      ∙ (go_kept k t j window.rest walk open_then.table window.before open_then.spot newer load (mid ++ load ∷ rest) is (λ now. word k now (box_word b i))
      (λ e now ok w there zs ys split log. box_step k b i which j e now ok w there
      (held_by k b (one ++ (two ++ three)) (one ++ zs) (ys ++ three) before w.log read.held
      (ap (λ (l : List Act). one ++ l) (ap (λ (l : List Act). l ++ three) (sym split) ∙ app zs ys three) ∙ sym (app one zs (ys ++ three)))
      (log ∙ (ap (λ (l : List Act). ys ++ l) lower_is ∙ sym (app ys three before)))))
      ∙ go_kept k t j window.rest (mid ++ load ∷ rest) open_then.table window.before top.spot stamp.newer counted_read (stamp.rest ++ load ∷ rest) (ap (λ (l : List Act). l ++ load ∷ rest) stamp.is ∙ append_assoc stamp.newer (counted_read ∷ stamp.rest) (load ∷ rest)) (λ now. word k now (box_word b i))
      (λ e now ok w there zs ys split log. box_step k b i which j e now ok w there
      (held_by k b (one ++ (two ++ three)) (one ++ (two ++ zs)) ys before w.log read.held
      (ap (λ (l : List Act). one ++ (two ++ l)) (sym split) ∙ (ap (λ (l : List Act). one ++ l) (sym (app two zs ys)) ∙ sym (app one (two ++ zs) ys)))
      log)))

  -- what was read is what stood there
  read_then : word k counting.spot.es (box_word b i) ≡ f
  read_then = sym box_same ∙ sym Then.tells

  -- the first writes are the same at both moments
  writes_then : n ≤ count k Then.older → first_writes n (history es) ≡ first_writes n (history Then.older)
  writes_then few = let c = counted k Then.older Then.valid in ap (λ (l : List Event). first_writes n (history l)) (sym Then.split) ∙ stays n Then.newer Then.older (omega (arith, few, c))

-- ---- entries and items

pub held_hits_are_right : HeldHitsAreRight
held_hits_are_right k es valid o t p key n low keyed small j u at h b i f named which read =
    let load : Act = ReadTable t (entry_offset (slots (class_of t)) p 0) h.version in
    let w : Was k es j read.later (ReadBox b i f) (read.after ++ ReadRoot o (suc t) ∷ (h.walk ++ h.window.rest)) = Then k es valid j u at o t low h.walk h.window h.newer h.mid h.rest load h.is n h.stamp b i f which read in
    let hit : Hit w.view.log o t p key n = record {
      walk = h.walk;
      window = window_then k es valid j u at o t low h.walk h.window h.newer h.mid h.rest load h.is n h.stamp b i f which read;
      version = h.version;
      even = h.even;
      mid = h.mid;
      newer = h.newer;
      rest = h.rest;
      is = h.is;
      live = h.live;
      stamp = h.stamp;
      searched = h.searched;
      before = h.before;
      between = h.between;
      key_is = h.key_is;
    } in
    let told = hits.hit_at k w.older w.valid o t p key n low keyed small j w.view w.at hit in
    let reads = hits.reads_then k w.older w.valid o t p key n low keyed small j w.view w.at hit in
    let four = hits.four k w.older w.valid o t p key n low keyed small j w.view w.at hit b named in
    let is_box = hits.is_box k w.older w.valid o t p key n low keyed small j w.view w.at hit b named in
    let box = hits.Box k w.older w.valid o t p key n low keyed small j w.view w.at hit in
    let table : List ℕ = tab k (hits.then_ k w.older w.valid o t p key n low keyed small j w.view w.at hit) t in
    let found : word k (hits.then_ k w.older w.valid o t p key n low keyed small j w.view w.at hit) (box_word b i) ≡ f = read_then k es valid j u at o t low h.walk h.window h.newer h.mid h.rest load h.is n h.stamp b i f which read in
    let writes = writes_then k es valid j u at o t low h.walk h.window h.newer h.mid h.rest load h.is n h.stamp b i f which read told.0 in
    let use_is : ℕ = entry_field (slots (class_of t)) table p 4 in
    let payload : ℕ = entry_field (slots (class_of t)) table p 5 in
    ap (λ (cs : List Call). slice_index (under (container_after k.starts cs o).content key) (i - 1)) writes
    ∙ ⊎_elim
    (λ (e : i ≡ 1).
    ap (λ (z : ℕ). slice_index (under (container_after k.starts (first_writes n (history w.older)) o).content key) (z - 1)) e
    ∙ (ap (λ (l : List ℕ). slice_index l 0) told.1 ∙ (reads.0 ∙ (here use_is 4 (box payload 1) use_is four ∙ (ap (λ (z : ℕ). box z 1) is_box ∙ (ap (box b) (sym e) ∙ found))))))
    (λ (e : i ≡ 2).
    ap (λ (z : ℕ). slice_index (under (container_after k.starts (first_writes n (history w.older)) o).content key) (z - 1)) e
    ∙ (ap (λ (l : List ℕ). slice_index l 1) told.1 ∙ (reads.1 ∙ (here use_is 4 (box payload 2) payload four ∙ (ap (λ (z : ℕ). box z 2) is_box ∙ (ap (box b) (sym e) ∙ found))))))
    which

pub held_items_are_right : HeldItemsAreRight
held_items_are_right k es valid o t p n low is_items small j u at h b i f named which read =
    let load : Act = ReadTable t (item_offset p 0) h.version in
    let w : Was k es j read.later (ReadBox b i f) (read.after ++ ReadRoot o (suc t) ∷ (h.walk ++ h.window.rest)) = Then k es valid j u at o t low h.walk h.window h.newer h.mid h.rest load h.is n h.stamp b i f which read in
    let hit : ItemHit w.view.log o t p n = record {
      walk = h.walk;
      window = window_then k es valid j u at o t low h.walk h.window h.newer h.mid h.rest load h.is n h.stamp b i f which read;
      version = h.version;
      even = h.even;
      mid = h.mid;
      newer = h.newer;
      rest = h.rest;
      is = h.is;
      stamp = h.stamp;
    } in
    let told = items.item_hit_at k w.older w.valid o t p n low is_items small j w.view w.at hit in
    let reads = items.reads_then k w.older w.valid o t p n low is_items small j w.view w.at hit in
    let four = items.four k w.older w.valid o t p n low is_items small j w.view w.at hit b named in
    let is_box = items.is_box k w.older w.valid o t p n low is_items small j w.view w.at hit b named in
    let box = items.Box k w.older w.valid o t p n low is_items small j w.view w.at hit in
    let table : List ℕ = tab k (items.then_ k w.older w.valid o t p n low is_items small j w.view w.at hit) t in
    let found : word k (items.then_ k w.older w.valid o t p n low is_items small j w.view w.at hit) (box_word b i) ≡ f = read_then k es valid j u at o t low h.walk h.window h.newer h.mid h.rest load h.is n h.stamp b i f which read in
    let writes = writes_then k es valid j u at o t low h.walk h.window h.newer h.mid h.rest load h.is n h.stamp b i f which read told.0 in
    let use_is : ℕ = item_field table p 1 in
    let payload : ℕ = item_field table p 2 in
    ap (λ (cs : List Call). slice_index (words_at (list_of (container_after k.starts cs o).content) p) (i - 1)) writes
    ∙ ⊎_elim
    (λ (e : i ≡ 1).
    ap (λ (z : ℕ). slice_index (words_at (list_of (container_after k.starts (first_writes n (history w.older)) o).content) p) (z - 1)) e
    ∙ (ap (λ (l : List ℕ). slice_index l 0) told.1 ∙ (reads.0 ∙ (here use_is 4 (box payload 1) use_is four ∙ (ap (λ (z : ℕ). box z 1) is_box ∙ (ap (box b) (sym e) ∙ found))))))
    (λ (e : i ≡ 2).
    ap (λ (z : ℕ). slice_index (words_at (list_of (container_after k.starts (first_writes n (history w.older)) o).content) p) (z - 1)) e
    ∙ (ap (λ (l : List ℕ). slice_index l 1) told.1 ∙ (reads.1 ∙ (here use_is 4 (box payload 2) payload four ∙ (ap (λ (z : ℕ). box z 2) is_box ∙ (ap (box b) (sym e) ∙ found))))))
    which
