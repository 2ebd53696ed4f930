-- What a search loaded, one slot after another, and what it says of a list of words.
use Rattle.std.proofs.Common.{◌≡◌, ◌≢◌, inl, inr, ℕ, zero, suc, ◌+◌, ◌<◌, ◌≤◌, List, [], ◌∷◌, ◌++◌, Some, None, length, refl, sym, ap, ◌∙◌, subst, arith, All, append_assoc, append-nil, length-append}
use Rattle.std.proofs.lemmas.List.Elements.{All-cons, All-nil}
use Rattle.ft_model.specs.declared.data.Key.{Key}
use Rattle.ft_hash.specs.Probes.{IsMask}
use Rattle.ft_layout.specs.Words.{FitsKey, key_kind, key_payload}
use Rattle.ft_layout.specs.Tables.{dict_room, index_word, entry_word}
use Rattle.ft_keys.specs.declared.words.Access.{Access}
use Rattle.ft_keys.specs.declared.search.Found.{Found}
use Rattle.ft_keys.specs.declared.search.Found.TheVariants.{At, Was, Free, Spent}
use Rattle.ft_keys.specs.Accesses.{index_loads, AreLoads, Follows, AreAnswered}
use Rattle.ft_keys.specs.Loads.{PassesSlot, TriesSlots, TriesOne, EndsWith, unpassed, last_loads, Loads, Searches}
use Rattle.ft_keys.specs.Searches.{NamesKey, Passes, EndsAt, Searched, Shows}
use Rattle.ft_keys.proofs.Shown.{loads-append, index-loads-append, follows-append, fits-append, loads-leave, shows-more, shows-both}
use Rattle.ft_keys.proofs.SlotTries.{Passed, ended-after, passed-was}
use Rattle.ft_keys.proofs.Finding.{finds-rightly}

-- ---- one slot that was passed

module _ (mask : ℕ) (words : List ℕ) (key : Key) where
  nowhere : (word : ℕ) → dict_room mask < word → ¬ NamesKey mask words word key
  nowhere word high names = let low = names.1 in let at = names.2 in omega arith

  other-kind : (place kind : ℕ) → kind ≢ key_kind key → kind ≡ entry_word mask words place 2 → ¬ NamesKey mask words (suc place) key
  other-kind place kind differs is names =
      let same : place ≡ names.0 = let at = names.2 in omega arith in
      differs (is ∙ ap (λ p. entry_word mask words p 2) same ∙ names.3.0)

  other-payload : (place payload : ℕ) → payload ≢ key_payload key → payload ≡ entry_word mask words place 3 → ¬ NamesKey mask words (suc place) key
  other-payload place payload differs is names =
      let same : place ≡ names.0 = let at = names.2 in omega arith in
      differs (is ∙ ap (λ p. entry_word mask words p 3) same ∙ names.3.1)

  passes-word : (slot word : ℕ) → word ≢ 0 → word ≡ index_word words slot → ¬ NamesKey mask words word key → Passes mask words key slot
  passes-word slot word some is names =
      record { was_used = λ none. some (is ∙ none); other = λ n. names (subst (λ (w : ℕ). NamesKey mask words w key) (sym is) n) }

module _ (mask : ℕ) (key : Key) where
  pub passes-count : (slot : ℕ) (loads : List Access) → PassesSlot mask key slot loads → index_loads loads ≡ 1
  passes-count slot loads (inl (word, high, is)) = ap index_loads is
  passes-count slot loads (inr (inl (place, payload, low, a, is))) = ap index_loads is
  passes-count slot loads (inr (inr (place, kind, payload, low, a, b, is))) = ap index_loads is

  passes-are : (slot : ℕ) (loads : List Access) → PassesSlot mask key slot loads → AreLoads loads
  passes-are slot loads (inl (word, high, is)) = subst AreLoads (sym is) (tt, tt)
  passes-are slot loads (inr (inl (place, payload, low, a, is))) = subst AreLoads (sym is) (tt, (tt, tt))
  passes-are slot loads (inr (inr (place, kind, payload, low, a, b, is))) = subst AreLoads (sym is) (tt, (tt, (tt, tt)))

  passes-follows : (slot : ℕ) (left : List ℕ) (loads : List Access) → PassesSlot mask key slot loads → Follows (slot ∷ left) loads left
  passes-follows slot left loads (inl (zero, high, is)) = absurd (omega arith)
  passes-follows slot left loads (inl (suc word, high, is)) = subst (λ (l : List Access). Follows (slot ∷ left) l left) (sym is) refl
  passes-follows slot left loads (inr (inl (place, payload, low, a, is))) = subst (λ (l : List Access). Follows (slot ∷ left) l left) (sym is) refl
  passes-follows slot left loads (inr (inr (place, kind, payload, low, a, b, is))) = subst (λ (l : List Access). Follows (slot ∷ left) l left) (sym is) refl

  passes-shown : (slot : ℕ) (loads : List Access) (words : List ℕ) → PassesSlot mask key slot loads → AreAnswered mask loads words → Passes mask words key slot
  passes-shown slot loads words (inl (word, high, is)) fits =
      let so = subst (λ (l : List Access). AreAnswered mask l words) is fits in
      passes-word mask words key slot word (omega arith) so.1 (nowhere mask words key word high)
  passes-shown slot loads words (inr (inl (place, payload, low, a, is))) fits =
      let so = subst (λ (l : List Access). AreAnswered mask l words) is fits in
      passes-word mask words key slot (suc place) (omega arith) so.0.1 (other-payload mask words key place payload a so.1)
  passes-shown slot loads words (inr (inr (place, kind, payload, low, a, b, is))) fits =
      let so = subst (λ (l : List Access). AreAnswered mask l words) is fits in
      passes-word mask words key slot (suc place) (omega arith) so.0.0.1 (other-kind mask words key place kind a so.1)

  -- ---- slots that were passed, in their order

  tries-count : (slots : List ℕ) (loads : List Access) → TriesSlots mask key slots loads → index_loads loads ≡ length slots
  tries-count [] loads tries = ap index_loads tries
  tries-count (slot ∷ slots) loads (one, later, passes, tries, is) =
      let all = ap index_loads is ∙ index-loads-append one later in
      let here = passes-count slot one passes in
      let rest = tries-count slots later tries in
      omega arith

  tries-are : (slots : List ℕ) (loads : List Access) → TriesSlots mask key slots loads → AreLoads loads
  tries-are [] loads tries = subst AreLoads (sym tries) tt
  tries-are (slot ∷ slots) loads (one, later, passes, tries, is) =
      subst AreLoads (sym is) (loads-append one later (passes-are slot one passes) (tries-are slots later tries))

  tries-follows : (slots left : List ℕ) (loads : List Access) → TriesSlots mask key slots loads → Follows (slots ++ left) loads left
  tries-follows [] left loads tries = subst (λ (l : List Access). Follows left l left) (sym tries) refl
  tries-follows (slot ∷ slots) left loads (one, later, passes, tries, is) =
      subst (λ (l : List Access). Follows (slot ∷ slots ++ left) l left) (sym is)
      (follows-append (slot ∷ slots ++ left) (slots ++ left) left one later (passes-follows slot (slots ++ left) one passes) (tries-follows slots left later tries))

  tries-shown : (slots : List ℕ) (loads : List Access) (words : List ℕ) → TriesSlots mask key slots loads → AreAnswered mask loads words → All (Passes mask words key) slots
  tries-shown [] loads words tries fits = All-nil (Passes mask words key)
  tries-shown (slot ∷ slots) loads words (one, later, passes, tries, is) fits =
      let both = fits-append mask one later words (subst (λ (l : List Access). AreAnswered mask l words) is fits) in
      let same = loads-leave mask one words (passes-are slot one passes) in
      All-cons (Passes mask words key) slot slots (passes-shown slot one words passes both.0) (tries-shown slots later words tries (subst (AreAnswered mask later) same both.1))

  tries-push : (slots : List ℕ) (loads : List Access) (slot : ℕ) (one : List Access) → TriesSlots mask key slots loads → PassesSlot mask key slot one → TriesSlots mask key (slots ++ slot ∷ []) (one ++ loads)
  tries-push [] loads slot one tries passes = (one, [], passes, refl, ap (λ (l : List Access). one ++ l) tries ∙ append-nil one)
  tries-push (first ∷ slots) loads slot one (own, later, passed, tries, is) passes =
      (own, one ++ later, passed, tries-push slots later slot one tries passes, ap (λ (l : List Access). one ++ l) is ∙ sym (append_assoc one later own))

  -- ---- the last slot

  ends-count : (left : List ℕ) (found : Found) (loads : List Access) → EndsWith mask key left found loads → index_loads loads ≡ last_loads found
  ends-count left (At slot place) loads ends = ap index_loads ends.1
  ends-count left (Was slot place) loads ends = ap index_loads ends.1
  ends-count left (Free slot) loads ends = ap index_loads ends.2
  ends-count left Spent loads ends = ap index_loads ends.1

  ends-are : (left : List ℕ) (found : Found) (loads : List Access) → EndsWith mask key left found loads → AreLoads loads
  ends-are left (At slot place) loads ends = subst AreLoads (sym ends.1) (tt, (tt, (tt, tt)))
  ends-are left (Was slot place) loads ends = subst AreLoads (sym ends.1) (tt, (tt, (tt, tt)))
  ends-are left (Free slot) loads ends = subst AreLoads (sym ends.2) (tt, tt)
  ends-are left Spent loads ends = subst AreLoads (sym ends.1) tt

  ends-follows : (left : List ℕ) (found : Found) (loads : List Access) → EndsWith mask key left found loads → Follows (unpassed found left) loads left
  ends-follows left (At slot place) loads ends = subst (λ (l : List Access). Follows (slot ∷ left) l left) (sym ends.1) refl
  ends-follows left (Was slot place) loads ends = subst (λ (l : List Access). Follows (slot ∷ left) l left) (sym ends.1) refl
  ends-follows left (Free slot) loads ends = subst (λ (l : List Access). Follows left l left) (sym ends.2) (ends.0, refl, ends.1)
  ends-follows left Spent loads ends = subst (λ (l : List Access). Follows left l left) (sym ends.1) refl

  ends-shown : (left : List ℕ) (found : Found) (loads : List Access) (words : List ℕ) → EndsWith mask key left found loads → AreAnswered mask loads words → EndsAt mask words key (unpassed found left) left found
  ends-shown left (At slot place) loads words ends fits =
      let so = subst (λ (l : List Access). AreAnswered mask l words) ends.1 fits in
      let here : index_word words slot ≡ place + 1 = sym so.0.0.1 ∙ omega arith in
      ([], refl, All-nil (Passes mask words key), here, (sym so.1, sym so.0.1))
  ends-shown left (Was slot place) loads words ends fits =
      let so = subst (λ (l : List Access). AreAnswered mask l words) ends.1 fits in
      let here : index_word words slot ≡ place + 1 = sym so.0.0.1 ∙ omega arith in
      ([], refl, All-nil (Passes mask words key), here, (sym so.1, sym so.0.1))
  ends-shown left (Free slot) loads words ends fits =
      let so = subst (λ (l : List Access). AreAnswered mask l words) ends.2 fits in
      ([], ends.0, refl, ends.1, All-nil (Passes mask words key), sym so.1)
  ends-shown left Spent loads words ends fits = (ends.0, subst (All (Passes mask words key)) (sym ends.0) (All-nil (Passes mask words key)))

  -- ---- a whole search

  module _ (first left : List ℕ) (found : Found) (calls : List Access) (loads : Loads mask key first left found calls) where
    pub loads-are : AreLoads calls
    loads-are = subst AreLoads (sym loads.is) (loads-append loads.earlier loads.last (tries-are loads.passed loads.earlier loads.tries) (ends-are left found loads.last loads.ends))

    pub loads-count : index_loads calls ≡ length loads.passed + last_loads found
    loads-count =
        let all = ap index_loads loads.is ∙ index-loads-append loads.earlier loads.last in
        let passed = tries-count loads.passed loads.earlier loads.tries in
        let end = ends-count left found loads.last loads.ends in
        omega arith

    pub loads-follow : Follows first calls left
    loads-follow =
        let from = follows-append (loads.passed ++ unpassed found left) (unpassed found left) left loads.earlier loads.last
        (tries-follows loads.passed (unpassed found left) loads.earlier loads.tries) (ends-follows left found loads.last loads.ends) in
        subst (λ (f : List ℕ). Follows f calls left) (sym loads.split) (subst (λ (l : List Access). Follows (loads.passed ++ unpassed found left) l left) (sym loads.is) from)

    pub loads-shown : (words : List ℕ) → AreAnswered mask calls words → EndsAt mask words key first left found
    loads-shown words fits =
        let both = fits-append mask loads.earlier loads.last words (subst (λ (l : List Access). AreAnswered mask l words) loads.is fits) in
        let same = loads-leave mask loads.earlier words (tries-are loads.passed loads.earlier loads.tries) in
        ended-after mask words key first (unpassed found left) left loads.passed found loads.split
        (tries-shown loads.passed loads.earlier words loads.tries both.0)
        (ends-shown left found loads.last words loads.ends (subst (AreAnswered mask loads.last) same both.1))

    pub loads-find : (words : List ℕ) → IsMask mask → FitsKey key → AreAnswered mask calls words → Searched mask words key first left found
    loads-find words is fits-key fits =
        let ends = loads-shown words fits in
        record { ends = ends; finds = λ way texts used table small whole. finds-rightly way mask texts words used key table fits-key first left found ends is small whole }

  -- ---- what a search costs

  ended-long : (left : List ℕ) (found : Found) (loads : List Access) → EndsWith mask key left found loads → last_loads found ≤ length (unpassed found left)
  ended-long left (At slot place) loads ends = omega arith
  ended-long left (Was slot place) loads ends = omega arith
  ended-long left (Free slot) loads ends = let some = ap length ends.1 in omega arith
  ended-long left Spent loads ends = omega arith

  pub loads-cost : (first left : List ℕ) (found : Found) (calls : List Access) → Loads mask key first left found calls → index_loads calls ≤ length first
  loads-cost first left found calls loads =
      let count = loads-count first left found calls loads in
      let last = ended-long left found loads.last loads.ends in
      let long = ap length loads.split ∙ length-append loads.passed (unpassed found left) in
      omega arith

  -- after a deleted entry fewer slots are left
  pub loads-was : (first left : List ℕ) (slot place : ℕ) (calls : List Access) → Loads mask key first left (Was slot place) calls → index_loads calls + length left ≡ length first
  loads-was first left slot place calls loads =
      let count = loads-count first left (Was slot place) calls loads in
      let long = ap length loads.split ∙ length-append loads.passed (slot ∷ left) in
      omega arith

  -- ---- the slots so far were passed, and these are left

  abbrev pub SoFar : List ℕ → List ℕ → List Access → Type 0
  SoFar first left calls = (passed : List ℕ) × (first ≡ passed ++ left) × TriesSlots mask key passed calls

  pub so-far-more : (first middle left : List ℕ) (calls last : List Access) → SoFar first middle calls → TriesOne mask key middle left None last → SoFar first left (last ++ calls)
  so-far-more first middle left calls last so one =
      (so.0 ++ one.0 ∷ [], so.1 ∙ ap (λ m. so.0 ++ m) one.1 ∙ sym (append_assoc so.0 (one.0 ∷ []) left), tries-push so.0 calls one.0 last so.2 one.2)

  pub so-far-cost : (first left : List ℕ) (calls : List Access) → SoFar first left calls → index_loads calls + length left ≡ length first
  so-far-cost first left calls so =
      let count = tries-count so.0 calls so.2 in
      let long = ap length so.1 ∙ length-append so.0 left in
      omega arith

  pub so-far-ended : (first middle left : List ℕ) (found : Found) (calls last : List Access) → SoFar first middle calls → TriesOne mask key middle left (Some found) last → Loads mask key first left found (last ++ calls)
  so-far-ended first middle left found calls last so one = record {
    passed = so.0;
    split = so.1 ∙ ap (λ m. so.0 ++ m) one.0;
    earlier = calls;
    tries = so.2;
    last = last;
    ends = one.1;
    is = refl;
  }

-- ---- searches one after the other

module _ {S : Type 0} (gave : S → Access → S → Type 0) (mask : ℕ) (key : Key) where
  searches-show : (first left : List ℕ) (found : Found) (start end : S) (before later : ℕ) → Searches gave mask key first left found start end before later →
      Shows gave mask first left start end before later (λ words. EndsAt mask words key first left found)
  searches-show first left found start end before later so = record {
    calls = so.calls;
    runs = so.runs;
    loads = loads-are mask key first left found so.calls so.loads;
    follows = loads-follow mask key first left found so.calls so.loads;
    steps = so.steps;
    shown = loads-shown mask key first left found so.calls so.loads;
  }

  -- after slots that were passed a search came to what all of it comes to
  pub live-ended : (first middle left : List ℕ) (found : Found) (start between end : S) (a b c : ℕ) → IsMask mask → FitsKey key →
      Shows gave mask first middle start between a b (λ words. Passed mask words key first middle) → Searches gave mask key middle left found between end b c →
      Shows gave mask first left start end a c (λ words. Searched mask words key first left found)
  live-ended first middle left found start between end a b c is fits so search =
      shows-more gave mask first left start end a c
      (λ words. Passed mask words key first middle × EndsAt mask words key middle left found)
      (λ words. Searched mask words key first left found)
      (λ words shown.
      let ends = ended-after mask words key first middle left shown.0.0 found shown.0.1 shown.0.2 shown.1 in
      record { ends = ends; finds = λ way texts used table small whole. finds-rightly way mask texts words used key table fits first left found ends is small whole })
      (shows-both gave mask first middle left start between end a b c
      (λ words. Passed mask words key first middle) (λ words. EndsAt mask words key middle left found) so (searches-show middle left found between end b c search))

  -- where it ended at a deleted entry, that slot is passed too
  pub live-passed : (first middle left : List ℕ) (slot place : ℕ) (start between end : S) (a b c : ℕ) →
      Shows gave mask first middle start between a b (λ words. Passed mask words key first middle) → Searches gave mask key middle left (Was slot place) between end b c →
      Shows gave mask first left start end a c (λ words. Passed mask words key first left)
  live-passed first middle left slot place start between end a b c so search =
      shows-more gave mask first left start end a c
      (λ words. Passed mask words key first middle × EndsAt mask words key middle left (Was slot place))
      (λ words. Passed mask words key first left)
      (λ words shown. passed-was mask words key first middle left slot place shown.0 shown.1)
      (shows-both gave mask first middle left start between end a b c
      (λ words. Passed mask words key first middle) (λ words. EndsAt mask words key middle left (Was slot place)) so (searches-show middle left (Was slot place) between end b c search))
