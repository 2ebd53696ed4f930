-- From what loads between two loads of a container's version show to what a call may answer.
use Rattle.std.proofs.Common.{◌≡◌, ◌≢◌, ◌≤◌, ℕ, ◌<◌, false, List, [], ◌∷◌, ◌++◌, refl, sym, ap, ◌∙◌, subst, append_assoc}
use Rattle.ft_model.specs.declared.call.Call.{Call}
use Rattle.ft_model.specs.declared.reply.Reply.{Reply}
use Rattle.ft_model.specs.declared.reply.Reply.TheVariants as reply
use Rattle.ft_model.specs.TableUses.{StoredWorld}
use Rattle.ft_model.specs.Worlds.{kind_of}
use Rattle.ft_trace.specs.declared.Act.{Act}
use Rattle.ft_trace.specs.declared.Act.TheVariants.{Version, ReadCounter, Answer}
use Rattle.ft_trace.specs.declared.Shape.{Shape}
use Rattle.ft_trace.specs.declared.View.{View}
use Rattle.ft_trace.specs.Acts.{view_after, shown}
use Rattle.ft_trace.specs.Addresses.{container_count}
use Rattle.ft_trace.specs.LoggedReads.{Between, LookedAtOne, LookedAtBoth}
use Rattle.ft_trace.specs.Traces.{IsReachable}
use Rattle.ft_trace.specs.Unboxed.{unboxed}
use Rattle.ft_trace.specs.Pictures.{ContainerWords, Represents}
use Rattle.ft_trace.specs.ContainerStates.{kind_in, state_at, reply_in}
use Rattle.ft_bank.specs.declared.pass.Pass.{Pass}
use Rattle.ft_bank.specs.LastLoads.{IsLastBetween, IsLastLoad}
use Rattle.ft_bank.specs.Passes.{view}
use Rattle.ft_bank.specs.Reads.{IsShown}
use Rattle.ft_bank.specs.Series.{DidAll}
use Rattle.ft_bank.specs.Whole.{OnlyLoaded}
use Rattle.ft_bank.proofs.ShownReplies.{looks_are_shown, looks_at_both_are_shown}
use Rattle.ft_section.specs.declared.answers.Look.TheVariants as look
use Rattle.ft_search.specs.Lengths.{IsGlanceOf, IsStopped}
use Rattle.ft_search.specs.KeyLooks.{AreLooks}
use Rattle.ft_search.proofs.Asking.{may_ask, answered_after}
use Rattle.ft_search.proofs.Lengths.{IsPlain, between_own}
use Rattle.ft_search.proofs.LoadedLooks.{looks_append, looks_did}
use Rattle.ft_search.proofs.Running.{did_log, did_trans}
use Rattle.ft_reads.specs.Reads.{Reads}
use Rattle.ft_reads.specs.Pairs.{IsGlanceOfBoth, ReadsBoth}
use Rattle.ft_reads.proofs.Agreeing.{read_newer, read_older}
use Rattle.ft_reads.specs.declared.window.Window.{Window}
use Rattle.ft_reads.specs.Glances.{HasMoved, WasStill, LoadedSome, Saw, SawBoth}

-- ---- the loads, one after the other

pub saw_between : (k : Shape) (o : ℕ) (shows : ContainerWords → Type 0) (w : Window) (p q1 q2 q3 q4 : Pass) → DidAll (Version o w.opened ∷ []) p q1 → Reads k o shows q1 q2 → DidAll (ReadCounter w.number ∷ []) q2 q3 → DidAll (Version o w.closed ∷ []) q3 q4 → Saw k o shows w p q4
saw_between k o shows w p q1 q2 q3 q4 a r c d =
    let opened = Version o w.opened ∷ [] in (
      r.0,
      r.1,
      did_trans (Version o w.closed ∷ []) (ReadCounter w.number ∷ (r.0 ++ opened)) p q3 q4 (did_trans (ReadCounter w.number ∷ []) (r.0 ++ opened) p q2 q3 (did_trans r.0 opened p q1 q2 a r.2) c) d,
      r.3,
    )

pub saw_both_between : (k : Shape) (o m : ℕ) (shows : ContainerWords → ContainerWords → Type 0) (w u : Window) (p q1 q2 q3 q4 q5 q6 : Pass) → DidAll (Version o w.opened ∷ []) p q1 → DidAll (Version m u.opened ∷ []) q1 q2 → ReadsBoth k o m shows q2 q3 → DidAll (ReadCounter w.number ∷ []) q3 q4 → DidAll (Version m u.closed ∷ []) q4 q5 → DidAll (Version o w.closed ∷ []) q5 q6
    → SawBoth k o m shows w u p q6
saw_both_between k o m shows w u p q1 q2 q3 q4 q5 q6 a b r c d e =
    let opens = Version m u.opened ∷ (Version o w.opened ∷ []) in
    let counts = ReadCounter w.number ∷ (r.0 ++ opens) in
    let d2 = did_trans (Version m u.opened ∷ []) (Version o w.opened ∷ []) p q1 q2 a b in
    let d3 = did_trans r.0 opens p q2 q3 d2 r.2 in
    let d4 = did_trans (ReadCounter w.number ∷ []) (r.0 ++ opens) p q3 q4 d3 c in
    let d5 = did_trans (Version m u.closed ∷ []) counts p q4 q5 d4 d in
    (r.0, r.1, did_trans (Version o w.closed ∷ []) (Version m u.closed ∷ counts) p q5 q6 d5 e, r.3)

-- ---- one container

module _ (k : Shape) (o : ℕ) (shows : ContainerWords → Type 0) (w : Window) (p q : Pass) (saw : Saw k o shows w p q) where
  abbrev part : List Act
  part = saw.0

  abbrev acts : List Act
  acts = Version o w.closed ∷ (ReadCounter w.number ∷ (part ++ Version o w.opened ∷ []))

  looks : AreLooks acts
  looks = looks_append part (Version o w.opened ∷ []) saw.1 tt

  own : (view q).log ≡ acts ++ (view p).log
  own = did_log acts p q saw.2

  counted : IsLastLoad w.number acts
  counted = record { newer = Version o w.closed ∷ []; rest = part ++ Version o w.opened ∷ []; is = refl; none = refl }

  pub saw_loaded : OnlyLoaded (view p) (view q)
  saw_loaded = looks_did acts p q looks saw.2

  -- what is so wherever that is so was loaded
  pub saw_some : (some : ContainerWords → Type 0) → ((x : ContainerWords) → shows x → some x) → LoadedSome k o some (view p) (view q)
  saw_some some f = (
    Version o w.closed ∷ (ReadCounter w.number ∷ []),
    part,
    Version o w.opened ∷ [],
    own ∙ ap (λ (l : List Act). Version o w.closed ∷ (ReadCounter w.number ∷ l)) (append_assoc part (Version o w.opened ∷ []) (view p).log),
    (λ x box agrees. f (unboxed box (kind_in k.starts o) x) (saw.3 x box agrees)),
  )

  pub saw_stopped : HasMoved w → IsStopped o w.opened w.closed (view p) (view q)
  saw_stopped moved = record {
    loaded = saw_loaded;
    part = acts;
    looks = looks;
    own = own;
    stops = record { newer = []; mid = ReadCounter w.number ∷ part; rest = []; is = refl; moved = moved };
  }

  -- the counter was loaded last between the two loads of the version
  saw_last : WasStill w → IsLastBetween o w.number acts
  saw_last still = record {
    version = w.opened;
    even = still.1;
    newer = [];
    mid = [];
    older = part;
    rest = [];
    is = λ d. Version o (still.0 d) ∷ (ReadCounter w.number ∷ (part ++ Version o w.opened ∷ []));
    none = refl;
    none_between = refl;
  }

  pub saw_answered : (called : Call) (said : Reply) (z : View) → z ≡ view_after (Answer called said w.number) (view q) → (view p).learnt ≤ shown (view p).log → ∥ IsReachable z ∥₁ → WasStill w → IsGlanceOf o called (view p) z (look.Done said (record { number = w.number; wrote = false }))
  saw_answered called said z did settled possible still =
      let a = answered_after (IsLastBetween o w.number) (view p) (view q) z called said w.number acts saw_loaded own counted did settled possible (saw_last still) in
      (a.0, refl, a.1)

  module _ (called : Call) (said : Reply) (plain : IsPlain called said) (other : said ≢ reply.Kept) (replied : (x : ContainerWords) (stored : StoredWorld) → kind_of (state_at stored o).content ≡ kind_in k.starts o → Represents k.texts x (state_at stored o) → shows x → reply_in stored called ≡ said) where
    looked : WasStill w → LookedAtOne k called o said w.number (view q).log
    looked still = record {
      mid = ReadCounter w.number ∷ part;
      between = between_own o (ReadCounter w.number ∷ part) acts (view p).log (view q).log own
          (record { version = w.opened; even = still.1; newer = []; rest = []; is = λ d. Version o (still.0 d) ∷ ((ReadCounter w.number ∷ part) ++ Version o w.opened ∷ []) });
      stamp = record { newer = []; rest = part; is = refl };
      answers = λ x box stored kind_is stands agrees boxes. replied (unboxed box (kind_in k.starts o) x) stored kind_is stands (saw.3 x box (read_older k o x box (ReadCounter w.number ∷ []) part (agrees, boxes)));
    }

    pub saw_shown : WasStill w → (view q).shape ≡ k → o < container_count k → 0 < (view p).left → IsShown (view q) called said w.number
    saw_shown still same low left =
        looks_are_shown (view q) called o said w.number (may_ask (view p) (view q) k o w.number acts saw_loaded looks own counted same low left) plain.reads plain.cursor plain.cause (plain.replied said refl)
        (subst (λ (z : Shape). LookedAtOne z called o said w.number (view q).log) (sym same) (looked still))

-- ---- two containers

module _ (k : Shape) (o m : ℕ) (shows : ContainerWords → ContainerWords → Type 0) (w u : Window) (p q : Pass) (saw : SawBoth k o m shows w u p q) where
  abbrev both : List Act
  both = saw.0

  abbrev opens : List Act
  opens = Version m u.opened ∷ (Version o w.opened ∷ [])

  abbrev both_acts : List Act
  both_acts = Version o w.closed ∷ (Version m u.closed ∷ (ReadCounter w.number ∷ (both ++ opens)))

  both_looks : AreLooks both_acts
  both_looks = looks_append both opens saw.1 tt

  both_own : (view q).log ≡ both_acts ++ (view p).log
  both_own = did_log both_acts p q saw.2

  both_counted : IsLastLoad w.number both_acts
  both_counted = record { newer = Version o w.closed ∷ (Version m u.closed ∷ []); rest = both ++ opens; is = refl; none = refl }

  saw_both_loaded : OnlyLoaded (view p) (view q)
  saw_both_loaded = looks_did both_acts p q both_looks saw.2

  -- what was done between the loads of the version of each
  abbrev first_mid : List Act
  first_mid = Version m u.closed ∷ (ReadCounter w.number ∷ (both ++ Version m u.opened ∷ []))

  abbrev other_mid : List Act
  other_mid = ReadCounter w.number ∷ both

  first_is : both_acts ≡ Version o w.closed ∷ (first_mid ++ Version o w.opened ∷ [])
  first_is = ap (λ (l : List Act). Version o w.closed ∷ (Version m u.closed ∷ (ReadCounter w.number ∷ l))) (sym (append_assoc both (Version m u.opened ∷ []) (Version o w.opened ∷ [])))

  pub saw_first_stopped : HasMoved w → IsStopped o w.opened w.closed (view p) (view q)
  saw_first_stopped moved = record {
    loaded = saw_both_loaded;
    part = both_acts;
    looks = both_looks;
    own = both_own;
    stops = record { newer = []; mid = first_mid; rest = []; is = first_is; moved = moved };
  }

  pub saw_other_stopped : HasMoved u → IsStopped m u.opened u.closed (view p) (view q)
  saw_other_stopped moved = record {
    loaded = saw_both_loaded;
    part = both_acts;
    looks = both_looks;
    own = both_own;
    stops = record { newer = Version o w.closed ∷ []; mid = other_mid; rest = Version o w.opened ∷ []; is = refl; moved = moved };
  }

  -- the counter was loaded last between the two loads of the version of each
  saw_both_last : WasStill w → WasStill u → IsLastBetween o w.number both_acts × IsLastBetween m w.number both_acts
  saw_both_last still calm = (
    record {
      version = w.opened;
      even = still.1;
      newer = [];
      mid = Version m u.closed ∷ [];
      older = both ++ Version m u.opened ∷ [];
      rest = [];
      is = first_is ∙ (λ d. Version o (still.0 d) ∷ (first_mid ++ Version o w.opened ∷ []));
      none = refl;
      none_between = refl;
    },
    record {
      version = u.opened;
      even = calm.1;
      newer = Version o w.closed ∷ [];
      mid = [];
      older = both;
      rest = Version o w.opened ∷ [];
      is = λ d. Version o w.closed ∷ (Version m (calm.0 d) ∷ (other_mid ++ Version m u.opened ∷ (Version o w.opened ∷ [])));
      none = refl;
      none_between = refl;
    },
  )

  pub saw_both_answered : (called : Call) (said : Reply) (z : View) → z ≡ view_after (Answer called said w.number) (view q) → (view p).learnt ≤ shown (view p).log → ∥ IsReachable z ∥₁ → WasStill w → WasStill u → IsGlanceOfBoth o m called (view p) z (look.Done said (record { number = w.number; wrote = false }))
  saw_both_answered called said z did settled possible still calm =
      let a = answered_after (λ l. IsLastBetween o w.number l × IsLastBetween m w.number l) (view p) (view q) z called said w.number both_acts saw_both_loaded both_own both_counted did settled possible (saw_both_last still calm) in
      (a.0, refl, a.1.0, a.1.1)

  both_between : WasStill w → WasStill u → Between both_acts o first_mid × Between both_acts m other_mid
  both_between still calm = (
    record { version = w.opened; even = still.1; newer = []; rest = []; is = first_is ∙ (λ d. Version o (still.0 d) ∷ (first_mid ++ Version o w.opened ∷ [])) },
    record { version = u.opened; even = calm.1; newer = Version o w.closed ∷ []; rest = Version o w.opened ∷ []; is = λ d. Version o w.closed ∷ (Version m (calm.0 d) ∷ (other_mid ++ Version m u.opened ∷ (Version o w.opened ∷ []))) },
  )

  module _ (called : Call) (said : Reply) (plain : IsPlain called said) (other : said ≢ reply.Kept)
      (replied : (x y : ContainerWords) (stored : StoredWorld) → kind_of (state_at stored o).content ≡ kind_in k.starts o → kind_of (state_at stored m).content ≡ kind_in k.starts m → Represents k.texts x (state_at stored o) → Represents k.texts y (state_at stored m) → shows x y → reply_in stored called ≡ said) where
    looked_at_both : WasStill w → WasStill u → LookedAtBoth k called o m said w.number (view q).log
    looked_at_both still calm =
        let between = both_between still calm in
        record {
          one = first_mid;
          other = other_mid;
          between = (between_own o first_mid both_acts (view p).log (view q).log both_own between.0, between_own m other_mid both_acts (view p).log (view q).log both_own between.1);
          stamp = (record { newer = Version m u.closed ∷ []; rest = both ++ Version m u.opened ∷ []; is = refl }, record { newer = []; rest = both; is = refl });
          answers = λ x y box more stored kind_is kind_is' stands stands' agrees agrees' boxes boxes'.
              let near = read_newer k o x box both (Version m u.opened ∷ []) (read_older k o x box (Version m u.closed ∷ (ReadCounter w.number ∷ [])) (both ++ Version m u.opened ∷ []) (agrees, boxes)) in
              let far = read_older k m y more (ReadCounter w.number ∷ []) both (agrees', boxes') in
              replied (unboxed box (kind_in k.starts o) x) (unboxed more (kind_in k.starts m) y) stored kind_is kind_is' stands stands' (saw.3 x y box more near far);
        }

    pub saw_both_shown : WasStill w → WasStill u → (view q).shape ≡ k → o < container_count k → m < container_count k → 0 < (view p).left → IsShown (view q) called said w.number
    saw_both_shown still calm same low high left =
        looks_at_both_are_shown (view q) called o m said w.number (may_ask (view p) (view q) k o w.number both_acts saw_both_loaded both_looks both_own both_counted same low left)
        (subst (λ (z : Shape). m < container_count z) (sym same) high) plain.reads plain.cursor plain.cause (plain.replied said refl)
        (subst (λ (z : Shape). LookedAtBoth z called o m said w.number (view q).log) (sym same) (looked_at_both still calm))
