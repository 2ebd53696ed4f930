-- The cursors that a pass has by its log are the hands that its own entries leave.
use Rattle.std.proofs.Common.{◌≡◌, ◌≢◌, ℕ, zero, suc, ◌<◌, ◌≤◌, true≢false, List, [], ◌∷◌, ◌++◌, length, take, reverse, map, refl, sym, ap, ◌∙◌, subst, arith, append_assoc, length-set, get_or-set_same, get_or-set_other}
use Rattle.std.specs.Prelude.{Bool, true, false, cond, ◌&&◌, ◌==◌, Option, Some, None, IfSome, All, slice_get, slice_set, if◌then◌else◌, not}
use Rattle.std.proofs.lemmas.List.Elements.{All-nil, All-head, All-tail, All-push}
use Rattle.std.proofs.lemmas.List.Sums.{fold-append}
use mathlib.Core.Option.{some}
use mathlib.Core.Logic.{dite}
use mathlib.Core.List.{reverse-cons, reverse-reverse}
use native.Mathlib.Decide.{ℕ_discrete}
use lib.ListN.{get_elem?}
use Rattle.ft_model.specs.declared.call.Call.{Call}
use Rattle.ft_model.specs.declared.reply.Reply.{Reply}
use Rattle.ft_model.specs.declared.content.Content.{Content}
use Rattle.ft_model.specs.declared.cursor.Cursor.{Cursor}
use Rattle.ft_model.specs.declared.entry.Entry.{Entry as NamedEntry}
use Rattle.ft_model.specs.Answers.{Answer, answer, moves, world_by, is_memory, is_write, is_raised}
use Rattle.ft_model.specs.Calls.{moved_cursor}
use Rattle.ft_model.specs.Histories.{IsReplied, EachAt, hands_by, after_stamped}
use Rattle.ft_model.specs.TableUses.{StoredWorld, stored_newest}
use Rattle.ft_model.specs.Worlds.{no_hands, cursor_at, start_hands}
use Rattle.ft_model.proofs.StoredLaws.{stored_world}
use Rattle.ft_trace.specs.declared.Act.{Act}
use Rattle.ft_trace.specs.declared.Act.TheVariants.{Commit, Answer as Answered, AnswerCursor}
use Rattle.ft_trace.specs.declared.Entry.{Entry}
use Rattle.ft_trace.specs.declared.Shape.{Shape}
use Rattle.ft_trace.specs.declared.View.{View}
use Rattle.ft_trace.specs.Hands.{cursor_in, MovesCursor, own_entries}
use Rattle.ft_trace.specs.OwnCursors.{plain_entry, AsksWithin, CursorsAreHands}
use Rattle.ft_trace.specs.ContainerStates.{first_writes}
use Rattle.ft_trace.specs.Traces.{Event, run, history, Valid}
use Rattle.ft_trace.proofs.Cases.{hit, miss}
use Rattle.ft_trace.proofs.Contents.{count, counted}
use Rattle.ft_trace.proofs.CursorAnswers.{moved_changes, moved_plain, moved_replied}
use Rattle.ft_trace.proofs.InOrder.{stored_in_order, take_front, get_last}
use Rattle.ft_trace.proofs.EarlierMoments.{was}
use Rattle.ft_trace.proofs.PlainAnswers.{plain_answer}
use Rattle.ft_trace.proofs.Spots.{stamp_then}
use Rattle.ft_trace.proofs.Stamps.{stays}

-- a write asks no cursor
writes_no_cursor : (c : Call) (said : Reply) → is_write c said ≡ true → moved_cursor c ≡ None
writes_no_cursor c said wrote = by (moved_cursor c) refl
  where
    by : (z : Option ℕ) → moved_cursor c ≡ z → moved_cursor c ≡ None
    by None e = e
    by (Some n) e = absurd (true≢false (sym wrote ∙ ap (λ (b : Bool). b && not (is_raised said)) (moved_changes c n e)))

same_if : {A : Type 0} (b : Bool) (x y : A) → x ≡ y → (if b then y else x) ≡ y
same_if true x y e = refl
same_if false x y e = e

if_false : {A : Type 0} (b : Bool) (x y : A) → b ≡ false → (if b then x else y) ≡ y
if_false true x y e = absurd (true≢false e)
if_false false x y e = refl

longer : {A : Type 0} (l : List A) (x y : A) (n : ℕ) → slice_get (l ++ x ∷ []) n ≡ Some y → (n ≢ length l) → slice_get l n ≡ Some y
longer [] x y zero is ne = absurd (ne refl)
longer [] x y (suc n) is ne = absurd (let none : None ≡ Some y = is in cc)
longer (z ∷ l) x y zero is ne = is
longer (z ∷ l) x y (suc n) is ne = longer l x y n is (λ e. ne (ap suc e))

inside : {A : Type 0} (l : List A) (y : A) (n : ℕ) → slice_get l n ≡ Some y → n < length l
inside [] y n is = absurd (let none : None ≡ Some y = is in cc)
inside (z ∷ l) y zero is = omega arith
inside (z ∷ l) y (suc n) is = let r = inside l y n is in omega (arith, r)

take_whole : {A : Type 0} (l m : List A) → take (length l) (l ++ m) ≡ l
take_whole [] [] = refl
take_whole [] (x ∷ m) = refl
take_whole (z ∷ l) m = ap (λ (r : List _). z ∷ r) (take_whole l m)

all_reverse : {A : Type 0} (P : A → Type 0) (l : List A) → All P l → All P (reverse l)
all_reverse P [] all = All-nil P
all_reverse P (x ∷ l) all = subst (All P) (sym (reverse-cons x l)) (All-push P (reverse l) x (all_reverse P l (All-tail P x l all)) (All-head P x l all))

some_is : {A : Type 0} (x y : A) → Some x ≡ Some y → x ≡ y
some_is x y e = cc

module _ (k : Shape) (es : List Event) (valid : Valid k es) (j : ℕ) (u : View) (at : get_elem? (run k es).views j ≡ some u) (room : ℕ) where
  abbrev calls : List Call
  calls = reverse (history es)

  abbrev hands_of : List NamedEntry → List (Option Cursor)
  hands_of mine = hands_by k.starts calls room mine

  abbrev world_at : ℕ → List Content
  world_at n = world_by k.starts (take n calls)

  -- the entry is right where these come before it
  abbrev RightAfter : List NamedEntry → NamedEntry → Type 0
  RightAfter before e = IsReplied e.call e.reply (answer (world_at e.stamp) (hands_of before) e.call).reply

  record Good (mine : List NamedEntry) (log : List Act) : Type 0 where
    pub size : length (hands_of mine) ≡ room
    pub same : (n : ℕ) → n < room → cursor_at (hands_of mine) n ≡ cursor_in n log
    pub each : EachAt mine (λ place e. RightAfter (take place mine) e)

  -- one entry more, and the cursors that the log has then
  record Next (before : List NamedEntry) (x : NamedEntry) (log : List Act) : Type 0 where
    pub size : length (after_stamped k.starts calls (hands_of before) x) ≡ room
    pub same : (n : ℕ) → n < room → cursor_at (after_stamped k.starts calls (hands_of before) x) n ≡ cursor_in n log
    pub right : RightAfter before x

  after_one : (before : List NamedEntry) (x : NamedEntry) → hands_of (before ++ x ∷ []) ≡ after_stamped k.starts calls (hands_of before) x
  after_one before x = fold-append (after_stamped k.starts calls) (start_hands room) before (x ∷ [])

  goes_on : (before : List NamedEntry) (x : NamedEntry) (l log : List Act) → Good before l → Next before x log → Good (before ++ x ∷ []) log
  goes_on before x l log g n = record {
    size = ap length (after_one before x) ∙ n.size;
    same = λ m low. ap (λ (hs : List (Option Cursor)). cursor_at hs m) (after_one before x) ∙ n.same m low;
    each = λ place e found.
        dite (ℕ_discrete place (length before))
        (λ (last : place ≡ length before).
        let same : x ≡ e = some_is x e (sym (get_last before x place last) ∙ found) in
        subst (λ (z : NamedEntry). RightAfter (take place (before ++ x ∷ [])) z) same
        (subst (λ (z : List NamedEntry). RightAfter z x) (sym (ap (λ (p : ℕ). take p (before ++ x ∷ [])) last ∙ take_whole before (x ∷ []))) n.right))
        (λ ne.
        let found' = longer before x e place found ne in
        let low = inside before e place found' in
        subst (λ (z : List NamedEntry). RightAfter z e) (sym (take_front before (x ∷ []) place (omega (arith, low)))) (g.each place e found'));
  }

  -- the world at a stamp, then and now
  world_then : (newer older : List Event) → newer ++ older ≡ es → Valid k older → (n : ℕ) → n ≤ count k older → (stored_newest k.starts (first_writes n (history older))).world ≡ world_at n
  world_then newer older split was_valid n low =
      let number = counted k older was_valid in
      let then_ : first_writes n (history es) ≡ first_writes n (history older) = subst (λ (z : List Event). first_writes n (history z) ≡ first_writes n (history older)) split (stays n newer older (omega (arith, low, number))) in
      ap (λ (cs : List Call). (stored_newest k.starts cs).world) (sym then_)
      ∙ (ap (λ (z : StoredWorld). z.world) (stored_in_order k.starts n (history es)) ∙ stored_world k.starts (take n calls))

  -- an entry that is no `iter` or `next`
  plain_next : (before : List NamedEntry) (x : NamedEntry) (l log : List Act) → Good before l → moved_cursor x.call ≡ None → ((n : ℕ) → cursor_in n log ≡ cursor_in n l) → IsReplied x.call x.reply (answer (world_at x.stamp) no_hands x.call).reply → Next before x log
  plain_next before x l log g none stay replied =
      let plain = plain_answer (hands_of before) (world_at x.stamp) x.call none in
      let left : (answer (world_at x.stamp) (hands_of before) x.call).hands ≡ hands_of before = ap (λ (z : Answer). z.hands) plain in
      let now : after_stamped k.starts calls (hands_of before) x ≡ hands_of before = same_if (is_memory x.reply) _ _ left in
      record {
        size = ap length now ∙ g.size;
        same = λ n low. ap (λ (hs : List (Option Cursor)). cursor_at hs n) now ∙ (g.same n low ∙ sym (stay n));
        right = subst (λ (z : Reply). IsReplied x.call x.reply z) (sym (ap (λ (z : Answer). z.reply) plain)) replied;
      }

  -- an `iter` or a `next`
  moved_next : (before : List NamedEntry) (x : NamedEntry) (l : List Act) (m : ℕ) (had : Option Cursor) (left : Cursor) → Good before l → m < room → moved_cursor x.call ≡ Some m → had ≡ cursor_in m l → MovesCursor (world_at x.stamp) x.call m had x.reply left
      → Next before x (AnswerCursor x.call x.reply x.stamp m had left ∷ l)
  moved_next before x l m had left g low moved had_is is =
      let hands = hands_of before in
      let ans : answer (world_at x.stamp) hands x.call ≡ moves (world_at x.stamp) hands m left x.reply = is hands (g.same m low ∙ sym had_is) in
      let plain = moved_plain (world_at x.stamp) x.call m moved had x.reply left is in
      let now : after_stamped k.starts calls hands x ≡ slice_set hands m (Some left) = if_false (is_memory x.reply) _ _ plain ∙ ap (λ (z : Answer). z.hands) ans in
      let size = g.size in
      record {
        size = ap length now ∙ (length-set hands m (Some left) ∙ g.size);
        same = λ n small.
            ap (λ (hs : List (Option Cursor)). cursor_at hs n) now
            ∙ dite (ℕ_discrete m n)
            (λ (e : m ≡ n). subst (λ (z : ℕ). cursor_at (slice_set hands m (Some left)) z ≡ cond (m == z) (Some left) (cursor_in z l)) e (get_or-set_same hands m (Some left) None (omega (arith, low, size)) ∙ sym (hit m (Some left) (cursor_in m l))))
            (λ ne. get_or-set_other hands m n (Some left) None (λ e. ne (sym e)) ∙ (g.same n small ∙ sym (miss m n (Some left) (cursor_in n l) ne)));
        right = moved_replied x.call m moved x.reply _ (sym (ap (λ (z : Answer). z.reply) ans));
      }

  -- of entries from the newest to the first, that are the own ones of the log
  abbrev Claim : List Act → Type 0
  Claim log = (mine : List NamedEntry) → map plain_entry mine ≡ own_entries log → All (AsksWithin room) mine → Good (reverse mine) log

  more : (l log : List Act) (x : NamedEntry) (mine : List NamedEntry) → Good (reverse mine) l → Next (reverse mine) x log → Good (reverse (x ∷ mine)) log
  more l log x mine g n = subst (λ (z : List NamedEntry). Good z log) (sym (reverse-cons x mine)) (goes_on (reverse mine) x l log g n)

  start_size : (n : ℕ) → length (start_hands n) ≡ n
  start_size zero = refl
  start_size (suc n) = ap suc (start_size n)

  start_none : (n m : ℕ) → cursor_at (start_hands n) m ≡ None
  start_none zero m = refl
  start_none (suc n) zero = refl
  start_none (suc n) (suc m) = start_none n m

  nothing : Claim []
  nothing [] is within = record { size = start_size room; same = λ n low. start_none room n; each = λ place e found. absurd (let none : None ≡ Some e = found in cc) }
  nothing (x ∷ mine) is within = absurd (cc)

  step : (newer : List Act) (a : Act) (l : List Act) → u.log ≡ newer ++ a ∷ l → Claim l → Claim (a ∷ l)
  step newer (Commit c r f s) l is before [] own within = absurd (cc)
  step newer (Commit c r f s) l is before (x ∷ mine) own within =
      let w = was k es valid j u at newer (Commit c r f s) l is in
      let e : plain_entry x ≡ record { call = c; reply = r; stamp = f; wrote = true } = cc in
      let rest : map plain_entry mine ≡ own_entries l = cc in
      let g = before mine rest (All-tail (AsksWithin room) x mine within) in
      let found : f ≡ count k w.older = w.tells in
      let then_ = (stamp_then k w.older es w.valid valid (record { newer = w.newer; is = w.split }) f found).1 in
      let world : (stored_newest k.starts (history w.older)).world ≡ world_at f = ap (λ (cs : List Call). (stored_newest k.starts cs).world) (sym then_) ∙ (ap (λ (z : StoredWorld). z.world) (stored_in_order k.starts f (history es)) ∙ stored_world k.starts (take f calls)) in
      let none : moved_cursor c ≡ None = writes_no_cursor c r (w.may tt).0 in
      let replied : IsReplied c r (answer (world_at f) no_hands c).reply = subst (λ (z : List Content). IsReplied c r (answer z no_hands c).reply) world (w.may tt).4 in
      more l (Commit c r f s ∷ l) x mine g
      (plain_next (reverse mine) x l (Commit c r f s ∷ l) g (ap (λ (z : Entry). moved_cursor z.call) e ∙ none) (λ n. refl)
      (subst (λ (z : Entry). IsReplied z.call z.reply (answer (world_at z.stamp) no_hands z.call).reply) (sym e) replied))
  step newer (Answered c r n) l is before [] own within = absurd (cc)
  step newer (Answered c r n) l is before (x ∷ mine) own within =
      let w = was k es valid j u at newer (Answered c r n) l is in
      let e : plain_entry x ≡ record { call = c; reply = r; stamp = n; wrote = false } = cc in
      let rest : map plain_entry mine ≡ own_entries l = cc in
      let g = before mine rest (All-tail (AsksWithin room) x mine within) in
      let replied : IsReplied c r (answer (world_at n) no_hands c).reply = subst (λ (z : List Content). IsReplied c r (answer z no_hands c).reply) (world_then w.newer w.older w.split w.valid n (w.may tt).1) (w.may tt).2 in
      more l (Answered c r n ∷ l) x mine g
      (plain_next (reverse mine) x l (Answered c r n ∷ l) g (ap (λ (z : Entry). moved_cursor z.call) e ∙ (w.may tt).6) (λ q. refl)
      (subst (λ (z : Entry). IsReplied z.call z.reply (answer (world_at z.stamp) no_hands z.call).reply) (sym e) replied))
  step newer (AnswerCursor c r n m had left) l is before [] own within = absurd (cc)
  step newer (AnswerCursor c r n m had left) l is before (x ∷ mine) own within =
      let w = was k es valid j u at newer (AnswerCursor c r n m had left) l is in
      let e : plain_entry x ≡ record { call = c; reply = r; stamp = n; wrote = false } = cc in
      let rest : map plain_entry mine ≡ own_entries l = cc in
      let g = before mine rest (All-tail (AsksWithin room) x mine within) in
      let moves_it : MovesCursor (world_at n) c m had r left = subst (λ (z : List Content). MovesCursor z c m had r left) (world_then w.newer w.older w.split w.valid n (w.may tt).1) (w.may tt).2 in
      let moved : moved_cursor x.call ≡ Some m = ap (λ (z : Entry). moved_cursor z.call) e ∙ (w.may tt).0 in
      let low : m < room = subst (λ (z : Option ℕ). IfSome z (λ q. q < room)) moved (All-head (AsksWithin room) x mine within) in
      let next = moved_next (reverse mine) x l m had left g low moved ((w.may tt).4 ∙ ap (cursor_in m) w.log)
      (subst (λ (z : Entry). MovesCursor (world_at z.stamp) z.call m had z.reply left) (sym e) moves_it) in
      more l (AnswerCursor c r n m had left ∷ l) x mine g
      (subst (λ (z : Entry). Next (reverse mine) x (AnswerCursor z.call z.reply z.stamp m had left ∷ l)) e next)
  step newer a l is before mine own within = let g = before mine own within in record { size = g.size; same = g.same; each = g.each }

  claimed : (newer rest : List Act) → u.log ≡ newer ++ rest → Claim rest
  claimed newer [] is = nothing
  claimed newer (a ∷ l) is = step newer a l is (claimed (newer ++ a ∷ []) l (is ∙ sym (append_assoc newer (a ∷ []) l)))

pub cursors_are_hands : CursorsAreHands
cursors_are_hands k es valid j u at room mine own within =
    let g = claimed k es valid j u at room [] u.log refl (reverse mine) own (all_reverse (AsksWithin room) mine within) in
    let back : reverse (reverse mine) ≡ mine = reverse-reverse mine in
    let good : Good k es valid j u at room mine u.log = subst (λ (z : List NamedEntry). Good k es valid j u at room z u.log) back g in
    (good.same, good.each)
