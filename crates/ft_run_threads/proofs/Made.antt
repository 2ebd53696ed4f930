-- A thread has each cursor that a call of its own made or moved.
use Rattle.std.proofs.Common.{◌≡◌, ℕ, zero, suc, Bool, true, false, true≢false, List, [], ◌∷◌, ◌++◌, refl, sym, ap, ◌∙◌, append_assoc, None, Some, ◌==◌}
use Rattle.std.specs.Prelude.{◌&&◌, Option, cond, is_some, not, slice_get}
use Rattle.std.proofs.Math.Bool.{Bool-set}
use Rattle.std.proofs.Math.Logic.{∥∥₁_elim}
use Rattle.std.proofs.lemmas.Bool.{eq-eqb}
use mathlib.Core.Option.{some}
use lib.ListN.{get_elem?}
use Rattle.ft_model.specs.declared.call.Call.{Call}
use Rattle.ft_model.specs.declared.cursor.Cursor.{Cursor}
use Rattle.ft_model.specs.declared.reply.Reply.{Reply}
use Rattle.ft_model.specs.Answers.{is_raised, is_write}
use Rattle.ft_model.specs.Calls.{moved_cursor}
use Rattle.ft_trace.specs.declared.Act.{Act}
use Rattle.ft_trace.specs.declared.Act.TheVariants.{Commit, Answer, AnswerCursor}
use Rattle.ft_trace.specs.declared.Entry.{Entry}
use Rattle.ft_trace.specs.declared.Shape.{Shape}
use Rattle.ft_trace.specs.declared.View.{View}
use Rattle.ft_trace.specs.Hands.{cursor_in, own_entries}
use Rattle.ft_trace.specs.Acts.{both, entries_next, made, maker, note, view_after, sender, spent, starter}
use Rattle.ft_trace.specs.Traces.{Event, IsReachable, Valid, did, forked, joined, run, sent}
use Rattle.ft_trace.proofs.EarlierMoments.{was}
use Rattle.ft_trace.proofs.CursorAnswers.{moved_changes}
use Rattle.ft_trace.proofs.Sizes.{one_more, one_view, set_views}

-- a write asks no cursor
writes_no_cursor : (c : Call) (said : Reply) → is_write c said ≡ true → moved_cursor c ≡ None
writes_no_cursor c said wrote = by (moved_cursor c) refl
  where
    by : (z : Option ℕ) → moved_cursor c ≡ z → moved_cursor c ≡ None
    by None e = e
    by (Some n) e = absurd (true≢false (sym wrote ∙ ap (λ (b : Bool). b && not (is_raised said)) (moved_changes c n e)))

-- a view's own entries are those of its log
abbrev OfLog : ℕ → View → Type 0
OfLog j u = u.entries ≡ own_entries u.log

of_log : (k : Shape) (es : List Event) → Valid k es → (j : ℕ) (u : View) → get_elem? (run k es).views j ≡ some u → OfLog j u
of_log k [] valid = one_view OfLog (starter k) refl
of_log k (did id v a ∷ es) valid = let old = of_log k es valid.0 in set_views OfLog _ id (view_after a v) (ap (entries_next a) (old id v valid.1.0)) (λ j u _ e. old j u e)
of_log k (forked id v ∷ es) valid = let old = of_log k es valid.0 in one_more OfLog _ (made v) refl (set_views OfLog _ id (maker v) (old id v valid.1.0) (λ j u _ e. old j u e))
of_log k (sent id v given ∷ es) valid = let old = of_log k es valid.0 in one_more OfLog _ (note given v) refl (set_views OfLog _ id (sender given v) (old id v valid.1.0) (λ j u _ e. old j u e))
of_log k (joined id v other w ∷ es) valid = let old = of_log k es valid.0 in set_views OfLog _ other spent refl (λ j u _. set_views OfLog _ id (both v w) (old id v valid.1.0) (λ j u _ e. old j u e) j u)

-- the cursor under this number is there
abbrev IsThere : ℕ → List Act → Type 0
IsThere n log = is_some (cursor_in n log) ≡ true

some_either : (b : Bool) (left : Cursor) (old : Option Cursor) → is_some old ≡ true → is_some (cond b (Some left) old) ≡ true
some_either true left old is = refl
some_either false left old is = is

module _ (k : Shape) (es : List Event) (valid : Valid k es) (j : ℕ) (u : View) (at : get_elem? (run k es).views j ≡ some u) (n : ℕ) where
  abbrev Claim : List Act → Type 0
  Claim log = (place : ℕ) (e : Entry) → slice_get (own_entries log) place ≡ Some e → moved_cursor e.call ≡ Some n → IsThere n log

  step : (newer : List Act) (a : Act) (l : List Act) → u.log ≡ newer ++ a ∷ l → Claim l → Claim (a ∷ l)
  step newer (Commit c r f s) l is before zero e found moved =
      let w = was k es valid j u at newer (Commit c r f s) l is in
      let same : record { call = c; reply = r; stamp = f; wrote = true } ≡ e = let x : Some (record { call = c; reply = r; stamp = f; wrote = true }) ≡ Some e = found in cc in
      let none : moved_cursor c ≡ None = writes_no_cursor c r (w.may tt).0 in
      absurd (let x : None ≡ Some n = sym none ∙ (ap (λ (z : Entry). moved_cursor z.call) same ∙ moved) in cc)
  step newer (Commit c r f s) l is before (suc place) e found moved = before place e found moved
  step newer (Answer c r m) l is before zero e found moved =
      let w = was k es valid j u at newer (Answer c r m) l is in
      let same : record { call = c; reply = r; stamp = m; wrote = false } ≡ e = let x : Some (record { call = c; reply = r; stamp = m; wrote = false }) ≡ Some e = found in cc in
      absurd (let x : None ≡ Some n = sym (w.may tt).6 ∙ (ap (λ (z : Entry). moved_cursor z.call) same ∙ moved) in cc)
  step newer (Answer c r m) l is before (suc place) e found moved = before place e found moved
  step newer (AnswerCursor c r m number had left) l is before zero e found moved =
      let w = was k es valid j u at newer (AnswerCursor c r m number had left) l is in
      let same : record { call = c; reply = r; stamp = m; wrote = false } ≡ e = let x : Some (record { call = c; reply = r; stamp = m; wrote = false }) ≡ Some e = found in cc in
      let hit : number ≡ n = let x : Some number ≡ Some n = sym (w.may tt).0 ∙ (ap (λ (z : Entry). moved_cursor z.call) same ∙ moved) in cc in
      ap (λ (b : Bool). is_some (cond b (Some left) (cursor_in n l))) (eq-eqb number n hit)
  step newer (AnswerCursor c r m number had left) l is before (suc place) e found moved = some_either (number == n) left (cursor_in n l) (before place e found moved)
  step newer a l is before place e found moved = before place e found moved

  claimed : (newer rest : List Act) → u.log ≡ newer ++ rest → Claim rest
  claimed newer [] is = λ place e found moved. absurd (let none : None ≡ Some e = found in cc)
  claimed newer (a ∷ l) is = step newer a l is (claimed (newer ++ a ∷ []) l (is ∙ sym (append_assoc newer (a ∷ []) l)))

pub cursor_there : (v : View) → ∥ IsReachable v ∥₁ → (n place : ℕ) (e : Entry) → slice_get v.entries place ≡ Some e → moved_cursor e.call ≡ Some n → is_some (cursor_in n v.log) ≡ true
cursor_there v possible n place e found moved =
    ∥∥₁_elim {P = is_some (cursor_in n v.log) ≡ true} possible (Bool-set _ _)
    (λ (x : IsReachable v).
    let own = of_log v.shape x.0 x.2.0 x.1 v x.2.1 in
    claimed v.shape x.0 x.2.0 x.1 v x.2.1 n [] v.log refl place e (ap (λ (es : List Entry). slice_get es place) (sym own) ∙ found) moved)
