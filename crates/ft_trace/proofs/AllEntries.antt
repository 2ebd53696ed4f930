-- The entries of the passes that a view stands for.
use Rattle.std.proofs.Common.{◌≡◌, ℕ, List, [], ◌∷◌, ◌++◌, refl, sym, ap, ◌∙◌, append_assoc}
use Rattle.std.specs.List.{flat_map}
use Rattle.std.proofs.lemmas.Grind.{flat_map-append}
use mathlib.Core.Option.{some}
use mathlib.Core.Logic.{dite}
use native.Mathlib.Decide.{ℕ_discrete}
use lib.ListN.{get_elem?}
use Rattle.ft_trace.specs.declared.Shape.{Shape}
use Rattle.ft_trace.specs.declared.View.{View}
use Rattle.ft_trace.specs.declared.Act.{Act}
use Rattle.ft_trace.specs.declared.Act.TheVariants.{Commit, Answer, AnswerCursor}
use Rattle.ft_trace.specs.declared.Entry.{Entry}
use Rattle.ft_trace.specs.Acts.{entries_next, starter, view_after, maker, made, both, spent, sender, note, all_lists, all_entries, lists_of}
use Rattle.ft_trace.specs.Traces.{Event, did, forked, joined, sent, run, Valid}
use Rattle.ft_trace.proofs.Cases.{here, miss}
use Rattle.ft_trace.proofs.Sizes.{set_views, one_more, one_view}

pub next_all : (a : Act) (xs rest : List Entry) → entries_next a (xs ++ rest) ≡ entries_next a xs ++ rest
next_all (Commit c r f s) xs rest = refl
next_all (Answer c r n) xs rest = refl
next_all (AnswerCursor c r n m had left) xs rest = refl
next_all act xs rest = refl

-- a note has no entries
pub record HasNone (u : View) : Type 0 where
  pub entries : u.number ≡ 0 → u.entries ≡ []
  pub lists : u.number ≡ 0 → u.lists ≡ []

pub has_none : (k : Shape) (es : List Event) → Valid k es → (j : ℕ) (u : View) → get_elem? (run k es).views j ≡ some u → HasNone u
has_none k [] valid = one_view (λ j u. HasNone u) (starter k) (record { entries = λ _. refl; lists = λ _. refl })
has_none k (did id v a ∷ es) valid =
    set_views (λ j u. HasNone u) _ id (view_after a v) (record { entries = λ e. absurd (valid.1.1 e); lists = λ e. absurd (valid.1.1 e) }) (λ j u _ e. has_none k es valid.0 j u e)
has_none k (forked id v ∷ es) valid =
    one_more (λ j u. HasNone u) _ (made v) (record { entries = λ _. refl; lists = λ _. refl })
    (set_views (λ j u. HasNone u) _ id (maker v) (record { entries = λ e. absurd (valid.1.1 e); lists = λ e. absurd (valid.1.1 e) }) (λ j u _ e. has_none k es valid.0 j u e))
has_none k (sent id v given ∷ es) valid =
    one_more (λ j u. HasNone u) _ (note given v) (record { entries = λ _. refl; lists = λ _. refl })
    (set_views (λ j u. HasNone u) _ id (sender given v) (record { entries = λ e. absurd (valid.1.1 e); lists = λ e. absurd (valid.1.1 e) }) (λ j u _ e. has_none k es valid.0 j u e))
has_none k (joined id v other w ∷ es) valid =
    set_views (λ j u. HasNone u) _ other spent (record { entries = λ _. refl; lists = λ _. refl })
    (λ j u _. set_views (λ j u. HasNone u) _ id (both v w) (record { entries = λ e. absurd (valid.1.3 e); lists = λ e. absurd (valid.1.3 e) }) (λ j u _ e. has_none k es valid.0 j u e) j u)

-- what one gives to another
given_all : (w : View) → (w.number ≡ 0 → w.entries ≡ []) → flat_map (λ (l : List Entry). l) (lists_of w) ≡ all_entries w
given_all w none =
    dite (ℕ_discrete w.number 0)
    (λ (e : w.number ≡ 0).
    ap (flat_map (λ (l : List Entry). l)) (here w.number 0 w.lists (all_lists w) e)
    ∙ sym (ap (λ (l : List Entry). l ++ flat_map (λ (m : List Entry). m) w.lists) (none e)))
    (λ ne. ap (flat_map (λ (l : List Entry). l)) (miss w.number 0 w.lists (all_lists w) ne))

pub both_all : (v w : View) → (w.number ≡ 0 → w.entries ≡ []) → all_entries (both v w) ≡ all_entries v ++ all_entries w
both_all v w none =
    let flat : List (List Entry) → List Entry = flat_map (λ (l : List Entry). l) in
    ap (λ (l : List Entry). v.entries ++ l) (flat_map-append (λ (l : List Entry). l) v.lists (lists_of w) ∙ ap (λ (l : List Entry). flat v.lists ++ l) (given_all w none))
    ∙ sym (append_assoc v.entries (flat v.lists) (all_entries w))
