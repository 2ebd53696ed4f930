-- While a version is even the words of its container, read through boxes, stand for the history.
use Rattle.std.proofs.Common.{◌≡◌, ℕ, None, zero, suc, ◌%◌, ◌<◌, true, List, [], ◌∷◌, refl, sym, ap, ◌∙◌, subst, arith}
use mathlib.Core.Logic.{dite}
use native.Mathlib.Decide.{ℕ_discrete}
use Rattle.std.specs.Prelude.{replicate, map, slice_index_or}
use Rattle.ft_model.specs.declared.script.Kind.{Kind}
use Rattle.ft_model.specs.declared.script.Kind.TheVariants as kind
use Rattle.ft_model.specs.declared.script.Start.{Start}
use Rattle.ft_model.specs.Worlds.{start_as, empty_content}
use Rattle.ft_model.specs.TableUses.{no_table, start_table}
use Rattle.ft_trace.specs.declared.Shape.{Shape}
use Rattle.ft_trace.specs.declared.View.{View}
use Rattle.ft_trace.specs.declared.Act.{Act}
use Rattle.ft_trace.specs.declared.Act.TheVariants.{StartWrite, StopWrite}
use Rattle.ft_trace.specs.Addresses.{block, container_count}
use Rattle.ft_trace.specs.Acts.{is_writing, view_after}
use Rattle.ft_trace.specs.ContainerStates.{ContainerState, container_after, kind_in}
use Rattle.ft_trace.specs.Pictures.{inner, ContainerWords, picture, Represents}
use Rattle.ft_trace.specs.Unboxed.{box_word_in, unboxed, unboxed_picture}
use Rattle.ft_trace.specs.Traces.{Event, did, forked, joined, sent, run, word, writes_of, history, StandsFor, Fits, Valid}
use Rattle.ft_trace.proofs.LandedStarts.{starts_unsplit}
use Rattle.ft_trace.proofs.Sizes.{set_at}
use Rattle.ft_trace.proofs.Cases.{hit, off}
use Rattle.ft_trace.proofs.Addresses.{block_first}
use Rattle.ft_trace.proofs.OneWord.{stays}
use Rattle.ft_trace.proofs.Pieces.{block_zero}
use Rattle.ft_trace.proofs.OddVersions.{version, versioned, on_seq}
use Rattle.ft_trace.proofs.Contents.{Of, still_of, still, Still}
use Rattle.ft_trace.proofs.Unboxed.{read_stays}

-- where all words are 0 the content is empty
pub empty_stands : (texts : List ℕ) (kind : Kind) → Represents texts (record { block = replicate 6 0; table = [] }) (record { content = empty_content kind; table = no_table })
empty_stands texts kind.Dict = record { head = record { size = refl; root = refl; count_is = refl; fill_is = refl; next_is = refl; spare = (refl, refl) }; used = []; table = refl; filled = refl; entries = record { live = refl; below = λ i _ none. absurd (omega arith) } }
empty_stands texts kind.Set = record { head = record { size = refl; root = refl; count_is = refl; fill_is = refl; next_is = refl; spare = (refl, refl) }; used = []; table = refl; filled = refl; entries = record { live = refl; below = λ i _ none. absurd (omega arith) } }
empty_stands texts kind.List = (record { head = record { size = refl; root = refl; count_is = refl; fill_is = refl; next_is = refl; spare = (refl, refl) }; table = refl }, refl)
empty_stands texts (kind.Deque bound) = (refl, refl, refl)

mapped : {A B : Type 0} (f : A → B) (l : List A) (i : ℕ) (d : A) → slice_index_or (map f l) i (f d) ≡ f (slice_index_or l i d)
mapped f [] i d = refl
mapped f (x ∷ xs) zero d = refl
mapped f (x ∷ xs) (suc i) d = mapped f xs i d

pub opened_kept : (k : Shape) → Fits k → (o : ℕ) → container_after k.starts [] o ≡ record { content = empty_content (kind_in k.starts o); table = no_table }
opened_kept k fits o =
    let c = mapped (λ (start : Start). empty_content start.kind) k.starts o (start_as kind.List) in
    let t = mapped start_table k.starts o (start_as kind.List) in
    let none = starts_unsplit k fits o in
    λ d. record { content = c d; table = (t ∙ (λ e. record { class = None; fill = 0; keys = none e })) d }

-- a step that leaves the words of a container and its content
stays_for : (k : Shape) (es : List Event) (id : ℕ) (v : View) (a : Act) → Valid k (did id v a ∷ es) → (o : ℕ) → o < container_count k → Still k es (did id v a ∷ es) o → StandsFor k (run k es) (history es) o → StandsFor k (run k (did id v a ∷ es)) (history (did id v a ∷ es)) o
stays_for k es id v a valid o low same old =
    let read = read_stays k es id v a valid o low same.picture in
    let content = same.content in
    subst (λ (z : ContainerWords × ContainerState). Represents k.texts z.0 z.1) (λ i. (sym read i, sym content i)) old

-- the words of o stand for what the history makes of it
pub stands : (k : Shape) (es : List Event) → Valid k es → (o : ℕ) → o < container_count k → version k es o % 2 ≡ 0 → StandsFor k (run k es) (history es) o
stands k [] valid o low even =
    let zeros : (i : ℕ) → i < 6 → word k [] (block o i) ≡ 0 = λ i small. block_first k o i low small in
    let r = zeros 0 (omega arith) in
    let b = block_zero k o (run k []).words zeros in
    let none : ContainerWords = record { block = replicate 6 0; table = [] } in
    let p : picture k o (run k []).words ≡ none = λ d. record { block = b d; table = inner k (r d) (run k []).words } in
    let q : unboxed_picture k o (run k []).words ≡ none = ap (unboxed (box_word_in k (run k []).words) (kind_in k.starts o)) p in
    subst (λ (z : ContainerWords × ContainerState). Represents k.texts z.0 z.1) (λ i. (sym q i, sym (opened_kept k valid o) i)) (empty_stands k.texts (kind_in k.starts o))
stands k (did id v a ∷ es) valid o low even =
    dite (ℕ_discrete (version k es o % 2) 0)
    (λ (was : version k es o % 2 ≡ 0). stays_for k es id v a valid o low (still k es (did id v a) valid o low was) (stands k es valid.0 o low was))
    (λ (odd : version k es o % 2 ≡ 0 → ⊥).
    let F : Act → Type 0 = λ b. Valid k (did id v b ∷ es) → version k (did id v b ∷ es) o % 2 ≡ 0 → StandsFor k (run k (did id v b ∷ es)) (writes_of b (history es)) o in
    on_seq k es id v o low F
    (λ f ok now. off (sym ((versioned k (did id v (StartWrite o f) ∷ es) ok o low).idle now id (view_after (StartWrite o f) v) (set_at (run k es).views id v (view_after (StartWrite o f) v) ok.1.0)) ∙ hit o true (is_writing o v.log)))
    (λ f ok now.
    let same = still_of k es (did id v (StopWrite o f) ∷ es) ok.0 o low (λ x in_it of. stays k es id v (StopWrite o f) ok.1.3 x in_it (λ e. subst (Of k es o) (sym e) of)) refl in
    stays_for k es id v (StopWrite o f) ok o low same ok.1.3.3)
    (λ b _ same ok now. absurd (odd (ap (λ (n : ℕ). n % 2) (sym (same ok.1.3)) ∙ now)))
    a valid even)
stands k (forked id v ∷ es) valid o low even = stands k es valid.0 o low even
stands k (sent id v given ∷ es) valid o low even = stands k es valid.0 o low even
stands k (joined id v other w ∷ es) valid o low even = stands k es valid.0 o low even
