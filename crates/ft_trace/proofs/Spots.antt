-- Moments between two reads of roots that named t: t was current in one root all the while.
use Rattle.std.proofs.Common.{◌≡◌, ℕ, suc, ◌%◌, ◌<◌, ◌≤◌, true, List, [], ◌∷◌, ◌++◌, length, sym, ap, ◌∙◌, subst, arith, append_assoc}
use Rattle.std.specs.Prelude.{slice_index}
use mathlib.Core.Option.{some}
use lib.ListN.{get_elem?}
use Rattle.ft_trace.specs.declared.Shape.{Shape}
use Rattle.ft_trace.specs.declared.View.{View}
use Rattle.ft_trace.specs.declared.Act.{Act}
use Rattle.ft_trace.specs.declared.Act.TheVariants.{ReadRoot, ReadTable}
use Rattle.ft_trace.specs.Addresses.{IsTableName, class_of, size, container_count}
use Rattle.ft_trace.specs.Acts.{place, Reports, reads}
use Rattle.ft_trace.specs.Ages.{age, whose}
use Rattle.ft_trace.specs.LoggedLookUps.{Online, LookUpWindow}
use Rattle.ft_trace.specs.ContainerStates.{first_writes}
use Rattle.ft_trace.specs.Traces.{Event, run, word, history, Valid}
use Rattle.ft_trace.proofs.EarlierMoments.{was, still_reads, online_before, online_after, online_rest, Leaves}
use Rattle.ft_trace.proofs.Pieces.{table_at}
use Rattle.ft_trace.proofs.TablePlaces.{root, root_table, placed}
use Rattle.ft_trace.proofs.Contents.{count, counted, tab}
use Rattle.ft_trace.proofs.Stamps.{all_writes, stays, grows}
use Rattle.ft_trace.proofs.Ages.{within, ages_rise, whose_same}
use Rattle.ft_trace.proofs.Sounds.{LaterIn, laters}

-- older is an earlier moment
pub record Under (older es : List Event) : Type 0 where
  pub newer : List Event
  pub is : newer ++ older ≡ es

pub under_trans : (a b c : List Event) → Under a b → Under b c → Under a c
under_trans a b c p q = record { newer = q.newer ++ p.newer; is = append_assoc q.newer p.newer a ∙ (ap (λ (l : List Event). q.newer ++ l) p.is ∙ q.is) }

-- what the counter said then, and the world at that number now
pub stamp_then : (k : Shape) (older es : List Event) → Valid k older → Valid k es → Under older es → (n : ℕ) → n ≡ count k older → (n ≤ count k es) × (first_writes n (history es) ≡ history older)
stamp_then k older es was valid u n is =
    let m = length (history older) in
    let number : n ≡ m = is ∙ counted k older was in
    let a : m ≤ length (history es) = subst (λ (l : List Event). m ≤ length (history l)) u.is (grows u.newer older) in
    let all = counted k es valid in
    let one : first_writes m (history es) ≡ first_writes m (history older) = subst (λ (l : List Event). first_writes m (history l) ≡ first_writes m (history older)) u.is (stays m u.newer older (let z : m ≤ m = omega arith in z)) in
    (omega (arith, number, a, all), ap (λ (z : ℕ). first_writes z (history es)) number ∙ (one ∙ all_writes (history older)))

-- a moment at which t is current and the pass at seat j has this log
pub record Spot (k : Shape) (t j : ℕ) (start walk : List Act) : Type 0 where
  pub es : List Event
  pub valid : Valid k es
  pub view : View
  pub at : get_elem? (run k es).views j ≡ some view
  pub log : view.log ≡ walk ++ start
  pub online : Online walk
  pub now : age es t % 5 ≡ 2

-- the moment of an action before it
pub record Back (k : Shape) (t j : ℕ) (start : List Act) (es : List Event) (a : Act) (rest : List Act) : Type 0 where
  pub spot : Spot k t j start rest
  pub under : Under spot.es es
  pub same : age spot.es t ≡ age es t
  pub whom : whose spot.es t ≡ whose es t
  pub tells : Reports a (word k spot.es (place a))
  pub later : LaterIn k (whose es t) t (tab k spot.es t) (tab k es t)

unfoldable pub go : (k : Shape) (t j : ℕ) (start walk : List Act) → IsTableName k t → reads t start ≡ true → (s : Spot k t j start walk) → (xs : List Act) (a : Act) (rest : List Act) → walk ≡ xs ++ a ∷ rest → Back k t j start s.es a rest
go k t j start walk table read s xs a rest is =
    let log : s.view.log ≡ xs ++ a ∷ (rest ++ start) = s.log ∙ (ap (λ (l : List Act). l ++ start) is ∙ append_assoc xs (a ∷ rest) start) in
    let w = was k s.es s.valid j s.view s.at xs a (rest ++ start) log in
    let on : Online (xs ++ a ∷ rest) = subst Online is s.online in
    let on_rest : Online rest = online_rest a rest (online_after xs (a ∷ rest) on) in
    let on_xs : Online (xs ++ a ∷ []) = online_before (xs ++ a ∷ []) rest (subst Online (sym (append_assoc xs (a ∷ []) rest)) on) in
    let read_then : reads t (rest ++ start) ≡ true = still_reads t rest start on_rest read in
    let read_now : reads t s.view.log ≡ true = ap (reads t) s.log ∙ still_reads t walk start s.online read in
    let here = within k s.es s.valid t table j s.view s.at read_now in
    let there = within k w.older w.valid t table j w.view w.at (ap (reads t) w.log ∙ read_then) in
    let same_seen = w.seen on_xs t read_then in
    let up : age w.older t ≤ age s.es t = subst (λ (l : List Event). age w.older t ≤ age l t) w.split (ages_rise w.newer w.older t) in
    let two = s.now in
    let h0 = here.0 in let h1 = here.1 in let h2 = here.2 in let t1 = there.1 in
    let same : age w.older t ≡ age s.es t = omega (arith, same_seen, up, two, h0, h1, h2, t1) in
    let now : age w.older t % 5 ≡ 2 = ap (λ (z : ℕ). z % 5) same ∙ two in
    let same' : age (w.newer ++ w.older) t ≡ age w.older t = ap (λ (l : List Event). age l t) w.split ∙ sym same in
    let whom : whose w.older t ≡ whose s.es t = sym (whose_same w.newer w.older t same') ∙ ap (λ (l : List Event). whose l t) w.split in
    record {
      spot = record { es = w.older; valid = w.valid; view = w.view; at = w.at; log = w.log; online = on_rest; now = now };
      under = record { newer = w.newer; is = w.split };
      same = same;
      whom = whom;
      tells = w.tells;
      later = subst (λ (z : ℕ). LaterIn k z t (tab k w.older t) (tab k s.es t)) whom (subst (λ (l : List Event). LaterIn k (whose w.older t) t (tab k w.older t) (tab k l t)) w.split (laters k w.newer w.older (subst (Valid k) (sym w.split) s.valid) t table now same'));
    }

-- what each event since then leaves is as it was then
pub go_kept : (k : Shape) (t j : ℕ) (start walk : List Act) (table : IsTableName k t) (read : reads t start ≡ true) (s : Spot k t j start walk) (xs : List Act) (a : Act) (rest : List Act) (is : walk ≡ xs ++ a ∷ rest) (f : List Event → ℕ) → Leaves k f j (xs ++ a ∷ []) (rest ++ start) → f s.es ≡ f (go k t j start walk table read s xs a rest is).spot.es
unfolding go
go_kept k t j start walk table read s xs a rest is =
    let log : s.view.log ≡ xs ++ a ∷ (rest ++ start) = s.log ∙ (ap (λ (l : List Act). l ++ start) is ∙ append_assoc xs (a ∷ rest) start) in
    (was k s.es s.valid j s.view s.at xs a (rest ++ start) log).kept

-- the second read of the root
pub record Opened (k : Shape) (es : List Event) (o t j : ℕ) (start walk : List Act) : Type 0 where
  pub table : IsTableName k t
  pub spot : Spot k t j start walk
  pub whom : whose spot.es t ≡ o
  pub under : Under spot.es es

unfoldable pub open_window : (k : Shape) (es : List Event) → Valid k es → (j : ℕ) (u : View) → get_elem? (run k es).views j ≡ some u → (o t : ℕ) → o < container_count k → (walk : List Act) (w : LookUpWindow u.log o t walk) → Opened k es o t j w.rest walk
open_window k es valid j u at o t low walk win =
    let w = was k es valid j u at win.newer (ReadRoot o (suc t)) (walk ++ win.rest) win.is in
    let names : root k w.older o ≡ suc t = sym w.tells in
    let table = root_table k w.older w.valid o low t names in
    let p = (placed k w.older w.valid t table).roots o low names in
    record {
      table = table;
      spot = record { es = w.older; valid = w.valid; view = w.view; at = w.at; log = w.log; online = win.online; now = p.0 };
      whom = p.1;
      under = record { newer = w.newer; is = w.split };
    }

pub window_kept : (k : Shape) (es : List Event) (valid : Valid k es) (j : ℕ) (u : View) (at : get_elem? (run k es).views j ≡ some u) (o t : ℕ) (low : o < container_count k) (walk : List Act) (w : LookUpWindow u.log o t walk) (f : List Event → ℕ) → Leaves k f j (w.newer ++ ReadRoot o (suc t) ∷ []) (walk ++ w.rest) → f es ≡ f (open_window k es valid j u at o t low walk w).spot.es
unfolding open_window
window_kept k es valid j u at o t low walk win = (was k es valid j u at win.newer (ReadRoot o (suc t)) (walk ++ win.rest) win.is).kept

-- what whose current table is, names it
pub named_by : (k : Shape) (es : List Event) → Valid k es → (o t : ℕ) → IsTableName k t → age es t % 5 ≡ 2 → whose es t ≡ o → root k es o ≡ suc t
named_by k es valid o t table two whom = ap (root k es) (sym whom) ∙ ((placed k es valid t table).current two).1

-- at each moment between the two reads the root of o named t
pub root_again : (k : Shape) (es : List Event) → Valid k es → (j : ℕ) (u : View) → get_elem? (run k es).views j ≡ some u → (o t : ℕ) → o < container_count k → (walk : List Act) → LookUpWindow u.log o t walk → (xs : List Act) (a : Act) (rest : List Act) → walk ≡ xs ++ a ∷ rest
    → (older : List Event) × Under older es × Valid k older × (Reports a (word k older (place a))) × (root k older o ≡ suc t)
root_again k es valid j u at o t low walk win xs a rest is =
    let s = open_window k es valid j u at o t low walk win in
    let b = go k t j win.rest walk s.table win.before s.spot xs a rest is in
    (b.spot.es, under_trans b.spot.es s.spot.es es b.under s.under, b.spot.valid, b.tells, named_by k b.spot.es b.spot.valid o t s.table b.spot.now (b.whom ∙ s.whom))

-- what a read of the table found
pub found : (k : Shape) (t j i f : ℕ) (start rest : List Act) (es : List Event) → i < size (class_of t) → (b : Back k t j start es (ReadTable t i f) rest) → f ≡ slice_index (tab k b.spot.es t) i
found k t j i f start rest es small b = b.tells ∙ sym (table_at k t (run k b.spot.es).words i small)
