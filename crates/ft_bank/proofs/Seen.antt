-- What a load of the counter shows of what a pass has learnt, and what a note leaves of it.
use Rattle.std.proofs.Common.{◌≡◌, ℕ, suc, ◌+◌, ◌-◌, ◌<◌, ◌≤◌, eqb, Bool, true, false, cond, length, List, [], ◌∷◌, ◌++◌, refl, ap, ◌∙◌, arith, inl, le_trans, le_refl, append_assoc, append-nil}
use Rattle.std.specs.Prelude.{max, slice_get}
use Rattle.std.proofs.Math.Bridge.{le_prop}
use Rattle.std.proofs.Math.Nat.{le-max_left, le-max_right, max-zero, max-le}
use Rattle.std.proofs.Math.Logic.{∥∥₁_elim}
use Rattle.ft_trace.specs.declared.Told.{Told}
use Rattle.ft_trace.specs.declared.View.{View}
use Rattle.ft_trace.specs.declared.Act.{Act}
use Rattle.ft_trace.specs.declared.Act.TheVariants.{ReadCounter, Commit, Answer, TookOver}
use Rattle.ft_trace.specs.declared.Snap.{Snap}
use Rattle.ft_trace.specs.LoggedReads.{Among}
use Rattle.ft_model.specs.declared.call.Call.{Call}
use Rattle.ft_model.specs.declared.reply.Reply.{Reply}
use Rattle.ft_trace.specs.Acts.{view_after, both, sender, note, shown, seen_writes, own_told, told_in, floor_known, floor_words, presence_of}
use Rattle.ft_trace.specs.Causes.{IsToldOf}
use Rattle.ft_trace.specs.Traces.{IsReachable, IsFree}
use Rattle.ft_trace.proofs.Cases.{miss}
use Rattle.ft_trace.proofs.Seeing.{shown_up, seen_is_low, loads_see_all}
use Rattle.ft_bank.specs.LastLoads.{IsLastLoad}
use Rattle.ft_bank.specs.Slips.{slip}
use Rattle.ft_bank.specs.Notes.{knowing}
use Rattle.ft_bank.specs.Rules.{Acted}
use Rattle.ft_bank.proofs.Allowed.{same_settled}
use Rattle.ft_bank.proofs.DoneBoxes.{done_at_first, merged_at_first}

-- a load of the counter gives what the pass has seen, at least
pub load_sees : (v : View) (n : ℕ) → Acted v (ReadCounter n) → seen_writes v ≤ n
load_sees v n d = (seen_is_low v.shape d.0 d.2.0).1 d.1 n v d.2

-- and so does a commit
pub commit_sees : (v : View) (c : Call) (r : Reply) (n : ℕ) (s : Snap) → Acted v (Commit c r n s) → seen_writes v ≤ n
commit_sees v c r n s d = (seen_is_low v.shape d.0 d.2.0).2 d.1 n v c r s d.2

-- so the log shows what it has learnt
pub load_settles : (v : View) (n : ℕ) (w : View) → w ≡ view_after (ReadCounter n) v → Acted v (ReadCounter n) → w.learnt ≤ shown w.log
load_settles v n w same d = same_settled w (view_after (ReadCounter n) v) same (le_trans (le_trans (le-max_left v.learnt (shown v.log)) (load_sees v n d)) (le-max_right (shown v.log) n))

add_none : (n : ℕ) → n + 0 ≡ n
add_none n = omega arith

-- what a pass knows that has learnt a note and loaded the counter
pub knowing_is : (n m : ℕ) (told : List Told) (v : View) → view_after (ReadCounter m) (both v (slip n told)) ≡ view_after (ReadCounter m) (knowing n told v)
knowing_is n m told v = λ i. record {
  number = v.number;
  next = v.next;
  parts = add_none v.parts i;
  left = add_none v.left i;
  shape = v.shape;
  log = ReadCounter m ∷ (TookOver [] [] [] (append-nil told i) ∷ v.log);
  entries = v.entries;
  lists = append-nil v.lists i;
  tokens = add_none v.tokens i;
  learnt = max v.learnt (max-zero n i);
  has_floor = v.has_floor;
  floor = [];
  told = v.told;
}

less_none : (n : ℕ) → n - 0 ≡ n
less_none n = omega arith

-- who gives no tokens keeps what it knows
pub sender_is : (v : View) → sender 0 v ≡ v
sender_is v = ap (λ (n : ℕ). record v { tokens = n }) (less_none v.tokens)

-- a note with no tokens
pub note_is : (v : View) → 0 < v.tokens → note 0 v ≡ slip (seen_writes v) (own_told v)
note_is v token = ap (λ (l : List ℕ). record (slip (seen_writes v) (own_told v)) { floor = l }) (miss 0 v.tokens (floor_known v) [] (λ e. omega (arith, e, token)))

-- and one of a pass that has none, and so not the floor
pub resting_note_is : (v : View) → v.has_floor ≡ false → v.floor ≡ [] → note 0 v ≡ slip (seen_writes v) (own_told v)
resting_note_is v floorless wordless =
    ap (λ (l : List ℕ). record (slip (seen_writes v) (own_told v)) { floor = l }) (none (eqb 0 v.tokens))
  where
    none : (b : Bool) → cond b (floor_known v) [] ≡ []
    none true = ap (λ (has : Bool). cond has (floor_words v.shape v.number v.log) v.floor) floorless ∙ wordless
    none false = refl

-- what the maker of a note tells
pub tells_of : (v : View) (told : List Told) (thread index : ℕ) → told ≡ own_told v → v.number ≡ suc thread → index ≤ length v.entries
    → (one : Told) × (told ≡ one ∷ []) × (one.pass ≡ suc thread) × (index ≤ length one.entries)
tells_of v told thread index is number many =
    (record { pass = v.number; seen = seen_writes v; entries = v.entries; presence = presence_of v.log }, is ∙ miss v.number 0 [] (record { pass = v.number; seen = seen_writes v; entries = v.entries; presence = presence_of v.log } ∷ []) (λ e. omega (arith, e, number)), number, many)

-- who learns it was told of that entry
pub told_learnt : (n : ℕ) (told : List Told) (v : View) (thread index : ℕ) → ((one : Told) × (told ≡ one ∷ []) × (one.pass ≡ suc thread) × (index ≤ length one.entries)) → 1 ≤ index → IsToldOf (told_in (knowing n told v).log) thread index
told_learnt n told v thread index tells some_ = record {
  place = 0;
  one = tells.0;
  at = ap (λ (l : List Told). slice_get (l ++ told_in v.log) 0) tells.1;
  pass = tells.2;
  some = some_;
  many = tells.3;
}

-- a later log shows no fewer writes
pub seen_rises : (newer rest : List Act) → shown rest ≤ shown (newer ++ rest)
seen_rises [] rest = le_refl (shown rest)
seen_rises (a ∷ newer) rest = le_trans (seen_rises newer rest) (shown_up a (newer ++ rest))

-- each load of the counter gave at least what the log showed before it
pub stamp_seen : (v : View) → ∥ IsReachable v ∥₁ → (newer rest : List Act) (n : ℕ) → v.log ≡ newer ++ ReadCounter n ∷ rest → shown rest ≤ n
stamp_seen v possible newer rest n is = ∥∥₁_elim possible le_prop (λ p. loads_see_all v.shape p.0 p.2.0 p.1 v p.2.1 newer rest n is)

-- so does a load among the last actions, of what the pass had seen before them
pub among_seen : (v w : View) (part : List Act) (n : ℕ) → w.log ≡ part ++ v.log → Among (ReadCounter n) part → v.learnt ≤ shown v.log → ∥ IsReachable w ∥₁ → seen_writes v ≤ n
among_seen v w part n own among settled possible =
    let is : w.log ≡ among.newer ++ ReadCounter n ∷ (among.rest ++ v.log) = own ∙ (ap (λ (l : List Act). l ++ v.log) among.is ∙ append_assoc among.newer (ReadCounter n ∷ among.rest) v.log) in
    max-le (le_trans settled (le_trans (seen_rises among.rest v.log) (stamp_seen w possible among.newer (among.rest ++ v.log) n is))) (le_trans (seen_rises among.rest v.log) (stamp_seen w possible among.newer (among.rest ++ v.log) n is))

-- an entry with such a stamp
pub answered_seen : (v w z : View) (called : Call) (said : Reply) (part : List Act) (n : ℕ) → w.log ≡ part ++ v.log → IsLastLoad n part → z ≡ view_after (Answer called said n) w → v.learnt ≤ shown v.log → ∥ IsReachable z ∥₁ → seen_writes v ≤ n
answered_seen v w z called said part n own last is settled possible =
    among_seen v z (Answer called said n ∷ part) n (ap (λ (u : View). u.log) is ∙ ap (λ (l : List Act). Answer called said n ∷ l) own)
    (record { newer = Answer called said n ∷ last.newer; rest = last.rest; is = ap (λ (l : List Act). Answer called said n ∷ l) last.is }) settled possible

-- a note has no lock and no table
pub slip_free : (n : ℕ) (told : List Told) → IsFree (slip n told)
slip_free n told = ((λ o. refl), (λ t. inl refl), refl, refl, refl, refl, done_at_first, merged_at_first)

-- what was taken in counts
pub taken_in : (v w : View) → w.learnt ≤ (both v w).learnt
taken_in v w = le_trans (le-max_left w.learnt (shown w.log)) (le-max_right v.learnt (seen_writes w))
