-- What loads, puts and whole writes leave of what a pass knows, for whoever makes them.
use Rattle.std.proofs.Common.{◌≡◌, ◌≢◌, ℕ, ◌+◌, ◌<◌, ◌≤◌, le_refl, le_trans, Bool, true, false, cond, List, ◌∷◌, refl, sym, ap, ◌∙◌, subst, arith, inr}
use Rattle.std.specs.Prelude.{◌==◌, max}
use Rattle.std.proofs.Math.Nat.{le-max_right}
use mathlib.Core.Logic.{dite}
use native.Mathlib.Decide.{ℕ_discrete}
use Rattle.ft_model.specs.declared.call.Call.{Call}
use Rattle.ft_model.specs.declared.reply.Reply.{Reply}
use Rattle.ft_trace.specs.declared.Act.{Act}
use Rattle.ft_trace.specs.declared.Act.TheVariants.{StartWrite, PutBlock, PutTable, PutFresh, Commit, StopWrite, Version, ReadBlock, ReadRoot, ReadTable, ReadCounter}
use Rattle.ft_trace.specs.declared.Snap.{Snap}
use Rattle.ft_trace.specs.declared.Shape.{Shape}
use Rattle.ft_trace.specs.declared.View.{View}
use Rattle.ft_trace.specs.Addresses.{container_count}
use Rattle.ft_trace.specs.Acts.{is_writing, stage, debt, mem, view_after, shown, seen_writes, presence_after_entry}
use Rattle.ft_trace.specs.Boxes.{place_use, references_held}
use Rattle.ft_trace.specs.ContainerStates.{container_after, changes, kind_in, kinds_in}
use Rattle.ft_trace.specs.Pictures.{picture, root_in, Represents}
use Rattle.ft_trace.specs.Holds.{held_words, held_unboxed, known_state}
use Rattle.ft_bank.specs.WriteSteps.{Committed, KeepsUnwritten}
use Rattle.ft_trace.proofs.Cases.{hit, miss}
use Rattle.ft_trace.proofs.Owning.{owners_then}
use Rattle.ft_trace.proofs.Seeing.{seen_up}
use Rattle.ft_trace.proofs.Untouched.{untouched_in}
use Rattle.ft_trace.proofs.BoxKnown.{sure_after, sure_keeps}
use Rattle.ft_bank.specs.SameBoxes.{named_in_words, times_raised, GainsRaised, LosesReferences, MovesReferences, SameBoxes, SameMade, StaysSettled}
use Rattle.ft_bank.proofs.BoxedSteps.{made_same, made_then, boxes_then}
use Rattle.ft_bank.proofs.DoneBoxes.{none_taken, settled_same, settled_then, stays_settled_same}
use Rattle.ft_bank.specs.Whole.{SamePass, SameWork, OnlyBoxed, OnlyLoaded, OnlyPut, OnlyWritten, EndsWrite, Wrote, hand_after, debt_after, write_entry}

-- ---- loads and puts

-- a load, or a put that is no root
abbrev pub IsCalm : Act → Type 0
IsCalm (Version o f) = Unit {0}
IsCalm (ReadBlock o i f) = Unit {0}
IsCalm (ReadTable t i f) = Unit {0}
IsCalm (ReadCounter f) = Unit {0}
IsCalm (ReadRoot o f) = Unit {0}
IsCalm (PutBlock o i x) = Unit {0}
IsCalm (PutTable o t i x) = Unit {0}
IsCalm (PutFresh t i x) = Unit {0}
IsCalm act = ⊥

pub calm : (a : Act) (v : View) → IsCalm a → SameWork v (view_after a v)
calm (Version o f) v ok = record { pass = record { number = refl; next = refl; parts = refl; shape = refl; locks = λ p. refl; writes = λ p. refl; announced = refl; flight = refl; begun = refl; cursors = λ n. refl; tokens = refl; learnt = refl; lists = refl; floor = refl; since = refl; owners = record { had = refl; found = refl }; seen = le_refl (seen_writes v); grown = λ old was. inr was; stays_online = λ is. is }; left = refl; entries = refl; committed = λ p. refl; emptied = λ p. refl; hands = λ t. refl; used = refl; debt = refl; owes = refl; past = refl; presence = refl; tables = refl }
calm (ReadBlock o i f) v ok = record { pass = record { number = refl; next = refl; parts = refl; shape = refl; locks = λ p. refl; writes = λ p. refl; announced = refl; flight = refl; begun = refl; cursors = λ n. refl; tokens = refl; learnt = refl; lists = refl; floor = refl; since = refl; owners = record { had = refl; found = refl }; seen = le_refl (seen_writes v); grown = λ old was. inr was; stays_online = λ is. is }; left = refl; entries = refl; committed = λ p. refl; emptied = λ p. refl; hands = λ t. refl; used = refl; debt = refl; owes = refl; past = refl; presence = refl; tables = refl }
calm (ReadTable t i f) v ok = record { pass = record { number = refl; next = refl; parts = refl; shape = refl; locks = λ p. refl; writes = λ p. refl; announced = refl; flight = refl; begun = refl; cursors = λ n. refl; tokens = refl; learnt = refl; lists = refl; floor = refl; since = refl; owners = record { had = refl; found = refl }; seen = le_refl (seen_writes v); grown = λ old was. inr was; stays_online = λ is. is }; left = refl; entries = refl; committed = λ p. refl; emptied = λ p. refl; hands = λ t. refl; used = refl; debt = refl; owes = refl; past = refl; presence = refl; tables = refl }
calm (ReadCounter f) v ok = record { pass = record { number = refl; next = refl; parts = refl; shape = refl; locks = λ p. refl; writes = λ p. refl; announced = refl; flight = refl; begun = refl; cursors = λ n. refl; tokens = refl; learnt = refl; lists = refl; floor = refl; since = refl; owners = record { had = refl; found = refl }; seen = seen_up (ReadCounter f) v; grown = λ old was. inr was; stays_online = λ is. is }; left = refl; entries = refl; committed = λ p. refl; emptied = λ p. refl; hands = λ t. refl; used = refl; debt = refl; owes = refl; past = refl; presence = refl; tables = refl }
calm (ReadRoot o f) v ok = record { pass = record { number = refl; next = refl; parts = refl; shape = refl; locks = λ p. refl; writes = λ p. refl; announced = refl; flight = refl; begun = refl; cursors = λ n. refl; tokens = refl; learnt = refl; lists = refl; floor = refl; since = refl; owners = record { had = refl; found = refl }; seen = le_refl (seen_writes v); grown = λ old was. inr was; stays_online = λ is. is }; left = refl; entries = refl; committed = λ p. refl; emptied = λ p. refl; hands = λ t. refl; used = refl; debt = refl; owes = refl; past = refl; presence = refl; tables = refl }
calm (PutBlock o i x) v ok = record { pass = record { number = refl; next = refl; parts = refl; shape = refl; locks = λ p. refl; writes = λ p. refl; announced = refl; flight = refl; begun = refl; cursors = λ n. refl; tokens = refl; learnt = refl; lists = refl; floor = refl; since = refl; owners = record { had = refl; found = refl }; seen = le_refl (seen_writes v); grown = λ old was. inr was; stays_online = λ is. is }; left = refl; entries = refl; committed = λ p. refl; emptied = λ p. refl; hands = λ t. refl; used = refl; debt = refl; owes = refl; past = refl; presence = refl; tables = refl }
calm (PutTable o t i x) v ok = record { pass = record { number = refl; next = refl; parts = refl; shape = refl; locks = λ p. refl; writes = λ p. refl; announced = refl; flight = refl; begun = refl; cursors = λ n. refl; tokens = refl; learnt = refl; lists = refl; floor = refl; since = refl; owners = record { had = refl; found = refl }; seen = le_refl (seen_writes v); grown = λ old was. inr was; stays_online = λ is. is }; left = refl; entries = refl; committed = λ p. refl; emptied = λ p. refl; hands = λ t. refl; used = refl; debt = refl; owes = refl; past = refl; presence = refl; tables = refl }
calm (PutFresh t i x) v ok = record { pass = record { number = refl; next = refl; parts = refl; shape = refl; locks = λ p. refl; writes = λ p. refl; announced = refl; flight = refl; begun = refl; cursors = λ n. refl; tokens = refl; learnt = refl; lists = refl; floor = refl; since = refl; owners = record { had = refl; found = refl }; seen = le_refl (seen_writes v); grown = λ old was. inr was; stays_online = λ is. is }; left = refl; entries = refl; committed = λ p. refl; emptied = λ p. refl; hands = λ t. refl; used = refl; debt = refl; owes = refl; past = refl; presence = refl; tables = refl }
calm a v ok = absurd ok

-- a load
abbrev pub IsLoad : Act → Type 0
IsLoad (Version o f) = Unit {0}
IsLoad (ReadBlock o i f) = Unit {0}
IsLoad (ReadTable t i f) = Unit {0}
IsLoad (ReadCounter f) = Unit {0}
IsLoad (ReadRoot o f) = Unit {0}
IsLoad act = ⊥

-- what a pass knows of a box it knows after a load of another word
load_boxes : (a : Act) (v : View) → IsLoad a → SameBoxes v (view_after a v)
load_boxes (Version o f) v ok = record { references = λ b. refl; made = record { state = λ b. refl; local = λ b. refl; taken = λ b. refl; places = λ b. refl; uses = λ b. refl; raised = λ b. refl }; knows = λ b i is which su. (sure_after v.shape b i (Version o f) v.log (sure_keeps v.shape b i v.log su) su, refl) }
load_boxes (ReadBlock o i f) v ok = record { references = λ b. refl; made = record { state = λ b. refl; local = λ b. refl; taken = λ b. refl; places = λ b. refl; uses = λ b. refl; raised = λ b. refl }; knows = λ b i is which su. (sure_after v.shape b i (ReadBlock o i f) v.log (sure_keeps v.shape b i v.log su) su, refl) }
load_boxes (ReadTable t i f) v ok = record { references = λ b. refl; made = record { state = λ b. refl; local = λ b. refl; taken = λ b. refl; places = λ b. refl; uses = λ b. refl; raised = λ b. refl }; knows = λ b i is which su. (sure_after v.shape b i (ReadTable t i f) v.log (sure_keeps v.shape b i v.log su) su, refl) }
load_boxes (ReadCounter f) v ok = record { references = λ b. refl; made = record { state = λ b. refl; local = λ b. refl; taken = λ b. refl; places = λ b. refl; uses = λ b. refl; raised = λ b. refl }; knows = λ b i is which su. (sure_after v.shape b i (ReadCounter f) v.log (sure_keeps v.shape b i v.log su) su, refl) }
load_boxes (ReadRoot o f) v ok = record { references = λ b. refl; made = record { state = λ b. refl; local = λ b. refl; taken = λ b. refl; places = λ b. refl; uses = λ b. refl; raised = λ b. refl }; knows = λ b i is which su. (sure_after v.shape b i (ReadRoot o f) v.log (sure_keeps v.shape b i v.log su) su, refl) }
load_boxes a v ok = absurd ok

load_only : (a : Act) (v : View) → IsLoad a → OnlyLoaded v (view_after a v)
load_only (Version o f) v ok = record { work = calm (Version o f) v tt; words = refl; unboxed = λ p low mine. refl; boxes = load_boxes (Version o f) v tt }
load_only (ReadBlock o i f) v ok = record { work = calm (ReadBlock o i f) v tt; words = refl; unboxed = λ p low mine. refl; boxes = load_boxes (ReadBlock o i f) v tt }
load_only (ReadTable t i f) v ok = record { work = calm (ReadTable t i f) v tt; words = refl; unboxed = λ p low mine. refl; boxes = load_boxes (ReadTable t i f) v tt }
load_only (ReadCounter f) v ok = record { work = calm (ReadCounter f) v tt; words = refl; unboxed = λ p low mine. refl; boxes = load_boxes (ReadCounter f) v tt }
load_only (ReadRoot o f) v ok = record { work = calm (ReadRoot o f) v tt; words = refl; unboxed = λ p low mine. refl; boxes = load_boxes (ReadRoot o f) v tt }
load_only a v ok = absurd ok

pub loaded_by : (a : Act) (v w : View) → IsLoad a → w ≡ view_after a v → OnlyLoaded v w
loaded_by a v w ok is = subst (OnlyLoaded v) (sym is) (load_only a v ok)

pub same_pass : (v : View) → SamePass v v
same_pass v = record { number = refl; next = refl; parts = refl; shape = refl; locks = λ p. refl; writes = λ p. refl; announced = refl; flight = refl; begun = refl; cursors = λ n. refl; tokens = refl; learnt = refl; lists = refl; floor = refl; since = refl; owners = record { had = refl; found = refl }; seen = le_refl (seen_writes v); grown = λ old was. was; stays_online = λ is. is }

pub same_work : (v : View) → SameWork v v
same_work v = record { pass = same_pass v; left = refl; entries = refl; committed = λ p. refl; emptied = λ p. refl; hands = λ t. refl; used = refl; debt = refl; owes = refl; past = refl; presence = refl; tables = refl }

pub moves_then : (o : ℕ) (u v w : View) → MovesReferences o u v → MovesReferences o v w → MovesReferences o u w
moves_then o u v w a b x = b x ∙ a x

module _ (u v w : View) where
  pub pass_then : SamePass u v → SamePass v w → SamePass u w
  pass_then a b = record {
    number = b.number ∙ a.number;
    next = b.next ∙ a.next;
    parts = b.parts ∙ a.parts;
    shape = b.shape ∙ a.shape;
    locks = λ p. b.locks p ∙ a.locks p;
    writes = λ p. b.writes p ∙ a.writes p;
    announced = b.announced ∙ a.announced;
    flight = b.flight ∙ a.flight;
    begun = b.begun ∙ a.begun;
    cursors = λ n. b.cursors n ∙ a.cursors n;
    tokens = b.tokens ∙ a.tokens;
    learnt = b.learnt ∙ a.learnt;
    lists = b.lists ∙ a.lists;
    floor = b.floor ∙ a.floor;
    since = b.since ∙ a.since;
    owners = owners_then u v w a.owners b.owners;
    seen = le_trans a.seen b.seen;
    grown = λ old was. b.grown old (a.grown old was);
    stays_online = λ is. b.stays_online (a.stays_online is);
  }

  pub work_then : SameWork u v → SameWork v w → SameWork u w
  work_then a b = record {
    pass = pass_then a.pass b.pass;
    left = b.left ∙ a.left;
    entries = b.entries ∙ a.entries;
    committed = λ p. b.committed p ∙ a.committed p;
    emptied = λ p. b.emptied p ∙ a.emptied p;
    hands = λ t. b.hands t ∙ a.hands t;
    used = b.used ∙ a.used;
    debt = b.debt ∙ a.debt;
    owes = b.owes ∙ a.owes;
    past = b.past ∙ a.past;
    presence = b.presence ∙ a.presence;
    tables = b.tables ∙ a.tables;
  }

  pub loaded_then : OnlyLoaded u v → OnlyLoaded v w → OnlyLoaded u w
  loaded_then a b = record {
    work = work_then a.work b.work;
    words = ap (λ (k : Shape). mem k w.log) (sym a.work.pass.shape) ∙ (b.words ∙ (ap (λ (k : Shape). mem k v.log) a.work.pass.shape ∙ a.words));
    unboxed = λ p low mine. b.unboxed p (subst (λ (k : Shape). p < container_count k) (sym a.work.pass.shape) low) (a.work.pass.locks p ∙ mine) ∙ a.unboxed p low mine;
    boxes = boxes_then u v w a.work.pass.shape a.boxes b.boxes;
  }

  pub boxed_then : OnlyBoxed u v → OnlyBoxed v w → OnlyBoxed u w
  boxed_then a b = record {
    work = work_then a.work b.work;
    words = ap (λ (k : Shape). mem k w.log) (sym a.work.pass.shape) ∙ (b.words ∙ (ap (λ (k : Shape). mem k v.log) a.work.pass.shape ∙ a.words));
    unboxed = λ p low mine. b.unboxed p (subst (λ (k : Shape). p < container_count k) (sym a.work.pass.shape) low) (a.work.pass.locks p ∙ mine) ∙ a.unboxed p low mine;
    raised = λ c. le_trans (a.raised c) (b.raised c);
  }

  pub put_then : (o : ℕ) → OnlyPut o u v → OnlyPut o v w → OnlyPut o u w
  put_then o a b = record {
    work = work_then a.work b.work;
    made = made_then u v w a.made b.made;
    moves = moves_then o u v w a.moves b.moves;
    others = λ p low ne mine quiet.
        let one = a.others p low ne mine quiet in
        let two = b.others p (subst (λ (k : Shape). p < container_count k) (sym a.work.pass.shape) low) ne (a.work.pass.locks p ∙ mine) (a.work.pass.writes p ∙ quiet) in
        (two.0 ∙ one.0, two.1 ∙ one.1);
  }

-- with the references that it raised, the pass holds no more than that where it holds no more than before
pub gains_fewer : (v w : View) → OnlyBoxed v w → ((b : ℕ) → references_held w.shape b w.log ≤ references_held v.shape b v.log) → GainsRaised v w
gains_fewer v w a fewer b = let less = fewer b in let more = a.raised b in omega (arith, less, more)

pub gains_then : (u v w : View) → GainsRaised u v → GainsRaised v w → GainsRaised u w
gains_then u v w a b c = let one = a c in let two = b c in omega (arith, one, two)

module _ (o : ℕ) where
  -- a put is such a step, and so is one with boxes after which the pass's own boxes are settled
  pub put_written : (v w : View) → OnlyPut o v w → OnlyWritten o v w
  put_written v w a = record { work = a.work; made = stays_settled_same v w a.made; loses = λ b. let m = a.moves b in let r = a.made.raised b in omega (arith, m, r); others = a.others }

  pub raised_written : (v w : View) → OnlyBoxed v w → StaysSettled v w → GainsRaised v w → OnlyWritten o v w
  raised_written v w a made gains = record {
    work = a.work;
    made = made;
    loses = λ b.
        let less = gains b in
        let shape = a.work.pass.shape in
        let same : named_in_words b (kind_in w.shape.starts o) (held_words o w) ≡ named_in_words b (kind_in v.shape.starts o) (held_words o v) =
        λ d. named_in_words b (kind_in (shape d).starts o) ((ap (λ (k : Shape). picture k o (mem k w.log)) shape ∙ ap (λ (ws : List ℕ). picture v.shape o ws) a.words) d) in
        omega (arith, less, same);
    others = λ p low ne mine quiet. (ap (λ (k : Shape). picture k p (mem k w.log)) a.work.pass.shape ∙ ap (λ (ws : List ℕ). picture v.shape p ws) a.words, a.unboxed p low mine);
  }

  pub boxed_written : (v w : View) → OnlyBoxed v w → StaysSettled v w → ((b : ℕ) → references_held w.shape b w.log ≤ references_held v.shape b v.log) → OnlyWritten o v w
  boxed_written v w a made fewer = raised_written v w a made (gains_fewer v w a fewer)

  pub written_then : (u v w : View) → OnlyWritten o u v → OnlyWritten o v w → OnlyWritten o u w
  written_then u v w a b = record {
    work = work_then u v w a.work b.work;
    made = settled_then u v w a.made b.made;
    loses = λ c. let one = a.loses c in let two = b.loses c in omega (arith, one, two);
    others = λ p low ne mine quiet.
        let one = a.others p low ne mine quiet in
        let two = b.others p (subst (λ (k : Shape). p < container_count k) (sym a.work.pass.shape) low) ne (a.work.pass.locks p ∙ mine) (a.work.pass.writes p ∙ quiet) in
        (two.0 ∙ one.0, two.1 ∙ one.1);
  }

-- what a pass knows of a content is the same
pub work_knows : (v w : View) (p : ℕ) → SameWork v w → known_state p w ≡ known_state p v
work_knows v w p a = (λ d. container_after (a.pass.shape d).starts (a.past d) p)

pub loaded_held : (v w : View) (p : ℕ) → OnlyLoaded v w → held_words p w ≡ held_words p v
loaded_held v w p a = ap (λ (k : Shape). picture k p (mem k w.log)) a.work.pass.shape ∙ ap (λ (ws : List ℕ). picture v.shape p ws) a.words

pub put_same : (v : View) (o : ℕ) → OnlyPut o v v
put_same v o = record { work = same_work v; made = made_same v; moves = λ b. refl; others = λ p low ne mine quiet. (refl, refl) }

pub loaded_put : (v w : View) (o : ℕ) → OnlyLoaded v w → OnlyPut o v w
loaded_put v w o a = record { work = a.work; made = a.boxes.made; moves = λ b. (λ d. a.boxes.references b d + named_in_words b (kind_in (a.work.pass.shape d).starts o) (loaded_held v w o a d)); others = λ p low ne mine quiet. (loaded_held v w p a, a.unboxed p low mine) }

pub loaded_boxed : (v w : View) → OnlyLoaded v w → OnlyBoxed v w
loaded_boxed v w a = record { work = a.work; words = a.words; raised = λ b. let same = a.boxes.made.raised b in omega (arith, same); unboxed = a.unboxed }

-- loads and puts take no step with boxes
pub calm_made : (a : Act) (v : View) → IsCalm a → SameMade v (view_after a v)
calm_made (Version o f) v ok = record { state = λ b. refl; local = λ b. refl; taken = λ b. refl; places = λ b. refl; uses = λ b. refl; raised = λ b. refl }
calm_made (ReadBlock o i f) v ok = record { state = λ b. refl; local = λ b. refl; taken = λ b. refl; places = λ b. refl; uses = λ b. refl; raised = λ b. refl }
calm_made (ReadTable t i f) v ok = record { state = λ b. refl; local = λ b. refl; taken = λ b. refl; places = λ b. refl; uses = λ b. refl; raised = λ b. refl }
calm_made (ReadCounter f) v ok = record { state = λ b. refl; local = λ b. refl; taken = λ b. refl; places = λ b. refl; uses = λ b. refl; raised = λ b. refl }
calm_made (ReadRoot o f) v ok = record { state = λ b. refl; local = λ b. refl; taken = λ b. refl; places = λ b. refl; uses = λ b. refl; raised = λ b. refl }
calm_made (PutBlock o i x) v ok = record { state = λ b. refl; local = λ b. refl; taken = λ b. refl; places = λ b. refl; uses = λ b. refl; raised = λ b. refl }
calm_made (PutTable o t i x) v ok = record { state = λ b. refl; local = λ b. refl; taken = λ b. refl; places = λ b. refl; uses = λ b. refl; raised = λ b. refl }
calm_made (PutFresh t i x) v ok = record { state = λ b. refl; local = λ b. refl; taken = λ b. refl; places = λ b. refl; uses = λ b. refl; raised = λ b. refl }
calm_made a v ok = absurd ok

-- a put, which leaves what the pass knows of containers that it doesn't write
pub put_by : (a : Act) (v w : View) (o : ℕ) → IsCalm a → w ≡ view_after a v → KeepsUnwritten v w → MovesReferences o v w → OnlyPut o v w
put_by a v w o ok is keeps moves = record {
  work = subst (SameWork v) (sym is) (calm a v ok);
  made = subst (SameMade v) (sym is) (calm_made a v ok);
  moves = moves;
  others = λ p low ne mine quiet. let e = keeps p low mine quiet in (e.0, e.2);
}

-- ---- whole writes

-- from the commit on: the pass knew u, and after its commit c; it has put words of o since, and then made the version
-- of o even
module _ (called : Call) (said : Reply) (number g : ℕ) (snap : Snap) (u c z w : View) where
  abbrev o : ℕ
  o = changes called

  abbrev made : View
  made = view_after (Commit called said number snap) u

  abbrev done : View
  done = view_after (StopWrite o g) z

  others_stop : (p : ℕ) → p ≢ o → is_writing p done.log ≡ is_writing p z.log
  others_stop p ne = miss o p false (is_writing p z.log) (λ e. ne (sym e))

  -- the write has stored each box whose place the pass had taken
  commit_settles : SameMade made z → StaysSettled u done
  commit_settles same = record {
    settled = settled_same u.log done.log same.state same.local same.taken same.places;
    places = λ b taken. absurd (none_taken (place_use b u.log) (sym (same.uses b) ∙ taken));
  }

  ends_at : seen_writes u ≤ number → OnlyPut o made z → Committed u made called → 0 < u.left → root_in (held_words o z) ≡ root_in (held_words o u) → Represents u.shape.texts (held_unboxed o z) (known_state o z) → EndsWrite called said number u done
  ends_at low puts committed some root stands =
      let w1 = puts.work in
      let p1 = w1.pass in
      record {
        same_number = p1.number;
        next = p1.next;
        parts = p1.parts;
        shape = p1.shape;
        locks = p1.locks;
        even = hit o false (is_writing o z.log);
        writes = λ p ne. others_stop p ne ∙ p1.writes p;
        announced = p1.announced;
        flight = p1.flight;
        begun = p1.begun;
        cursors = p1.cursors;
        tokens = p1.tokens;
        learnt = p1.learnt;
        lists = p1.lists;
        floor = p1.floor;
        since = p1.since;
        owners = record { had = p1.owners.had; found = p1.owners.found };
        seen = low;
        shows = let shown_at = le_trans (le-max_right (shown u.log) (number + 1)) (le-max_right u.learnt (max (shown u.log) (number + 1))) in let up = le_trans shown_at p1.seen in omega (arith, up);
        grown = λ old was. inr (p1.grown old (inr was));
        stays_online = λ is. p1.stays_online (ap presence_after_entry is);
        left = let l = w1.left in omega (arith, l, some);
        entries = w1.entries;
        hands = w1.hands;
        debt = w1.debt;
        used = w1.used;
        owes = w1.owes;
        tables = w1.tables;
        made = commit_settles puts.made;
        raised = puts.made.raised;
        moves = puts.moves;
        root = root;
        others = λ p low ne mine quiet.
            let e = puts.others p low ne mine quiet in (
              e.0,
              work_knows made z p w1 ∙ (committed.left p ∙ (untouched_in committed.found called p (λ e. ne (sym e)) ∙ committed.has.agrees p low mine)),
              e.1,
            );
        found = committed.found;
        has = committed.has;
        content = work_knows made z o w1 ∙ committed.left o;
        stands = stands;
      }

  pub write_ends : seen_writes u ≤ number → c ≡ made → Committed u c called → 0 < u.left → OnlyPut o c z → root_in (held_words o z) ≡ root_in (held_words o u) → Represents u.shape.texts (held_unboxed o z) (known_state o z) → w ≡ done → EndsWrite called said number u w
  write_ends low is committed some puts root stands end =
      subst (EndsWrite called said number u) (sym end)
      (ends_at low (subst (λ (y : View). OnlyPut o y z) is puts) (subst (λ (y : View). Committed u y called) is committed) some root stands)

-- from the start on
module _ (called : Call) (said : Reply) (number f : ℕ) (v s u w : View) where
  abbrev o' : ℕ
  o' = changes called

  abbrev begun : View
  begun = view_after (StartWrite o' f) v

  others_start : (p : ℕ) → p ≢ o' → is_writing p begun.log ≡ is_writing p v.log
  others_start p ne = miss o' p true (is_writing p v.log) (λ e. ne (sym e))

  all_write : (b : Bool) → is_writing o' v.log ≡ false → OnlyWritten o' begun u → EndsWrite called said number u w → (p : ℕ) → is_writing p w.log ≡ is_writing p v.log
  all_write b quiet puts ends p =
      dite (ℕ_discrete p o')
      (λ (e : p ≡ o'). subst (λ (q : ℕ). is_writing q w.log ≡ is_writing q v.log) (sym e) (ends.even ∙ sym quiet))
      (λ ne. ends.writes p ne ∙ (puts.work.pass.writes p ∙ others_start p ne))

  same_root : (t r n : ℕ) → cond (r == r) n t ≡ n
  same_root t r n = hit r n t

  -- a write that leaves the root
  plain_at : is_writing o' v.log ≡ false → OnlyWritten o' begun u → EndsWrite called said number u w → root_in (held_words o' u) ≡ root_in (held_words o' v) → Wrote called said number v w
  plain_at quiet puts ends root =
      let w1 = puts.work in
      let p1 = w1.pass in
      let whole : root_in (held_words o' w) ≡ root_in (held_words o' v) = ends.root ∙ root in
      record {
        pass = record {
          number = ends.same_number ∙ p1.number;
          next = ends.next ∙ p1.next;
          parts = ends.parts ∙ p1.parts;
          shape = ends.shape ∙ p1.shape;
          locks = λ p. ends.locks p ∙ p1.locks p;
          writes = all_write true quiet puts ends;
          announced = ends.announced ∙ p1.announced;
          flight = ends.flight ∙ p1.flight;
          begun = ends.begun ∙ p1.begun;
          cursors = λ n. ends.cursors n ∙ p1.cursors n;
          tokens = ends.tokens ∙ p1.tokens;
          learnt = ends.learnt ∙ p1.learnt;
          lists = ends.lists ∙ p1.lists;
          floor = ends.floor ∙ p1.floor;
          since = ends.since ∙ p1.since;
          owners = record { had = ends.owners.had ∙ p1.owners.had; found = ends.owners.found ∙ p1.owners.found };
          seen = let low = le_trans p1.seen ends.seen in let more = ends.shows in omega (arith, low, more);
          grown = λ old was. ends.grown old (p1.grown old (inr was));
          stays_online = λ is. ends.stays_online (p1.stays_online is);
        };
        seen = le_trans p1.seen ends.seen;
        shows = ends.shows;
        left = sym w1.left ∙ ends.left;
        entries = ends.entries ∙ ap (λ es. write_entry called said number ∷ es) w1.entries;
        hands = λ t. ends.hands t ∙ (w1.hands t ∙ sym (ap (λ (r : ℕ). hand_after o' (root_in (held_words o' v)) r t (stage t v.log)) whole ∙ hit (root_in (held_words o' v)) (stage t v.log) _));
        debt = ends.debt ∙ (w1.debt ∙ sym (ap (λ (r : ℕ). debt_after o' (root_in (held_words o' v)) r (debt v.log)) whole ∙ hit (root_in (held_words o' v)) (debt v.log) _));
        used = ends.used;
        owes = ends.owes;
        tables = ends.tables ∙ w1.tables;
        made = settled_then v u w (record { settled = λ s. puts.made.settled (record { unmade = s.unmade; counted = s.counted; whole = s.whole; given = s.given }); places = puts.made.places }) ends.made;
        loses = λ b. let m = ends.moves b in let r = ends.raised b in
            let l : references_held u.shape b u.log + named_in_words b (kind_in u.shape.starts o') (held_words o' u) + times_raised b v.log ≤ references_held v.shape b v.log + named_in_words b (kind_in v.shape.starts o') (held_words o' v) + times_raised b u.log = puts.loses b in
            omega (arith, m, r, l);
        others = λ p low ne mine quiet'.
            let low' = subst (λ (k : Shape). p < container_count k) (sym p1.shape) low in
            let e = ends.others p low' ne (p1.locks p ∙ mine) ((p1.writes p ∙ others_start p ne) ∙ quiet') in
            let f = puts.others p low ne mine (others_start p ne ∙ quiet') in (
              e.0 ∙ f.0,
              e.1 ∙ work_knows begun u p w1,
              e.2 ∙ f.1,
            );
        found = ends.found;
        has = record {
          agrees = λ p low mine. ends.has.agrees p (subst (λ (k : Shape). p < container_count k) (sym p1.shape) low) (p1.locks p ∙ mine) ∙ work_knows begun u p w1;
          containers = ends.has.containers ∙ ap container_count p1.shape;
          order = ends.has.order;
          unsplit = ends.has.unsplit;
          kinds = ends.has.kinds ∙ ap (λ (k : Shape). kinds_in k.starts) p1.shape;
          words = ends.has.words;
        };
        content = ends.content;
        stands = subst (λ (k : Shape). Represents k.texts (held_unboxed o' w) (known_state o' w)) p1.shape ends.stands;
      }

  pub plain_write : s ≡ begun → is_writing o' v.log ≡ false → OnlyWritten o' s u → EndsWrite called said number u w → root_in (held_words o' u) ≡ root_in (held_words o' v) → Wrote called said number v w
  plain_write is quiet puts ends root = plain_at quiet (subst (λ (y : View). OnlyWritten o' y u) is puts) ends root
