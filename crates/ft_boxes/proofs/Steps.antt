-- What a step on one box leaves of the other boxes, of the references that the pass holds, and of the values that it knows.
use Rattle.std.proofs.Common.{◌≡◌, ◌≢◌, ◌⊎◌, ℕ, ◌+◌, ◌-◌, ◌%◌, ◌^◌, ◌<◌, ◌≤◌, le_refl, eqb, Bool, true, false, cond, List, ◌∷◌, ◌++◌, refl, sym, ap, ◌∙◌, subst, inl, inr, arith, append_assoc}
use mathlib.Core.Logic.{dite}
use native.Mathlib.Decide.{ℕ_discrete}
use Rattle.ft_layout.specs.declared.slot.Ref.{Ref}
use Rattle.ft_layout.specs.declared.slot.Stored.TheVariants.{Plain}
use Rattle.ft_layout.specs.Words.{IsStored}
use Rattle.ft_trace.specs.declared.Act.{Act}
use Rattle.ft_trace.specs.declared.Act.TheVariants.{Commit, TakePlace, PutBox, PublishBox, ReadBox, RaiseLocal, DropLocal, ClearLocal, MergeCounts, RaiseShared, RaiseKept, DropShared, GivePlace}
use Rattle.ft_trace.specs.declared.Shape.{Shape}
use Rattle.ft_trace.specs.declared.View.{View}
use Rattle.ft_trace.specs.Bits.{bit}
use Rattle.ft_trace.specs.Addresses.{place_bit_of, IsBoxName}
use Rattle.ft_trace.specs.Acts.{view_after}
use Rattle.ft_trace.specs.Boxes.{made_state, made_state_next, local_count, local_count_next, taken_out, taken_out_next, place_to_give, place_to_give_next, place_use, place_use_next, references_held, times_kept, known_box_word, known_box_word_next, knows_box_word, IsSettled}
use Rattle.ft_trace.specs.BoxWords.{lowered_word}
use Rattle.ft_trace.specs.SeenBoxes.{SawBox}
use Rattle.ft_trace.proofs.BoxKnown.{sure_after, sure_stays}
use Rattle.ft_trace.proofs.Cases.{here, miss}
use Rattle.ft_bank.specs.BoxSteps.{box_id}
use Rattle.ft_bank.specs.Logs.{HasGrown}
use Rattle.ft_bank.proofs.DoneBoxes.{none_taken}
use Rattle.ft_bank.proofs.Logs.{newer_part}
use Rattle.ft_bank.proofs.KnownAfterWrites.{gains_fewer}
use Rattle.ft_bank.specs.SameBoxes.{times_raised, GainsRaised, KnowsBoxes, SameMade, SameReferences, TakesNoPlace}
use Rattle.ft_bank.specs.Whole.{OnlyBoxed}
use Rattle.ft_boxes.specs.References.{HoldsBox, HoldsOneMore, HoldsOneLess, KeepsValues, LeavesOthers}

-- ---- other boxes

-- the box of a step on one
abbrev pub box_in : Act → ℕ
box_in (TakePlace b f) = b
box_in (PutBox b i x) = b
box_in (PublishBox b) = b
box_in (ReadBox b i f) = b
box_in (RaiseLocal b x) = b
box_in (DropLocal b x) = b
box_in (ClearLocal b) = b
box_in (MergeCounts b d f) = b
box_in (RaiseShared b old f) = b
box_in (RaiseKept b f) = b
box_in (DropShared b f) = b
box_in (GivePlace b) = b
box_in act = 0

abbrev pub IsOnBox : Act → Type 0
IsOnBox (TakePlace b f) = Unit {0}
IsOnBox (PutBox b i x) = Unit {0}
IsOnBox (PublishBox b) = Unit {0}
IsOnBox (ReadBox b i f) = Unit {0}
IsOnBox (RaiseLocal b x) = Unit {0}
IsOnBox (DropLocal b x) = Unit {0}
IsOnBox (ClearLocal b) = Unit {0}
IsOnBox (MergeCounts b d f) = Unit {0}
IsOnBox (RaiseShared b old f) = Unit {0}
IsOnBox (RaiseKept b f) = Unit {0}
IsOnBox (DropShared b f) = Unit {0}
IsOnBox (GivePlace b) = Unit {0}
IsOnBox act = ⊥

other : (b c x n : ℕ) → c ≢ b → cond (eqb b c) x n ≡ n
other b c x n ne = miss b c x n (λ z. ne (sym z))

state_of : (a : Act) → IsOnBox a → (c n : ℕ) → c ≢ box_in a → made_state_next c a n ≡ n
state_of (TakePlace b f) on c n ne = other b c (cond (eqb (bit (place_bit_of b) f) 1) 1 n) n ne
state_of (PutBox b i x) on c n ne = refl
state_of (PublishBox b) on c n ne = other b c 2 n ne
state_of (ReadBox b i f) on c n ne = refl
state_of (RaiseLocal b x) on c n ne = refl
state_of (DropLocal b x) on c n ne = refl
state_of (ClearLocal b) on c n ne = refl
state_of (MergeCounts b d f) on c n ne = other b c 3 n ne
state_of (RaiseShared b old f) on c n ne = refl
state_of (RaiseKept b f) on c n ne = refl
state_of (DropShared b f) on c n ne = refl
state_of (GivePlace b) on c n ne = refl
state_of a on c n ne = absurd on

local_of : (a : Act) → IsOnBox a → (c n : ℕ) → c ≢ box_in a → local_count_next c a n ≡ n
local_of (TakePlace b f) on c n ne = other b c (cond (eqb (bit (place_bit_of b) f) 1) (2 ^ 64) n) n ne
local_of (PutBox b i x) on c n ne = other b c (cond (eqb i 3) x n) n ne
local_of (PublishBox b) on c n ne = refl
local_of (ReadBox b i f) on c n ne = refl
local_of (RaiseLocal b x) on c n ne = other b c x n ne
local_of (DropLocal b x) on c n ne = other b c x n ne
local_of (ClearLocal b) on c n ne = other b c 0 n ne
local_of (MergeCounts b d f) on c n ne = refl
local_of (RaiseShared b old f) on c n ne = refl
local_of (RaiseKept b f) on c n ne = refl
local_of (DropShared b f) on c n ne = refl
local_of (GivePlace b) on c n ne = refl
local_of a on c n ne = absurd on

taken_of : (a : Act) → IsOnBox a → (c l n : ℕ) → c ≢ box_in a → taken_out_next c a l n ≡ n
taken_of (TakePlace b f) on c l n ne = refl
taken_of (PutBox b i x) on c l n ne = refl
taken_of (PublishBox b) on c l n ne = other b c 0 n ne
taken_of (ReadBox b i f) on c l n ne = refl
taken_of (RaiseLocal b x) on c l n ne = refl
taken_of (DropLocal b x) on c l n ne = refl
taken_of (ClearLocal b) on c l n ne = other b c l n ne
taken_of (MergeCounts b d f) on c l n ne = other b c 0 n ne
taken_of (RaiseShared b old f) on c l n ne = refl
taken_of (RaiseKept b f) on c l n ne = refl
taken_of (DropShared b f) on c l n ne = refl
taken_of (GivePlace b) on c l n ne = refl
taken_of a on c l n ne = absurd on

places_of : (a : Act) → IsOnBox a → (c n : ℕ) → c ≢ box_in a → place_to_give_next c a n ≡ n
places_of (TakePlace b f) on c n ne = refl
places_of (PutBox b i x) on c n ne = refl
places_of (PublishBox b) on c n ne = refl
places_of (ReadBox b i f) on c n ne = refl
places_of (RaiseLocal b x) on c n ne = refl
places_of (DropLocal b x) on c n ne = refl
places_of (ClearLocal b) on c n ne = refl
places_of (MergeCounts b d f) on c n ne = other b c (cond (eqb ((f + d) % 2 ^ 64) 3) 1 n) n ne
places_of (RaiseShared b old f) on c n ne = refl
places_of (RaiseKept b f) on c n ne = refl
places_of (DropShared b f) on c n ne = other b c (cond (eqb (lowered_word f) 3) 1 n) n ne
places_of (GivePlace b) on c n ne = other b c 0 n ne
places_of a on c n ne = absurd on

uses_of : (a : Act) → IsOnBox a → (c n : ℕ) → c ≢ box_in a → place_use_next c a n ≡ n
uses_of (TakePlace b f) on c n ne = other b c (cond (eqb (bit (place_bit_of b) f) 1) (cond (eqb n 2) 2 1) n) n ne
uses_of (PutBox b i x) on c n ne = refl
uses_of (PublishBox b) on c n ne = refl
uses_of (ReadBox b i f) on c n ne = refl
uses_of (RaiseLocal b x) on c n ne = refl
uses_of (DropLocal b x) on c n ne = refl
uses_of (ClearLocal b) on c n ne = refl
uses_of (MergeCounts b d f) on c n ne = refl
uses_of (RaiseShared b old f) on c n ne = refl
uses_of (RaiseKept b f) on c n ne = refl
uses_of (DropShared b f) on c n ne = refl
uses_of (GivePlace b) on c n ne = other b c (cond (eqb n 1) 0 n) n ne
uses_of a on c n ne = absurd on

leaves : (b : Ref) (v : View) (a : Act) → IsOnBox a → box_in a ≡ box_id b → LeavesOthers b v (view_after a v)
leaves b v a on is = record {
  state = λ c ne. state_of a on c (made_state c v.log) (λ z. ne (z ∙ is));
  local = λ c ne. local_of a on c (local_count c v.log) (λ z. ne (z ∙ is));
  taken = λ c ne. taken_of a on c (local_count c v.log) (taken_out c v.log) (λ z. ne (z ∙ is));
  places = λ c ne. places_of a on c (place_to_give c v.log) (λ z. ne (z ∙ is));
  uses = λ c ne. uses_of a on c (place_use c v.log) (λ z. ne (z ∙ is));
}

pub leaves_by : (b : Ref) (v w : View) (a : Act) → IsOnBox a → box_in a ≡ box_id b → w ≡ view_after a v → LeavesOthers b v w
leaves_by b v w a on is did = subst (LeavesOthers b v) (sym did) (leaves b v a on is)

pub leaves_then : (b : Ref) (u v w : View) → LeavesOthers b u v → LeavesOthers b v w → LeavesOthers b u w
leaves_then b u v w first then = record {
  state = λ c ne. then.state c ne ∙ first.state c ne;
  local = λ c ne. then.local c ne ∙ first.local c ne;
  taken = λ c ne. then.taken c ne ∙ first.taken c ne;
  places = λ c ne. then.places c ne ∙ first.places c ne;
  uses = λ c ne. then.uses c ne ∙ first.uses c ne;
}

pub leaves_same : (b : Ref) (v w : View) → SameMade v w → LeavesOthers b v w
leaves_same b v w same = record { state = λ c ne. same.state c; local = λ c ne. same.local c; taken = λ c ne. same.taken c; places = λ c ne. same.places c; uses = λ c ne. same.uses c }

-- ---- places

-- a step that takes no place leaves none taken that wasn't
abbrev pub IsNotTake : Act → Type 0
IsNotTake (TakePlace b f) = ⊥
IsNotTake act = Unit {0}

was_taken : (c : ℕ) (a : Act) → IsNotTake a → (n : ℕ) → place_use_next c a n ≡ 1 → n ≡ 1
was_taken c (TakePlace b f) on n taken = absurd on
was_taken c (Commit called said f s) on n taken = absurd (none_taken n taken)
was_taken c (GivePlace b) on n taken =
    dite (ℕ_discrete b c)
    (λ (is : b ≡ c).
    let now : cond (eqb n 1) 0 n ≡ 1 = sym (here b c (cond (eqb n 1) 0 n) n is) ∙ taken in
    dite (ℕ_discrete n 1) (λ (one : n ≡ 1). one) (λ ne. sym (miss n 1 0 n ne) ∙ now))
    (λ ne. sym (miss b c (cond (eqb n 1) 0 n) n ne) ∙ taken)
was_taken c act on n taken = taken

pub takes_none : (v w : View) (a : Act) → IsNotTake a → w ≡ view_after a v → TakesNoPlace v w
takes_none v w a on did b taken = was_taken b a on (place_use b v.log) (sym (ap (λ (z : View). place_use b z.log) did) ∙ taken)

pub places_then : (u v w : View) → TakesNoPlace u v → TakesNoPlace v w → TakesNoPlace u w
places_then u v w first then b taken = first b (then b taken)

pub places_same : (v w : View) → SameMade v w → TakesNoPlace v w
places_same v w same b taken = sym (same.uses b) ∙ taken

-- ---- what the pass holds more is what it raised

raise_gains : (x : Bool) (held times : ℕ) → cond x (held + 1) held + times ≤ held + cond x (times + 1) times
raise_gains true held times = omega arith
raise_gains false held times = le_refl (held + times)

pub local_gains : (b x : ℕ) (v w : View) → w ≡ view_after (RaiseLocal b x) v → GainsRaised v w
local_gains b x v w did = subst (GainsRaised v) (sym did) (λ c. raise_gains (eqb b c) (references_held v.shape c v.log) (times_raised c v.log))

pub kept_gains : (b f : ℕ) (v w : View) → w ≡ view_after (RaiseKept b f) v → GainsRaised v w
kept_gains b f v w did = subst (GainsRaised v) (sym did) (λ c. raise_gains (eqb b c) (references_held v.shape c v.log) (times_raised c v.log))

pub same_gains : (v w : View) → OnlyBoxed v w → SameReferences v w → GainsRaised v w
same_gains v w only same = gains_fewer v w only (λ b. let r = same b in omega (arith, r))

-- ---- names

later : (l newer parts m : List Act) → l ≡ parts ++ m → newer ++ l ≡ (newer ++ parts) ++ m
later l newer parts m is = ap (λ (x : List Act). newer ++ x) is ∙ sym (append_assoc newer parts m)

saw_later : (k : Shape) (b : ℕ) (l newer : List Act) → SawBox k b l → SawBox k b (newer ++ l)
saw_later k b l newer (inl saw) = inl (record {
  o = saw.o;
  t = saw.t;
  p = saw.p;
  container = saw.container;
  row = saw.row;
  version = saw.version;
  even = saw.even;
  newer = newer ++ saw.newer;
  mid = saw.mid;
  walk = saw.walk;
  rest = saw.rest;
  is = later l newer saw.newer _ saw.is;
  online = saw.online;
  names = saw.names;
})
saw_later k b l newer (inr saw) = inr (record {
  o = saw.o;
  t = saw.t;
  p = saw.p;
  container = saw.container;
  row = saw.row;
  mid = saw.mid;
  between = record {
    version = saw.between.version;
    even = saw.between.even;
    newer = newer ++ saw.between.newer;
    rest = saw.between.rest;
    is = later l newer saw.between.newer _ saw.between.is;
  };
  root = saw.root;
  names = saw.names;
})

-- a pass that has read the name of a box has read it still
pub saw_then : (k : Shape) (b : ℕ) (v w : View) → HasGrown v w → SawBox k b v.log → SawBox k b w.log
saw_then k b v w grown saw =
    let part = newer_part v w grown in
    subst (SawBox k b) (sym part.1) (saw_later k b v.log part.0 saw)

-- ---- references

abbrev unit : ℕ → ℕ → ℕ
unit c b = cond (eqb c b) 1 0

pub one_more : (b c n : ℕ) → cond (eqb b c) (n + 1) n ≡ n + unit c b
one_more b c n =
    dite (ℕ_discrete b c)
    (λ (e : b ≡ c). let h = here b c (n + 1) n e in let u : unit c b ≡ 1 = here c b 1 0 (sym e) in omega (arith, h, u))
    (λ ne. let h = miss b c (n + 1) n ne in let u : unit c b ≡ 0 = miss c b 1 0 (λ z. ne (sym z)) in omega (arith, h, u))

pub one_less : (b c n : ℕ) → (b ≡ c → 0 < n) → n ≡ cond (eqb b c) (n - 1) n + unit c b
one_less b c n some_ =
    dite (ℕ_discrete b c)
    (λ (e : b ≡ c). let h = here b c (n - 1) n e in let u : unit c b ≡ 1 = here c b 1 0 (sym e) in let s = some_ e in omega (arith, h, u, s))
    (λ ne. let h = miss b c (n - 1) n ne in let u : unit c b ≡ 0 = miss c b 1 0 (λ z. ne (sym z)) in omega (arith, h, u))

pub same_then : (u v w : View) → SameReferences u v → SameReferences v w → SameReferences u w
same_then u v w first then c = then c ∙ first c

pub more_then : (b : Ref) (u v w : View) → SameReferences u v → HoldsOneMore b v w → HoldsOneMore b u w
more_then b u v w first then c = then c ∙ ap (λ (n : ℕ). n + unit c (box_id b)) (first c)

pub more_before : (b : Ref) (u v w : View) → HoldsOneMore b u v → SameReferences v w → HoldsOneMore b u w
more_before b u v w first then c = then c ∙ first c

pub less_then : (b : Ref) (u v w : View) → SameReferences u v → HoldsOneLess b v w → HoldsOneLess b u w
less_then b u v w first then c = sym (first c) ∙ then c

pub less_before : (b : Ref) (u v w : View) → HoldsOneLess b u v → SameReferences v w → HoldsOneLess b u w
less_before b u v w first then c = first c ∙ ap (λ (n : ℕ). n + unit c (box_id b)) (sym (then c))

-- ---- values

-- whoever holds a reference keeps the box
pub held_keeps : (k : Shape) (b : ℕ) (l : List Act) → 0 < references_held k b l → times_kept k b l ≢ 0
held_keeps k b l held none = omega (arith, held, none)

-- the step loads and puts no word of a value, and takes no lock
abbrev pub LeavesKnown : Act → Type 0
LeavesKnown a = (k : Shape) (b i n : ℕ) → (i ≡ 1) ⊎ (i ≡ 2) → known_box_word_next k b i a n ≡ n

keeps : (v : View) (a : Act) → LeavesKnown a → KeepsValues v (view_after a v)
keeps v a same b value held still knows =
    let k = v.shape in
    let n = box_id b in
    let kept = held_keeps k n (a ∷ v.log) still.1 in
    let one = same k n 1 (known_box_word k n 1 v.log) (inl refl) in
    let two = same k n 2 (known_box_word k n 2 v.log) (inr refl) in record {
      kind = sure_after k n 1 a v.log kept (sure_stays n 1 a (knows_box_word k n 1 v.log) knows.kind);
      payload = sure_after k n 2 a v.log kept (sure_stays n 2 a (knows_box_word k n 2 v.log) knows.payload);
      words = subst (λ (z : ℕ × ℕ). IsStored z.0 z.1 (Plain value)) (λ d. (sym one d, sym two d)) knows.words;
    }

pub keeps_by : (v w : View) (a : Act) → LeavesKnown a → w ≡ view_after a v → KeepsValues v w
keeps_by v w a same did = subst (KeepsValues v) (sym did) (keeps v a same)

pub keeps_same : (v w : View) → ((b : Ref) → HoldsBox b v → IsBoxName v.shape (box_id b)) → KnowsBoxes v w → KeepsValues v w
keeps_same v w names knows b value held still was =
    let n = box_id b in
    let is = names b held in
    let one = knows n 1 is (inl refl) was.kind in
    let two = knows n 2 is (inr refl) was.payload in record {
      kind = one.0;
      payload = two.0;
      words = subst (λ (z : ℕ × ℕ). IsStored z.0 z.1 (Plain value)) (λ d. (sym one.1 d, sym two.1 d)) was.words;
    }

-- the references are the same in the first part, or in the second
pub holds_same : (v w : View) → v.shape ≡ w.shape → SameReferences v w → (b : Ref) → HoldsBox b v → HoldsBox b w
holds_same v w shape same b held = (
  subst (λ (z : Shape). (b.pass < z.passes) × (b.place < z.heap)) shape held.0,
  subst (λ (n : ℕ). 0 < n) (sym (same (box_id b))) held.1,
)

pub holds_before : (v w : View) → v.shape ≡ w.shape → SameReferences v w → (b : Ref) → HoldsBox b w → HoldsBox b v
holds_before v w shape same b held = holds_same w v (sym shape) (λ c. sym (same c)) b held

pub keeps_then : (u v w : View) → u.shape ≡ v.shape → SameReferences u v → KeepsValues u v → KeepsValues v w → KeepsValues u w
keeps_then u v w shape same first then b value held still knows =
    let mid = holds_same u v shape same b held in
    then b value mid still (first b value held mid knows)

pub keeps_before : (u v w : View) → v.shape ≡ w.shape → SameReferences v w → KeepsValues u v → KeepsValues v w → KeepsValues u w
keeps_before u v w shape same first then b value held still knows =
    let mid = holds_before v w shape same b still in
    then b value mid still (first b value held mid knows)

pub keeps_self : (v : View) → KeepsValues v v
keeps_self v b value held still knows = knows

-- ---- what a pass is settled in

-- it is settled where it was, but for one box, and this one is so now
pub settled_by : (b : Ref) (v w : View) → LeavesOthers b v w → IsSettled v.log → made_state (box_id b) w.log ≢ 1 → (made_state (box_id b) w.log ≡ 2 → (0 < local_count (box_id b) w.log) × (taken_out (box_id b) w.log ≡ 0)) → place_to_give (box_id b) w.log ≡ 0 → IsSettled w.log
settled_by b v w leaves was unmade counted given = record {
  unmade = λ c. by_box c (λ n. made_state n w.log ≢ 1) unmade (λ ne z. was.unmade c (sym (leaves.state c ne) ∙ z));
  counted = λ c. by_box c (λ n. made_state n w.log ≡ 2 → 0 < local_count n w.log) (λ z. (counted z).0) (λ ne z. subst (λ (n : ℕ). 0 < n) (sym (leaves.local c ne)) (was.counted c (sym (leaves.state c ne) ∙ z)));
  whole = λ c. by_box c (λ n. made_state n w.log ≡ 2 → taken_out n w.log ≡ 0) (λ z. (counted z).1) (λ ne z. leaves.taken c ne ∙ was.whole c (sym (leaves.state c ne) ∙ z));
  given = λ c. by_box c (λ n. place_to_give n w.log ≡ 0) given (λ ne. leaves.places c ne ∙ was.given c);
}
  where
    by_box : (c : ℕ) (P : ℕ → Type 0) → P (box_id b) → (c ≢ box_id b → P c) → P c
    by_box c P this rest = dite (ℕ_discrete c (box_id b)) (λ (e : c ≡ box_id b). subst P (sym e) this) rest
