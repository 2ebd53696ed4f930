-- From writes from the newest to the first, by which traces are, to writes in their order, by which histories are.
use Rattle.std.proofs.Common.{◌≡◌, ℕ, zero, suc, ◌<◌, ◌≤◌, inl, inr, Bool, cond, List, [], ◌∷◌, ◌++◌, length, take, reverse, Some, refl, sym, ap, ◌∙◌, subst, arith}
use Rattle.std.specs.Prelude.{All, slice_get}
use Rattle.std.proofs.Math.Decide.{dec_lt}
use Rattle.std.proofs.lemmas.Bool.{lt-ltb, le-ltb}
use Rattle.std.proofs.lemmas.List.Elements.{All-nil, All-cons}
use mathlib.Core.Logic.{dite}
use mathlib.Core.List.{reverse-cons}
use lib.ListN.{length-reverse}
use Rattle.ft_model.specs.declared.call.Call.{Call}
use Rattle.ft_model.specs.declared.reply.Reply.{Reply}
use Rattle.ft_model.specs.declared.reply.Reply.TheVariants as reply
use Rattle.ft_model.specs.declared.reply.Raise.TheVariants as raise
use Rattle.ft_model.specs.declared.entry.Entry.{Entry as NamedEntry}
use Rattle.ft_model.specs.declared.script.Start.{Start}
use Rattle.ft_model.specs.Answers.{answer, world_by}
use Rattle.ft_model.specs.Boxings.{boxes, boxings}
use Rattle.ft_model.specs.Histories.{IsReplied}
use Rattle.ft_model.specs.TableUses.{StoredWorld, stored_by, stored_newest, takes_by, takes_newest, CanLackMemory, IsEarnedReply, IsFittingReply, takes_in, would_pass}
use Rattle.ft_model.proofs.StoredLaws.{newest_stored, newest_takes, stored_world}
use Rattle.ft_trace.specs.declared.Entry.{Entry}
use Rattle.ft_trace.specs.declared.Shape.{Shape}
use Rattle.ft_trace.specs.Causes.{CanLackPlace}
use Rattle.ft_trace.specs.Earnings.{IsEarnedSo, AllEarned}
use Rattle.ft_trace.specs.Entries.{IsNumber, Right, AllRight}
use Rattle.ft_trace.specs.InOrder.{supply_in, StandsInOrder, NumberedEntriesAreInOrder}
use Rattle.ft_trace.specs.ContainerStates.{first_writes}

-- ---- lists from the newest to the first, and in order

take_all : {A : Type 0} (l : List A) (n : ℕ) → length l ≤ n → take n l ≡ l
take_all [] zero low = refl
take_all [] (suc n) low = refl
take_all (x ∷ xs) zero low = absurd (omega (arith, low))
take_all (x ∷ xs) (suc n) low = ap (λ l. x ∷ l) (take_all xs n (omega (arith, low)))

pub take_front : {A : Type 0} (l m : List A) (n : ℕ) → n ≤ length l → take n (l ++ m) ≡ take n l
take_front [] m zero low = refl
take_front [] m (suc n) low = absurd (omega (arith, low))
take_front (x ∷ xs) m zero low = refl
take_front (x ∷ xs) m (suc n) low = ap (λ l. x ∷ l) (take_front xs m n (omega (arith, low)))

-- the first writes are the same, in either order
first_in_order : (n : ℕ) (cs : List Call) → reverse (first_writes n cs) ≡ take n (reverse cs)
first_in_order zero [] = refl
first_in_order (suc n) [] = refl
first_in_order n (c ∷ cs) =
    let l = length-reverse cs in
    dite (dec_lt (length cs) n)
    (λ (all : length cs < n).
    let long = length-reverse (c ∷ cs) in
    ap (λ (b : Bool). reverse (cond b (c ∷ cs) (first_writes n cs))) (lt-ltb (length cs) n all) ∙ sym (take_all (reverse (c ∷ cs)) n (omega (arith, long, all))))
    (λ few.
    ap (λ (b : Bool). reverse (cond b (c ∷ cs) (first_writes n cs))) (le-ltb (length cs) n (omega (arith, few)))
    ∙ (first_in_order n cs ∙ (sym (take_front (reverse cs) (c ∷ []) n (omega (arith, few, l))) ∙ ap (take n) (sym (reverse-cons c cs)))))

pub stored_in_order : (starts : List Start) (n : ℕ) (cs : List Call) → stored_newest starts (first_writes n cs) ≡ stored_by starts (take n (reverse cs))
stored_in_order starts n cs = newest_stored starts (first_writes n cs) ∙ ap (stored_by starts) (first_in_order n cs)

takes_in_order : (starts : List Start) (class n : ℕ) (cs : List Call) → takes_newest starts class (first_writes n cs) ≡ takes_by starts class (take n (reverse cs))
takes_in_order starts class n cs = newest_takes starts class (first_writes n cs) ∙ ap (takes_by starts class) (first_in_order n cs)

pub get_front : {A : Type 0} (l m : List A) (n : ℕ) → n < length l → slice_get (l ++ m) n ≡ slice_get l n
get_front [] m n low = absurd (omega (arith, low))
get_front (x ∷ xs) m zero low = refl
get_front (x ∷ xs) m (suc n) low = get_front xs m n (omega (arith, low))

pub get_last : {A : Type 0} (l : List A) (x : A) (n : ℕ) → n ≡ length l → slice_get (l ++ x ∷ []) n ≡ Some x
get_last [] x zero e = refl
get_last [] x (suc n) e = absurd (omega (arith, e))
get_last (y ∷ ys) x zero e = absurd (omega (arith, e))
get_last (y ∷ ys) x (suc n) e = get_last ys x n (omega (arith, e))

pub number_low : (cs : List Call) (n : ℕ) (c : Call) → IsNumber cs n c → n < length cs
number_low [] n c is = absurd is
number_low (d ∷ cs) n c (inl e) = let at = e.0 in omega (arith, at)
number_low (d ∷ cs) n c (inr is) = let r = number_low cs n c is in omega (arith, r)

number_in_order : (cs : List Call) (n : ℕ) (c : Call) → IsNumber cs n c → slice_get (reverse cs) n ≡ Some c
number_in_order [] n c is = absurd is
number_in_order (d ∷ cs) n c (inl e) = ap (λ l. slice_get l n) (reverse-cons d cs) ∙ (get_last (reverse cs) d n (e.0 ∙ sym (length-reverse cs)) ∙ ap Some (sym e.1))
number_in_order (d ∷ cs) n c (inr is) = let low = number_low cs n c is in let l = length-reverse cs in ap (λ l. slice_get l n) (reverse-cons d cs) ∙ (get_front (reverse cs) (d ∷ []) n (omega (arith, low, l)) ∙ number_in_order cs n c is)

-- and the other way round
get_within : {A : Type 0} (l : List A) (n : ℕ) (x : A) → slice_get l n ≡ Some x → n < length l
get_within [] n x e = absurd (cc)
get_within (y ∷ ys) zero x e = omega arith
get_within (y ∷ ys) (suc n) x e = let r = get_within ys n x e in omega (arith, r)

pub order_numbered : (cs : List Call) (n : ℕ) (c : Call) → slice_get (reverse cs) n ≡ Some c → IsNumber cs n c
order_numbered [] n c e = absurd (cc)
order_numbered (d ∷ cs) n c e =
    let l = length-reverse cs in
    let long = length-reverse (d ∷ cs) in
    let there : slice_get (reverse cs ++ d ∷ []) n ≡ Some c = ap (λ m. slice_get m n) (sym (reverse-cons d cs)) ∙ e in
    dite (dec_lt n (length cs))
    (λ (low : n < length cs). inr (order_numbered cs n c (sym (get_front (reverse cs) (d ∷ []) n (omega (arith, low, l))) ∙ there)))
    (λ high.
    let within = get_within (reverse (d ∷ cs)) n c e in
    let at : n ≡ length cs = omega (arith, within, long, high) in
    inl (at, let same = sym there ∙ get_last (reverse cs) d n (at ∙ sym l) in cc))

-- ---- what is earned

earned_so : (k : Shape) (cs calls : List Call) → stored_newest k.starts cs ≡ stored_by k.starts calls → ((class : ℕ) → takes_newest k.starts class cs ≡ takes_by k.starts class calls) → (mine : List NamedEntry) (called : Call) (said : Reply) → (said ≡ reply.Raised raise.Heap → k.heap ≤ boxings k.starts calls mine) → IsEarnedSo k cs called said
    → IsEarnedReply k.starts (supply_in k) calls mine called said
earned_so k cs calls stored takes mine called (reply.Raised (raise.Memory class)) full e =
    let t = takes class in
    let few = e.4 in
    (inl (subst (λ (z : StoredWorld). CanLackMemory z.world called) stored e.0), ap (λ (z : StoredWorld). would_pass z.world called) (sym stored) ∙ e.1, record { is_class = e.3; all_taken = omega (arith, few, t) })
earned_so k cs calls stored takes mine called (reply.Raised raise.Over) full e = (subst (λ (z : StoredWorld). CanLackMemory z.world called) stored e.0, ap (λ (z : StoredWorld). would_pass z.world called) (sym stored) ∙ e.1)
earned_so k cs calls stored takes mine called (reply.Raised raise.Heap) full e =
    let lacks = subst (λ (z : StoredWorld). CanLackPlace z.world called) stored e.0 in
    record { boxes = lacks.boxes; raises_nothing = lacks.raises_nothing; passes_nothing = ap (λ (z : StoredWorld). would_pass z.world called) (sym stored) ∙ e.1; all_used = full refl }
earned_so k cs calls stored takes mine called said full e = ap (λ (z : StoredWorld). would_pass z.world called) (sym stored) ∙ e

fits_so : (k : Shape) (cs calls : List Call) → stored_newest k.starts cs ≡ stored_by k.starts calls → (called : Call) (said : Reply) → IsEarnedSo k cs called said → IsFittingReply (stored_by k.starts calls) called said
fits_so k cs calls stored called (reply.Raised (raise.Memory class)) e = ap (λ (z : StoredWorld). takes_in z called) (sym stored) ∙ e.2
fits_so k cs calls stored called (reply.Raised raise.Heap) e = ap (λ (z : StoredWorld). boxes z.world called) (sym stored) ∙ e.0.boxes
fits_so k cs calls stored called said e = tt

-- ---- the entries

stands : (k : Shape) (cs : List Call) (e : Entry) → Right k.starts cs e → IsEarnedSo k (first_writes e.stamp cs) e.call e.reply → StandsInOrder k (reverse cs) e
stands k cs e right earned =
    let calls = take e.stamp (reverse cs) in
    let stored = stored_in_order k.starts e.stamp cs in
    let low = right.low in
    let l = length-reverse cs in
    let world : (stored_newest k.starts (first_writes e.stamp cs)).world ≡ world_by k.starts calls = ap (λ (z : StoredWorld). z.world) stored ∙ stored_world k.starts calls in
    record {
      within = omega (arith, low, l);
      wrote = right.wrote;
      number = λ w. number_in_order cs e.stamp e.call (right.write w);
      hands = right.hands;
      reply = subst (λ z. IsReplied e.call e.reply (answer z right.hands e.call).reply) world right.reply;
      earned = λ mine full. earned_so k (first_writes e.stamp cs) calls stored (λ class. takes_in_order k.starts class e.stamp cs) mine e.call e.reply full earned;
      fitting = fits_so k (first_writes e.stamp cs) calls stored e.call e.reply earned;
    }

pub all_stand : (k : Shape) (cs : List Call) (entries : List Entry) → AllRight k.starts cs entries → AllEarned k cs entries → All (StandsInOrder k (reverse cs)) entries
all_stand k cs [] right earned = All-nil (StandsInOrder k (reverse cs))
all_stand k cs (e ∷ entries) right earned = All-cons (StandsInOrder k (reverse cs)) e entries (stands k cs e right.0 earned.0) (all_stand k cs entries right.1 earned.1)

pub numbered_entries_are_in_order : NumberedEntriesAreInOrder
numbered_entries_are_in_order k cs entries numbered earned = record {
  each = all_stand k cs entries numbered.right earned;
  once = λ n low. let l = length-reverse cs in numbered.once n ∙ ap (λ (b : Bool). cond b 1 0) (lt-ltb n (length cs) (omega (arith, low, l)));
}
