-- What a call comes to that puts a key, by whether the key is there.
use Rattle.std.proofs.Common.{◌≡◌, ℕ, ◌+◌, Bool, true, false, Option, None, refl, sym, ap, ◌∙◌, subst}
use Rattle.std.specs.Prelude.{nat_lt, if◌then◌else◌}
use Rattle.ft_model.specs.declared.call.Call.{Call}
use Rattle.ft_model.specs.declared.content.Content.{Content}
use Rattle.ft_model.specs.declared.content.Content.TheVariants as content
use Rattle.ft_model.specs.declared.data.Key.{Key}
use Rattle.ft_model.specs.declared.reply.Reply.{Reply}
use Rattle.ft_model.specs.Worlds.{length_of}
use Rattle.ft_trace.specs.declared.Shape.{Shape}
use Rattle.ft_trace.specs.declared.View.{View}
use Rattle.ft_trace.specs.Acts.{flight, used}
use Rattle.ft_trace.specs.Holds.{held_unboxed, known_state}
use Rattle.ft_trace.specs.Pictures.{root_in}
use Rattle.ft_trace.specs.ContainerStates.{ContainerState, changes}
use Rattle.ft_bank.specs.declared.table.Table.{Table}
use Rattle.ft_bank.specs.SameBoxes.{SameReferences}
use Rattle.ft_bank.specs.Whole.{OnlyLoaded, Wrote}
use Rattle.ft_bank.proofs.KnownAfterWrites.{loaded_then, work_knows}
use Rattle.ft_section.specs.declared.answers.Stamp.{Stamp}
use Rattle.ft_table_calls.specs.declared.adding.Added.{Added}
use Rattle.ft_table_calls.specs.declared.adding.Added.TheVariants as added
use Rattle.ft_table_calls.specs.Adding.{IsAdded}
use Rattle.ft_search.specs.Held.{IsHeldAt}
use Rattle.ft_search.specs.OneEntryWrites.{MayWriteEntries}
use Rattle.ft_new_keys.specs.KeyGrowth.{AddsOne, KnowsKeyed, MayAddKey, PutsKey, holds, key_takes, most_of}

pub holds_not : (d : Content) (key : Key) → IsHeldAt d key None → holds d key ≡ false
holds_not (content.Dict pairs) key none = none
holds_not (content.Set elements) key none = none
holds_not (content.List values) key none = absurd none
holds_not (content.Deque deque) key none = absurd none

-- what the key takes, and whether it is one too many, as the container is known
abbrev puts_takes : ContainerState → Key → Option ℕ
puts_takes x key = if holds x.content key then None else key_takes x.content x.table

abbrev puts_over : ContainerState → Key → Bool
puts_over x key = if holds x.content key then false else nat_lt (most_of x.content) (length_of x.content + 1)

module _ (k : Shape) (o : ℕ) (key : Key) (called : Call) (said : Reply) (v u w : View) (only : OnlyLoaded v u) where
  same : known_state o u ≡ known_state o v
  same = work_knows v u o only.work

  -- it is there
  pub puts_present : (stamp : Stamp) → changes called ≡ o → holds (known_state o u).content key ≡ true → stamp.wrote ≡ true → Wrote called said stamp.number u w → root_in (held_unboxed o w) ≡ root_in (held_unboxed o u) → SameReferences u w → PutsKey k o key called said v w (added.Made stamp)
  puts_present stamp at there is wrote root references =
      let takes : None ≡ puts_takes (known_state o v) key = sym (ap (λ (b : Bool). if b then None else key_takes (known_state o u).content (known_state o u).table) there) ∙ ap (λ (z : ContainerState). puts_takes z key) same in
      let over : false ≡ puts_over (known_state o v) key = sym (ap (λ (b : Bool). if b then false else nat_lt (most_of (known_state o u).content) (length_of (known_state o u).content + 1)) there) ∙ ap (λ (z : ContainerState). puts_over z key) same in
      let root_at = subst (λ (n : ℕ). root_in (held_unboxed n w) ≡ root_in (held_unboxed n u)) (sym at) root in
      let made : IsAdded k None false called said u w (added.Made stamp) = (refl, is, record { wrote = wrote; root = root_at; references = references }) in
      (u, only, subst (λ (z : Option ℕ × Bool). IsAdded k z.0 z.1 called said u w (added.Made stamp)) (λ i. (takes i, over i)) made)

  -- it isn't
  pub puts_absent : (what : Added) → IsHeldAt (known_state o u).content key None → AddsOne k o called said u w what → PutsKey k o key called said v w what
  puts_absent what none is =
      let not = holds_not (known_state o u).content key none in
      let takes : key_takes (known_state o u).content (known_state o u).table ≡ puts_takes (known_state o v) key = sym (ap (λ (b : Bool). if b then None else key_takes (known_state o u).content (known_state o u).table) not) ∙ ap (λ (z : ContainerState). puts_takes z key) same in
      let over : nat_lt (most_of (known_state o u).content) (length_of (known_state o u).content + 1) ≡ puts_over (known_state o v) key = sym (ap (λ (b : Bool). if b then false else nat_lt (most_of (known_state o u).content) (length_of (known_state o u).content + 1)) not) ∙ ap (λ (z : ContainerState). puts_over z key) same in
      let x = is.0 in
      (x, loaded_then v u x only is.1, subst (λ (z : Option ℕ × Bool). IsAdded k z.0 z.1 called said x w what) (λ i. (takes i, over i)) is.2)

-- a pass that may write the container may add a key
pub may_add : (k : Shape) (o : ℕ) (old : Option Table) (v u : View) → OnlyLoaded v u → used v.log ≡ false → flight v.log ≡ 0 → MayWriteEntries k o u → KnowsKeyed k o old u → MayAddKey k o old u
may_add k o old v u only unused idle may keyed = record {
  keyed = keyed;
  even = may.even;
  used = only.work.used ∙ unused;
  owes = may.owes;
  idle = only.work.pass.flight ∙ idle;
  boxes = may.boxes;
  left = may.left;
}

-- what it comes to after loads, seen from before them
pub adds_one : (k : Shape) (o : ℕ) (called : Call) (said : Reply) (v u w : View) (what : Added) (takes : Option ℕ) (over : Bool) → OnlyLoaded v u → key_takes (known_state o u).content (known_state o u).table ≡ takes → nat_lt (most_of (known_state o u).content) (length_of (known_state o u).content + 1) ≡ over → IsAdded k takes over called said u w what → AddsOne k o called said v w what
adds_one k o called said v u w what takes over only same_takes same_over is =
    let known_same : known_state o u ≡ known_state o v = work_knows v u o only.work in
    let t : takes ≡ key_takes (known_state o v).content (known_state o v).table = sym same_takes ∙ ap (λ (z : ContainerState). key_takes z.content z.table) known_same in
    let b : over ≡ nat_lt (most_of (known_state o v).content) (length_of (known_state o v).content + 1) = sym same_over ∙ ap (λ (z : ContainerState). nat_lt (most_of z.content) (length_of z.content + 1)) known_same in
    (u, only, subst (λ (z : Option ℕ × Bool). IsAdded k z.0 z.1 called said u w what) (λ i. (t i, b i)) is)
