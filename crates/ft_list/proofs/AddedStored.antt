-- Calls that add a value in place or in a box: what the pass may store it may store still, the write stores the box, and
-- what such a call comes to where the value stands in place.
use Rattle.std.proofs.Common.{◌≡◌, ◌≢◌, ℕ, zero, suc, ◌+◌, ◌<◌, ◌≤◌, Bool, List, length, Option, Some, None, refl, sym, ap, ◌∙◌, subst, inl, inr, arith}
use mathlib.Core.Logic.{dite}
use native.Mathlib.Decide.{ℕ_discrete}
use Rattle.ft_model.specs.declared.call.Call.{Call}
use Rattle.ft_model.specs.declared.data.Value.{Value}
use Rattle.ft_model.specs.declared.reply.Reply.TheVariants as reply
use Rattle.ft_model.specs.declared.script.Kind.TheVariants as kind
use Rattle.ft_model.specs.TableUses.{StoredWorld}
use Rattle.ft_layout.specs.declared.slot.Stored.{Stored}
use Rattle.ft_layout.specs.declared.slot.Stored.TheVariants.{Empty, Plain}
use Rattle.ft_layout.specs.Words.{FitsStored, stored_kind, stored_payload}
use Rattle.ft_trace.specs.declared.Shape.{Shape}
use Rattle.ft_trace.specs.declared.View.{View}
use Rattle.ft_trace.specs.Acts.{mem}
use Rattle.ft_trace.specs.Addresses.{class_of, slots}
use Rattle.ft_trace.specs.Boxes.{named_in_container, place_use, use_taken, StoresTaken}
use Rattle.ft_trace.specs.ContainerStates.{changes, kind_in}
use Rattle.ft_trace.specs.Holds.{held_words}
use Rattle.ft_trace.specs.Pictures.{ContainerWords, item_field}
use Rattle.ft_trace.specs.Traces.{IsReachable}
use Rattle.ft_bank.specs.declared.table.Table.{Table}
use Rattle.ft_bank.specs.SameBoxes.{SameBoxes, SameReferences}
use Rattle.ft_bank.specs.TableNames.{table_id}
use Rattle.ft_bank.specs.WriteSteps.{MayHave}
use Rattle.ft_search.specs.Boxed.{KeepsOwn}
use Rattle.ft_search.proofs.Overs.{held_same, plain_names, plain_refs}
use Rattle.ft_search.proofs.Owning.{held_is_box, plain_seen}
use Rattle.ft_trace.proofs.ValuePlaces.{plain_kind}
use Rattle.ft_search.proofs.Unboxing.{reads_boxed, reads_plain}
use Rattle.ft_table_calls.specs.declared.adding.Added.{Added}
use Rattle.ft_table_calls.specs.declared.adding.Added.TheVariants as added
use Rattle.ft_table_calls.specs.Adding.{IsAdded, Retires}
use Rattle.ft_list.specs.declared.addition.Addition.{Addition}
use Rattle.ft_list.specs.declared.addition.Addition.TheVariants.{All, One}
use Rattle.ft_list.specs.HeldValues.{GivesReference, IsAddedStoring}
use Rattle.ft_list.specs.ListItemWrites.{WritesList}
use Rattle.ft_list.specs.Internal.Additions.{CanStore, count_in, first_in, stored_in, IsAddition, KnowsItems, NamesAdded, StoresAddition}
use Rattle.ft_list.specs.Internal.Carrying.{KeepsItemValues}
use Rattle.ft_search.specs.HeldValues.{StoresBox}
use Rattle.ft_list.proofs.CarriedWords.{words_kept, words_low}
use Rattle.ft_list.proofs.NamedItems.{box_named, item_named}

-- where all that the pass has to do with boxes is as it was
pub keeps_boxes : (v w : View) → ∥ IsReachable v ∥₁ → SameBoxes v w → KeepsOwn v w
keeps_boxes v w possible same kind payload own =
    dite (ℕ_discrete kind 4)
    (λ four.
    let o = own four in
    let name = held_is_box v payload possible o.0 in
    let one = same.knows payload 1 name (inl refl) o.1 in
    let two = same.knows payload 2 name (inr refl) o.2 in
    let now = reads_boxed w kind payload four in
    let was = reads_boxed v kind payload four in (
      (λ is. (subst (λ (n : ℕ). 0 < n) (sym (same.references payload)) o.0, one.0, two.0)),
      now.0 ∙ (one.1 ∙ sym was.0),
      now.1 ∙ (two.1 ∙ sym was.1),
    ))
    (λ ne.
    let now = reads_plain w kind payload ne in
    let was = reads_plain v kind payload ne in
    ((λ is. absurd (ne is)), now.0 ∙ sym was.0, now.1 ∙ sym was.1))

-- ---- the box that is added

-- steps that leave the values of the items
pub names_kept : (o : ℕ) (values : List Value) (addition : Addition) (u v w : View) → KeepsItemValues o v w → NamesAdded o values addition u v → NamesAdded o values addition u w
names_kept o values (One place value stored) u v w keeps names = λ four. words_kept o values place value (stored_kind stored) (stored_payload stored) v w keeps (names four)
names_kept o values (All other more) u v w keeps names = λ p low. let n = names p low in (keeps (length values + p) 1 (omega arith) (omega arith) ∙ n.0, keeps (length values + p) 2 (omega arith) (omega arith) ∙ n.1)

-- what the items had that are added
abbrev pub SameGiven : Addition → View → View → Type 0
SameGiven (One place value stored) u v = Unit {0}
SameGiven (All other more) u v = (p : ℕ) → p < more → (item_field (held_words other v).table p 1 ≡ item_field (held_words other u).table p 1) × (item_field (held_words other v).table p 2 ≡ item_field (held_words other u).table p 2)

pub given_same : (k : Shape) (count : ℕ) (addition : Addition) (u v : View) → IsAddition k count addition u → ((p : ℕ) → KnowsItems k p u → held_words p v ≡ held_words p u) → SameGiven addition u v
given_same k count (One place value stored) u v is same = tt
given_same k count (All other more) u v is same = λ p low. (ap (λ (x : ContainerWords). item_field x.table p 1) (same other is.1), ap (λ (x : ContainerWords). item_field x.table p 2) (same other is.1))

pub names_from : (o : ℕ) (values : List Value) (addition : Addition) (u v w : View) → SameGiven addition u v → NamesAdded o values addition v w → NamesAdded o values addition u w
names_from o values (One place value stored) u v w same names = names
names_from o values (All other more) u v w same names = λ p low. let n = names p low in let s = same p low in (n.0 ∙ s.0, n.1 ∙ s.1)

pub words_kept_all : (o : ℕ) (v w : View) → (held_words o w).table ≡ (held_words o v).table → KeepsItemValues o v w
words_kept_all o v w same place word some_ few = ap (λ (l : List ℕ). item_field l place word) same

-- nothing is taken where no item is added alone
pub stores_untaken : (addition : Addition) (called : Call) (v : View) → count_in addition ≡ 0 → StoresAddition addition called v → (b : ℕ) → place_use b v.log ≢ use_taken
stores_untaken (One place value stored) called v none stores = absurd (omega (arith, none))
stores_untaken (All other more) called v none stores = stores

pub names_none : (o : ℕ) (values : List Value) (addition : Addition) (v w : View) → count_in addition ≡ 0 → NamesAdded o values addition v w
names_none o values (One place value stored) v w none = absurd (omega (arith, none))
names_none o values (All other more) v w none = λ p low. absurd (omega (arith, none, low))

-- and then no reference is the list's
pub gives_all : (k : Shape) (v w : View) → v.shape ≡ k → w.shape ≡ k → SameReferences v w → GivesReference k Empty v w
gives_all k v w first then_ same b =
    let e = held_same k v w first then_ same b in
    let none = plain_names b 0 0 (λ four. absurd (omega (arith, four))) in
    omega (arith, e, none)

pub gives_none : (k : Shape) (addition : Addition) (v w : View) → count_in addition ≡ 0 → v.shape ≡ k → w.shape ≡ k → SameReferences v w → GivesReference k (stored_in addition) v w
gives_none k (One place value stored) v w none first then_ same = absurd (omega (arith, none))
gives_none k (All other more) v w none first then_ same = gives_all k v w first then_ same

-- a value that words can represent may be stored in place
pub plain_store : (value : Value) (v : View) → FitsStored (Plain value) → CanStore value (Plain value) v
plain_store value v fits = record { fits = fits; own = λ four. absurd (plain_kind value four); reads = plain_seen v (Plain value) (plain_kind value) fits }

-- a value in place is stored where no place was taken
pub stores_plain : (stored : Stored) (called : Call) (v : View) → ((b : ℕ) → place_use b v.log ≢ use_taken) → StoresBox stored called v
stores_plain stored called v none = record { named = λ b taken. absurd (none b taken); boxing = λ b taken. absurd (none b taken) }

module _ (called : Call) (v u : View) (before : (b : ℕ) → place_use b u.log ≡ use_taken → place_use b v.log ≡ use_taken) (earlier : (world : StoredWorld) → MayHave u world → MayHave v world) where
  pub stores_on : (addition : Addition) → StoresAddition addition called v → StoresAddition addition called u
  stores_on (One place value stored) stores = record {
    named = λ b taken. stores.named b (before b taken);
    boxing = λ b taken world has. stores.boxing b (before b taken) world (earlier world has);
  }
  stores_on (All other more) none = λ b taken. none b (before b taken)

  module _ (k : Shape) (o : ℕ) (table : Table) (shape : u.shape ≡ k) (list : WritesList k o table u) (at : changes called ≡ o) where
    is_kind : kind_in u.shape.starts o ≡ kind.List
    is_kind = ap (λ (z : Shape). kind_in z.starts o) shape ∙ list.kind

    -- a box that no write of the pass has stored is stored by this one
    pub stores_added : (addition : Addition) (values : List Value) (count : ℕ) → count ≡ length values → first_in addition count ≤ count → count + count_in addition ≤ slots (class_of (table_id table)) → StoresAddition addition called v → (given : View) → NamesAdded o values addition given u → (world : StoredWorld) → MayHave u world → StoresTaken u.shape world.world u.log called
    stores_added (One place value stored) values count n low room stores given names world has =
        let kd = stored_kind stored in
        let pl = stored_payload stored in (
          (λ b taken.
              let was = before b taken in
              let is = box_named b kd pl (stores.named b was) in
              let h = names is.0 in
              let less = words_low o values place value kd pl u (omega (arith, n, low)) h in (
                subst (λ (q : ℕ). named_in_container u.shape b q (mem u.shape u.log) ≢ 0) (sym at) (item_named u o (table_id table) h.0 b is_kind list.root (omega (arith, less, n, room)) (h.3 ∙ is.0) (h.4 ∙ is.1)),
                stores.boxing b was world (earlier world has),
              )),
          (λ b c one two.
              let first = box_named b kd pl (stores.named b (before b one)) in
              let second = box_named c kd pl (stores.named c (before c two)) in
              sym first.1 ∙ second.1),
        )
    stores_added (All other more) values count n low room none given names world has = ((λ b taken. absurd (none b (before b taken))), (λ b c one two. absurd (none b (before b one))))

-- ---- what the call comes to

-- where a value in place is added
pub plain_added : (k : Shape) (takes : Option ℕ) (over : Bool) (stored : Stored) (called : Call) (v w : View) (what : Added) → v.shape ≡ k → stored_kind stored ≢ 4 → IsAddedStoring k takes over stored called v w what → IsAdded k takes over called reply.Done v w what
plain_added k None over stored called v w (added.Made stamp) shape ne x =
    let y = x.2 in
    (x.0, x.1, record { wrote = y.wrote; root = y.root; references = plain_refs k v w (stored_kind stored) (stored_payload stored) shape (y.wrote.pass.shape ∙ shape) ne y.references })
plain_added k (Some class) over stored called v w (added.Made stamp) shape ne x =
    let y = x.2 in
    let first : y.taken.shape ≡ k = y.tried.same.shape ∙ shape in (
      x.0,
      x.1,
      record {
        table = y.table;
        taken = y.taken;
        tried = y.tried;
        other = y.other;
        done = y.done;
        wrote = y.wrote;
        root = y.root;
        references = plain_refs k y.taken y.done (stored_kind stored) (stored_payload stored) first (y.wrote.pass.shape ∙ first) ne y.references;
        retired = y.retired;
      },
    )
plain_added k takes over stored called v w (added.NoTable class stamp) shape ne x = x
plain_added k takes over stored called v w (added.Over stamp) shape ne x = x
plain_added k takes over stored called v w (added.NoPlace stamp) shape ne x = x
plain_added k takes over stored called v w (added.Moved a b) shape ne x = x

-- the retirement of a table takes no step with boxes
pub retired_uses : (root : ℕ) (v w : View) → Retires root v w → (b : ℕ) → place_use b w.log ≡ place_use b v.log
retired_uses zero v w is b = ap (λ (z : View). place_use b z.log) is
retired_uses (suc t) v w is b = ap (λ (z : View). place_use b z.log) is.1
