-- Which table a list takes for its items, by the table that it has.
use Rattle.std.proofs.Common.{◌≡◌, ℕ, zero, suc, ◌<◌, ◌≤◌, Bool, true, false, true≢false, List, ◌∷◌, Option, Some, None, refl, sym, ap, ◌∙◌, subst, arith, ltb-true, ltb-false, lt-ltb, []}
use Rattle.std.specs.Prelude.{◌&&◌, nat_lt, is_some, slice_index, if◌then◌else◌}
use Rattle.std.specs.Option.{unwrap_or}
use Rattle.ft_model.specs.declared.content.Content.{Content}
use Rattle.ft_model.specs.declared.content.Content.TheVariants as content
use Rattle.ft_model.specs.declared.data.Value.{Value}
use Rattle.ft_model.specs.Classes.{list_class, list_items}
use Rattle.ft_model.specs.TableUses.{no_table, list_takes, outgrows_list}
use Rattle.ft_layout.specs.Containers.{IsListWords, StandsAs}
use Rattle.ft_trace.specs.declared.Shape.{Shape}
use Rattle.ft_trace.specs.declared.View.{View}
use Rattle.ft_trace.specs.Holds.{held_unboxed, known_state}
use Rattle.ft_bank.specs.declared.table.Table.{Table}
use Rattle.ft_bank.specs.TableNames.{table_id}
use Rattle.ft_bank.proofs.TableAddresses.{class_is}
use Rattle.ft_list.specs.ListItemWrites.{known_items}
use Rattle.ft_list.specs.Internal.NewListTables.{KnowsList, list_use_of}
use Rattle.ft_list.proofs.Lists.{list_known}

pub some_is : {A : Type 0} (any a b : A) → Some a ≡ Some b → a ≡ b
some_is {A = A} any a b e = ap (λ (z : Option A). unwrap_or z any) e

some_none : {A B : Type 0} (a : A) → Some a ≡ None → B
some_none a e = absurd (true≢false (ap is_some e))

if_some : (b : Bool) (x c : ℕ) → (if b then Some x else None) ≡ Some c → (b ≡ true) × (x ≡ c)
if_some true x c e = (refl, some_is 0 x c e)
if_some false x c e = some_none c (sym e)

if_none : (b : Bool) (x : ℕ) → (if b then Some x else None) ≡ None → b ≡ false
if_none true x e = some_none x e
if_none false x e = refl

and_true : (a b : Bool) → (a && b) ≡ true → b ≡ true
and_true true b e = e
and_true false b e = absurd (true≢false (sym e))

true_and : (a b : Bool) → a ≡ true → (a && b) ≡ false → b ≡ false
true_and true b one e = e
true_and false b one e = absurd (true≢false (sym one))

-- where it takes one
pub wanted_some : (old : Option Table) (n class : ℕ) → list_takes (list_use_of old) n ≡ Some class → (list_class n ≡ class) × ((t : Table) → old ≡ Some t → list_items t.class < n)
wanted_some None n class is = ((if_some (outgrows_list no_table n) (list_class n) class is).1, (λ t e. some_none t (sym e)))
wanted_some (Some q) n class is =
    let x = if_some (outgrows_list (list_use_of (Some q)) n) (list_class n) class is in (
      x.1,
      (λ t e.
          let same : q ≡ t = some_is q q t e in
          subst (λ (z : Table). list_items z.class < n) same (ltb-true (list_items q.class) n (and_true (nat_lt 0 n) (nat_lt (list_items q.class) n) x.0))),
    )

-- where it takes none, and has items
pub wanted_none : (old : Option Table) (n : ℕ) → 0 < n → list_takes (list_use_of old) n ≡ None → (t : Table) × (old ≡ Some t) × (n ≤ list_items t.class)
wanted_none None n some_one is =
    let x = if_none (outgrows_list no_table n) (list_class n) is in
    absurd (true≢false (true_and (nat_lt 0 n) true (lt-ltb 0 n some_one) x))
wanted_none (Some q) n some_one is =
    let x = if_none (outgrows_list (list_use_of (Some q)) n) (list_class n) is in
    (q, refl, ltb-false (list_items q.class) n (true_and (nat_lt 0 n) (nat_lt (list_items q.class) n) (lt-ltb 0 n some_one) x))

-- the table that it has then holds them, if it has one, and else it has none
pub wanted_room : (t : Table) (n : ℕ) → list_takes (list_use_of (Some t)) n ≡ None → n ≤ list_items t.class
wanted_room t zero is = omega arith
wanted_room t (suc n) is =
    let x = wanted_none (Some t) (suc n) (omega arith) is in
    subst (λ (z : Table). suc n ≤ list_items z.class) (sym (some_is t t x.0 x.1)) x.2

pub wanted_bare : (n : ℕ) → list_takes (list_use_of None) n ≡ None → n ≡ 0
wanted_bare zero is = refl
wanted_bare (suc n) is = let x = wanted_none None (suc n) (omega arith) is in some_none x.0 (sym x.1)

-- ---- the table that it has

no_class : (block words : List ℕ) (class : Option ℕ) (values : List Value) → IsListWords block words class values → slice_index block 0 ≡ 0 → class ≡ None
no_class block words None values says none = refl
no_class block words (Some class) values says none = absurd (let r = says.head.root.1.2 in omega (arith, none, r))

pub list_use : (k : Shape) (o : ℕ) (old : Option Table) (v : View) → KnowsList k o old v → (known_state o v).content ≡ content.List (known_items o v) → (known_state o v).table.keys ≡ [] → (known_state o v).table ≡ list_use_of old
list_use k o None v list is keys =
    let says : IsListWords (held_unboxed o v).block (0 ∷ 0 ∷ (held_unboxed o v).table) (known_state o v).table.class (known_items o v) × ((known_state o v).table.fill ≡ 0) = subst (λ (z : Content). StandsAs k.texts (held_unboxed o v).block (0 ∷ 0 ∷ (held_unboxed o v).table) (known_state o v).table z) is list.stands in
    let none = no_class (held_unboxed o v).block (0 ∷ 0 ∷ (held_unboxed o v).table) (known_state o v).table.class (known_items o v) says.0 list.root in
    λ d. record { class = none d; fill = says.1 d; keys = keys d }
list_use k o (Some t) v list is keys =
    (list_known k.texts v o (table_id t) is list.stands list.root).1 keys
    ∙ ap (λ (n : ℕ). record { class = Some n; fill = 0; keys = [] }) (class_is t (list.table_in t refl).2)
