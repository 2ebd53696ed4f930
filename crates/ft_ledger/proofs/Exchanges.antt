-- A step of the ledger exchanges one table at most: it takes one of a class, and gives one up.
use Rattle.std.proofs.Common.{◌≡◌, ◌≢◌, ℕ, ◌+◌, ◌-◌, ◌≤◌, Bool, true, false, not, Option, Some, None, refl, sym, ap, subst, ◌∙◌, arith, cond}
use Rattle.std.specs.Prelude.{◌==◌, ◌&&◌, is_some, if◌then◌else◌}
use Rattle.std.specs.Option.{option_map_or}
use Rattle.std.proofs.lemmas.Bool.{eqb-false, false≢true}
use Rattle.std.proofs.lemmas.List.{length-set}
use Rattle.std.proofs.lemmas.List.Elements.{All-filter, All-push}
use Rattle.std.proofs.lemmas.List.Sums.{sum_by_push}
use Rattle.std.proofs.lemmas.Option.{none-some}
use Rattle.ft_model.specs.declared.call.Call.{Call}
use Rattle.ft_model.specs.declared.call.Call.TheVariants as call
use Rattle.ft_model.specs.declared.entry.Entry.{Entry}
use Rattle.ft_model.specs.declared.script.ScriptParts.{ScriptParts}
use Rattle.ft_model.specs.Classes.{least_class, IsClass}
use Rattle.ft_model.specs.TableUses.{StoredWorld, after_stored, table_count, takes_in}
use Rattle.ft_ledger.specs.Ledgers.{Ledger, Retired, one_fewer, is_due, with_announced, collected, quiesced, left, with_retired, with_taken, is_out_of, taken_or_lacked, class_had, raises_else, wanted, given_up, is_quiesce, ledger_call, ledger_answer, is_last_of, ledger_step, retired_tables}
use Rattle.ft_ledger.specs.LedgerLaws.{CountsClasses}
use Rattle.ft_ledger.proofs.Counts.{count_fewer, collected_long, collected_count, collected_more}
use Rattle.ft_ledger.proofs.TableChanges.{once}

-- the class, where there is one, is a class of tables
abbrev pub IsClassOf : Option ℕ → Type 0
IsClassOf taking = (class : ℕ) → taking ≡ Some class → IsClass class

-- the tables of a class that are free or retired
abbrev pub idle : ℕ → Ledger → ℕ
idle class ledger = table_count ledger.free class + retired_tables ledger class

-- from one ledger to another, of a class, where tables of these classes were taken and given up
pub record Exchanges (class : ℕ) (took gave : Option ℕ) (before after : Ledger) : Type 0 where
  pub total : idle class after + once class took ≡ idle class before + once class gave
  pub free : table_count before.free class ≤ table_count after.free class + once class took
  pub kept : CountsClasses after

module _ (class : ℕ) (is : IsClass class) where
  then_none : (took gave : Option ℕ) (before mid after : Ledger) → Exchanges class took gave before mid → Exchanges class None None mid after → Exchanges class took gave before after
  then_none took gave before mid after first second =
      let a = first.total in
      let b = second.total in
      let c = first.free in
      let d = second.free in
      record { total = omega (arith, a, b); free = omega (arith, c, d); kept = second.kept }

  none_then : (took gave : Option ℕ) (before mid after : Ledger) → Exchanges class None None before mid → Exchanges class took gave mid after → Exchanges class took gave before after
  none_then took gave before mid after first second =
      let a = first.total in
      let b = second.total in
      let c = first.free in
      let d = second.free in
      record { total = omega (arith, a, b); free = omega (arith, c, d); kept = second.kept }

  announced_exchanges : (thread number : ℕ) (ledger : Ledger) → CountsClasses ledger → Exchanges class None None ledger (with_announced thread number ledger)
  announced_exchanges thread number ledger kept = record { total = refl; free = omega arith; kept = record { counts = kept.counts; classes = kept.classes } }

  collected_exchanges : (thread : ℕ) (ledger : Ledger) → CountsClasses ledger → Exchanges class None None ledger (collected thread ledger)
  collected_exchanges thread ledger kept =
      let same = collected_count thread ledger class kept.classes is kept.counts in
      let more = collected_more thread ledger class kept.classes is kept.counts in
      record {
        total = omega (arith, same);
        free = omega (arith, more);
        kept = record {
          counts = collected_long thread ledger ∙ kept.counts;
          classes = All-filter (λ (one : Retired). not (is_due thread ledger.announced one)) (λ (one : Retired). IsClass one.class) ledger.retired kept.classes;
        };
      }

  retired_exchanges : (thread : ℕ) (had : Option ℕ) (ledger : Ledger) → IsClassOf had → CountsClasses ledger → Exchanges class None had ledger (with_retired thread had ledger)
  retired_exchanges thread None ledger are kept = record { total = refl; free = omega arith; kept = kept }
  retired_exchanges thread (Some old) ledger are kept =
      let one : Retired = record { thread = thread; class = old; goal = ledger.number + 1 } in
      let sum = sum_by_push (λ (r : Retired). cond (r.class == class) 1 0) ledger.retired one in
      record {
        total = omega (arith, sum);
        free = omega arith;
        kept = record {
          counts = kept.counts;
          classes = All-push (λ (r : Retired). IsClass r.class) ledger.retired one kept.classes (are old refl);
        };
      }

  fewer_exchanges : (new : ℕ) (ledger : Ledger) → IsClass new → table_count ledger.free new ≢ 0 → CountsClasses ledger → Exchanges class (Some new) None ledger (record ledger { free = one_fewer ledger.free new })
  fewer_exchanges new ledger new_is some kept =
      let count = count_fewer ledger.free new class new_is is kept.counts some in
      record {
        total = omega (arith, count);
        free = omega (arith, count);
        kept = record { counts = length-set ledger.free (new - least_class) (table_count ledger.free new - 1) ∙ kept.counts; classes = kept.classes };
      }

  taken_exchanges : (thread : ℕ) (had : Option ℕ) (new : ℕ) (ledger : Ledger) → IsClassOf had → IsClass new → table_count ledger.free new ≢ 0 → CountsClasses ledger → Exchanges class (Some new) had ledger (with_taken thread had new ledger)
  taken_exchanges thread had new ledger are new_is some kept =
      let mid : Ledger = record ledger { free = one_fewer ledger.free new } in
      let first = fewer_exchanges new ledger new_is some kept in
      let second = retired_exchanges thread had mid are first.kept in
      let a = first.total in
      let b = second.total in
      let c = first.free in
      let d = second.free in
      record { total = omega (arith, a, b); free = omega (arith, c, d); kept = second.kept }

-- ---- what an entry takes and gives up

-- the class that an entry takes: the one that it wants, where one is free
abbrev pub took : StoredWorld → Ledger → Entry → Option ℕ
took stored ledger entry =
    option_map_or (λ class. if is_out_of (collected entry.thread ledger) class then None else Some class) (wanted stored entry) None

-- the class of the table that it gives up
abbrev pub gave : StoredWorld → Ledger → Entry → Option ℕ
gave stored ledger entry =
    option_map_or (λ class. if is_out_of (collected entry.thread ledger) class then None else class_had stored.tables entry.call)
    (wanted stored entry) (given_up stored entry)

none_of_none : (b : Bool) → cond {A = Option ℕ} b None None ≡ None
none_of_none true = refl
none_of_none false = refl

pub is_the_quiesce : (called : Call) → is_quiesce called ≡ true → called ≡ call.Quiesce
is_the_quiesce call.Quiesce is = refl
is_the_quiesce _ is = absurd (false≢true is)

pub quiesce_wants : (stored : StoredWorld) (entry : Entry) → is_quiesce entry.call ≡ true → wanted stored entry ≡ None
quiesce_wants stored entry is =
    ap (λ (called : Call). if raises_else entry.reply then None else takes_in stored called) (is_the_quiesce entry.call is)
    ∙ none_of_none (raises_else entry.reply)

pub quiesce_gives : (stored : StoredWorld) (entry : Entry) → is_quiesce entry.call ≡ true → given_up stored entry ≡ None
quiesce_gives stored entry is =
    ap (λ (called : Call). if entry.wrote && not (is_some (class_had (after_stored stored called).tables called)) then class_had stored.tables called else None) (is_the_quiesce entry.call is)
    ∙ none_of_none (entry.wrote && true)

given_is : (stored : StoredWorld) (entry : Entry) → IsClassOf (class_had stored.tables entry.call) → IsClassOf (given_up stored entry)
given_is stored entry are =
    elim (entry.wrote && not (is_some (class_had (after_stored stored entry.call).tables entry.call))) as (λ b. IsClassOf (if b then class_had stored.tables entry.call else None)) [
      | true ↦ are
      | false ↦ λ class none. absurd (none-some class none)
    ]

module _ (class : ℕ) (is : IsClass class) (script : ScriptParts) (stored : StoredWorld) (ledger : Ledger) (entry : Entry) (kept : CountsClasses ledger) (wants : IsClassOf (wanted stored entry)) (had : IsClassOf (class_had stored.tables entry.call)) where
  call_exchanges : Exchanges class (took stored ledger entry) (gave stored ledger entry) ledger (ledger_call stored ledger entry)
  call_exchanges =
      let mid = collected entry.thread ledger in
      let old = class_had stored.tables entry.call in
      let done = collected_exchanges class is entry.thread ledger kept in
      elim (wanted stored entry) as (λ o. IsClassOf o →
      Exchanges class (option_map_or (λ new. if is_out_of mid new then None else Some new) o None)
      (option_map_or (λ new. if is_out_of mid new then None else old) o (given_up stored entry)) ledger
      (option_map_or (λ new. taken_or_lacked entry.thread old new ledger) o (with_retired entry.thread (given_up stored entry) ledger))) [
        | None ↦ λ none. retired_exchanges class is entry.thread (given_up stored entry) ledger (given_is stored entry had) kept
        | Some new ↦ λ one.
            elim (is_out_of mid new) as (λ b. is_out_of mid new ≡ b → Exchanges class (if b then None else Some new) (if b then None else old) ledger (if b then mid else with_taken entry.thread old new mid)) [
              | true ↦ λ out. done
              | false ↦ λ some. none_then class is (Some new) old ledger mid (with_taken entry.thread old new mid) done (taken_exchanges class is entry.thread old new mid had (one new refl) (eqb-false (table_count mid.free new) 0 some) done.kept)
            ] refl
      ] wants

  answer_exchanges : Exchanges class (took stored ledger entry) (gave stored ledger entry) ledger (ledger_answer stored ledger entry)
  answer_exchanges =
      let mid = collected entry.thread ledger in
      let announced = announced_exchanges class is entry.thread ledger.number ledger kept in
      elim (is_quiesce entry.call) as (λ b. is_quiesce entry.call ≡ b → Exchanges class (took stored ledger entry) (gave stored ledger entry) ledger (if b then quiesced entry.thread ledger else ledger_call stored ledger entry)) [
        | true ↦ λ quiesces.
            let none : None ≡ took stored ledger entry = sym (ap (λ o. option_map_or (λ new. if is_out_of mid new then None else Some new) o None) (quiesce_wants stored entry quiesces)) in
            let nothing : None ≡ gave stored ledger entry = sym (ap (λ o. option_map_or (λ new. if is_out_of mid new then None else class_had stored.tables entry.call) o (given_up stored entry)) (quiesce_wants stored entry quiesces) ∙ quiesce_gives stored entry quiesces) in
            subst (λ t. Exchanges class t (gave stored ledger entry) ledger (quiesced entry.thread ledger)) none
            (subst (λ g. Exchanges class None g ledger (quiesced entry.thread ledger)) nothing
            (then_none class is None None ledger (with_announced entry.thread ledger.number ledger) (quiesced entry.thread ledger) announced (collected_exchanges class is entry.thread (with_announced entry.thread ledger.number ledger) announced.kept)))
        | false ↦ λ other. call_exchanges
      ] refl

  pub step_exchanges : Exchanges class (took stored ledger entry) (gave stored ledger entry) ledger (ledger_step script stored ledger entry)
  step_exchanges =
      let after = ledger_answer stored ledger entry in
      let done = answer_exchanges in
      let announced = announced_exchanges class is entry.thread 0 after done.kept in
      elim (is_last_of script entry) as (λ b. Exchanges class (took stored ledger entry) (gave stored ledger entry) ledger (if b then left entry.thread after else after)) [
        | true ↦ then_none class is (took stored ledger entry) (gave stored ledger entry) ledger after (left entry.thread after) done
            (then_none class is None None after (with_announced entry.thread 0 after) (left entry.thread after) announced (collected_exchanges class is entry.thread (with_announced entry.thread 0 after) announced.kept))
        | false ↦ done
      ]
