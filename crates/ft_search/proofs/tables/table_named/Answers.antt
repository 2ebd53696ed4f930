use Rattle.std.proofs.Common.{◌≡◌, ◌↔◌, ◌+◌, ◌*◌, ◌<◌, ℕ, zero, suc, Option, Some, None, refl, sym, ◌∙◌, subst, arith}
use Rattle.std.proofs.lemmas.Option.{none-some}
use Rattle.ft_model.specs.Classes.{IsClass}
use Rattle.ft_layout.specs.Words.{IsRootOf}
use Rattle.ft_trace.specs.declared.Shape.{Shape}
use Rattle.ft_trace.specs.Addresses.{class_of, number_of, tables_in, IsTableName}
use Rattle.ft_bank.specs.declared.table.Table.{Table}
use Rattle.ft_bank.specs.TableNames.{table_id, IsTableIn}
use Rattle.ft_bank.proofs.TableAddresses.{class_is, number_is}
use Rattle.ft_search.proofs.tables.table_named.Goals as goal

-- a table's root is the root of its class and number
root_is : (t : ℕ) → suc t ≡ class_of t * 65536 + number_of t + 1
unfolding class_of number_of
root_is t = omega arith

none_named : (root : ℕ) (found : Option (ℕ × ℕ)) → ((class number : ℕ) → IsRootOf root class number ↔ (found ≡ Some (class, number))) → found ≡ None → (k : Shape) → ((t : ℕ) → root ≡ suc t → IsTableName k t) → root ≡ 0
none_named zero found says none k names = refl
none_named (suc t) found says none k names =
    let is = names t refl in
    absurd (none-some (class_of t, number_of t) (sym none ∙ (says (class_of t) (number_of t)).0 (is.0, is.2, root_is t)))

abbrev of_parts : ℕ → ℕ → Table
of_parts class number = record { class = class; number = number }

in_bank : (class number root : ℕ) → IsRootOf root class number → (k : Shape) → ((t : ℕ) → root ≡ suc t → IsTableName k t) → IsTableIn k (of_parts class number)
in_bank class number root is k names =
    let table = of_parts class number in
    let c = class_is table is.1 in
    let n = number_is table is.1 in
    subst (λ (x : ℕ × ℕ). IsClass x.0 × (x.1 < tables_in k x.0) × (x.1 < 1024)) (λ d. (c d, n d)) (names (table_id table) (let e = is.2 in omega (arith, e)))

pub returns-in-Some-clause-named : goal.returns-in-Some-clause-named
returns-in-Some-clause-named c =
    let is = (c.root_of.ensures.says c.in-Some.class c.in-Some.number).1 c.in-Some.is in
    let e = is.2 in
    omega (arith, e)

pub returns-in-Some-clause-in_bank : goal.returns-in-Some-clause-in_bank
returns-in-Some-clause-in_bank c k names =
    in_bank c.in-Some.class c.in-Some.number c.args.root ((c.root_of.ensures.says c.in-Some.class c.in-Some.number).1 c.in-Some.is) k names

pub returns-in-None-clause-none : goal.returns-in-None-clause-none
returns-in-None-clause-none c k names = none_named c.args.root c.root_of.result c.root_of.ensures.says c.in-None.is k names
