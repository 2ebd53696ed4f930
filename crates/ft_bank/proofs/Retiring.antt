-- The bits of retired tables after a step of their pass.
use Rattle.std.proofs.Common.{◌≡◌, ◌≢◌, ◌⊎◌, ℕ, ◌+◌, ◌-◌, ◌*◌, ◌/◌, ◌%◌, ◌^◌, ◌<◌, ◌≤◌, Bool, true, false, true≢false, List, [], length, refl, sym, ap, ◌∙◌, subst, inl, inr, ⊎_elim, arith, length-set, get_or-set_same, get_or-set_other}
use Rattle.std.specs.Prelude.{bit_or, cond, max, slice_index, slice_set, replicate}
use Rattle.std.proofs.lemmas.Nat.Bits.{bit_at_or}
use Rattle.std.proofs.Math.Logic.{∥∥₁_elim}
use Rattle.std.proofs.Math.Nat.{le-max_left, le-max_right, max-le, ℕ_set}
use mathlib.Core.Logic.{dite}
use native.Mathlib.Decide.{ℕ_discrete}
use Rattle.ft_model.specs.Classes.{IsClass}
use Rattle.ft_trace.specs.declared.Act.TheVariants.{GiveTable, PutHeader, ReadCounter}
use Rattle.ft_trace.specs.Addresses.{IsTableName, free_word_of, free_bit_of, tables_in}
use Rattle.ft_trace.proofs.Addresses.{fw_low, bt_low, same_bit}
use Rattle.ft_trace.proofs.Bits.{bit_small, off_same, off_else, on_same, on_else}
use Rattle.ft_trace.proofs.Cases.{miss, here as here_as}
use Rattle.ft_bank.proofs.Freeing.{word_is, bit_is}
use Rattle.ft_bank.proofs.TableAddresses.{named}
use Rattle.std.proofs.lemmas.List.{get_or-replicate}
use native.Mathlib.Nat.{zero-div}
use Rattle.ft_trace.specs.declared.Act.{Act}
use Rattle.ft_trace.specs.declared.Shape.{Shape}
use Rattle.ft_trace.specs.declared.View.{View}
use Rattle.ft_trace.specs.Acts.{stage, goal, has_goal, has_goal_next, is_handed, hands_over, view_after, both}
use Rattle.ft_trace.specs.Traces.{IsReachable}
use Rattle.ft_trace.proofs.HandedOver.{either_way, where_true, where_false, handed_is, goal_of, is_there}
use Rattle.ft_trace.proofs.Headers.{goals_stand}
use Rattle.ft_trace.specs.Bits.{bit, bit_on, bit_off}
use Rattle.ft_bank.specs.declared.table.Table.{Table}
use Rattle.ft_bank.specs.TableNames.{table_id, IsTableIn}
use Rattle.ft_bank.specs.Retired.{AreRetired, TakesOver, table_of_bit}

-- the same tables are retired
pub retired_same : (words : List ℕ) (v w : View) → w.shape ≡ v.shape → ((t : ℕ) → has_goal t w.log ≡ has_goal t v.log) → AreRetired words v → AreRetired words w
retired_same words v w shape same old = record {
  long = old.long;
  some = λ n b low small one.
      let o = old.some n b low small one in
      (subst (λ (z : Shape). IsTableIn z (table_of_bit n b)) (sym shape) o.0, same (table_id (table_of_bit n b)) ∙ o.1);
  all = λ t table has. old.all t (subst (λ (z : Shape). IsTableIn z t) shape table) (sym (same (table_id t)) ∙ has);
}

pub retired_by : (words : List ℕ) (v w : View) (a : Act) → w ≡ view_after a v → ((t : ℕ) (b : Bool) → has_goal_next t a b ≡ b) → AreRetired words v → AreRetired words w
retired_by words v w a is leaves old = retired_same words v w (ap (λ (u : View). u.shape) is) (λ t. ap (λ (u : View). has_goal t u.log) is ∙ leaves t (has_goal t v.log)) old

bit_zero : (b : ℕ) → bit b 0 ≡ 0
unfolding bit
bit_zero b = ap (λ (z : ℕ). z % 2) (zero-div (2 ^ b))

-- at first none is
pub retired_none : (v : View) → v.log ≡ [] → AreRetired (replicate 224 0) v
retired_none v none = record {
  long = refl;
  some = λ n b low small one. absurd (let z = ap (bit b) (get_or-replicate 224 n 0 0 low) ∙ bit_zero b in omega (arith, z, one));
  all = λ t table has. absurd (true≢false (sym (sym (ap (has_goal (table_id t)) none) ∙ has)));
}

-- the bit of a table is its own
pub bits_of : (n b : ℕ) → n < 224 → b < 64 → (free_word_of (table_id (table_of_bit n b)) ≡ n) × (free_bit_of (table_id (table_of_bit n b)) ≡ b)
bits_of n b low small =
    let q = table_of_bit n b in
    let less : 64 * (n % 16) + b < 1024 = omega (arith, low, small) in
    let class : IsClass (3 + n / 16) = record { least = omega arith; greatest = omega (arith, low) } in
    let w = word_is q class less in
    let c = bit_is q less in
    (omega (arith, w, small), omega (arith, c, small))

-- the table of the word and bit that a table has is the table
table_named : (t : Table) (n b : ℕ) → n ≡ 16 * (t.class - 3) + t.number / 64 → b ≡ t.number % 64 → 3 ≤ t.class → t.number < 1024 → table_id t ≡ table_id (table_of_bit n b)
table_named t n b e f class low =
    let c : 3 + n / 16 ≡ t.class = omega (arith, e, class, low) in
    let m : 64 * (n % 16) + b ≡ t.number = omega (arith, e, f, low) in
    omega (arith, c, m)

named_back : (k : Shape) (t q : Table) → IsTableIn k t → table_id t ≡ table_id q → q.number < 1024 + 64 → IsTableIn k q
named_back k t q is same less =
    let low = is.2 in
    let c : q.class ≡ t.class = omega (arith, same, less, low) in
    let n : q.number ≡ t.number = omega (arith, same, less, low) in
    subst (λ (z : ℕ × ℕ). IsClass z.0 × (z.1 < tables_in k z.0) × (z.1 < 1024)) (λ i. (sym c i, sym n i)) is

abbrev pub word_set : List ℕ → Table → ℕ → List ℕ
word_set words t x = slice_set words (free_word_of (table_id t)) x

module _ (words : List ℕ) (v w : View) (t : Table) (table : IsTableIn v.shape t) (old : AreRetired words v) where
  abbrev fw : ℕ
  fw = free_word_of (table_id t)

  abbrev fb : ℕ
  fb = free_bit_of (table_id t)

  there : fw < length words
  there = let l = old.long in let low = fw_low v.shape (table_id t) (named v.shape t table) in omega (arith, l, low)

  -- a word after one bit of it was changed
  at_word : (x n : ℕ) → n ≡ fw → slice_index (word_set words t x) n ≡ x
  at_word x n e = ap (slice_index (word_set words t x)) e ∙ get_or-set_same words fw x 0 there

  at_else : (x n : ℕ) → n ≢ fw → slice_index (word_set words t x) n ≡ slice_index words n
  at_else x n ne = get_or-set_other words fw n x 0 ne

  -- another bit is another table's
  apart : (n b : ℕ) → n < 224 → b < 64 → ((n ≡ fw → b ≢ fb)) → table_id t ≢ table_id (table_of_bit n b)
  apart n b low small ne e = let o = bits_of n b low small in ne (sym o.0 ∙ ap free_word_of (sym e)) (sym o.1 ∙ ap free_bit_of (sym e))

  pub given_back : w ≡ view_after (GiveTable (table_id t)) v → AreRetired (word_set words t (bit_off fb (slice_index words fw))) w
  given_back is = record {
    long = length-set words fw (bit_off fb (slice_index words fw)) ∙ old.long;
    some = λ n b low small one.
        let x = bit_off fb (slice_index words fw) in
        let was : ((n ≡ fw → b ≢ fb)) × (bit b (slice_index words n) ≡ 1) =
        dite (ℕ_discrete n fw)
        (λ (e : n ≡ fw).
        let now : bit b x ≡ 1 = sym (ap (bit b) (at_word x n e)) ∙ one in
        dite (ℕ_discrete b fb)
        (λ (f : b ≡ fb). absurd (let z = off_same fb (slice_index words fw) (bt_low (table_id t)) in let y : bit fb x ≡ 1 = ap (λ (i : ℕ). bit i x) (sym f) ∙ now in omega (arith, z, y)))
        (λ far. ((λ _. far), ap (λ (i : ℕ). bit b (slice_index words i)) e ∙ (sym (off_else fb b (slice_index words fw) (bt_low (table_id t)) small (λ z. far (sym z))) ∙ now))))
        (λ far. ((λ e. absurd (far e)), sym (ap (bit b) (at_else x n far)) ∙ one)) in
        let o = old.some n b low small was.1 in (
          subst (λ (z : Shape). IsTableIn z (table_of_bit n b)) (sym (ap (λ (u : View). u.shape) is)) o.0,
          ap (λ (u : View). has_goal (table_id (table_of_bit n b)) u.log) is ∙ (miss (table_id t) (table_id (table_of_bit n b)) false _ (apart n b low small was.0) ∙ o.1),
        );
    all = λ q inside has.
        let x = bit_off fb (slice_index words fw) in
        let here : IsTableIn v.shape q = subst (λ (z : Shape). IsTableIn z q) (ap (λ (u : View). u.shape) is) inside in
        let now : has_goal_next (table_id q) (GiveTable (table_id t)) (has_goal (table_id q) v.log) ≡ true = sym (ap (λ (u : View). has_goal (table_id q) u.log) is) ∙ has in
        let ne : table_id t ≢ table_id q = λ e. true≢false (sym now ∙ here_as (table_id t) (table_id q) false _ e) in
        let o = old.all q here (sym (miss (table_id t) (table_id q) false _ ne) ∙ now) in
        dite (ℕ_discrete (free_word_of (table_id q)) fw)
        (λ (e : free_word_of (table_id q) ≡ fw).
        let far : fb ≢ free_bit_of (table_id q) = λ z. ne (same_bit v.shape (table_id t) (table_id q) (named v.shape t table) (named v.shape q here) (sym e) z) in
        ap (bit (free_bit_of (table_id q))) (at_word x (free_word_of (table_id q)) e) ∙ (off_else fb (free_bit_of (table_id q)) (slice_index words fw) (bt_low (table_id t)) (bt_low (table_id q)) far ∙ (ap (λ (i : ℕ). bit (free_bit_of (table_id q)) (slice_index words i)) (sym e) ∙ o)))
        (λ far. ap (bit (free_bit_of (table_id q))) (at_else x (free_word_of (table_id q)) far) ∙ o);
  }

  pub goal_put : (g : ℕ) → w ≡ view_after (PutHeader (table_id t) g) v → AreRetired (word_set words t (bit_on fb (slice_index words fw))) w
  goal_put g is = record {
    long = length-set words fw (bit_on fb (slice_index words fw)) ∙ old.long;
    some = λ n b low small one.
        let x = bit_on fb (slice_index words fw) in
        let q = table_of_bit n b in
        let mine : (n ≡ fw) → (b ≡ fb) → table_id t ≡ table_id q =
        λ e f. (let less = table.2 in let class = table.0.least in let wi = word_is t table.0 less in let bi = bit_is t less in table_named t n b (e ∙ wi) (f ∙ bi) class less) in
        let was : ((n ≡ fw) × (b ≡ fb)) ⊎ (((n ≡ fw → b ≢ fb)) × (bit b (slice_index words n) ≡ 1)) =
        dite (ℕ_discrete n fw)
        (λ (e : n ≡ fw).
        let now : bit b x ≡ 1 = sym (ap (bit b) (at_word x n e)) ∙ one in
        dite (ℕ_discrete b fb) (λ (f : b ≡ fb). inl (e, f))
        (λ far. inr ((λ _. far), ap (λ (i : ℕ). bit b (slice_index words i)) e ∙ (sym (on_else fb b (slice_index words fw) (bt_low (table_id t)) (λ z. far (sym z))) ∙ now))))
        (λ far. inr ((λ e. absurd (far e)), sym (ap (bit b) (at_else x n far)) ∙ one)) in
        ⊎_elim
        (λ (z : (n ≡ fw) × (b ≡ fb)). (
          subst (λ (y : Shape). IsTableIn y q) (sym (ap (λ (u : View). u.shape) is)) (named_back v.shape t q table (mine z.0 z.1) (omega (arith, small))),
          ap (λ (u : View). has_goal (table_id q) u.log) is ∙ here_as (table_id t) (table_id q) true _ (mine z.0 z.1),
        ))
        (λ (z : ((n ≡ fw → b ≢ fb)) × (bit b (slice_index words n) ≡ 1)).
        let o = old.some n b low small z.1 in (
          subst (λ (y : Shape). IsTableIn y q) (sym (ap (λ (u : View). u.shape) is)) o.0,
          ap (λ (u : View). has_goal (table_id q) u.log) is ∙ (miss (table_id t) (table_id q) true _ (apart n b low small z.0) ∙ o.1),
        )) was;
    all = λ q inside has.
        let x = bit_on fb (slice_index words fw) in
        let here : IsTableIn v.shape q = subst (λ (z : Shape). IsTableIn z q) (ap (λ (u : View). u.shape) is) inside in
        dite (ℕ_discrete (table_id t) (table_id q))
        (λ (e : table_id t ≡ table_id q).
        let w_is = ap free_word_of e in
        let b_is = ap free_bit_of e in
        ap (bit (free_bit_of (table_id q))) (at_word x (free_word_of (table_id q)) (sym w_is)) ∙ (ap (λ (i : ℕ). bit i x) (sym b_is) ∙ on_same fb (slice_index words fw) (bt_low (table_id t))))
        (λ ne.
        let now : has_goal_next (table_id q) (PutHeader (table_id t) g) (has_goal (table_id q) v.log) ≡ true = sym (ap (λ (u : View). has_goal (table_id q) u.log) is) ∙ has in
        let o = old.all q here (sym (miss (table_id t) (table_id q) true _ ne) ∙ now) in
        dite (ℕ_discrete (free_word_of (table_id q)) fw)
        (λ (e : free_word_of (table_id q) ≡ fw).
        let far : fb ≢ free_bit_of (table_id q) = λ z. ne (same_bit v.shape (table_id t) (table_id q) (named v.shape t table) (named v.shape q here) (sym e) z) in
        ap (bit (free_bit_of (table_id q))) (at_word x (free_word_of (table_id q)) e) ∙ (on_else fb (free_bit_of (table_id q)) (slice_index words fw) (bt_low (table_id t)) far ∙ (ap (λ (i : ℕ). bit (free_bit_of (table_id q)) (slice_index words i)) (sym e) ∙ o)))
        (λ far. ap (bit (free_bit_of (table_id q))) (at_else x (free_word_of (table_id q)) far) ∙ o));
  }

-- ---- after a join

-- a note has no tables
pub retired_noted : (words : List ℕ) (v w : View) → w.log ≡ [] → AreRetired words v → AreRetired words (both v w)
retired_noted words v w none old = retired_same words v (both v w) refl (λ t. ap (λ (l : List Act). cond (is_handed t (hands_over l)) true (has_goal t v.log)) none) old

or_bit : (b x y : ℕ) → bit b (bit_or x y) ≡ max (bit b x) (bit b y)
unfolding bit
or_bit b x y = bit_at_or x y b

-- a bit of one of two words
one_of : (b x y : ℕ) → bit b (bit_or x y) ≡ 1 → (bit b x ≡ 1) ⊎ (bit b y ≡ 1)
one_of b x y one =
    let small = bit_small b x in
    let low = bit_small b y in
    dite (ℕ_discrete (bit b x) 1) (λ (e : bit b x ≡ 1). inl e)
    (λ ne.
    dite (ℕ_discrete (bit b y) 1) (λ (e : bit b y ≡ 1). inr e)
    (λ far.
    let none : max (bit b x) (bit b y) ≤ 0 = max-le (omega (arith, small, ne)) (omega (arith, low, far)) in
    let is = or_bit b x y in
    absurd (omega (arith, none, is, one))))

in_first : (b x y : ℕ) → bit b x ≡ 1 → bit b (bit_or x y) ≡ 1
in_first b x y one = let is = or_bit b x y in let up = le-max_left (bit b x) (bit b y) in let small = bit_small b (bit_or x y) in omega (arith, is, up, small, one)

in_second : (b x y : ℕ) → bit b y ≡ 1 → bit b (bit_or x y) ≡ 1
in_second b x y one = let is = or_bit b x y in let up = le-max_right (bit b x) (bit b y) in let small = bit_small b (bit_or x y) in omega (arith, is, up, small, one)

-- the tables of which the goal stands in the header are retired
pub retired_stage : (w : View) → ∥ IsReachable w ∥₁ → (t : ℕ) → IsTableName w.shape t → has_goal t w.log ≡ true → stage t w.log ≡ 4
retired_stage w possible t table has = ∥∥₁_elim possible (ℕ_set (stage t w.log) 4) (λ p. (goals_stand w.shape p.0 p.2.0 t table p.1 w p.2.1 has).0)

pub takes_over : (v w : View) → w.shape ≡ v.shape → ∥ IsReachable w ∥₁ → TakesOver v w (both v w)
takes_over v w shape possible = record {
  theirs = λ t table has.
      let four = retired_stage w possible t (subst (λ (z : Shape). IsTableName z t) (sym shape) table) has in
      let there = is_there t w.log four has in
      (where_true (is_handed t (hands_over w.log)) true (has_goal t v.log) there, goal_of t w.log (goal t v.log) there);
  own = λ t has.
      either_way (is_handed t (hands_over w.log)) (λ there. where_true (is_handed t (hands_over w.log)) true (has_goal t v.log) there)
      (λ none. where_false (is_handed t (hands_over w.log)) true (has_goal t v.log) none ∙ has);
}

pub has_taken_over : (v w u : View) (n : ℕ) → u ≡ view_after (ReadCounter n) (both v w) → w.shape ≡ v.shape → ∥ IsReachable w ∥₁ → TakesOver v w u
has_taken_over v w u n is shape possible =
    let o = takes_over v w shape possible in
    subst (TakesOver v w) (sym is) (record { theirs = o.theirs; own = o.own })

pub retired_both : (words more now : List ℕ) (v w : View) → w.shape ≡ v.shape → ∥ IsReachable w ∥₁ → length now ≡ 224 → ((n : ℕ) → n < 224 → slice_index now n ≡ bit_or (slice_index words n) (slice_index more n)) → AreRetired words v → AreRetired more w → AreRetired now (both v w)
retired_both words more now v w shape possible long merged old other =
    let over = takes_over v w shape possible in record {
      long = long;
      some = λ n b low small one.
          let t = table_of_bit n b in
          ⊎_elim
          (λ x. let o = old.some n b low small x in (o.0, over.own (table_id t) o.1))
          (λ y.
          let o = other.some n b low small y in
          let table = subst (λ (z : Shape). IsTableIn z t) shape o.0 in
          (table, (over.theirs (table_id t) (named v.shape t table) o.1).0))
          (one_of b (slice_index words n) (slice_index more n) (sym (ap (bit b) (merged n low)) ∙ one));
      all = λ t table has.
          let fw = free_word_of (table_id t) in
          let fb = free_bit_of (table_id t) in
          let is = ap (bit fb) (merged fw (fw_low v.shape (table_id t) (named v.shape t table))) in
          either_way (is_handed (table_id t) (hands_over w.log))
          (λ there. is ∙ in_second fb (slice_index words fw) (slice_index more fw) (other.all t (subst (λ (z : Shape). IsTableIn z t) (sym shape) table) (handed_is (table_id t) w.log there).1))
          (λ none. is ∙ in_first fb (slice_index words fw) (slice_index more fw) (old.all t table (sym (where_false (is_handed (table_id t) (hands_over w.log)) true (has_goal (table_id t) v.log) none) ∙ has)));
    }
