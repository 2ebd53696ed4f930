-- How sweeps over bits of retired tables go on, one after the other.
use Rattle.std.proofs.Common.{◌≡◌, ◌≢◌, ◌⊎◌, ℕ, suc, ◌+◌, ◌*◌, ◌/◌, ◌%◌, ◌^◌, ◌<◌, ◌≤◌, ◌==◌, Bool, true, false, true≢false, cond, eqb, List, [], ◌∷◌, ◌++◌, refl, sym, ap, ◌∙◌, subst, inl, inr, ⊎_elim, arith}
use Rattle.std.specs.Prelude.{Option}
use mathlib.Core.Logic.{dite}
use native.Mathlib.Decide.{ℕ_discrete}
use native.Mathlib.Nat.{zero-div}
use Rattle.std.proofs.Math.Decide.{dec_lt}
use Rattle.ft_trace.specs.declared.Act.{Act}
use Rattle.ft_trace.specs.declared.Act.TheVariants.{ReadHeader, GiveTable, RaiseCount}
use Rattle.ft_trace.specs.declared.Shape.{Shape}
use Rattle.ft_trace.specs.declared.View.{View}
use Rattle.ft_trace.specs.Addresses.{IsTableName, class_of, number_of, free_word_of, free_bit_of}
use Rattle.ft_trace.specs.Acts.{clear, flight, goal, has_goal, owes, stage, view_after}
use Rattle.ft_trace.specs.Bits.{bit}
use Rattle.ft_trace.proofs.Addresses.{bt_low, fw_low, same_bit, table_is}
use Rattle.ft_trace.proofs.Cases.{miss, here}
use Rattle.ft_bank.specs.declared.table.Table.{Table}
use Rattle.ft_bank.specs.Series.{noted_all}
use Rattle.ft_bank.specs.TableNames.{table_id, IsTableIn}
use Rattle.ft_bank.specs.Takings.{KeepsBut, Each, NotTable}
use Rattle.ft_bank.specs.declared.pass.Pass.{Pass}
use Rattle.ft_bank.specs.Passes.{view}
use Rattle.ft_bank.proofs.Freeing.{all_then, but_same, but_then}
use Rattle.ft_bank.proofs.TableAddresses.{named}
use Rattle.ft_qsbr.specs.Collecting.{IsPast, AreGivings, given, given_next}
use Rattle.ft_qsbr.specs.Sweeping.{bit_index, Gave, HasSeen, Swept}

-- ---- bits

-- two tables with one bit are one
pub same_index : (k : Shape) (t q : ℕ) → IsTableName k t → IsTableName k q → bit_index t ≡ bit_index q → t ≡ q
same_index k t q is it e =
    let a = bt_low t in
    let b = bt_low q in
    let w : free_word_of t ≡ free_word_of q = omega (arith, a, b, e) in
    same_bit k t q is it w (omega (arith, w, e))

-- where the bit of a table lies
pub index_word : (t w : ℕ) → 64 * w ≤ bit_index t → bit_index t < 64 * w + 64 → free_word_of t ≡ w
index_word t w low less = let a = bt_low t in omega (arith, a, low, less)

pub index_bit : (t w b : ℕ) → b < 64 → bit_index t ≡ 64 * w + b → (free_word_of t ≡ w) × (free_bit_of t ≡ b)
index_bit t w b small e = let a = bt_low t in let same : free_word_of t ≡ w = omega (arith, a, small, e) in (same, omega (arith, same, e))

pub index_low : (k : Shape) (t : ℕ) → IsTableName k t → bit_index t < 64 * 224
index_low k t is = let a = bt_low t in let b = fw_low k t is in omega (arith, a, b)

-- a table of the bank by its name
abbrev pub by_name : (t : ℕ) → Table
by_name t = record { class = class_of t; number = number_of t }

pub named_so : (k : Shape) (t : ℕ) → IsTableName k t → IsTableIn k (by_name t) × (table_id (by_name t) ≡ t)
named_so k t is = (is, table_is t)

-- bits as code reads them
pub bit_is_set : (n b : ℕ) → n / 2 ^ b % 2 ≢ 0 → bit b n ≡ 1
unfolding bit
bit_is_set n b ne = odd_one (n / 2 ^ b) ne
  where
    odd_one : (x : ℕ) → x % 2 ≢ 0 → x % 2 ≡ 1
    odd_one x ne = omega (arith, ne)

pub bit_is_clear : (n b : ℕ) → n / 2 ^ b % 2 ≡ 0 → bit b n ≢ 1
unfolding bit
bit_is_clear n b e one = differ (n / 2 ^ b % 2) e one
  where
    differ : (x : ℕ) → x ≡ 0 → x ≡ 1 → ⊥
    differ x e one = omega (arith, e, one)

pub none_set : (n b : ℕ) → n ≡ 0 → bit b n ≢ 1
unfolding bit
none_set n b e one = let z = ap (λ (x : ℕ). x / 2 ^ b % 2) e ∙ ap (λ (x : ℕ). x % 2) (zero-div (2 ^ b)) in let o : n / 2 ^ b % 2 ≡ 1 = one in omega (arith, z, o)

-- where no bit is set that is a table's, the pass keeps none of these
pub none_kept : (v : View) (word result : ℕ) → ((t : Table) → IsTableIn v.shape t → free_word_of (table_id t) ≡ word → has_goal (table_id t) v.log ≡ true → bit (free_bit_of (table_id t)) result ≡ 1) → (t : ℕ) → IsTableName v.shape t → free_word_of t ≡ word → has_goal t v.log ≡ true → bit (free_bit_of t) result ≡ 1
none_kept v word result all t table w has =
    let n = named_so v.shape t table in
    subst (λ (z : ℕ). bit (free_bit_of z) result ≡ 1) n.1 (all (by_name t) n.0 (ap free_word_of n.1 ∙ w) (ap (λ (z : ℕ). has_goal z v.log) n.1 ∙ has))

-- ---- sweeps

pub swept_none : (least : Option ℕ) (from to : ℕ) (v : View) → ((t : ℕ) → IsTableName v.shape t → from ≤ bit_index t → bit_index t < to → has_goal t v.log ≡ true → ⊥) → Swept least from to v v
swept_none least from to v never = record {
  freed = λ t table low less has past. absurd (never t table low less has);
  kept = λ t table low less has past. absurd (never t table low less has);
  apart = λ t table out. refl;
  none = λ t no. no;
  goals = λ t. refl;
  clears = λ t p. refl;
  idle = λ e. e;
  owes = λ e. e;
  keeps = but_same (λ t. has_goal t v.log ≡ false) v;
}

pub swept_then : (least : Option ℕ) (a b c : ℕ) (u v w : View) → a ≤ b → b ≤ c → Swept least a b u v → Swept least b c v w → Swept least a c u w
swept_then least a b c u v w one two x y =
    let shape = x.keeps.held.shape in
    let there : (t : ℕ) → IsTableName u.shape t → IsTableName v.shape t = λ t table. subst (λ (z : Shape). IsTableName z t) (sym shape) table in record {
      freed = λ t table low less has past.
          dite (dec_lt (bit_index t) b)
          (λ before.
          let f = x.freed t table low before has past in
          (y.keeps.held.stages t f.1 ∙ f.0, y.none t f.1))
          (λ after.
          let still = x.apart t table (inr (omega (arith, after))) in
          y.freed t (there t table) (omega (arith, after)) less (still ∙ has) (subst (IsPast least) (sym (x.goals t)) past));
      kept = λ t table low less has past.
          dite (dec_lt (bit_index t) b)
          (λ before. y.apart t (there t table) (inl before) ∙ x.kept t table low before has past)
          (λ after.
          let still = x.apart t table (inr (omega (arith, after))) in
          y.kept t (there t table) (omega (arith, after)) less (still ∙ has) (λ p. past (subst (IsPast least) (x.goals t) p)));
      apart = λ t table out.
          ⊎_elim
          (λ (below : bit_index t < a). y.apart t (there t table) (inl (omega (arith, below, one))) ∙ x.apart t table (inl below))
          (λ (above : c ≤ bit_index t). y.apart t (there t table) (inr above) ∙ x.apart t table (inr (omega (arith, above, two)))) out;
      none = λ t no. y.none t (x.none t no);
      goals = λ t. y.goals t ∙ x.goals t;
      clears = λ t p. y.clears t p ∙ x.clears t p;
      idle = λ e. y.idle (x.idle e);
      owes = λ e. y.owes (x.owes e);
      keeps = but_then (λ t. has_goal t u.log ≡ false) (λ t. has_goal t v.log ≡ false) u v w x.keeps y.keeps x.none;
    }

-- what was seen of the tables stays seen of those that are left
pub seen_after : (least : Option ℕ) (a b : ℕ) (v w : View) → Swept least a b v w → HasSeen least v → HasSeen least w
seen_after least a b v w x seen t p table has past some_one low =
    let shape = x.keeps.held.shape in
    let had : has_goal t v.log ≡ true = not_false (has_goal t v.log) (λ no. true≢false (sym has ∙ x.none t no)) in
    x.clears t p ∙ seen t p (subst (λ (z : Shape). IsTableName z t) shape table) had (subst (IsPast least) (x.goals t) past) some_one (subst (λ (z : Shape). p ≤ z.passes) shape low)
  where
    not_false : (b : Bool) → (b ≡ false → ⊥) → b ≡ true
    not_false true never = refl
    not_false false never = absurd (never refl)

-- how many tables were given back by two runs of steps
pub given_then : (xs ys : List Act) → given (xs ++ ys) ≡ given xs + given ys
given_then [] ys = omega arith
given_then (a ∷ xs) ys = given_more a (given xs) (given ys) (given (xs ++ ys)) (given_then xs ys)
  where
    given_more : (a : Act) (m n s : ℕ) → s ≡ m + n → given_next a s ≡ given_next a m + n
    given_more (GiveTable t) m n s e = omega (arith, e)
    given_more a m n s e = e

-- ---- one table

module _ (k : Shape) (least : Option ℕ) (q : Table) (v w : View) (shape : v.shape ≡ k) (table : IsTableIn k q) (has : has_goal (table_id q) v.log ≡ true) where
  own : IsTableName v.shape (table_id q)
  own = subst (λ (z : Shape). IsTableName z (table_id q)) (sym shape) (named k q table)

  -- a table in the range of one bit
  the_one : (t : ℕ) → IsTableName v.shape t → bit_index (table_id q) ≤ bit_index t → bit_index t < bit_index (table_id q) + 1 → table_id q ≡ t
  the_one t is low less = same_index v.shape (table_id q) t own is (omega (arith, low, less))

  not_one : (t : ℕ) → (bit_index t < bit_index (table_id q)) ⊎ (bit_index (table_id q) + 1 ≤ bit_index t) → table_id q ≢ t
  not_one t out e = let i = ap bit_index e in ⊎_elim (λ (x : bit_index t < bit_index (table_id q)). omega (arith, x, i)) (λ (x : bit_index (table_id q) + 1 ≤ bit_index t). omega (arith, x, i)) out

  pub kept_one : (g : ℕ) → w ≡ view_after (ReadHeader (table_id q) g) v → KeepsBut Each v w → (IsPast least (goal (table_id q) v.log) → ⊥) → Swept least (bit_index (table_id q)) (bit_index (table_id q) + 1) v w
  kept_one g is keeps not_past = record {
    freed = λ t table' low less has' past. absurd (not_past (subst (λ (z : ℕ). IsPast least (goal z v.log)) (sym (the_one t table' low less)) past));
    kept = λ t table' low less has' past. ap (λ (u : View). has_goal t u.log) is ∙ has';
    apart = λ t table' out. ap (λ (u : View). has_goal t u.log) is;
    none = λ t no. ap (λ (u : View). has_goal t u.log) is ∙ no;
    goals = λ t. ap (λ (u : View). goal t u.log) is;
    clears = λ t p. ap (λ (u : View). clear t p u.log) is;
    idle = λ e. ap (λ (u : View). flight u.log) is ∙ e;
    owes = λ e. ap (λ (u : View). owes u.log) is ∙ e;
    keeps = but_then (λ t. has_goal t v.log ≡ false) Each v v w (but_same (λ t. has_goal t v.log ≡ false) v) keeps (λ t no. tt);
  }

  module _ (m : View) (g n : ℕ) (read : m ≡ view_after (ReadHeader (table_id q) g) v) (is : w ≡ noted_all (RaiseCount q.class n ∷ GiveTable (table_id q) ∷ []) m) where
    all : w ≡ view_after (RaiseCount q.class n) (view_after (GiveTable (table_id q)) (view_after (ReadHeader (table_id q) g) v))
    all = is ∙ ap (λ (u : View). view_after (RaiseCount q.class n) (view_after (GiveTable (table_id q)) u)) read

    has_after : (t : ℕ) → has_goal t w.log ≡ cond (eqb (table_id q) t) false (has_goal t v.log)
    has_after t = ap (λ (u : View). has_goal t u.log) all

    pub given_one : KeepsBut Each v m → KeepsBut (NotTable q) m w → stage (table_id q) w.log ≡ 0 → flight w.log ≡ 0 → owes w.log ≡ cond (owes m.log == suc q.class) 0 (owes m.log) → IsPast least (goal (table_id q) v.log) → Swept least (bit_index (table_id q)) (bit_index (table_id q) + 1) v w
    given_one first then given_back idle owes_is past = record {
      freed = λ t table' low less has' past'.
          let e = the_one t table' low less in
          (ap (λ (z : ℕ). stage z w.log) (sym e) ∙ given_back, has_after t ∙ here (table_id q) t false (has_goal t v.log) e);
      kept = λ t table' low less has' not_past. absurd (not_past (subst (λ (z : ℕ). IsPast least (goal z v.log)) (the_one t table' low less) past));
      apart = λ t table' out. has_after t ∙ miss (table_id q) t false (has_goal t v.log) (not_one t out);
      none = λ t no. has_after t ∙ dite (ℕ_discrete (table_id q) t) (λ (e : table_id q ≡ t). here (table_id q) t false (has_goal t v.log) e) (λ ne. miss (table_id q) t false (has_goal t v.log) ne ∙ no);
      goals = λ t. ap (λ (u : View). goal t u.log) all;
      clears = λ t p. ap (λ (u : View). clear t p u.log) all;
      idle = λ e. idle;
      owes = λ e.
          let before : owes m.log ≡ 0 = ap (λ (u : View). owes u.log) read ∙ e in
          owes_is ∙ (ap (λ (z : ℕ). cond (z == suc q.class) 0 z) before ∙ miss 0 (suc q.class) 0 0 (λ z. absurd (omega (arith, z))));
      keeps = but_then (λ t. has_goal t v.log ≡ false) (NotTable q) v m w (but_then (λ t. has_goal t v.log ≡ false) Each v v m (but_same (λ t. has_goal t v.log ≡ false) v) first (λ t no. tt)) then
          (λ t no e. true≢false (sym has ∙ (ap (λ (z : ℕ). has_goal z v.log) (sym e) ∙ no)));
    }

-- ---- how many

pub gave_none : (p : Pass) → Gave 0 p p
gave_none p = ([], (refl, refl, refl), refl, tt)

pub gave_then : (m n : ℕ) (p q r : Pass) → Gave m p q → Gave n q r → Gave (m + n) p r
gave_then m n p q r a b = (
  b.0 ++ a.0,
  (b.1.0 ∙ a.1.0, all_then b.0 a.0 (view p) (view q) (view r) b.1.1 a.1.1, b.1.2 ∙ a.1.2),
  (let s = given_then b.0 a.0 in let x = a.2 in let y = b.2 in omega (arith, s, x, y)),
  givings_then b.0 a.0 b.3 a.3,
)
  where
    givings_then : (xs ys : List Act) → AreGivings xs → AreGivings ys → AreGivings (xs ++ ys)
    givings_then [] ys x y = y
    givings_then (ReadHeader t g ∷ xs) ys x y = givings_then xs ys x y
    givings_then (GiveTable t ∷ xs) ys x y = givings_then xs ys x y
    givings_then (RaiseCount c n ∷ xs) ys x y = givings_then xs ys x y
    givings_then (a ∷ xs) ys x y = absurd x
