-- A collection, from its loads and its sweep.
use Rattle.std.proofs.Common.{◌≡◌, ℕ, ◌*◌, false, List, length, sym, ap, ◌∙◌, subst, arith}
use Rattle.std.specs.Prelude.{Option}
use Rattle.ft_trace.specs.declared.Act.{Act}
use Rattle.ft_trace.specs.declared.Shape.{Shape}
use Rattle.ft_trace.specs.declared.View.{View}
use Rattle.ft_trace.specs.Addresses.{IsTableName}
use Rattle.ft_trace.specs.Acts.{flight, goal, has_goal, owes}
use Rattle.ft_bank.specs.Series.{noted_all}
use Rattle.ft_bank.specs.Takings.{KeepsBut, Each}
use Rattle.ft_bank.proofs.Freeing.{all_then, but_same, but_then}
use Rattle.ft_qsbr.specs.Collecting.{AreGivings, Collected, IsLeast, IsPast, given, loads_of}
use Rattle.ft_qsbr.specs.Sweeping.{Swept}
use Rattle.ft_qsbr.proofs.Numbers.{loaded, goal_loads, has_loads, flight_loads, owes_loads}
use Rattle.ft_qsbr.proofs.Sweeps.{index_low}

pub collection : (v m w : View) (numbers : List ℕ) (least : Option ℕ) (acts : List Act) (freed : ℕ) → flight v.log ≡ 0 → length numbers ≡ v.shape.passes → m ≡ loaded numbers v → KeepsBut Each v m → IsLeast least numbers → w ≡ noted_all acts m → given acts ≡ freed → AreGivings acts → Swept least 0 (64 * 224) m w
    → Collected v w freed
collection v m w numbers least acts freed idle each is first of then count givings swept =
    let shape : m.shape ≡ v.shape = first.held.shape in
    let there : (t : ℕ) → IsTableName v.shape t → IsTableName m.shape t = λ t table. subst (λ (z : Shape). IsTableName z t) (sym shape) table in
    let goals : (t : ℕ) → goal t m.log ≡ goal t v.log = λ t. ap (λ (u : View). goal t u.log) is ∙ goal_loads numbers v t in
    let has_same : (t : ℕ) → has_goal t m.log ≡ has_goal t v.log = λ t. ap (λ (u : View). has_goal t u.log) is ∙ has_loads numbers v t in record {
      numbers = numbers;
      each = each;
      acts = acts;
      did = all_then acts (loads_of numbers) v m w then is;
      count = count;
      givings = givings;
      free = λ t table has all. (swept.freed t (there t table) (omega arith) (index_low m.shape t (there t table)) (has_same t ∙ has) (subst (IsPast least) (sym (goals t)) ((of (goal t v.log)).1 all))).0;
      kept = λ t table has not_all. (
        swept.kept t (there t table) (omega arith) (index_low m.shape t (there t table)) (has_same t ∙ has) (λ past. not_all ((of (goal t v.log)).0 (subst (IsPast least) (goals t) past))),
        swept.goals t ∙ goals t,
      );
      idle = swept.idle (ap (λ (u : View). flight u.log) is ∙ (flight_loads numbers v ∙ idle));
      owes = λ e. swept.owes (ap (λ (u : View). owes u.log) is ∙ (owes_loads numbers v ∙ e));
      keeps = but_then (λ t. has_goal t v.log ≡ false) (λ t. has_goal t m.log ≡ false) v m w (but_then (λ t. has_goal t v.log ≡ false) Each v v m (but_same (λ t. has_goal t v.log ≡ false) v) first (λ t no. tt)) swept.keeps (λ t no. has_same t ∙ no);
    }
