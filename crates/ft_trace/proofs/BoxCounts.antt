-- The counts of one box, as numbers alone: what each step leaves of them.
use Rattle.std.proofs.Common.{◌≡◌, ◌≢◌, ℕ, ◌+◌, ◌-◌, ◌*◌, ◌%◌, ◌^◌, ◌<◌, ◌≤◌, refl, subst, arith}
use mathlib.Core.Logic.{dite}
use native.Mathlib.Decide.{ℕ_discrete}
use Rattle.ft_trace.specs.BoxTraces.{CountsAgree}

pub recount : (p q S T M N F G K L R U D E : ℕ) → p ≡ q → S ≡ T → M ≡ N → F ≡ G → K ≡ L → R ≡ U → D ≡ E → CountsAgree p S M F K R D → CountsAgree q T N G L U E
recount p q S T M N F G K L R U D E ep eS eM eF eK eR eD c =
    let c1 = subst (λ (z : ℕ). CountsAgree z S M F K R D) ep c in
    let c2 = subst (λ (z : ℕ). CountsAgree q z M F K R D) eS c1 in
    let c3 = subst (λ (z : ℕ). CountsAgree q T z F K R D) eM c2 in
    let c4 = subst (λ (z : ℕ). CountsAgree q T N z K R D) eF c3 in
    let c5 = subst (λ (z : ℕ). CountsAgree q T N G z R D) eK c4 in
    let c6 = subst (λ (z : ℕ). CountsAgree q T N G L z D) eR c5 in
    subst (λ (z : ℕ). CountsAgree q T N G L U z) eD c6

module _ (p S M F K R D : ℕ) (c : CountsAgree p S M F K R D) where
  -- a place is taken
  pub took : (N : ℕ) → p ≡ 0 → N ≡ M + 1 → CountsAgree 1 S N F K R D
  took N e n = record {
    small = omega arith;
    making = λ _. let m = c.unmade (omega (arith, e)) in omega (arith, m, n);
    unmade = λ ne. absurd (ne refl);
    default = λ z. absurd (omega (arith, z));
    other = λ _. c.other (omega (arith, e));
    none = λ _. c.none (omega (arith, e));
    balance = λ l. absurd (omega (arith, l));
    idle = λ _. c.idle (omega (arith, e));
    dead = λ z. absurd (omega (arith, z));
    live = λ _. c.live (omega (arith, e));
    more = λ _. c.live (omega (arith, e));
  }

  -- a box is opened
  pub opened_box : (N G L U : ℕ) → p ≡ 1 → N + 1 ≡ M → G ≡ F + 1 → L ≡ K + 1 → U ≡ R + 1 → CountsAgree 2 (2 ^ 61) N G L U D
  opened_box N G L U e n g l u =
      let m = c.making e in
      let f = c.other (omega (arith, e)) in
      let i = c.idle (omega (arith, e)) in
      let r = c.none (omega (arith, e)) in
      record {
        small = omega arith;
        making = λ z. absurd (omega (arith, z));
        unmade = λ _. omega (arith, n, m);
        default = λ _. omega (arith, g, f);
        other = λ ne. absurd (ne refl);
        none = λ z. absurd (omega (arith, z));
        balance = λ _. omega (arith, l, i, u, r);
        idle = λ ne. absurd (ne refl);
        dead = λ z. absurd (omega (arith, z));
        live = λ _. c.live (omega (arith, e));
        more = λ _. c.live (omega (arith, e));
      }

  -- the local count goes up or down with a reference, or what a merge took out of it
  pub local_moved : (L U : ℕ) → p ≡ 2 → L + R ≡ K + U → CountsAgree p S M F L U D
  local_moved L U e l = record {
    small = c.small;
    making = c.making;
    unmade = c.unmade;
    default = c.default;
    other = c.other;
    none = λ z. absurd (omega (arith, z, e));
    balance = λ z. let b = c.balance z in omega (arith, b, l);
    idle = λ ne. absurd (ne e);
    dead = λ z. absurd (omega (arith, z, e));
    live = c.live;
    more = λ _. c.live (omega (arith, e));
  }

  -- the shared count goes up with a reference
  pub shared_up : (T U : ℕ) → 2 ≤ p → (p ≡ 3 → R ≢ 0) → T ≡ S + 1 → U ≡ R + 1 → CountsAgree p T M F K U D
  shared_up T U up alive t u = record {
    small = c.small;
    making = c.making;
    unmade = c.unmade;
    default = c.default;
    other = c.other;
    none = λ z. absurd (omega (arith, z, up));
    balance = λ z. let b = c.balance z in omega (arith, b, t, u);
    idle = c.idle;
    dead = λ _ z. absurd (omega (arith, z, u));
    live = c.live;
    more = λ _. dite (ℕ_discrete p 3) (λ (e : p ≡ 3). c.more (alive e)) (λ ne. c.live ne);
  }

  -- it goes down with a reference
  pub shared_down : (T U E : ℕ) → 2 ≤ p → T + 1 ≡ S → U + 1 ≡ R → (p ≡ 3 → U ≡ 0 → E ≡ 1) → (p ≢ 3 → E ≡ 0) → (U ≢ 0 → E ≡ 0) → CountsAgree p T M F K U E
  shared_down T U E up t u dead live more = record {
    small = c.small;
    making = c.making;
    unmade = c.unmade;
    default = c.default;
    other = c.other;
    none = λ z. absurd (omega (arith, z, up));
    balance = λ z. let b = c.balance z in omega (arith, b, t, u);
    idle = c.idle;
    dead = dead;
    live = live;
    more = more;
  }

  -- a box is merged
  pub merged_box : (T G L E taken_out : ℕ) → p ≡ 2 → T ≡ S + taken_out → G + 1 ≡ F → L + taken_out ≡ K → L ≡ 0 → (R ≡ 0 → E ≡ 1) → (R ≢ 0 → E ≡ 0) → CountsAgree 3 T M G L R E
  merged_box T G L E taken_out e t g l none dead more =
      let f = c.default e in record {
        small = omega arith;
        making = λ z. absurd (omega (arith, z));
        unmade = λ _. c.unmade (omega (arith, e));
        default = λ z. absurd (omega (arith, z));
        other = λ _. omega (arith, g, f);
        none = λ z. absurd (omega (arith, z));
        balance = λ _. let b = c.balance (omega (arith, e)) in omega (arith, b, t, l);
        idle = λ _. none;
        dead = λ _ z. dead z;
        live = λ ne. absurd (ne refl);
        more = more;
      }

  -- who has a place to give back has the last one of a merged box
  pub due_is : D ≢ 0 → (p ≡ 3) × (R ≡ 0)
  due_is some =
      let z : p ≡ 3 = dite (ℕ_discrete p 3) (λ (e : p ≡ 3). e) (λ ne. absurd (some (c.live ne))) in
      let r : R ≡ 0 = dite (ℕ_discrete R 0) (λ (e : R ≡ 0). e) (λ ne. absurd (some (c.more ne))) in
      (z, r)

  pub gave : (E : ℕ) → E + 1 ≡ D → CountsAgree 0 S M F K R E
  gave E e =
      let i = due_is (omega (arith, e)) in
      let p3 = i.0 in
      let d = c.dead p3 i.1 in
      record {
        small = omega arith;
        making = λ z. absurd (omega (arith, z));
        unmade = λ _. c.unmade (omega (arith, p3));
        default = λ z. absurd (omega (arith, z));
        other = λ _. c.other (omega (arith, p3));
        none = λ _. i.1;
        balance = λ z. absurd (omega (arith, z));
        idle = λ _. c.idle (omega (arith, p3));
        dead = λ z. absurd (omega (arith, z));
        live = λ _. omega (arith, e, d);
        more = λ _. omega (arith, e, d);
      }

  -- a box with a reference is there
  pub referred : R ≢ 0 → 2 ≤ p
  referred some = dite (ℕ_discrete p 0) (λ (e : p ≡ 0). absurd (some (c.none (omega (arith, e))))) (λ a. dite (ℕ_discrete p 1) (λ (e : p ≡ 1). absurd (some (c.none (omega (arith, e))))) (λ b. omega (arith, a, b)))

-- ---- the shared word

pub up_four : (S c w : ℕ) → w ≡ (4 * S + c + 2 ^ 63) % 2 ^ 64 → (w + 4) % 2 ^ 64 ≡ (4 * (S + 1) + c + 2 ^ 63) % 2 ^ 64
up_four S c w e = omega (arith, e)

pub down_four : (S T c w : ℕ) → T + 1 ≡ S → w ≡ (4 * S + c + 2 ^ 63) % 2 ^ 64 → (w + (2 ^ 64 - 4)) % 2 ^ 64 ≡ (4 * T + c + 2 ^ 63) % 2 ^ 64
down_four S T c w t e = omega (arith, t, e)

pub up_merge : (S t d w : ℕ) → d ≡ 4 * t + 3 → w ≡ (4 * S + 2 ^ 63) % 2 ^ 64 → (w + d) % 2 ^ 64 ≡ (4 * (S + t) + 3 + 2 ^ 63) % 2 ^ 64
up_merge S t d w is e = omega (arith, is, e)

-- in range the word is 3 only where the count is 0 and the box merged
pub three_is : (S w : ℕ) → 2 ^ 60 ≤ S → S < 2 ^ 62 → w ≡ (4 * S + 3 + 2 ^ 63) % 2 ^ 64 → w ≡ 3 → S ≡ 2 ^ 61
three_is S w low high e z = omega (arith, low, high, e, z)

pub is_three : (S w : ℕ) → S ≡ 2 ^ 61 → w ≡ (4 * S + 3 + 2 ^ 63) % 2 ^ 64 → w ≡ 3
is_three S w s e = omega (arith, s, e)

pub not_three : (S w : ℕ) → w ≡ (4 * S + 2 ^ 63) % 2 ^ 64 → w ≢ 3
not_three S w e z = omega (arith, e, z)

-- of a box in the default state
pub up_plain : (S w : ℕ) → w ≡ (4 * S + 2 ^ 63) % 2 ^ 64 → (w + 4) % 2 ^ 64 ≡ (4 * (S + 1) + 2 ^ 63) % 2 ^ 64
up_plain S w e = omega (arith, e)

pub down_plain : (S T w : ℕ) → T + 1 ≡ S → w ≡ (4 * S + 2 ^ 63) % 2 ^ 64 → (w + (2 ^ 64 - 4)) % 2 ^ 64 ≡ (4 * T + 2 ^ 63) % 2 ^ 64
down_plain S T w t e = omega (arith, t, e)
