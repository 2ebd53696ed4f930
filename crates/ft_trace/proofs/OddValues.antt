-- A put of a value word, for readers without the lock.
use Rattle.std.proofs.Common.{◌≡◌, ◌≢◌, ℕ, suc, ◌%◌, ◌<◌, List, [], ◌∷◌, sym, ap, ◌∙◌, inl, inr, ⊎_elim, arith}
use Rattle.std.specs.Prelude.{slice_index}
use Rattle.ft_model.specs.declared.data.Key.{Key}
use Rattle.ft_model.specs.declared.data.Value.{Value}
use Rattle.ft_layout.specs.Words.{FitsKey, key_kind}
use Rattle.ft_trace.specs.Pictures.{entry_field, item_field, Met}
use Rattle.ft_trace.specs.Carefuls.{Pairs, said_of, HasLiveKey, IsDead, Reached, Sound}
use Rattle.ft_trace.specs.ItemWords.{said_at, ItemSound}
use Rattle.ft_trace.specs.OddValues.{SameButValue, SameButItem, OddValuesMayBeAny}

module _ (walk : Key → List ℕ) (n m p : ℕ) (ws zs : List ℕ) (c : Pairs) (old : Sound walk n m ws c) (same : SameButValue n m p ws zs) (odd : entry_field n ws p 0 % 2 ≡ 1) where
  version : (q : ℕ) → q < m → entry_field n zs q 0 ≡ entry_field n ws q 0
  version q low = same.words q 0 low (omega arith) (λ z. omega (arith, z)) (λ z. omega (arith, z))

  kind : (q : ℕ) → q < m → entry_field n zs q 2 ≡ entry_field n ws q 2
  kind q low = same.words q 2 low (omega arith) (λ z. omega (arith, z)) (λ z. omega (arith, z))

  payload : (q : ℕ) → q < m → entry_field n zs q 3 ≡ entry_field n ws q 3
  payload q low = same.words q 3 low (omega arith) (λ z. omega (arith, z)) (λ z. omega (arith, z))

  right : (q : ℕ) (key : Key) → q < m → entry_field n zs q 0 % 2 ≡ 0 → HasLiveKey n zs q key → c key ≡ said_of n zs q
  right q key low even live =
      let was : entry_field n ws q 0 % 2 ≡ 0 = ap (λ (z : ℕ). z % 2) (sym (version q low)) ∙ even in
      let ne : q ≢ p = λ e. (let h : entry_field n ws q 0 % 2 ≡ entry_field n ws p 0 % 2 = ap (λ (z : ℕ). entry_field n ws z 0 % 2) e in omega (arith, h, was, odd)) in
      let said : said_of n zs q ≡ said_of n ws q =
      (let a = same.others q 4 low ne (omega arith) in
      let b = same.others q 5 low ne (omega arith) in
      let d = same.others q 6 low ne (omega arith) in
      λ i. a i ∷ b i ∷ d i ∷ []) in
      old.right q key low was (sym (kind q low) ∙ live.0, sym (payload q low) ∙ live.1) ∙ sym said

  met : (key : Key) (x : ℕ) → Met n ws (walk key) x → Met n zs (walk key) x
  met key x r = record {
    step = r.step;
    low = r.low;
    inside = r.inside;
    here = same.index (slice_index (walk key) r.step) (r.inside r.step (omega arith)) ∙ r.here;
    before = λ j less z. r.before j less (sym (same.index (slice_index (walk key) j) (r.inside j (omega (arith, less)))) ∙ z);
  }

  reached : (key : Key) → FitsKey key → c key ≢ [] → Reached n m zs (walk key) key
  reached key fits some_ =
      let r = old.reached key fits some_ in
      let k = kind r.place r.low in
      let l = payload r.place r.low in
      record {
        place = r.place;
        low = r.low;
        mine = ⊎_elim (λ (z : HasLiveKey n ws r.place key). inl (k ∙ z.0, l ∙ z.1)) (λ (z : IsDead n ws r.place key). inr (k ∙ z.0, l ∙ z.1)) r.mine;
        met = met key (suc r.place) r.met;
        alive = ⊎_elim (λ (z : entry_field n ws r.place 2 ≡ key_kind key). inl (k ∙ z)) (λ (z : entry_field n ws r.place 0 % 2 ≡ 1). inr (ap (λ (y : ℕ). y % 2) (version r.place r.low) ∙ z)) r.alive;
      }

  pub values_free : Sound walk n m zs c
  values_free = record {
    right = right;
    named = λ s q less low e z. old.named s q less low (sym (same.index s less) ∙ e) (sym (kind q low) ∙ z);
    reached = reached;
  }

pub item_values_free : (n p : ℕ) (ws zs : List ℕ) (values : List Value) → ItemSound n ws values → SameButItem n p ws zs → item_field ws p 0 % 2 ≡ 1 → ItemSound n zs values
item_values_free n p ws zs values old same odd = record {
  right = λ q low even.
      let was : item_field ws q 0 % 2 ≡ 0 = ap (λ (z : ℕ). z % 2) (sym (same.versions q low)) ∙ even in
      let ne : q ≢ p = λ e. (let h : item_field ws q 0 % 2 ≡ item_field ws p 0 % 2 = ap (λ (z : ℕ). item_field ws z 0 % 2) e in omega (arith, h, was, odd)) in
      let said : said_at zs q ≡ said_at ws q =
      (let a = same.others q 1 low ne (omega arith) in
      let b = same.others q 2 low ne (omega arith) in
      λ i. a i ∷ b i ∷ []) in
      old.right q low was ∙ sym said;
  short = old.short;
}

pub odd_values_may_be_any : OddValuesMayBeAny
odd_values_may_be_any = ((λ walk n m p ws zs c old same odd. values_free walk n m p ws zs c old same odd), item_values_free)
