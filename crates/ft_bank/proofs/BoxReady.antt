-- That the steps on boxes may be made, and what they find.
use Rattle.std.proofs.Common.{◌≡◌, ◌≢◌, ◌⊎◌, ℕ, suc, ◌+◌, ◌*◌, ◌/◌, ◌%◌, ◌^◌, ◌<◌, ◌≤◌, true, false, List, refl, sym, ap, ◌∙◌, subst, arith}
use Rattle.ft_trace.specs.declared.Act.TheVariants.{ReadFreePlaces, TakePlace, PutBox, PublishBox, ReadBox, RaiseLocal, DropLocal, ClearLocal, MergeCounts, RaiseShared, RaiseKept, DropShared, GivePlace}
use Rattle.ft_trace.specs.declared.Shape.{Shape}
use Rattle.ft_trace.specs.declared.View.{View}
use Rattle.ft_trace.specs.Acts.{is_writing}
use Rattle.ft_trace.specs.Addresses.{box_word, maker_of, place_bit_of, IsBoxName}
use Rattle.ft_trace.specs.Bits.{bit}
use Rattle.ft_trace.specs.Boxes.{made_state, local_count, taken_out, place_to_give, references_held, known_box_word, knows_box_word, HasPutValue, KeepsBox}
use Rattle.ft_trace.specs.BoxTraces.{box_state, has_in_default, maker_part}
use Rattle.ft_trace.specs.Entries.{total}
use Rattle.ft_trace.specs.SeenBoxes.{SawBox}
use Rattle.ft_trace.specs.Traces.{run, word, Ready, ReadyAs}
use mathlib.Core.Logic.{dite}
use native.Mathlib.Decide.{ℕ_discrete}
use Rattle.ft_trace.proofs.BoxBounds.{kept_few}
use Rattle.ft_trace.proofs.BoxKnown.{box_known}
use Rattle.ft_trace.proofs.Boxed.{boxed}
use Rattle.ft_trace.proofs.Cases.{here}
use Rattle.ft_trace.proofs.HeapPlaces.{own_free_places_stay}
use Rattle.ft_trace.proofs.LocalWords.{local_known}
use Rattle.ft_trace.proofs.Sums.{total_at}
use Rattle.ft_bank.proofs.OwnBoxes.{own_state, others_share}
use Rattle.ft_bank.specs.BoxSteps.{HasFoundFree}
use Rattle.ft_bank.specs.Rules.{Acted}

module _ (k : Shape) (v : View) (j b : ℕ) (same : v.shape ≡ k) (is : IsBoxName k b) where
  its : IsBoxName v.shape b
  its = subst (λ (z : Shape). IsBoxName z b) (sym same) is

  few_of : references_held k b v.log + 1 < 2 ^ 32 → references_held v.shape b v.log + 1 < 2 ^ 32
  few_of few = subst (λ (z : Shape). references_held z b v.log + 1 < 2 ^ 32) (sym same) few

  held_of : 0 < references_held k b v.log → 0 < references_held v.shape b v.log
  held_of held = subst (λ (z : Shape). 0 < references_held z b v.log) (sym same) held

  pub take_ready : v.number ≡ suc (maker_of b) → made_state b v.log ≢ 1 → made_state b v.log ≢ 2 → ((o : ℕ) → is_writing o v.log ≡ false) → ReadyAs v j (λ n s. TakePlace b n)
  take_ready own one two idle es id knows small = (refl, (its, own, one, two, idle))

  pub put_box_ready : (i x : ℕ) → i < 4 → made_state b v.log ≡ 1 → i ≢ 0 → Ready v j (λ n. PutBox b i x)
  put_box_ready i x low making ne es id knows small = (tt, (its, low, making, ne))

  pub publish_ready : made_state b v.log ≡ 1 → local_count b v.log ≡ 1 → references_held k b v.log + 1 < 2 ^ 32 → HasPutValue k b v.log → Ready v j (λ n. PublishBox b)
  publish_ready making counted few value es id knows small = (tt, (its, making, counted, few_of few, subst (λ (z : Shape). HasPutValue z b v.log) (sym same) value))

  pub read_box_ready : (i : ℕ) → i < 4 → Ready v j (λ n. ReadBox b i n)
  read_box_ready i low es id knows small = (refl, (its, low))

  pub raise_local_ready : (x : ℕ) → made_state b v.log ≡ 2 → x ≡ local_count b v.log + 1 → x ≤ 2 ^ 60 → taken_out b v.log ≡ 0 → references_held k b v.log + 1 < 2 ^ 32 → Ready v j (λ n. RaiseLocal b x)
  raise_local_ready x own count low whole few es id knows small = (tt, (its, own, count, low, whole, few_of few))

  pub drop_local_ready : (x : ℕ) → made_state b v.log ≡ 2 → local_count b v.log ≡ x + 1 → 0 < references_held k b v.log → Ready v j (λ n. DropLocal b x)
  drop_local_ready x own count held es id knows small = (tt, (its, own, count, held_of held))

  pub clear_ready : made_state b v.log ≡ 2 → taken_out b v.log ≡ 0 → Ready v j (λ n. ClearLocal b)
  clear_ready own whole es id knows small = (tt, (its, own, whole))

  pub merge_ready : (d : ℕ) → made_state b v.log ≡ 2 → local_count b v.log ≡ 0 → d ≡ 4 * taken_out b v.log + 3 → Ready v j (λ n. MergeCounts b d n)
  merge_ready d own cleared e es id knows small = (refl, (its, own, cleared, e))

  pub raise_shared_ready : (old : ℕ) → made_state b v.log ≢ 2 → old ≢ 3 → old < 2 ^ 64 → references_held k b v.log + 1 < 2 ^ 32 → SawBox k b v.log → Ready v j (λ n. RaiseShared b old n)
  raise_shared_ready old shared live low few saw es id knows small = (refl, (its, shared, live, low, few_of few, subst (λ (z : Shape). SawBox z b v.log) (sym same) saw))

  pub raise_kept_ready : made_state b v.log ≢ 2 → KeepsBox k b v.log → references_held k b v.log + 1 < 2 ^ 32 → Ready v j (λ n. RaiseKept b n)
  raise_kept_ready shared keeps few es id knows small = (refl, (its, shared, subst (λ (z : Shape). KeepsBox z b v.log) (sym same) keeps, few_of few))

  pub drop_shared_ready : made_state b v.log ≢ 2 → 0 < references_held k b v.log → Ready v j (λ n. DropShared b n)
  drop_shared_ready shared held es id knows small = (refl, (its, shared, held_of held))

  pub give_place_ready : place_to_give b v.log ≡ 1 → Ready v j (λ n. GivePlace b)
  give_place_ready due es id knows small = (tt, (its, due))

  -- ---- what is found

  -- the word that the pass knows
  pub known_found : (i f : ℕ) → Acted v (ReadBox b i f) → (i ≡ 1) ⊎ (i ≡ 2) → knows_box_word k b i v.log ≡ true → f ≡ known_box_word k b i v.log
  known_found i f d which knows =
      let su : knows_box_word v.shape b i v.log ≡ true = subst (λ (z : Shape). knows_box_word z b i v.log ≡ true) (sym same) knows in
      let e : f ≡ known_box_word v.shape b i v.log = d.2.1.2 ∙ sym (box_known v.shape d.0 d.2.0 d.1 v d.2.1.0 b i its which su) in
      subst (λ (z : Shape). f ≡ known_box_word z b i v.log) same e

  -- the local count of its box
  pub local_found : (f : ℕ) → Acted v (ReadBox b 3 f) → made_state b v.log ≡ 2 → (f ≡ local_count b v.log) × (f ≤ 2 ^ 60)
  local_found f d own =
      let s : Shape = v.shape in
      let views : List View = (run s d.0).views in
      let counts = (boxed s b d.0 d.2.0).counts in
      let e : f ≡ local_count b v.log = d.2.1.2 ∙ (local_known s b its d.0 d.2.0 d.1 v d.2.1.0).1 own in
      let m : has_in_default b v ≡ 1 = here (made_state b v.log) 2 1 0 own in
      let t = total_at (has_in_default b) views d.1 v d.2.1.0 in
      let is_default : box_state b d.0 ≡ 2 = dite (ℕ_discrete (box_state b d.0) 2) (λ (y : box_state b d.0 ≡ 2). y) (λ ne. let z = counts.other ne in absurd (omega (arith, m, t, z))) in
      let n = counts.default is_default in
      let p : maker_part b v ≡ local_count b v.log + taken_out b v.log = here (made_state b v.log) 2 (local_count b v.log + taken_out b v.log) 0 own in
      let q = total_at (maker_part b) views d.1 v d.2.1.0 in
      let few = kept_few s d.0 d.2.0 b in
      let most : total (maker_part b) views ≤ 2 ^ 60 = subst (λ (x : ℕ). total (maker_part b) views ≤ 2 ^ 60 * x) n few in
      (e, omega (arith, e, p, q, most))

  -- whether the pass of this heap has the box in the default state, by its shared word; no other pass has
  pub state_found : (f : ℕ) → Acted v (ReadBox b 0 f) → v.number ≡ suc (maker_of b) → (f % 4 ≡ 0 → made_state b v.log ≡ 2) × (f % 4 ≢ 0 → made_state b v.log ≢ 2)
  state_found f d mine =
      let e : f ≡ word v.shape d.0 (box_word b 0) = d.2.1.2 in
      let s = own_state v.shape b its d.0 d.2.0 d.1 v d.2.1.0 mine in
      ((λ z. s.0 (ap (λ (y : ℕ). y % 4) (sym e) ∙ z)), (λ no. s.1 (λ z. no (ap (λ (y : ℕ). y % 4) e ∙ z))))

  pub share_found : (c i f : ℕ) → Acted v (ReadBox c i f) → v.number ≢ suc (maker_of b) → made_state b v.log ≢ 2
  share_found c i f d other = others_share v.shape b its d.0 d.2.0 d.1 v d.2.1.0 other

  -- a place that was found free and not taken since is free
  pub free_found : (f : ℕ) → v.number ≡ suc (maker_of b) → Acted v (TakePlace b f) → HasFoundFree b v.log → bit (place_bit_of b) f ≡ 1
  free_found f own d seen =
      let s : Shape = v.shape in
      let free : box_state b d.0 ≡ 0 = own_free_places_stay s b its d.0 d.2.0 d.1 v d.2.1.0 own seen.newer seen.rest seen.found seen.is seen.set seen.none in
      ap (bit (place_bit_of b)) d.2.1.2 ∙ (boxed s b d.0 d.2.0).free its free

pub read_places_ready : (k : Shape) (v : View) (j q w : ℕ) → v.shape ≡ k → q < k.passes → w < k.heap / 64 → Ready v j (λ n. ReadFreePlaces q w n)
read_places_ready k v j q w same low less es id knows small = (refl, (subst (λ (z : Shape). q < z.passes) (sym same) low, subst (λ (z : Shape). w < z.heap / 64) (sym same) less))
