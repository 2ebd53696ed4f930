-- Loops over the entries of one set or dict that seek each key in another one.
use Rattle.std.proofs.Common.{◌≡◌, ℕ, Bool, false, not, List, Option, Some, None, sym, ap, ◌∙◌}
use Rattle.std.specs.Prelude.{is_some, slice_index_or, if◌then◌else◌}
use Rattle.std.specs.Option.{option_map_or}
use Rattle.ft_layout.specs.Tables.{UsedEntry, hash_of}
use Rattle.ft_keys.specs.declared.walk.Way.TheVariants as way
use Rattle.ft_model.specs.declared.data.Key.{Key}
use Rattle.ft_model.specs.declared.data.Value.{Value}
use Rattle.ft_model.specs.Contents.{DictContent, SetContent}
use Rattle.ft_model.specs.Keys.{is_value}
use Rattle.ft_model.specs.Worlds.{dict_of, set_of}
use Rattle.ft_trace.specs.declared.Shape.{Shape}
use Rattle.ft_bank.specs.declared.pass.Pass.{Pass}
use Rattle.ft_reads.specs.Reads.{Reads}
use Rattle.ft_reads.specs.Pairs.{ReadsBoth}
use Rattle.ft_reads.proofs.Both.{both_map, both_then, of_first, of_second}
use Rattle.ft_whole_tables.specs.Comparing.{DiffersAt, IsValueIn, MeetsAt, WithDict, WithSet, is_met, lacks_value}
use Rattle.ft_whole_tables.specs.TableEntries.{HashIs, IsKeyAt, IsPlainAt, OfUsed}
use Rattle.ft_whole_tables.specs.FoundKeys.{IsFoundIn}
use Rattle.ft_whole_tables.proofs.Paired.{at_set, key_same, pair_same}

module _ (k : Shape) (o m t : ℕ) where
  -- ---- sets

  pub set_then : (holds one gets : List UsedEntry → SetContent → Type 0) (p q r : Pass) → ReadsBoth k o m (WithSet k t holds) p q → ReadsBoth k o m (WithSet k t one) q r → ((used : List UsedEntry) (set : SetContent) → holds used set → one used set → gets used set) → ReadsBoth k o m (WithSet k t gets) p r
  set_then holds one gets p q r a b f =
      both_map k o m (λ x y. WithSet k t holds x y × WithSet k t one x y) (WithSet k t gets) p r
      (both_then k o m (WithSet k t holds) (WithSet k t one) p q r a b)
      (λ x y both names way used table kept is stands. f used (set_of kept.content) (both.0 names way used table kept is stands) (both.1 names way used table kept is stands))

  pub set_map : (holds gets : List UsedEntry → SetContent → Type 0) (p q : Pass) → ReadsBoth k o m (WithSet k t holds) p q → ((used : List UsedEntry) (set : SetContent) → holds used set → gets used set) → ReadsBoth k o m (WithSet k t gets) p q
  set_map holds gets p q a f = both_map k o m (WithSet k t holds) (WithSet k t gets) p q a (λ x y h names way used table kept is stands. f used (set_of kept.content) (h names way used table kept is stands))

  module _ (place : ℕ) (wanted : Bool) where
    pub met_none : (p q : Pass) → Reads k o (IsKeyAt k t place None) p q → ReadsBoth k o m (WithSet k t (MeetsAt wanted place false)) p q
    met_none p q a =
        both_map k o m (λ x y. IsKeyAt k t place None x) (WithSet k t (MeetsAt wanted place false)) p q (of_first k o m (IsKeyAt k t place None) p q a)
        (λ x y at names way used table kept is stands any low. ap (λ (z : Option Key). option_map_or (is_met wanted (set_of kept.content)) z false) (at.0 names way used table any low))

    pub met_some : (key : Key) (hash : ℕ) (read : Option (ℕ × ℕ)) (result : Bool) (p q r z : Pass) → result ≡ (if wanted then is_some read else not (is_some read)) → Reads k o (IsKeyAt k t place (Some key)) p q → Reads k o (OfUsed k t (HashIs k.texts place hash)) q r → Reads k m (IsFoundIn k way.Set hash key read) r z → ReadsBoth k o m (WithSet k t (MeetsAt wanted place result)) p z
    met_some key hash read result p q r z result_is a b d =
        both_map k o m (λ x y. IsKeyAt k t place (Some key) x × (OfUsed k t (HashIs k.texts place hash) x × IsFoundIn k way.Set hash key read y)) (WithSet k t (MeetsAt wanted place result)) p z
        (both_then k o m (λ x y. IsKeyAt k t place (Some key) x) (λ x y. OfUsed k t (HashIs k.texts place hash) x × IsFoundIn k way.Set hash key read y) p q z (of_first k o m (IsKeyAt k t place (Some key)) p q a)
        (both_then k o m (λ x y. OfUsed k t (HashIs k.texts place hash) x) (λ x y. IsFoundIn k way.Set hash key read y) q r z (of_first k o m (OfUsed k t (HashIs k.texts place hash)) q r b) (of_second k o m (IsFoundIn k way.Set hash key read) r z d)))
        (λ x y all names way used table kept is stands any low.
        let e = slice_index_or used place any in
        let here = all.0.0 names way used table any low in
        let hash_is : hash ≡ hash_of k.texts key = all.1.0 names way used table any low ∙ ap (hash_of k.texts) (sym (key_same e key here)) in
        let there = at_set kept.content key read is (all.1.1 hash_is kept is stands) in
        result_is ∙ ((λ i. if wanted then sym there i else not (sym there i)) ∙ ap (λ (w : Option Key). option_map_or (is_met wanted (set_of kept.content)) w false) here))

  -- ---- dicts

  pub dict_then : (holds one gets : List UsedEntry → DictContent → Type 0) (p q r : Pass) → ReadsBoth k o m (WithDict k t holds) p q → ReadsBoth k o m (WithDict k t one) q r → ((used : List UsedEntry) (dict : DictContent) → holds used dict → one used dict → gets used dict) → ReadsBoth k o m (WithDict k t gets) p r
  dict_then holds one gets p q r a b f =
      both_map k o m (λ x y. WithDict k t holds x y × WithDict k t one x y) (WithDict k t gets) p r
      (both_then k o m (WithDict k t holds) (WithDict k t one) p q r a b)
      (λ x y both names way used table kept is stands. f used (dict_of kept.content) (both.0 names way used table kept is stands) (both.1 names way used table kept is stands))

  pub dict_map : (holds gets : List UsedEntry → DictContent → Type 0) (p q : Pass) → ReadsBoth k o m (WithDict k t holds) p q → ((used : List UsedEntry) (dict : DictContent) → holds used dict → gets used dict) → ReadsBoth k o m (WithDict k t gets) p q
  dict_map holds gets p q a f = both_map k o m (WithDict k t holds) (WithDict k t gets) p q a (λ x y h names way used table kept is stands. f used (dict_of kept.content) (h names way used table kept is stands))

  module _ (place : ℕ) where
    pub differs_none : (p q : Pass) → Reads k o (IsPlainAt k t place None) p q → ReadsBoth k o m (WithDict k t (DiffersAt place false)) p q
    differs_none p q a =
        both_map k o m (λ x y. IsPlainAt k t place None x) (WithDict k t (DiffersAt place false)) p q (of_first k o m (IsPlainAt k t place None) p q a)
        (λ x y at names way used table kept is stands any low. ap (λ (z : Option (Key × Value)). option_map_or (lacks_value (dict_of kept.content)) z false) (at.0 names way used table any low))

    pub differs_some : (key : Key) (value : Value) (hash : ℕ) (found : Option Value) (result : Bool) (p q r z : Pass) → result ≡ not (option_map_or (λ (v : Value). is_value v value) found false) → Reads k o (IsPlainAt k t place (Some (key, value))) p q → Reads k o (OfUsed k t (HashIs k.texts place hash)) q r → Reads k m (IsValueIn k hash key found) r z
        → ReadsBoth k o m (WithDict k t (DiffersAt place result)) p z
    differs_some key value hash found result p q r z result_is a b d =
        both_map k o m (λ x y. IsPlainAt k t place (Some (key, value)) x × (OfUsed k t (HashIs k.texts place hash) x × IsValueIn k hash key found y)) (WithDict k t (DiffersAt place result)) p z
        (both_then k o m (λ x y. IsPlainAt k t place (Some (key, value)) x) (λ x y. OfUsed k t (HashIs k.texts place hash) x × IsValueIn k hash key found y) p q z (of_first k o m (IsPlainAt k t place (Some (key, value))) p q a)
        (both_then k o m (λ x y. OfUsed k t (HashIs k.texts place hash) x) (λ x y. IsValueIn k hash key found y) q r z (of_first k o m (OfUsed k t (HashIs k.texts place hash)) q r b) (of_second k o m (IsValueIn k hash key found) r z d)))
        (λ x y all names way used table kept is stands any low.
        let e = slice_index_or used place any in
        let here = all.0.0 names way used table any low in
        let hash_is : hash ≡ hash_of k.texts key = all.1.0 names way used table any low ∙ ap (hash_of k.texts) (sym (pair_same e key value here)) in
        let got = all.1.1 hash_is kept is stands in
        result_is
        ∙ (ap (λ (w : Option Value). not (option_map_or (λ (v : Value). is_value v value) w false)) (sym got)
        ∙ ap (λ (w : Option (Key × Value)). option_map_or (lacks_value (dict_of kept.content)) w false) here))
