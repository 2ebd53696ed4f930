-- The contents that a legal history leaves have lines that a transcript can have.
use Rattle.std.proofs.Common.{◌≡◌, ℕ, ◌<◌, List, [], ◌∷◌, ◌++◌, map, length, get_or, Some, refl, sym, ap, ap₂, subst, arith}
use Rattle.std.specs.Prelude.{All, codes, slice_get}
use Rattle.std.specs.List.{join_with_byte, zip}
use Rattle.std.specs.Option.{option_map_or}
use Rattle.std.proofs.lemmas.List.Elements.{All-map}
use Rattle.std.proofs.lemmas.List.Folds.{flat_map-map}
use Rattle.std.proofs.lemmas.Option.{slice_get-get_or}
use Rattle.std.proofs.lemmas.Simd.{map-map}
use Rattle.std.proofs.lemmas.Slice.Zip.{get_or-zip, length-zip}
use Rattle.ft_model.specs.declared.content.Content.{Content}
use Rattle.ft_model.specs.declared.content.Content.TheVariants as content
use Rattle.ft_model.specs.declared.content.DictPair.{DictPair}
use Rattle.ft_model.specs.declared.content.Element.{Element}
use Rattle.ft_model.specs.declared.data.Key.{Key}
use Rattle.ft_model.specs.declared.data.Value.{Value}
use Rattle.ft_model.specs.declared.reply.Reply.{Reply}
use Rattle.ft_model.specs.declared.reply.Reply.TheVariants as reply
use Rattle.ft_model.specs.declared.script.Declaration.{Declaration}
use Rattle.ft_model.specs.declared.script.ScriptParts.{ScriptParts}
use Rattle.ft_model.specs.Parts.{IsReplyOf}
use Rattle.ft_model.specs.Scripts.{IsKeyOf, IsValueOf}
use Rattle.ft_script.specs.Texts.{braced_text, container_name, content_text, elements_text, key_text, line, pair_text, reply_text, world_text}
use Rattle.ft_script.specs.Transcripts.{fed, IsContentLine, IsContentReply, IsWideKey, IsWideReply, IsWideValue}
use Rattle.ft_turns.proofs.ContentFacts.{IsContentBy}
use Rattle.ft_runner.specs.Findings.{given_lines, world_lines}
use Rattle.ft_runner.proofs.ReadableEntries.{KeyFits, ValueFits}

-- ---- a content, said as a reply

as_reply : Content → Reply
as_reply (content.Dict dict) = reply.Dict (map (λ (pair : DictPair). (pair.key, pair.value)) dict.pairs)
as_reply (content.List items) = reply.List items
as_reply (content.Set set) = reply.Set (map (λ (element : Element). element.key) set.elements)
as_reply (content.Deque deque) = reply.List deque.items

said_alike : (script : ScriptParts) (c : Content) → content_text script.strings c ≡ reply_text script (as_reply c)
unfolding as_reply
said_alike script (content.Dict dict) = ap braced_text (sym (map-map (pair_text script.strings) (λ (pair : DictPair). (pair.key, pair.value)) dict.pairs))
said_alike script (content.List items) = refl
said_alike script (content.Set set) = ap elements_text (sym (map-map (key_text script.strings) (λ (element : Element). element.key) set.elements))
said_alike script (content.Deque deque) = refl

whole : (c : Content) → IsContentReply (as_reply c)
unfolding as_reply
whole (content.Dict dict) = tt
whole (content.List items) = tt
whole (content.Set set) = tt
whole (content.Deque deque) = tt

module _ (n : ℕ) where
  of_script : (c : Content) → IsContentBy (KeyFits n) (ValueFits n) c → IsReplyOf n (as_reply c)
  unfolding as_reply
  of_script (content.Dict dict) h = All-map (λ (pair : Key × Value). IsKeyOf n pair.0 × IsValueOf n pair.1) (λ (pair : DictPair). (pair.key, pair.value)) dict.pairs (λ i d low. ((h i d low).0.0, (h i d low).1.0))
  of_script (content.List items) h = λ i d low. (h i d low).0
  of_script (content.Deque deque) h = λ i d low. (h i d low).0
  of_script (content.Set set) h = All-map (IsKeyOf n) (λ (element : Element). element.key) set.elements (λ i d low. (h i d low).0)

  wide : (c : Content) → IsContentBy (KeyFits n) (ValueFits n) c → IsWideReply (as_reply c)
  unfolding as_reply
  wide (content.Dict dict) h = All-map (λ (pair : Key × Value). IsWideKey pair.0 × IsWideValue pair.1) (λ (pair : DictPair). (pair.key, pair.value)) dict.pairs (λ i d low. ((h i d low).0.1, (h i d low).1.1))
  wide (content.List items) h = λ i d low. (h i d low).1
  wide (content.Deque deque) h = λ i d low. (h i d low).1
  wide (content.Set set) h = All-map IsWideKey (λ (element : Element). element.key) set.elements (λ i d low. (h i d low).1)

-- ---- its line

module _ (script : ScriptParts) where
  abbrev shown_line : Declaration × Content → List ℕ
  shown_line shown = join_with_byte 32 (shown.0.name ∷ codes "=" ∷ content_text script.strings shown.1 ∷ [])

  -- the lines of the contents, without their line feeds
  pub lines_of_world : List Content → List (List ℕ)
  lines_of_world world = map shown_line (zip script.containers world)

  pub given_are_wanted : (world : List Content) → given_lines (lines_of_world world) ≡ world_lines script world
  unfolding lines_of_world
  given_are_wanted world = map-map (λ (text : List ℕ). text ++ 10 ∷ []) shown_line (zip script.containers world)

  pub fed_is_world : (world : List Content) → fed (lines_of_world world) ≡ world_text script world
  unfolding lines_of_world
  fed_is_world world = flat_map-map (λ (text : List ℕ). text ++ 10 ∷ []) shown_line (zip script.containers world)

  shown_readable : (place : ℕ) (container : Declaration) (c : Content) → slice_get script.containers place ≡ Some container → place < length script.containers → IsContentBy (KeyFits (length script.strings)) (ValueFits (length script.strings)) c → IsContentLine script (shown_line (container, c))
  shown_readable place container c at low fits =
      let name : container.name ≡ container_name script place = ap (λ o. option_map_or (λ (found : Declaration). found.name) o []) (sym at) in
      record {
        container = place;
        declared = low;
        content = as_reply c;
        whole = whole c;
        of_script = of_script (length script.strings) c fits;
        wide = wide (length script.strings) c fits;
        written = ap₂ (λ (front text : List ℕ). line (front ∷ codes "=" ∷ text ∷ [])) name (said_alike script c);
      }

  pub readable_lines : (world : List Content) → length world ≡ length script.containers → All (IsContentBy (KeyFits (length script.strings)) (ValueFits (length script.strings))) world → All (IsContentLine script) (lines_of_world world)
  unfolding lines_of_world
  readable_lines world long fits =
      All-map (IsContentLine script) shown_line (zip script.containers world) (λ place d low.
      let within : place < length script.containers = omega (arith, length-zip script.containers world) in
      let here = get_or script.containers place d.0 in
      let one = get_or world place d.1 in
      subst (λ (shown : Declaration × Content). IsContentLine script (shown_line shown)) (sym (get_or-zip script.containers world place d within (omega arith)))
      (shown_readable place here one (slice_get-get_or script.containers place d.0 within) within (fits place d.1 (omega arith))))
