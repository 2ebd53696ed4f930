-- `push_contents`: the lines of what containers are shown to have are those of what they have.
use Rattle.std.proofs.Common.{◌≡◌, ◌∙◌, ◌+◌, ◌<◌, ◌++◌, ℕ, List, [], ◌∷◌, length, map, take, get_or, min, refl, sym, ap, ap₂, arith}
use Rattle.std.specs.Prelude.{codes}
use Rattle.std.specs.List.{flat_map, zip}
use Rattle.std.proofs.lemmas.List.{flat_map_more, take_all, take_more}
use Rattle.std.proofs.lemmas.Simd.{map-map}
use Rattle.std.proofs.lemmas.Slice.Zip.{get_or-zip, length-zip}
use Rattle.ft_model.specs.declared.content.Content.{Content}
use Rattle.ft_model.specs.declared.content.Content.TheVariants as content
use Rattle.ft_model.specs.declared.content.DictPair.{DictPair}
use Rattle.ft_model.specs.declared.content.Element.{Element}
use Rattle.ft_model.specs.declared.reply.Shown.{Shown}
use Rattle.ft_model.specs.declared.script.Declaration.{Declaration}
use Rattle.ft_model.specs.declared.script.ScriptParts.{ScriptParts}
use Rattle.ft_model.specs.Answers.{shown_of}
use Rattle.ft_script.specs.ShownLines.{shown_line, shown_lines}
use Rattle.ft_script.specs.Texts.{braced_text, content_text, elements_text, key_text, line, pair_text, shown_text, world_text}

-- ---- lines one after the other

-- the first lines
abbrev pub first_shown : ScriptParts → List Shown → ℕ → List ℕ
first_shown script all n = flat_map (λ (one : Declaration × Shown). shown_line script one.0 one.1) (take n (zip script.containers all))

pub first_shown-more : (old before now : List ℕ) (script : ScriptParts) (all : List Shown) (n m : ℕ) (container : Declaration) (shown : Shown) →
    m ≡ n + 1 → n < length script.containers → n < length all →
    container ≡ get_or script.containers n container → shown ≡ get_or all n shown →
    before ≡ old ++ first_shown script all n → now ≡ before ++ shown_line script container shown →
    now ≡ old ++ first_shown script all m
first_shown-more old before now script all n m container shown next low high c1 c2 e1 e2 =
    let text : Declaration × Shown → List ℕ = λ one. shown_line script one.0 one.1 in
    let ones = zip script.containers all in
    let d : Declaration × Shown = (container, shown) in
    let at : get_or ones n d ≡ d = get_or-zip script.containers all n d low high ∙ ap (λ (x : Declaration). let pair : Declaration × Shown = (x, get_or all n shown) in pair) (sym c1) ∙ ap (λ (x : Shown). let pair : Declaration × Shown = (container, x) in pair) (sym c2) in
    let long : n < length ones = omega (arith, length-zip script.containers all) in
    let more : take m ones ≡ take n ones ++ d ∷ [] = rw next (take_more ones n d long ∙ ap (λ (x : Declaration × Shown). take n ones ++ x ∷ []) at) in
    e2 ∙ ap (λ (t : List ℕ). t ++ shown_line script container shown) e1 ∙ flat_map_more text old (take n ones) d ∙ ap (λ t. old ++ flat_map text t) (sym more)

pub first_shown-all : (script : ScriptParts) (all : List Shown) (n : ℕ) → n ≡ min (length script.containers) (length all) → first_shown script all n ≡ shown_lines script all
first_shown-all script all n over =
    ap (λ ones. flat_map (λ (one : Declaration × Shown). shown_line script one.0 one.1) ones) (take_all n (zip script.containers all) (omega (arith, length-zip script.containers all)))

-- ---- the same lines

shown_alike : (strings : List (List ℕ)) (there : Content) → shown_text strings (shown_of there) ≡ content_text strings there
shown_alike strings (content.Dict dict) = ap braced_text (map-map (pair_text strings) (λ (pair : DictPair). (pair.key, pair.value)) dict.pairs)
shown_alike strings (content.List items) = refl
shown_alike strings (content.Set set) = ap elements_text (map-map (key_text strings) (λ (element : Element). element.key) set.elements)
shown_alike strings (content.Deque deque) = refl

lines_alike : (script : ScriptParts) (containers : List Declaration) (world : List Content) → flat_map (λ (one : Declaration × Shown). shown_line script one.0 one.1) (zip containers (map shown_of world)) ≡ flat_map (λ (one : Declaration × Content). line (one.0.name ∷ codes "=" ∷ content_text script.strings one.1 ∷ [])) (zip containers world)
lines_alike script [] world = refl
lines_alike script (container ∷ containers) [] = refl
lines_alike script (container ∷ containers) (there ∷ world) =
    let one = ap (λ (text : List ℕ). line (container.name ∷ codes "=" ∷ text ∷ [])) (shown_alike script.strings there) in
    ap₂ (λ (a b : List ℕ). a ++ b) one (lines_alike script containers world)

-- where this is what they are shown to have
pub shown_world : (script : ScriptParts) (world : List Content) → shown_lines script (map shown_of world) ≡ world_text script world
shown_world script world = lines_alike script script.containers world
