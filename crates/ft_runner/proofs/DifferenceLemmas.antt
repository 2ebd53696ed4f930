-- The lines of contents that are given, beside those that have to be there.
use Rattle.std.proofs.Common.{◌≡◌, ◌↔◌, ◌∙◌, IsTrue, ℕ, ◌+◌, ◌<◌, ◌≤◌, min, Bool, true, false, List, Vec, Global, [], ◌∷◌, ◌++◌, map, length, get_or, take, Some, None, refl, sym, ap, ap₂, arith}
use Rattle.std.specs.Prelude.{slice_get, option_map}
use Rattle.std.specs.List.{zip}
use Rattle.std.specs.Str.{bytes_eq}
use Rattle.std.proofs.Math.Seq.{get_or-append_seam}
use Rattle.std.proofs.lemmas.Bool.{false≢true, true≢false}
use Rattle.std.proofs.lemmas.List.{append_cancel_right, length-append, length-map, take_all}
use Rattle.std.proofs.lemmas.Option.{none-some, same_Some, slice_get-get_or, slice_get-map, slice_get_past, slice_get_within}
use Rattle.std.proofs.lemmas.Slice.Eq.{bytes_eq-Decides}
use Rattle.std.proofs.lemmas.Slice.Zip.{get_or-zip, length-zip}
use Rattle.ft_history.proofs.HistoryPlaces.{take_next}
use Rattle.ft_model.specs.declared.content.Content.{Content}
use Rattle.ft_model.specs.declared.script.Declaration.{Declaration}
use Rattle.ft_model.specs.declared.script.ScriptParts.{ScriptParts}
use Rattle.ft_script.specs.Texts.{world_line}
use Rattle.ft_runner.specs.Findings.{given_lines, world_lines, IsFirstDifference}

-- ---- one line

abbrev fed : List ℕ → List ℕ
fed line = line ++ 10 ∷ []

abbrev bytes_of : Vec ℕ Global → List ℕ
bytes_of line = line.items

pub no_fed : (line text : List ℕ) → length text ≡ 0 → IsTrue false ↔ (fed line ≡ text)
no_fed line text empty = (λ is. absurd (false≢true is), λ same. absurd (omega (arith, empty, ap length same, length-append line (10 ∷ []))))

last_fed : (line front : List ℕ) (last : ℕ) → fed line ≡ front ++ last ∷ [] → last ≡ 10
last_fed line front last same =
    let long : length line ≡ length front = omega (arith, ap length same, length-append line (10 ∷ []), length-append front (last ∷ [])) in
    sym (get_or-append_seam front last [] 0) ∙ ap₂ (λ bytes i. get_or bytes i 0) (sym same) (sym long) ∙ get_or-append_seam line 10 [] 0

pub fed_here : (line text front : List ℕ) (last : ℕ) (r : Bool) → text ≡ front ++ last ∷ [] → last ≡ 10 → r ≡ bytes_eq front line → IsTrue r ↔ (fed line ≡ text)
fed_here line text front last r is ten answer = (
  λ t. ap fed (sym ((bytes_eq-Decides front line).0 (sym answer ∙ t))) ∙ ap (λ b. front ++ b ∷ []) (sym ten) ∙ sym is,
  λ same. answer ∙ (bytes_eq-Decides front line).1 (sym (append_cancel_right line front (10 ∷ []) (same ∙ is ∙ ap (λ b. front ++ b ∷ []) ten))),
)

pub not_fed : (line text front : List ℕ) (last : ℕ) (r : Bool) → text ≡ front ++ last ∷ [] → (last ≡ 10 → ⊥) → r ≡ false → IsTrue r ↔ (fed line ≡ text)
not_fed line text front last r is other answer = (
  λ t. absurd (true≢false (sym t ∙ answer)),
  λ same. absurd (other (last_fed line front last (same ∙ is))),
)

-- ---- the given line at a place

given_at : (lines : List (Vec ℕ Global)) (place : ℕ) → slice_get (given_lines (map bytes_of lines)) place ≡ option_map (λ (line : Vec ℕ Global). fed line.items) (slice_get lines place)
given_at lines place =
    slice_get-map fed (map bytes_of lines) place
    ∙ ap (option_map fed) (slice_get-map bytes_of lines place)
    ∙ elim (slice_get lines place) as (λ o. option_map fed (option_map bytes_of o) ≡ option_map (λ (line : Vec ℕ Global). fed line.items) o) [ None ↦ refl | Some line ↦ refl ]

pub given_here : (lines : List (Vec ℕ Global)) (place : ℕ) (line : Vec ℕ Global) (text : List ℕ) (r : Bool) → slice_get lines place ≡ Some line → IsTrue r ↔ (fed line.items ≡ text) → IsTrue r ↔ (slice_get (given_lines (map bytes_of lines)) place ≡ Some text)
given_here lines place line text r at is =
    let here : slice_get (given_lines (map bytes_of lines)) place ≡ Some (fed line.items) = given_at lines place ∙ ap (option_map (λ (l : Vec ℕ Global). fed l.items)) at in
    (λ t. here ∙ ap Some (is.0 t), λ same. is.1 (same_Some (fed line.items) text (sym here ∙ same)))

pub given_none : (lines : List (Vec ℕ Global)) (place : ℕ) (text : List ℕ) → slice_get lines place ≡ None → IsTrue false ↔ (slice_get (given_lines (map bytes_of lines)) place ≡ Some text)
given_none lines place text past =
    let here : slice_get (given_lines (map bytes_of lines)) place ≡ None = given_at lines place ∙ ap (option_map (λ (l : Vec ℕ Global). fed l.items)) past in
    (λ t. absurd (false≢true t), λ same. absurd (none-some text (sym here ∙ same)))

-- ---- the lines that have to be there

wanted_at : (script : ScriptParts) (world : List Content) (n : ℕ) (container : Declaration) (content : Content) → n < length script.containers → n < length world → container ≡ get_or script.containers n container → content ≡ get_or world n content
    → slice_get (world_lines script world) n ≡ Some (world_line script container content)
wanted_at script world n container content low high c1 c2 =
    let text : Declaration × Content → List ℕ = λ shown. world_line script shown.0 shown.1 in
    let shown = zip script.containers world in
    let d : Declaration × Content = (container, content) in
    let at : get_or shown n d ≡ d = get_or-zip script.containers world n d low high ∙ ap (λ (x : Declaration). let pair : Declaration × Content = (x, get_or world n content) in pair) (sym c1) ∙ ap (λ (x : Content). let pair : Declaration × Content = (container, x) in pair) (sym c2) in
    slice_get-map text shown n ∙ ap (option_map text) (slice_get-get_or shown n d (omega (arith, length-zip script.containers world)) ∙ ap Some at)

wanted_count : (script : ScriptParts) (world : List Content) → length (world_lines script world) ≡ min (length script.containers) (length world)
wanted_count script world = length-map (zip script.containers world) (λ (shown : Declaration × Content). world_line script shown.0 shown.1) ∙ length-zip script.containers world

given_count : (lines : List (Vec ℕ Global)) → length (given_lines (map bytes_of lines)) ≡ length lines
given_count lines = length-map (map bytes_of lines) fed ∙ length-map lines bytes_of

-- ---- both, alike up to a place, which that many turns of a loop have come to

module _ (script : ScriptParts) (world : List Content) (lines : List (Vec ℕ Global)) (place turns : ℕ) (counted : place ≡ turns) (same : take place (given_lines (map bytes_of lines)) ≡ take place (world_lines script world)) where
  abbrev given : List (List ℕ)
  given = given_lines (map bytes_of lines)

  abbrev wanted : List (List ℕ)
  wanted = world_lines script world

  module _ (container : Declaration) (content : Content) (text : List ℕ) (low : turns < length script.containers) (high : turns < length world) (c1 : container ≡ get_or script.containers turns container) (c2 : content ≡ get_or world turns content) (is : text ≡ world_line script container content) (r : Bool) (has : IsTrue r ↔ (slice_get given place ≡ Some text)) where
    wanted_here : slice_get wanted place ≡ Some text
    wanted_here = ap (slice_get wanted) counted ∙ wanted_at script world turns container content low high c1 c2 ∙ ap Some (sym is)

    pub line_differs : r ≡ false → IsFirstDifference given wanted place
    line_differs lacks = record { same = same; differs = λ alike. true≢false (sym (has.1 (alike ∙ wanted_here)) ∙ lacks) }

    pub line_alike : r ≡ true → take (place + 1) given ≡ take (place + 1) wanted
    line_alike there = take_next given place text (has.0 there) ∙ ap (λ front. front ++ text ∷ []) same ∙ sym (take_next wanted place text wanted_here)

    pub line_within : r ≡ true → place + 1 ≤ length lines
    line_within there = omega (arith, given_count lines, slice_get_within given place text (has.0 there))

  module _ (end : turns ≡ min (length script.containers) (length world)) where
    pub one_too_many : place < length lines → IsFirstDifference given wanted place
    one_too_many more =
        record {
          same = same;
          differs = λ alike. none-some (get_or given place []) (sym (slice_get_past wanted place (omega (arith, wanted_count script world))) ∙ sym alike ∙ slice_get-get_or given place [] (omega (arith, given_count lines)));
        }

    pub all_alike : length lines ≤ place → given ≡ wanted
    all_alike few = sym (take_all place given (omega (arith, given_count lines))) ∙ same ∙ take_all place wanted (omega (arith, wanted_count script world))
