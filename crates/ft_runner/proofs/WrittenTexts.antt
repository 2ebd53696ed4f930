-- A script's text, the line `---` and the text of a legal history are read as they were written, and found legal.
use Rattle.std.proofs.Common.{◌≡◌, ◌∙◌, ℕ, zero, suc, ◌+◌, ◌-◌, ◌<◌, ◌==◌, ◌&&◌, ◌||◌, Bool, true, false, List, [], ◌∷◌, ◌++◌, length, get_or, take, drop, Ok, refl, sym, ap, ap₂, subst, inl, inr, arith, append_assoc}
use Rattle.std.specs.Prelude.{codes}
use Rattle.std.specs.List.{flat_map}
use Rattle.std.proofs.lemmas.Bool.{and_parts, cases_lt, eqb-true, or_cases}
use Rattle.std.proofs.lemmas.List.{drop_at, drop-append-le, drop-drop, get_or_append_left, get_or-drop, get_or-take, length-append, length-drop, length-take, take_at, take-append-drop, take-append-le, take_more}
use Rattle.std.proofs.lemmas.Slice.Eq.{bytes_eq-Decides}
use Rattle.ft_history.specs.declared.verdict.Verdict.TheVariants as verdict
use Rattle.ft_model.specs.declared.content.Content.{Content}
use Rattle.ft_model.specs.declared.entry.Entry.{Entry}
use Rattle.ft_model.specs.declared.script.ScriptParts.{ScriptParts}
use Rattle.ft_model.specs.Histories.{writes, world_at, IsLegal}
use Rattle.ft_script.specs.ReadScripts.{read_script}
use Rattle.ft_script.specs.Texts.{entry_line, transcript}
use Rattle.ft_script.specs.Transcripts.{IsTranscript}
use Rattle.ft_script.proofs.NoSeparator.{no_separator_after, no_separator_first}
use Rattle.ft_script.proofs.ReadScripts.{script_read, script_wide}
use Rattle.ft_runner.specs.Checking.{begins_line, is_separator, is_separator_at, IsSeparator}
use Rattle.ft_runner.specs.Findings.{stored, IsInput, IsVerdictOn}
use Rattle.ft_runner.specs.Written.{checked_text, EndsLine}
use Rattle.ft_runner.proofs.ReadableEntries.{readable_entries, served}
use Rattle.ft_runner.proofs.ReadableWorlds.{fed_is_world, given_are_wanted, lines_of_world, readable_lines}

-- ---- the line

dash_at : (k : ℕ) → k < 3 → get_or (codes "---\n") k 0 ≡ 45
dash_at zero low = refl
dash_at (suc zero) low = refl
dash_at (suc (suc zero)) low = refl
dash_at (suc (suc (suc k))) low = absurd (omega arith)

dash_in : (k : ℕ) → k < 3 → get_or (codes "---") k 0 ≡ 45
dash_in zero low = refl
dash_in (suc zero) low = refl
dash_in (suc (suc zero)) low = refl
dash_in (suc (suc (suc k))) low = absurd (omega arith)

-- each alternative begins with three dashes
dashes_first : (line : List ℕ) → is_separator line ≡ true → (k : ℕ) → k < 3 → get_or line k 0 ≡ 45
dashes_first line is k low =
    elim (or_cases _ _ is) [
      | inl fed ↦ ap (λ (l : List ℕ). get_or l k 0) ((bytes_eq-Decides line (codes "---\n")).0 fed) ∙ dash_at k low
      | inr bare ↦ ap (λ (l : List ℕ). get_or l k 0) ((bytes_eq-Decides line (codes "---")).0 bare) ∙ dash_in k low
    ]

-- of four bytes it is the one with a line feed
of_four : (line : List ℕ) → is_separator line ≡ true → length line ≡ 4 → line ≡ codes "---\n"
of_four line is long =
    elim (or_cases _ _ is) [
      | inl fed ↦ (bytes_eq-Decides line (codes "---\n")).0 fed
      | inr bare ↦ (let three : length line ≡ 3 = ap length ((bytes_eq-Decides line (codes "---")).0 bare) in absurd (omega arith))
    ]

module _ (text : List ℕ) (script : ScriptParts) (read : read_script text ≡ Ok script) (ended : EndsLine text) (rest : List ℕ) where
  abbrev bytes : List ℕ
  bytes = text ++ (codes "---\n" ++ rest)

  last_feed : 0 < length text → get_or text (length text - 1) 0 ≡ 10
  last_feed some = elim (or_cases (length text == 0) _ ended) [
    | inl none ↦ (let empty : length text ≡ 0 = eqb-true _ _ none in absurd (omega arith))
    | inr feed ↦ eqb-true _ _ feed
  ]

  -- the text would have it as a line of its own
  in_text : (place : ℕ) → place + 3 < length text → begins_line text place ≡ true → drop place text ≡ codes "---\n" ++ drop (place + 4) text → ⊥
  in_text place low begins here =
      let parts : take place text ++ (codes "---\n" ++ drop (place + 4) text) ≡ text = ap (λ (r : List ℕ). take place text ++ r) (sym here) ∙ take-append-drop place text in
      elim (or_cases (place == 0) _ begins) [
        | inl zero_place ↦
            let none : place ≡ 0 = eqb-true _ _ zero_place in
            let whole : codes "---\n" ++ drop (place + 4) text ≡ text = ap (λ (p : ℕ). take p text ++ (codes "---\n" ++ drop (place + 4) text)) (sym none) ∙ parts in
            no_separator_first (drop (place + 4) text) script (ap read_script whole ∙ read)
        | inr feed ↦
            -- the byte before it is a line feed
            elim (cases_lt 0 place) [
              | inr first ↦ (let none : place ≡ 0 = omega arith in no_separator_first (drop (place + 4) text) script (ap read_script (ap (λ (p : ℕ). take p text ++ (codes "---\n" ++ drop (place + 4) text)) (sym none) ∙ parts) ∙ read))
              | inl some ↦
                  let before = take (place - 1) text in
                  let one : place - 1 + 1 ≡ place = omega arith in
                  let last : take place text ≡ before ++ 10 ∷ [] = ap (λ (p : ℕ). take p text) (sym one) ∙ take_more text (place - 1) 0 (omega arith) ∙ ap (λ (b : ℕ). before ++ b ∷ []) (eqb-true _ _ feed) in
                  let whole : before ++ 10 ∷ (codes "---\n" ++ drop (place + 4) text) ≡ text = sym (append_assoc before (10 ∷ []) (codes "---\n" ++ drop (place + 4) text)) ∙ ap (λ (front : List ℕ). front ++ (codes "---\n" ++ drop (place + 4) text)) (sym last) ∙ parts in
                  no_separator_after before (drop (place + 4) text) script (ap read_script whole ∙ read)
            ]
      ]

  -- no line before is one
  none_here : (place : ℕ) → place < length text → is_separator_at bytes place ≡ true → ⊥
  none_here place low is =
      let both = and_parts (begins_line bytes place) _ is in
      let four = take 4 (drop place bytes) in
      elim (cases_lt (place + 3) (length text)) [
        | inl inside ↦
            let same : four ≡ take 4 (drop place text) = ap (take 4) (drop-append-le place text (codes "---\n" ++ rest) (omega arith)) ∙ take-append-le 4 (drop place text) (codes "---\n" ++ rest) (omega (arith, length-drop place text)) in
            let long : length (take 4 (drop place text)) ≡ 4 = omega (arith, length-take 4 (drop place text), length-drop place text) in
            let is_four : take 4 (drop place text) ≡ codes "---\n" = of_four (take 4 (drop place text)) (subst (λ (l : List ℕ). is_separator l ≡ true) same both.1) long in
            let after : drop 4 (drop place text) ≡ drop (place + 4) text = drop-drop 4 place text in
            let here : drop place text ≡ codes "---\n" ++ drop (place + 4) text = sym (take-append-drop 4 (drop place text)) ∙ ap₂ (λ (a b : List ℕ). a ++ b) is_four after in
            let begins : begins_line text place ≡ true = sym (ap (λ (b : ℕ). place == 0 || b == 10) (get_or_append_left text (codes "---\n" ++ rest) 0 (place - 1) (omega arith))) ∙ both.0 in
            in_text place inside begins here
        | inr past ↦
            let k = length text - 1 - place in
            let feed : get_or bytes (place + k) 0 ≡ 10 = (let there : place + k ≡ length text - 1 = omega arith in ap (λ (i : ℕ). get_or bytes i 0) there ∙ get_or_append_left text (codes "---\n" ++ rest) 0 (length text - 1) (omega arith) ∙ last_feed (omega arith)) in
            let dash : get_or bytes (place + k) 0 ≡ 45 = sym (get_or-drop place bytes k 0) ∙ sym (get_or-take 4 (drop place bytes) k 0 (omega arith)) ∙ dashes_first four both.1 k (omega arith) in
            let same : ◌≡◌ {A = ℕ} 10 45 = sym feed ∙ dash in
            omega arith
      ]

  -- it follows the text
  pub separator_after : IsSeparator bytes (length text)
  separator_after =
      let at : drop (length text) bytes ≡ codes "---\n" ++ rest = drop_at text (codes "---\n" ++ rest) (length text) refl in
      let four : is_separator (take 4 (drop (length text) bytes)) ≡ true = ap (λ (r : List ℕ). is_separator (take 4 r)) at in
      let begins : begins_line bytes (length text) ≡ true =
      elim (cases_lt 0 (length text)) [
        | inl some ↦ ap (λ (b : ℕ). length text == 0 || b == 10) (get_or_append_left text (codes "---\n" ++ rest) 0 (length text - 1) (omega arith)) ∙ ended
        | inr none ↦ (let empty : length text ≡ 0 = omega arith in rw empty refl)
      ] in
      record {
        inside = omega (arith, length-append text (codes "---\n" ++ rest), length-append (codes "---\n") rest);
        here = ap₂ (λ (a b : Bool). a && b) begins four;
        first = λ earlier before. elim (is_separator_at bytes earlier) as (λ b. is_separator_at bytes earlier ≡ b → b ≡ false) [
          | true ↦ λ is. absurd (none_here earlier before is)
          | false ↦ λ _. refl
        ] refl;
      }

-- ---- the history

module _ (text : List ℕ) (script : ScriptParts) (read : read_script text ≡ Ok script) (ended : EndsLine text) (entries : List Entry) (legal : IsLegal stored script entries) where
  abbrev left : List Content
  left = world_at script entries (length (writes entries))

  transcript_read : IsTranscript script (transcript script entries) entries (lines_of_world script left)
  transcript_read =
      let rule = script_read text script read in
      let wide = script_wide text script read in
      let there = served script rule wide entries legal (length (writes entries)) in
      record {
        entries_read = readable_entries script rule wide entries legal;
        world_read = readable_lines script left there.containers there.contents;
        written = ap (λ (contents : List ℕ). flat_map (entry_line script) entries ++ contents) (sym (fed_is_world script left));
      }

  pub is_read_back : IsInput (checked_text text (transcript script entries)) script entries (lines_of_world script left)
  is_read_back =
      let rest = transcript script entries in
      let bytes : List ℕ = text ++ (codes "---\n" ++ rest) in
      let same : checked_text text rest ≡ bytes = append_assoc text (codes "---\n") rest in
      let after : drop (length text + 4) bytes ≡ rest = sym (drop-drop 4 (length text) bytes) ∙ ap (drop 4) (drop_at text (codes "---\n" ++ rest) (length text) refl) in
      subst (λ (all : List ℕ). IsInput all script entries (lines_of_world script left)) (sym same) (record {
        after = rest;
        parted = record {
          place = length text;
          separator = separator_after text script read ended rest;
          script_read = ap read_script (take_at text (codes "---\n" ++ rest) (length text) refl) ∙ read;
          after_it = sym after;
        };
        transcript_read = transcript_read;
      })

  pub separator_there : IsSeparator (checked_text text (transcript script entries)) (length text)
  separator_there =
      let rest = transcript script entries in
      subst (λ (all : List ℕ). IsSeparator all (length text)) (sym (append_assoc text (codes "---\n") rest)) (separator_after text script read ended rest)

  pub is_found_legal : IsVerdictOn script entries (lines_of_world script left) verdict.Legal
  is_found_legal = (legal, given_are_wanted script left)
