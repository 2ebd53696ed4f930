-- Texts as what is printed piece after piece.
use Rattle.std.proofs.Common.{◌≡◌, ℕ, ◌+◌, ◌-◌, ◌<◌, ◌≤◌, List, [], ◌∷◌, ◌++◌, length, get_or, take, drop, map, min, refl, sym, ap, ◌∙◌, arith, append_assoc}
use Rattle.std.specs.Prelude.{codes}
use Rattle.std.specs.List.{flat_map, join_with_byte, zip}
use Rattle.std.proofs.lemmas.List.{append-nil, flat_map_more, length-take, take_all, take_more}
use Rattle.std.proofs.lemmas.List.Concat.{flat_map-append}
use Rattle.std.proofs.lemmas.Slice.Zip.{length-zip, get_or-zip}
use Rattle.ft_model.specs.declared.content.Content.{Content}
use Rattle.ft_model.specs.declared.entry.Entry.{Entry}
use Rattle.ft_model.specs.declared.script.Declaration.{Declaration}
use Rattle.ft_model.specs.declared.script.ScriptParts.{ScriptParts}
use Rattle.ft_script.specs.Forms.{call_form}
use Rattle.ft_model.specs.declared.reply.Shown.{Shown}
use Rattle.ft_script.specs.Texts.{line, argument_text, call_words, named_text, reply_text, mark_words, place_word, stamp_word, entry_line, listed, world_line, world_text}

-- each word after a byte
abbrev pub each_after : ℕ → List (List ℕ) → List ℕ
each_after c words = flat_map (λ (word : List ℕ). c ∷ word) words

pub join_with_byte-cons : (c : ℕ) (word : List ℕ) (words : List (List ℕ)) → join_with_byte c (word ∷ words) ≡ word ++ each_after c words
join_with_byte-cons c word [] = sym (append-nil word)
join_with_byte-cons c word (next ∷ words) = ap (λ (rest : List ℕ). word ++ (c ∷ rest)) (join_with_byte-cons c next words)

join_with_byte-append : (c : ℕ) (first second third : List ℕ) (words rest : List (List ℕ)) →
    join_with_byte c (first ∷ second ∷ (third ∷ words) ++ rest) ≡ first ++ ((c ∷ second) ++ ((c ∷ third) ++ (each_after c words ++ each_after c rest)))
join_with_byte-append c first second third words rest =
    join_with_byte-cons c first (second ∷ (third ∷ words) ++ rest) ∙ ap (λ (t : List ℕ). first ++ ((c ∷ second) ++ ((c ∷ third) ++ t))) (flat_map-append (λ (word : List ℕ). c ∷ word) words rest)

regroup : (before place space stamp head words equals reply marks feed : List ℕ) →
    ((((((((before ++ place) ++ space) ++ stamp) ++ space) ++ (head ++ words)) ++ ((space ++ equals) ++ space)) ++ reply) ++ marks) ++ feed
    ≡ before ++ ((place ++ ((space ++ stamp) ++ ((space ++ head) ++ (words ++ ((space ++ equals) ++ ((space ++ reply) ++ marks)))))) ++ feed)
regroup before place space stamp head words equals reply marks feed = simp append_assoc

-- a line of two words, a call's words, `=`, a reply and further words
line_of_parts : (before place stamp head reply : List ℕ) (words marks : List (List ℕ)) →
    ((((((((before ++ place) ++ 32 ∷ []) ++ stamp) ++ 32 ∷ []) ++ join_with_byte 32 (head ∷ words)) ++ codes " = ") ++ reply) ++ each_after 32 marks) ++ 10 ∷ []
    ≡ before ++ line (place ∷ stamp ∷ (head ∷ words) ++ codes "=" ∷ reply ∷ marks)
line_of_parts before place stamp head reply words marks =
    ap (λ (call : List ℕ). ((((((((before ++ place) ++ 32 ∷ []) ++ stamp) ++ 32 ∷ []) ++ call) ++ codes " = ") ++ reply) ++ each_after 32 marks) ++ 10 ∷ []) (join_with_byte-cons 32 head words)
    ∙ regroup before place (32 ∷ []) stamp head (each_after 32 words) (codes "=") reply (each_after 32 marks) (10 ∷ [])
    ∙ ap (λ (text : List ℕ). before ++ (text ++ 10 ∷ [])) (sym (join_with_byte-append 32 place stamp head words (codes "=" ∷ reply ∷ marks)))

abbrev call_text : ScriptParts → Entry → List ℕ
call_text script entry = join_with_byte 32 (call_words script entry.thread entry.call)

entry_line_of_call : (before place stamp reply : List ℕ) (script : ScriptParts) (entry : Entry) (marks : List (List ℕ)) →
    ((((((((before ++ place) ++ 32 ∷ []) ++ stamp) ++ 32 ∷ []) ++ call_text script entry) ++ codes " = ") ++ reply) ++ each_after 32 marks) ++ 10 ∷ []
    ≡ before ++ line (place ∷ stamp ∷ call_words script entry.thread entry.call ++ codes "=" ∷ reply ∷ marks)
entry_line_of_call before place stamp reply script entry marks =
    line_of_parts before place stamp (call_form entry.call).word reply (map (argument_text script entry.thread) (call_form entry.call).arguments) marks

-- what `push_entry` prints, piece after piece
pub entry_line-pieces : (old o1 o2 o3 o4 o5 o6 o7 o8 new : List ℕ) (script : ScriptParts) (entry : Entry) →
    o1 ≡ old ++ place_word script entry → o2 ≡ o1 ++ 32 ∷ [] → o3 ≡ o2 ++ stamp_word entry → o4 ≡ o3 ++ 32 ∷ [] → o5 ≡ o4 ++ call_text script entry →
    o6 ≡ o5 ++ codes " = " → o7 ≡ o6 ++ reply_text script entry.reply → o8 ≡ o7 ++ each_after 32 (mark_words script entry.waited) → new ≡ o8 ++ 10 ∷ [] →
    new ≡ old ++ entry_line script entry
entry_line-pieces old o1 o2 o3 o4 o5 o6 o7 o8 new script entry e1 e2 e3 e4 e5 e6 e7 e8 e9 =
    rw (e9, e8, e7, e6, e5, e4, e3, e2, e1) (entry_line_of_call old (place_word script entry) (stamp_word entry) (reply_text script entry.reply) script entry (mark_words script entry.waited))

-- ---- lists

-- each text after a comma and a space
abbrev pub each_listed : {X : Type 0} → (X → List ℕ) → List X → List ℕ
each_listed text xs = flat_map (λ x. codes ", " ++ text x) xs

pub listed-cons : {X : Type 0} (text : X → List ℕ) (x : X) (xs : List X) → listed (map text (x ∷ xs)) ≡ text x ++ each_listed text xs
listed-cons text x [] = sym (append-nil (text x))
listed-cons text x (next ∷ xs) = append_assoc (text x) (codes ", ") (listed (map text (next ∷ xs))) ∙ ap (λ (rest : List ℕ). text x ++ (codes ", " ++ rest)) (listed-cons text next xs)

-- what `push_each` has printed after one more
pub each_more : {X : Type 0} (text : X → List ℕ) (old out parted new : List ℕ) (x : X) (rest : List X) → parted ≡ out ++ codes ", " → new ≡ parted ++ text x → out ++ each_listed text (x ∷ rest) ≡ old → new ++ each_listed text rest ≡ old
each_more text old out parted new x rest e1 e2 before = rw (e2, e1) (grouped out (codes ", ") (text x) (each_listed text rest) ∙ before)
  where
    grouped : (a b c d : List ℕ) → ((a ++ b) ++ c) ++ d ≡ a ++ ((b ++ c) ++ d)
    grouped a b c d = simp append_assoc

-- what `push_listed` prints
pub listed-pieces : {X : Type 0} (text : X → List ℕ) (xs : List X) (d : X) → 0 < length xs → listed (map text xs) ≡ text (get_or xs 0 d) ++ each_listed text (take (length xs - 1) (drop 1 xs))
listed-pieces text [] d h = elim h [ ]
listed-pieces text (x ∷ xs) d h = rw (take_all (length (x ∷ xs) - 1) xs (omega arith)) (listed-cons text x xs)

-- what it has printed when its loop is done
pub printed_list : {X : Type 0} (old first new : List ℕ) (text : X → List ℕ) (xs : List X) (x : X) (i : ℕ) → 0 < length xs → length (take (length xs - 1) (drop 1 xs)) ≤ i → x ≡ get_or xs 0 x →
    first ≡ old ++ text x → new ≡ first ++ each_listed text (take i (take (length xs - 1) (drop 1 xs))) → new ≡ old ++ listed (map text xs)
printed_list old first new text xs x i some past is e1 e2 =
    let rest = take (length xs - 1) (drop 1 xs) in
    let begun : first ≡ old ++ text (get_or xs 0 x) = rw (sym is) e1 in
    rw (e2, take_all i rest past, begun, listed-pieces text xs x some) (append_assoc old (text (get_or xs 0 x)) (each_listed text rest))

pub listed-push : {X : Type 0} (text : X → List ℕ) (xs : List X) (x : X) → 0 < length xs → listed (map text (xs ++ x ∷ [])) ≡ (listed (map text xs) ++ codes ", ") ++ text x
listed-push text [] x some = absurd (omega (arith, some))
listed-push text (a ∷ []) x some = refl
listed-push text (a ∷ b ∷ xs) x some =
    ap (λ (rest : List ℕ). (text a ++ codes ", ") ++ rest) (listed-push text (b ∷ xs) x (omega arith))
    ∙ grouped (text a) (codes ", ") (listed (map text (b ∷ xs))) (text x)
  where
    grouped : (a b c d : List ℕ) → (a ++ b) ++ ((c ++ b) ++ d) ≡ (((a ++ b) ++ c) ++ b) ++ d
    grouped a b c d = simp append_assoc

-- texts with a byte between two
pub joined-push : {X : Type 0} (c : ℕ) (text : X → List ℕ) (xs : List X) (x : X) → 0 < length xs → join_with_byte c (map text (xs ++ x ∷ [])) ≡ (join_with_byte c (map text xs) ++ c ∷ []) ++ text x
joined-push c text [] x some = absurd (omega (arith, some))
joined-push c text (a ∷ []) x some = sym (append_assoc (text a) (c ∷ []) (text x))
joined-push c text (a ∷ b ∷ xs) x some =
    ap (λ (rest : List ℕ). text a ++ (c ∷ rest)) (joined-push c text (b ∷ xs) x (omega arith))
    ∙ grouped (text a) (join_with_byte c (map text (b ∷ xs))) (text x) c
  where
    grouped : (a b d : List ℕ) (c : ℕ) → a ++ (c ∷ ((b ++ c ∷ []) ++ d)) ≡ ((a ++ (c ∷ b)) ++ c ∷ []) ++ d
    grouped a b d c = simp append_assoc

bracketed : (a b c d : List ℕ) → ((a ++ b) ++ c) ++ d ≡ a ++ ((b ++ c) ++ d)
bracketed a b c d = simp append_assoc

-- one more text is printed after those that were
module _ {X : Type 0} (text : X → List ℕ) (between : List ℕ) (joined : List X → List ℕ) (none : joined [] ≡ []) (one : (x : X) → joined (x ∷ []) ≡ text x) (more : (xs : List X) (x : X) → 0 < length xs → joined (xs ++ x ∷ []) ≡ (joined xs ++ between) ++ text x) (xs : List X) (n m : ℕ) (x : X) (next : m ≡ n + 1) (low : n < length xs) (here : x ≡ get_or xs n x) where
  taken_more : take m xs ≡ take n xs ++ x ∷ []
  taken_more = rw next (take_more xs n x low ∙ ap (λ (y : X). take n xs ++ y ∷ []) (sym here))

  -- it is the first
  pub printed_first : (start before new : List ℕ) → n ≡ 0 → before ≡ start ++ joined (take n xs) → new ≡ before ++ text x → new ≡ start ++ joined (take m xs)
  printed_first start before new first e1 e2 =
      let no : take n xs ≡ [] = ap (λ (k : ℕ). take k xs) first in
      let begun : before ≡ start = e1 ∙ ap (λ (ys : List X). start ++ joined ys) no ∙ ap (λ (t : List ℕ). start ++ t) none ∙ append-nil start in
      let all : joined (take m xs) ≡ text x = ap joined (taken_more ∙ ap (λ (ys : List X). ys ++ x ∷ []) no) ∙ one x in
      e2 ∙ ap (λ (t : List ℕ). t ++ text x) begun ∙ ap (λ (t : List ℕ). start ++ t) (sym all)

  -- it is another
  pub printed_next : (start before parted new : List ℕ) → 0 < n → before ≡ start ++ joined (take n xs) → parted ≡ before ++ between → new ≡ parted ++ text x → new ≡ start ++ joined (take m xs)
  printed_next start before parted new some e1 e2 e3 =
      let all : joined (take m xs) ≡ (joined (take n xs) ++ between) ++ text x = ap joined taken_more ∙ more (take n xs) x (omega (arith, length-take n xs)) in
      e3 ∙ ap (λ (t : List ℕ). t ++ text x) (e2 ∙ ap (λ (t : List ℕ). t ++ between) e1) ∙ bracketed start (joined (take n xs)) between (text x) ∙ ap (λ (t : List ℕ). start ++ t) (sym all)

-- what `push_deque` has printed when its loop is done
pub printed_items : {X : Type 0} (old begun printed new : List ℕ) (text : X → List ℕ) (xs : List X) (n : ℕ) → length xs ≤ n → begun ≡ old ++ codes "[" → printed ≡ begun ++ listed (map text (take n xs)) → new ≡ printed ++ codes "]" → new ≡ old ++ ((codes "[" ++ listed (map text xs)) ++ codes "]")
printed_items old begun printed new text xs n past e1 e2 e3 =
    e3 ∙ ap (λ (t : List ℕ). t ++ codes "]") (e2 ∙ ap (λ (t : List ℕ). t ++ listed (map text (take n xs))) e1 ∙ ap (λ ys. (old ++ codes "[") ++ listed (map text ys)) (take_all n xs past))
    ∙ bracketed old (codes "[") (listed (map text xs)) (codes "]")

-- ---- worlds

-- the first lines of a world's text
abbrev pub first_lines : ScriptParts → List Content → ℕ → List ℕ
first_lines script world n = flat_map (λ (shown : Declaration × Content). world_line script shown.0 shown.1) (take n (zip script.containers world))

pub first_lines-more : (old before now : List ℕ) (script : ScriptParts) (world : List Content) (n m : ℕ) (container : Declaration) (content : Content) →
    m ≡ n + 1 → n < length script.containers → n < length world →
    container ≡ get_or script.containers n container → content ≡ get_or world n content →
    before ≡ old ++ first_lines script world n → now ≡ before ++ world_line script container content →
    now ≡ old ++ first_lines script world m
first_lines-more old before now script world n m container content next low high c1 c2 e1 e2 =
    let text : Declaration × Content → List ℕ = λ shown. world_line script shown.0 shown.1 in
    let shown = zip script.containers world in
    let d : Declaration × Content = (container, content) in
    let at : get_or shown n d ≡ d = get_or-zip script.containers world n d low high ∙ ap (λ (x : Declaration). let pair : Declaration × Content = (x, get_or world n content) in pair) (sym c1) ∙ ap (λ (x : Content). let pair : Declaration × Content = (container, x) in pair) (sym c2) in
    let long : n < length shown = omega (arith, length-zip script.containers world) in
    let more : take m shown ≡ take n shown ++ d ∷ [] = rw next (take_more shown n d long ∙ ap (λ (x : Declaration × Content). take n shown ++ x ∷ []) at) in
    e2 ∙ ap (λ (t : List ℕ). t ++ world_line script container content) e1 ∙ flat_map_more text old (take n shown) d ∙ ap (λ t. old ++ flat_map text t) (sym more)

pub first_lines-all : (script : ScriptParts) (world : List Content) (n : ℕ) → n ≡ min (length script.containers) (length world) → first_lines script world n ≡ world_text script world
first_lines-all script world n all =
    ap (λ shown. flat_map (λ (pair : Declaration × Content). world_line script pair.0 pair.1) shown) (take_all n (zip script.containers world) (omega (arith, length-zip script.containers world)))

-- ---- what all containers are shown to have

-- what `push_all` has printed when its loop is done
pub printed_all : (old begun new : List ℕ) (strings : List (List ℕ)) (containers : List Declaration) (world : List Shown) (n : ℕ) → min (length containers) (length world) ≤ n →
    begun ≡ old ++ codes "world" → new ≡ begun ++ join_with_byte 59 (map (named_text strings) (take n (zip containers world))) → new ≡ old ++ (codes "world" ++ join_with_byte 59 (map (named_text strings) (zip containers world)))
printed_all old begun new strings containers world n past e1 e2 =
    let all : List (Declaration × Shown) = zip containers world in
    e2 ∙ ap (λ (t : List ℕ). t ++ join_with_byte 59 (map (named_text strings) (take n all))) e1
    ∙ append_assoc old (codes "world") (join_with_byte 59 (map (named_text strings) (take n all)))
    ∙ ap (λ (shown : List (Declaration × Shown)). old ++ (codes "world" ++ join_with_byte 59 (map (named_text strings) shown))) (take_all n all (omega (arith, length-zip containers world, past)))

-- the container at a place, with what it is shown to have
pub named_at : (containers : List Declaration) (world : List Shown) (n : ℕ) (container : Declaration) (shown : Shown) → n < length containers → n < length world → container ≡ get_or containers n container → shown ≡ get_or world n shown →
    (let d : Declaration × Shown = (container, shown) in d) ≡ get_or (zip containers world) n (container, shown)
named_at containers world n container shown low high c s =
    let d : Declaration × Shown = (container, shown) in
    sym (get_or-zip containers world n d low high ∙ ap (λ (x : Declaration). let pair : Declaration × Shown = (x, get_or world n shown) in pair) (sym c) ∙ ap (λ (x : Shown). let pair : Declaration × Shown = (container, x) in pair) (sym s))

-- ---- calls

-- what `push_form` has printed when its loop is done
pub printed_words : {X : Type 0} (old first new word : List ℕ) (text : X → List ℕ) (xs : List X) (i : ℕ) → length xs ≤ i → first ≡ old ++ word → new ≡ first ++ each_after 32 (map text (take i xs)) → new ≡ old ++ join_with_byte 32 (word ∷ map text xs)
printed_words old first new word text xs i past e1 e2 =
    rw (e2, e1, take_all i xs past, join_with_byte-cons 32 word (map text xs)) (append_assoc old word (each_after 32 (map text xs)))
