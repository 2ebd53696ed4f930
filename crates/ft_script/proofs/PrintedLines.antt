-- The lines of a script as they are printed, one after the other.
use Rattle.std.proofs.Common.{◌≡◌, ℕ, ◌+◌, ◌<◌, Bool, false, eqb, List, [], ◌∷◌, ◌++◌, length, map, get_or, take, refl, sym, ap, ◌∙◌, arith, append_assoc}
use Rattle.std.specs.Prelude.{codes}
use Rattle.std.specs.List.{flat_map, join_with_byte}
use Rattle.std.specs.Fmt.{decimal}
use Rattle.std.proofs.lemmas.List.{append-nil, length-take, take_all, take_more}
use Rattle.std.proofs.lemmas.List.Concat.{flat_map-append}
use Rattle.std.proofs.lemmas.List.Folds.{flat_map-map}
use Rattle.ft_model.specs.declared.call.Call.{Call}
use Rattle.ft_model.specs.declared.script.Declaration.{Declaration}
use Rattle.ft_model.specs.declared.script.ScriptParts.{ScriptParts}
use Rattle.ft_model.specs.declared.script.Thread.{Thread}
use Rattle.ft_script.specs.Awaits.{has_awaits}
use Rattle.ft_script.specs.ScriptTexts.{container_words, order_lines, script_text, tables_lines, thread_lines, threads_lines, version_lines}
use Rattle.ft_script.specs.Texts.{call_words, line, thread_name}
use Rattle.ft_script.proofs.Printed.{join_with_byte-cons}

four : (a b c d e : List ℕ) → (((a ++ b) ++ c) ++ d) ++ e ≡ a ++ (((b ++ c) ++ d) ++ e)
four a b c d e = simp append_assoc

-- ---- tables

tables_more : (class : ℕ) (counts : List ℕ) (count : ℕ) → tables_lines class (counts ++ count ∷ []) ≡ tables_lines class counts ++ (codes "tables" ∷ decimal (class + length counts) ∷ decimal count ∷ []) ∷ []
tables_more class [] count = let same : class ≡ class + 0 = omega arith in ap (λ (n : ℕ). (codes "tables" ∷ decimal n ∷ decimal count ∷ []) ∷ []) same
tables_more class (first ∷ counts) count =
    let same : (class + 1) + length counts ≡ class + length (first ∷ counts) = omega arith in
    ap (λ (l : List (List (List ℕ))). (codes "tables" ∷ decimal class ∷ decimal first ∷ []) ∷ l) (tables_more (class + 1) counts count)
    ∙ ap (λ (n : ℕ). (codes "tables" ∷ decimal class ∷ decimal first ∷ []) ∷ tables_lines (class + 1) counts ++ (codes "tables" ∷ decimal n ∷ decimal count ∷ []) ∷ []) same

two_numbers : (a b : List ℕ) → codes "tables" ++ (((32 ∷ a) ++ ((32 ∷ b) ++ [])) ++ 10 ∷ []) ≡ line (codes "tables" ∷ a ∷ b ∷ [])
two_numbers a b = ap (λ (l : List ℕ). codes "tables" ++ (32 ∷ l)) (append_assoc a ((32 ∷ b) ++ []) (10 ∷ []) ∙ ap (λ (l : List ℕ). a ++ ((32 ∷ l) ++ 10 ∷ [])) (append-nil b) ∙ sym (append_assoc a (32 ∷ b) (10 ∷ [])))

pub table_printed : (old before new : List ℕ) (counts : List ℕ) (place class count : ℕ) → place < length counts → class ≡ 3 + place → count ≡ get_or counts place 0 → before ≡ old ++ flat_map line (tables_lines 3 (take place counts)) →
    new ≡ before ++ (codes "tables" ++ (flat_map (λ (n : ℕ). 32 ∷ decimal n) (class ∷ count ∷ []) ++ 10 ∷ [])) → new ≡ old ++ flat_map line (tables_lines 3 (take (place + 1) counts))
table_printed old before new counts place class count low is here so_far added =
    let front : List ℕ = take place counts in
    let long : length front ≡ place = omega (arith, length-take place counts) in
    let own : List (List ℕ) = codes "tables" ∷ decimal class ∷ decimal count ∷ [] in
    let number : 3 + length front ≡ class = omega arith in
    let all : take (place + 1) counts ≡ front ++ count ∷ [] = take_more counts place 0 low ∙ ap (λ (n : ℕ). front ++ n ∷ []) (sym here) in
    let lines : tables_lines 3 (take (place + 1) counts) ≡ tables_lines 3 front ++ own ∷ [] =
    ap (tables_lines 3) all ∙ tables_more 3 front count ∙ ap (λ (n : ℕ). tables_lines 3 front ++ (codes "tables" ∷ decimal n ∷ decimal count ∷ []) ∷ []) number in
    added ∙ ap (λ (l : List ℕ). l ++ (codes "tables" ++ (flat_map (λ (n : ℕ). 32 ∷ decimal n) (class ∷ count ∷ []) ++ 10 ∷ []))) so_far
    ∙ ap (λ (l : List ℕ). (old ++ flat_map line (tables_lines 3 front)) ++ l) (two_numbers (decimal class) (decimal count))
    ∙ append_assoc old (flat_map line (tables_lines 3 front)) (line own)
    ∙ ap (λ (l : List ℕ). old ++ (flat_map line (tables_lines 3 front) ++ l)) (sym (append-nil (line own)))
    ∙ ap (λ (l : List ℕ). old ++ l) (sym (ap (flat_map line) lines ∙ flat_map-append line (tables_lines 3 front) (own ∷ [])))

-- ---- threads

threads_more : (script : ScriptParts) (place : ℕ) (threads : List Thread) (thread : Thread) → threads_lines script place (threads ++ thread ∷ []) ≡ threads_lines script place threads ++ thread_lines script (place + length threads) thread
threads_more script place [] thread = let same : place ≡ place + 0 = omega arith in append-nil (thread_lines script place thread) ∙ ap (λ (n : ℕ). thread_lines script n thread) same
threads_more script place (first ∷ threads) thread =
    let same : (place + 1) + length threads ≡ place + length (first ∷ threads) = omega arith in
    ap (λ (l : List (List (List ℕ))). thread_lines script place first ++ l) (threads_more script (place + 1) threads thread)
    ∙ sym (append_assoc (thread_lines script place first) (threads_lines script (place + 1) threads) (thread_lines script ((place + 1) + length threads) thread))
    ∙ ap (λ (n : ℕ). threads_lines script place (first ∷ threads) ++ thread_lines script n thread) same

pub thread_printed : (old before new : List ℕ) (script : ScriptParts) (threads : List Thread) (place : ℕ) (thread : Thread) → place < length threads → thread ≡ get_or threads place thread → before ≡ old ++ flat_map line (threads_lines script 0 (take place threads)) →
    new ≡ before ++ flat_map line (thread_lines script place thread) → new ≡ old ++ flat_map line (threads_lines script 0 (take (place + 1) threads))
thread_printed old before new script threads place thread low here so_far added =
    let front : List Thread = take place threads in
    let long : length front ≡ place = omega (arith, length-take place threads) in
    let all : take (place + 1) threads ≡ front ++ thread ∷ [] = take_more threads place thread low ∙ ap (λ (t : Thread). front ++ t ∷ []) (sym here) in
    let number : 0 + length front ≡ place = omega arith in
    let lines : threads_lines script 0 (take (place + 1) threads) ≡ threads_lines script 0 front ++ thread_lines script place thread =
    ap (threads_lines script 0) all ∙ threads_more script 0 front thread ∙ ap (λ (n : ℕ). threads_lines script 0 front ++ thread_lines script n thread) number in
    added ∙ ap (λ (l : List ℕ). l ++ flat_map line (thread_lines script place thread)) so_far
    ∙ append_assoc old (flat_map line (threads_lines script 0 front)) (flat_map line (thread_lines script place thread))
    ∙ ap (λ (l : List ℕ). old ++ l) (sym (ap (flat_map line) lines ∙ flat_map-append line (threads_lines script 0 front) (thread_lines script place thread)))

-- the line of a thread, and those of its calls
pub thread_lines_printed : (old o1 o2 o3 new name : List ℕ) (calls : List Call) (script : ScriptParts) (place : ℕ) (thread : Thread) → name ≡ thread.name → calls ≡ thread.calls → o1 ≡ old ++ codes "thread " → o2 ≡ o1 ++ name → o3 ≡ o2 ++ 10 ∷ [] →
    new ≡ o3 ++ flat_map (λ called. line (call_words script place called)) calls → new ≡ old ++ flat_map line (thread_lines script place thread)
thread_lines_printed old o1 o2 o3 new name calls script place thread named called e1 e2 e3 e4 =
    let texts : List ℕ = flat_map (λ called. line (call_words script place called)) thread.calls in
    let own : List ℕ = line (codes "thread" ∷ thread.name ∷ []) in
    rw (e4, e3, e2, e1, named, called) (four old (codes "thread ") thread.name (10 ∷ []) texts ∙ ap (λ (l : List ℕ). old ++ (own ++ l)) (sym (flat_map-map line (call_words script place) thread.calls)))

-- ---- the order

pub order_printed : (old o1 o2 new : List ℕ) (script : ScriptParts) (turns : List ℕ) → eqb (length turns) 0 ≡ false → o1 ≡ old ++ codes "order" → o2 ≡ o1 ++ flat_map (λ turn. 32 ∷ thread_name script turn) turns → new ≡ o2 ++ 10 ∷ [] → new ≡ old ++ flat_map line (order_lines script turns)
order_printed old o1 o2 new script [] some e1 e2 e3 = absurd cc
order_printed old o1 o2 new script (turn ∷ turns) some e1 e2 e3 =
    let names : List (List ℕ) = map (thread_name script) (turn ∷ turns) in
    let spaced : List ℕ = flat_map (λ t. 32 ∷ thread_name script t) (turn ∷ turns) in
    let whole : line (codes "order" ∷ names) ≡ (codes "order" ++ spaced) ++ 10 ∷ [] =
    ap (λ (l : List ℕ). l ++ 10 ∷ []) (join_with_byte-cons 32 (codes "order") names ∙ ap (λ (l : List ℕ). codes "order" ++ l) (flat_map-map (λ (word : List ℕ). 32 ∷ word) (thread_name script) (turn ∷ turns))) in
    rw (e3, e2, e1) (ap (λ (l : List ℕ). l ++ 10 ∷ []) (append_assoc old (codes "order") spaced) ∙ append_assoc old (codes "order" ++ spaced) (10 ∷ [])
    ∙ ap (λ (l : List ℕ). old ++ l) (sym (append-nil (line (codes "order" ∷ names)) ∙ whole)))

-- ---- all lines

-- the lines below that of the version
abbrev lines_below : ScriptParts → List (List (List ℕ))
lines_below script =
    map container_words script.containers ++ (tables_lines 3 script.tables ++ (codes "heap" ∷ decimal script.heap ∷ []) ∷ (threads_lines script 0 script.threads ++ order_lines script script.order))

rest_printed : (old o1 o2 o3 o4 new : List ℕ) (script : ScriptParts) (declared : List Declaration) (counts : List ℕ) (places : ℕ) → declared ≡ script.containers → counts ≡ script.tables → places ≡ script.heap →
    o1 ≡ old ++ flat_map (λ container. line (container_words container)) declared → o2 ≡ o1 ++ flat_map line (tables_lines 3 counts) →
    o3 ≡ o2 ++ (codes "heap" ++ (flat_map (λ (n : ℕ). 32 ∷ decimal n) (places ∷ []) ++ 10 ∷ [])) → o4 ≡ o3 ++ flat_map line (threads_lines script 0 script.threads) → new ≡ o4 ++ flat_map line (order_lines script script.order) → new ≡ old ++ flat_map line (lines_below script)
rest_printed old o1 o2 o3 o4 new script declared counts places is_declared is_counts is_places e1 e2 e3 e4 e5 =
    let containers : List (List (List ℕ)) = map container_words script.containers in
    let tables : List (List (List ℕ)) = tables_lines 3 script.tables in
    let threads : List (List (List ℕ)) = threads_lines script 0 script.threads in
    let order : List (List (List ℕ)) = order_lines script script.order in
    let heap : List (List ℕ) = codes "heap" ∷ decimal script.heap ∷ [] in
    let own : codes "heap" ++ (((32 ∷ decimal script.heap) ++ []) ++ 10 ∷ []) ≡ line heap = ap (λ (l : List ℕ). codes "heap" ++ ((32 ∷ l) ++ 10 ∷ [])) (append-nil (decimal script.heap)) in
    let parts : flat_map line (lines_below script) ≡ flat_map line containers ++ (flat_map line tables ++ (line heap ++ (flat_map line threads ++ flat_map line order))) =
    flat_map-append line containers (tables ++ heap ∷ (threads ++ order))
    ∙ ap (λ (l : List ℕ). flat_map line containers ++ l) (flat_map-append line tables (heap ∷ (threads ++ order)) ∙ ap (λ (l : List ℕ). flat_map line tables ++ (line heap ++ l)) (flat_map-append line threads order)) in
    rw (e5, e4, e3, e2, e1, is_declared, is_counts, is_places, own, sym (flat_map-map line container_words script.containers)) (five old (flat_map line containers) (flat_map line tables) (line heap) (flat_map line threads) (flat_map line order) ∙ ap (λ (l : List ℕ). old ++ l) (sym parts))
  where
    five : (a b c d e f : List ℕ) → ((((a ++ b) ++ c) ++ d) ++ e) ++ f ≡ a ++ (b ++ (c ++ (d ++ (e ++ f))))
    five a b c d e f = simp append_assoc

pub script_printed : (start old o1 o2 o3 o4 new : List ℕ) (script : ScriptParts) (awaits : Bool) (declared : List Declaration) (counts : List ℕ) (places : ℕ) → awaits ≡ has_awaits script.threads → declared ≡ script.containers → counts ≡ script.tables → places ≡ script.heap →
    old ≡ start ++ flat_map line (version_lines awaits) →
    o1 ≡ old ++ flat_map (λ container. line (container_words container)) declared → o2 ≡ o1 ++ flat_map line (tables_lines 3 counts) →
    o3 ≡ o2 ++ (codes "heap" ++ (flat_map (λ (n : ℕ). 32 ∷ decimal n) (places ∷ []) ++ 10 ∷ [])) → o4 ≡ o3 ++ flat_map line (threads_lines script 0 script.threads) → new ≡ o4 ++ flat_map line (order_lines script script.order) → new ≡ start ++ script_text script
script_printed start old o1 o2 o3 o4 new script awaits declared counts places is_awaits is_declared is_counts is_places e0 e1 e2 e3 e4 e5 =
    let versions : List (List (List ℕ)) = version_lines (has_awaits script.threads) in
    rest_printed old o1 o2 o3 o4 new script declared counts places is_declared is_counts is_places e1 e2 e3 e4 e5
    ∙ ap (λ (l : List ℕ). l ++ flat_map line (lines_below script)) (e0 ∙ ap (λ (b : Bool). start ++ flat_map line (version_lines b)) is_awaits)
    ∙ append_assoc start (flat_map line versions) (flat_map line (lines_below script))
    ∙ ap (λ (l : List ℕ). start ++ l) (sym (flat_map-append line versions (lines_below script)))
