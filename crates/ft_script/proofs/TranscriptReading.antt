-- Going over the lines of a transcript.
use Rattle.std.proofs.Common.{◌≡◌, ◌⊎◌, ℕ, ◌+◌, ◌-◌, ◌^◌, ◌<◌, min, true, List, [], ◌∷◌, ◌++◌, length, map, Result, Ok, Err, refl, sym, ap, ◌∙◌, subst, inl, inr, arith, append_assoc}
use Rattle.std.specs.Prelude.{OnOk, IfErr}
use Rattle.std.proofs.lemmas.List.{append-nil, length-append, nil_from_length}
use Rattle.ft_model.specs.declared.entry.Entry.{Entry}
use Rattle.ft_model.specs.declared.script.ScriptParts.{ScriptParts}
use Rattle.ft_model.specs.Scripts.{IsScript}
use Rattle.ft_script.specs.declared.fault.LineError.{LineError}
use Rattle.ft_script.specs.declared.fault.LineError.TheVariants as error
use Rattle.ft_script.specs.declared.transcript.TranscriptFault.{TranscriptFault}
use Rattle.ft_script.specs.declared.transcript.TranscriptFault.TheVariants.{Line, Memory}
use Rattle.ft_script.specs.Internal.Readers.{NoEntry, NoContent, IfFault, IsLine, is_feedless, reported_line}
use Rattle.ft_script.specs.Transcripts.{IsTranscript, IsFirstBad}
use Rattle.ft_script.proofs.LineCases.{Adds, nothing_read, line_added, line_counted, bad_line, bad_end}

-- the lines above what is left are read
pub record AreRead (script : ScriptParts) (bytes rest : List ℕ) (entries : List Entry) (world : List (List ℕ)) (number : ℕ) : Type 0 where
  pub front : List ℕ
  pub parts : bytes ≡ front ++ rest
  pub before : IsTranscript script front entries world
  pub counted : number ≡ min (length entries + length world + 1) (2 ^ 32 - 1)

pub none_read : (script : ScriptParts) (bytes : List ℕ) (entries : List Entry) (world : List (List ℕ)) → entries ≡ [] → world ≡ [] → AreRead script bytes bytes entries world 1
none_read script bytes entries world no_entries no_world =
    rw (no_entries, no_world) (record { front = []; parts = refl; before = nothing_read script; counted = refl })

pub one_more : (script : ScriptParts) (bytes rest line below : List ℕ) (entries after : List Entry) (world world_after : List (List ℕ)) (number next : ℕ) → AreRead script bytes rest entries world number → rest ≡ line ++ below → Adds script line entries world after world_after → next ≡ min (number + 1) (2 ^ 32 - 1) →
    AreRead script bytes below after world_after next
one_more script bytes rest line below entries after world world_after number next h cut adds is = record {
  front = h.front ++ line;
  parts = h.parts ∙ ap (λ (t : List ℕ). h.front ++ t) cut ∙ sym (append_assoc h.front line below);
  before = line_added script h.front line entries after world world_after h.before adds;
  counted = (let more : length after + length world_after ≡ length entries + length world + 1 = line_counted script line entries after world world_after adds in let was = h.counted in omega arith);
}

pub all_read : (script : ScriptParts) (bytes rest : List ℕ) (entries : List Entry) (world : List (List ℕ)) (number : ℕ) → AreRead script bytes rest entries world number → length rest ≡ 0 → IsTranscript script bytes entries world
all_read script bytes rest entries world number h none =
    let same : bytes ≡ h.front = h.parts ∙ ap (λ (t : List ℕ). h.front ++ t) (nil_from_length rest none) ∙ append-nil h.front in
    subst (λ (t : List ℕ). IsTranscript script t entries world) (sym same) h.before

pub line_shorter : (rest line below : List ℕ) → rest ≡ line ++ below → IsLine line → length below < length rest
line_shorter rest line below cut is =
    let n : length rest ≡ length line + length below = ap length cut ∙ length-append line below in
    let m : length line ≡ length is.0 + 1 = ap length is.1 ∙ length-append is.0 (10 ∷ []) in
    omega arith

-- ---- a line's answer

pub on_read : (P : Type 0) (read : Result (Unit {0}) LineError) (number : ℕ) → reported_line read number ≡ Ok tt → OnOk read P → P
on_read P (Ok x) number reported h = h
on_read P (Err error.Memory) number reported h = absurd cc
on_read P (Err (error.Fault found)) number reported h = absurd cc

on_fault : (P : Type 0) (read : Result (Unit {0}) LineError) (number : ℕ) (answer : TranscriptFault) → reported_line read number ≡ Err answer → IfErr read (λ e. IfFault e P) → (answer ≡ Memory) ⊎ ((answer ≡ Line number) × P)
on_fault P (Ok x) number answer reported h = absurd cc
on_fault P (Err error.Memory) number answer reported h = inl (let e : Memory ≡ answer = cc in sym e)
on_fault P (Err (error.Fault found)) number answer reported h = inr ((let e : Line number ≡ answer = cc in sym e), h)

abbrev pub HasRightReply : ScriptParts → List ℕ → TranscriptFault → Type 0
HasRightReply script bytes answer = (answer ≡ Memory) ⊎ ((number : ℕ) × (answer ≡ Line number) × IsFirstBad script bytes number)

nil_from_map : {X : Type 0} (f : X → List ℕ) (xs : List X) → map f xs ≡ [] → xs ≡ []
nil_from_map f [] h = refl
nil_from_map f (x ∷ xs) h = absurd cc

pub bad_reported : {X : Type 0} (f : X → List ℕ) (script : ScriptParts) (bytes rest line below : List ℕ) (entries : List Entry) (world : List X) (number : ℕ) (read : Result (Unit {0}) LineError) (answer : TranscriptFault) → IsScript script → AreRead script bytes rest entries (map f world) number → rest ≡ line ++ below → IsLine line →
    reported_line read number ≡ Err answer → IfErr read (λ e. IfFault e (NoContent script line × (world ≡ [] → NoEntry script line))) → HasRightReply script bytes answer
bad_reported f script bytes rest line below entries world number read answer rule h cut is reported fault =
    elim (on_fault (NoContent script line × (world ≡ [] → NoEntry script line)) read number answer reported fault) [
      | inl memory ↦ inl memory
      | inr bad ↦ inr (number, bad.0, bad_line script bytes h.front line below entries (map f world) number rule (h.parts ∙ ap (λ (t : List ℕ). h.front ++ t) cut) h.before h.counted is bad.1.0 (λ none. bad.1.1 (nil_from_map f world none)))
    ]

pub end_reported : (script : ScriptParts) (bytes rest : List ℕ) (entries : List Entry) (world : List (List ℕ)) (number : ℕ) → IsScript script → AreRead script bytes rest entries world number → (length rest ≡ 0 → ⊥) → is_feedless rest ≡ true → HasRightReply script bytes (Line number)
end_reported script bytes rest entries world number rule h some feedless = inr (number, refl, bad_end script bytes h.front rest entries world number rule h.parts h.before h.counted (λ none. some (ap length none)) feedless)
