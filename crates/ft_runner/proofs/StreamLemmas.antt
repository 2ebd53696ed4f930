-- One call of a source or a sink after others.
use Rattle.std.proofs.Common.{◌≡◌, ℕ, ◌+◌, ◌<◌, ◌≤◌, get_or, ◌∷◌, take, drop, Bool, true, false, List, [], ◌++◌, length, Option, Some, None, Result, Ok, Err, refl, sym, ap, ◌∙◌, append_assoc}
use Rattle.std.proofs.lemmas.List.{append-nil}
use Rattle.std.proofs.Math.Seq.{take-add}
use Rattle.ft_io.specs.Streams.{raised, prepended, added, Stream}
use Rattle.ft_io.specs.declared.source.Failed.{Failed}
use Rattle.ft_runner.specs.Transfers.{GivesBytes, Receives, PutsPrefix, PutsText, IsBuffered}
use Rattle.std.specs.List.{flat_map}
use Rattle.std.proofs.lemmas.List.Concat.{flat_map-append}
use Rattle.std.proofs.lemmas.List.{take-append-drop, take_more, take_all}

prepended-nil : (left : Option (List ℕ)) → left ≡ prepended [] left
prepended-nil None = refl
prepended-nil (Some bytes) = refl

prepended-append : (x y : List ℕ) (left : Option (List ℕ)) → prepended x (prepended y left) ≡ prepended (x ++ y) left
prepended-append x y None = refl
prepended-append x y (Some bytes) = ap (λ (bs : List ℕ). Some bs) (sym (append_assoc x y bytes))

added-nil : (taken : Option (List ℕ)) → taken ≡ added taken []
added-nil None = refl
added-nil (Some bytes) = ap (λ (bs : List ℕ). Some bs) (sym (append-nil bytes))

added-append : (taken : Option (List ℕ)) (x y : List ℕ) → added (added taken x) y ≡ added taken (x ++ y)
added-append None x y = refl
added-append (Some bytes) x y = ap (λ (bs : List ℕ). Some bs) (append_assoc bytes x y)

pub GivesBytes-none : (a : Stream) → GivesBytes a [] false a
GivesBytes-none a = record { content = prepended-nil a.content; faults = refl }

pub GivesBytes-then : (a b c : Stream) (x y : List ℕ) (failed : Bool) → GivesBytes a x false b → GivesBytes b y failed c → GivesBytes a (x ++ y) failed c
GivesBytes-then a b c x y true p q = record { content = p.content ∙ ap (prepended x) q.content ∙ prepended-append x y c.content; faults = q.faults ∙ ap raised p.faults }
GivesBytes-then a b c x y false p q = record { content = p.content ∙ ap (prepended x) q.content ∙ prepended-append x y c.content; faults = q.faults ∙ p.faults }

-- a call that fails takes nothing
pub GivesBytes-fails : (a b c : Stream) (x : List ℕ) → GivesBytes a x false b → c.content ≡ b.content → c.faults ≡ raised b.faults → GivesBytes a x true c
GivesBytes-fails a b c x p same fault = record { content = p.content ∙ ap (prepended x) (sym same); faults = fault ∙ ap raised p.faults }

pub Receives-none : (a : Stream) → Receives a [] false a
Receives-none a = record { content = added-nil a.content; faults = refl }

pub Receives-then : (a b c : Stream) (x y : List ℕ) (failed : Bool) → Receives a x false b → Receives b y failed c → Receives a (x ++ y) failed c
Receives-then a b c x y true p q = record { content = q.content ∙ ap (λ t. added t y) p.content ∙ added-append a.content x y; faults = q.faults ∙ ap raised p.faults }
Receives-then a b c x y false p q = record { content = q.content ∙ ap (λ t. added t y) p.content ∙ added-append a.content x y; faults = q.faults ∙ p.faults }

-- a call that fails puts nothing
pub Receives-fails : (a b c : Stream) (x : List ℕ) → Receives a x false b → c.content ≡ b.content → c.faults ≡ raised b.faults → Receives a x true c
Receives-fails a b c x p same fault = record { content = same ∙ p.content; faults = fault ∙ ap raised p.faults }

-- one more piece of the bytes from a place on
pub Receives-piece : (a b c : Stream) (bytes : List ℕ) (done n : ℕ) → Receives a (take done bytes) false b → c.content ≡ added b.content (take n (drop done bytes)) → c.faults ≡ b.faults → Receives a (take (done + n) bytes) false c
Receives-piece a b c bytes done n p content faults =
    let q : Receives b (take n (drop done bytes)) false c = record { content = content; faults = faults } in
    rw take-add (Receives-then a b c (take done bytes) (take n (drop done bytes)) false p q)

-- ---- a buffer before a sink

-- what the buffer had goes on
pub IsBuffered-then : (a b c : Stream) (buffer buffer' text : List ℕ) → IsBuffered a b buffer text → IsBuffered b c buffer' buffer → IsBuffered a c buffer' text
IsBuffered-then a b c buffer buffer' text p q = record {
  put = p.put ++ q.put;
  receives = Receives-then a b c p.put q.put false p.receives q.receives;
  text_is = append_assoc p.put q.put buffer' ∙ ap (λ (bytes : List ℕ). p.put ++ bytes) q.text_is ∙ p.text_is;
}

pub IsBuffered-push : (a b : Stream) (buffer buffer' text more : List ℕ) → IsBuffered a b buffer text → buffer' ≡ buffer ++ more → IsBuffered a b buffer' (text ++ more)
IsBuffered-push a b buffer buffer' text more p e = record {
  put = p.put;
  receives = p.receives;
  text_is = ap (λ (bytes : List ℕ). p.put ++ bytes) e ∙ sym (append_assoc p.put buffer more) ∙ ap (λ (bytes : List ℕ). bytes ++ more) p.text_is;
}

-- what was put is a part of any longer text
pub PutsPrefix-put : (a b : Stream) (buffer text more : List ℕ) → IsBuffered a b buffer text → PutsPrefix a (text ++ more) false b
PutsPrefix-put a b buffer text more p = record {
  prefix = p.put;
  is_prefix = (buffer ++ more, sym (append_assoc p.put buffer more) ∙ ap (λ (bytes : List ℕ). bytes ++ more) p.text_is);
  receives = p.receives;
}

-- and so it is with a part of the buffer
pub PutsPrefix-then : (a b c : Stream) (buffer text more : List ℕ) → IsBuffered a b buffer text → PutsPrefix b buffer true c → PutsPrefix a (text ++ more) true c
PutsPrefix-then a b c buffer text more p q =
    let prefix : (p.put ++ q.prefix) ++ q.is_prefix.0 ≡ text = append_assoc p.put q.prefix q.is_prefix.0 ∙ ap (λ (bytes : List ℕ). p.put ++ bytes) q.is_prefix.1 ∙ p.text_is in
    record {
      prefix = p.put ++ q.prefix;
      is_prefix = (q.is_prefix.0 ++ more, sym (append_assoc (p.put ++ q.prefix) q.is_prefix.0 more) ∙ ap (λ (bytes : List ℕ). bytes ++ more) prefix);
      receives = Receives-then a b c p.put q.prefix true p.receives q.receives;
    }

-- ---- pieces of a text that are put one after the other

pub PutsText-then : (a b c : Stream) (x y : List ℕ) (r : Result (Unit {0}) Failed) → Receives a x false b → PutsText b y r c → PutsText a (x ++ y) r c
PutsText-then a b c x y (Ok u) p q = Receives-then a b c x y false p q
PutsText-then a b c x y (Err e) p q = record {
  prefix = x ++ q.prefix;
  is_prefix = (q.is_prefix.0, append_assoc x q.prefix q.is_prefix.0 ∙ ap (λ (bytes : List ℕ). x ++ bytes) q.is_prefix.1);
  receives = Receives-then a b c x q.prefix true p q.receives;
}

-- a part of a text is one of any longer text
pub PutsPrefix-longer : (a b : Stream) (x y : List ℕ) (failed : Bool) → PutsPrefix a x failed b → PutsPrefix a (x ++ y) failed b
PutsPrefix-longer a b x y failed p = record {
  prefix = p.prefix;
  is_prefix = (p.is_prefix.0 ++ y, sym (append_assoc p.prefix p.is_prefix.0 y) ∙ ap (λ (bytes : List ℕ). bytes ++ y) p.is_prefix.1);
  receives = p.receives;
}

-- ---- the lines of entries

-- the lines of the first entries, of the others, and what follows
pub flat_map-split : {X : Type 0} (f : X → List ℕ) (xs : List X) (i : ℕ) (more : List ℕ) → flat_map f (take i xs) ++ (flat_map f (drop i xs) ++ more) ≡ flat_map f xs ++ more
flat_map-split f xs i more = sym (append_assoc (flat_map f (take i xs)) (flat_map f (drop i xs)) more) ∙ ap (λ (bytes : List ℕ). bytes ++ more) (sym (flat_map-append f (take i xs) (drop i xs)) ∙ ap (flat_map f) (take-append-drop i xs))

-- one more entry's line
pub flat_map-more : {X : Type 0} (f : X → List ℕ) (xs : List X) (i : ℕ) (d : X) → i < length xs → flat_map f (take i xs) ++ f (get_or xs i d) ≡ flat_map f (take (i + 1) xs)
flat_map-more f xs i d low = sym (ap (flat_map f) (take_more xs i d low) ∙ flat_map-append f (take i xs) (get_or xs i d ∷ []) ∙ ap (λ (bytes : List ℕ). flat_map f (take i xs) ++ bytes) (append-nil (f (get_or xs i d))))

pub flat_map-all : {X : Type 0} (f : X → List ℕ) (xs : List X) (i : ℕ) → length xs ≤ i → flat_map f (take i xs) ≡ flat_map f xs
flat_map-all f xs i high = ap (flat_map f) (take_all i xs high)
