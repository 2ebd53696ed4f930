-- Which words of a table tell a value, and which values name no box.
use Rattle.std.proofs.Common.{◌≢◌, ℕ, ◌<◌, arith}
use Rattle.ft_model.specs.declared.data.Value.{Value}
use Rattle.ft_model.specs.declared.data.Value.TheVariants as value
use Rattle.ft_model.specs.declared.script.Kind.{Kind}
use Rattle.ft_model.specs.declared.script.Kind.TheVariants as kind
use Rattle.ft_layout.specs.declared.slot.Stored.TheVariants.{Plain}
use Rattle.ft_layout.specs.Words.{stored_kind}
use Rattle.ft_trace.specs.Addresses.{slots}
use Rattle.ft_trace.specs.Pictures.{entry_offset, item_offset}
use Rattle.ft_trace.specs.Kinds.{IsKeyed}
use Rattle.ft_trace.specs.WholeWrites.{IsNoValue}

-- the words of a plain value name no box
pub plain_kind : (put : Value) → stored_kind (Plain put) ≢ 4
plain_kind value.Nothing e = omega (arith, e)
plain_kind (value.Int n) e = omega (arith, e)
plain_kind (value.Text sym) e = omega (arith, e)

-- which words of an entry or item are no value's
pub entry_far : (c p w : ℕ) → w < 8 → w ≢ 4 → w ≢ 5 → IsNoValue kind.Dict c (entry_offset (slots c) p w)
entry_far c p w few n4 n5 q less = ((λ z. n4 (omega (arith, z, few))), (λ z. n5 (omega (arith, z, few))))

pub set_entry_far : (c p w : ℕ) → w < 8 → w ≢ 4 → w ≢ 5 → IsNoValue kind.Set c (entry_offset (slots c) p w)
set_entry_far c p w few n4 n5 q less = ((λ z. n4 (omega (arith, z, few))), (λ z. n5 (omega (arith, z, few))))

pub keyed_far : (kind : Kind) → IsKeyed kind → (c p w : ℕ) → w < 8 → w ≢ 4 → w ≢ 5 → IsNoValue kind c (entry_offset (slots c) p w)
keyed_far kind.Dict is c p w few n4 n5 = entry_far c p w few n4 n5
keyed_far kind.Set is c p w few n4 n5 = set_entry_far c p w few n4 n5
keyed_far kind.List is c p w few n4 n5 = absurd is
keyed_far (kind.Deque bound) is c p w few n4 n5 = absurd is

pub slot_far : (c s : ℕ) → s < slots c → IsNoValue kind.Dict c s
slot_far c s low q less = ((λ z. omega (arith, z, low)), (λ z. omega (arith, z, low)))

pub set_slot_far : (c s : ℕ) → s < slots c → IsNoValue kind.Set c s
set_slot_far c s low q less = ((λ z. omega (arith, z, low)), (λ z. omega (arith, z, low)))

pub item_far : (c p : ℕ) → IsNoValue kind.List c (item_offset p 0)
item_far c p q less = ((λ z. omega (arith, z)), (λ z. omega (arith, z)))
