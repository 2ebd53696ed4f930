-- The hashes of integers and of texts, as words of 64 bits.
use Rattle.std.specs.Prelude.{ℕ, ◌*◌, ◌-◌, ◌^◌, ◌%◌, ℤ, pos, negsuc, int_rem, List, fold, bit_xor, if◌then◌else◌}
use Rattle.std.specs.Ordering.{int_eq}
use Rattle.std.specs.Int.{cast_unsigned, w64}

-- the magnitude modulo 2^61 - 1, with the integer's sign (Python manual, Hashing of numeric types:
-- `sys.hash_info.modulus` on machines of 64 bits)
unfoldable pub remainder_hash : ℤ → ℤ
remainder_hash integer = int_rem integer (pos (2 ^ 61 - 1))

-- `hash(integer)`, in two's complement: -2 stands for -1, which is no hash (Python manual, Hashing of numeric types;
-- C API, PyObject_Hash)
unfoldable pub int_hash : ℤ → ℕ
int_hash integer =
    let remainder = remainder_hash integer in
    cast_unsigned w64 (if int_eq remainder (negsuc 0) then negsuc 1 else remainder)

-- FNV-1a of 64 bits: each byte in turn by exclusive or, and then a product modulo 2^64 (Fowler, Noll and Vo, the FNV
-- hash; that texts have this hash: profile)
unfoldable pub text_hash : List ℕ → ℕ
text_hash bytes = fold (λ hash byte. (bit_xor hash byte * 1099511628211) % 2 ^ 64) 14695981039346656037 bytes
