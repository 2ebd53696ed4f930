-- The names and strings that a script may have. (profile)
use Rattle.std.specs.Prelude.{◌≡◌, ℕ, Bool, true, false, not, ◌&&◌, ◌||◌, ◌==◌, ◌≤◌, nat_le, List, [], ◌∷◌, length}
use Rattle.std.specs.List.{list_all}
use Rattle.std.specs.Str.{IsUtf8}
use Rattle.ft_model.specs.Limits.{most_string_bytes}

abbrev pub is_lower : ℕ → Bool
is_lower b = nat_le 97 b && nat_le b 122

abbrev pub is_upper : ℕ → Bool
is_upper b = nat_le 65 b && nat_le b 90

abbrev pub is_digit : ℕ → Bool
is_digit b = nat_le 48 b && nat_le b 57

-- a byte of a container's or a cursor's name after the first
abbrev pub is_container_byte : ℕ → Bool
is_container_byte b = is_lower b || is_digit b || b == 95

-- a byte of a thread's name after the first
abbrev pub is_thread_byte : ℕ → Bool
is_thread_byte b = is_lower b || is_upper b || is_digit b || b == 95

-- a name of a container or a cursor: a lower-case letter, and then lower-case letters, digits and `_`; at most 32 bytes
abbrev pub is_container_name : List ℕ → Bool
is_container_name [] = false
is_container_name (b ∷ bytes) = is_lower b && list_all is_container_byte bytes && nat_le (length bytes) 31

-- a thread's name: a capital letter, and then letters, digits and `_`; at most 32 bytes
abbrev pub is_thread_name : List ℕ → Bool
is_thread_name [] = false
is_thread_name (b ∷ bytes) = is_upper b && list_all is_thread_byte bytes && nat_le (length bytes) 31

-- a byte of a string: no control character but a tab and a line feed
abbrev pub is_text_byte : ℕ → Bool
is_text_byte b = (nat_le 32 b && not (b == 127)) || b == 9 || b == 10

-- a string: UTF-8 without other control characters, of at most 255 bytes; it may be empty
pub record IsString (text : List ℕ) : Type 0 where
  pub encoded : IsUtf8 text
  pub bytes : list_all is_text_byte text ≡ true
  pub short : length text ≤ most_string_bytes
