-- The length of a padded message (FIPS 180-4, 5.1.1), from the length of the message in bytes.
use Rattle.std.specs.Prelude.{ℕ, ◌+◌, ◌-◌, ◌%◌}

-- the number of zero bytes between the byte 0x80 and the 8 bytes of the length
abbrev pub zero_count : ℕ → ℕ
zero_count message_length = (119 - message_length % 64) % 64

-- the length of the padding: the byte 0x80, the zeros, and the 8 bytes of the length
abbrev pub padding_length : ℕ → ℕ
padding_length message_length = zero_count message_length + 9

-- the length of the message with its padding
abbrev pub padded_length : ℕ → ℕ
padded_length message_length = message_length + padding_length message_length
