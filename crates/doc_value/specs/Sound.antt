-- What every value in memory is, and contracts don't see: its texts are UTF-8, its numbers fit 64 bits.
use Rattle.std.specs.Prelude.{◌^◌, ℤ, pos, negsuc, Bool, true, ◌&&◌, List, [], ◌∷◌, nat_lt}
use Rattle.std.specs.Str.{is_utf8}
use Rattle.doc_value.specs.declared.value.Named.{Named}
use Rattle.doc_value.specs.declared.value.Value.{Value, fold-Value}
use Rattle.doc_value.specs.declared.value.Value.TheOpen.{Value-F}

abbrev pub fits_64_bits : ℤ → Bool
fits_64_bits (pos n) = nat_lt n (2 ^ 63)
fits_64_bits (negsuc n) = nat_lt n (2 ^ 63)

abbrev pub all_sound : List Bool → Bool
all_sound [] = true
all_sound (sound ∷ rest) = sound && all_sound rest

abbrev pub fields_sound : List (Named Bool) → Bool
fields_sound [] = true
fields_sound (field ∷ fields) = is_utf8 field.name && (field.value && fields_sound fields)

-- one level, with each value inside already judged
abbrev pub sound_step : Value-F Bool → Bool
sound_step (Value-F.Int number) = fits_64_bits number
sound_step (Value-F.Text text) = is_utf8 text
sound_step (Value-F.List items) = all_sound items
sound_step (Value-F.Object fields) = fields_sound fields
sound_step _ = true

abbrev pub is_sound : Value → Bool
is_sound = fold-Value Bool sound_step
