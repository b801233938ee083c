-- An origin in one number.
use Rattle.std.specs.Prelude.{ℕ, ◌+◌, ◌*◌, ◌-◌, ◌/◌, ◌%◌, ◌^◌, ◌<◌, ◌==◌, Option, Some, None, if◌then◌else◌}
use Rattle.space.specs.declared.place.Place.{Place}

-- a page of one of 512 spaces of 2^32 bytes
pub record IsSmall (p : Place) : Type 0 where
  pub space : p.space < 512
  pub page : p.page < 2 ^ 20

-- 0 for none; else one more than the page and, from bit 20 on, the space
abbrev pub origin_of_word : ℕ → Option Place
origin_of_word word = if word == 0 then None else Some (record { space = (word - 1) / 2 ^ 20; page = (word - 1) % 2 ^ 20 })

-- the number of an origin
abbrev pub word_of_origin : Option Place → ℕ
word_of_origin None = 0
word_of_origin (Some p) = 1 + p.space * 2 ^ 20 + p.page
