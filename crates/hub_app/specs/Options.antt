-- Reads the values of options.
use Rattle.std.specs.Prelude.{ℕ, Bool, false, codes, ◌&&◌, if◌then◌else◌, nat_eq, nat_le, List, [], ◌∷◌}
use Rattle.std.specs.Prelude.{Option, Some, None, option_map, option_and_then}
use Rattle.std.specs.List.{list_all, slice_split}
use Rattle.std.specs.Str.{bytes_eq}
use Rattle.clap.specs.Words.{Row, Text, first_of}
use Rattle.edi_moment.specs.Moment.{last_moment}
use Rattle.gs1_ids.specs.Prefix.{is_prefix}
use Rattle.hub_texts.specs.Number.{number_in}

-- the moment that they write
abbrev pub moment_of : Text → Option ℕ
moment_of text = option_and_then (λ number. if nat_le number last_moment then Some number else None) (number_in text)

-- a number within limits
abbrev pub number_within : ℕ → ℕ → ℕ → Option ℕ
number_within least most number = if nat_le least number && nat_le number most then Some number else None

-- the port that they write, where a server may listen on it by its number
abbrev pub port_of : Text → Option ℕ
port_of text = option_and_then (number_within 1 65535) (number_in text)

-- how many connections they say
abbrev pub connections_of : Text → Option ℕ
connections_of text = option_and_then (number_within 1 1_000_000) (number_in text)

-- an option that may be left out
abbrev pub if_given : {X : Type 0} → (Text → Option X) → Option Text → Option (Option X)
if_given read None = Some None
if_given read (Some text) = option_map (λ x. Some x) (read text)

-- whether an option without a value is given: it then has the value `true`
abbrev pub is_set : Option Text → Bool
is_set None = false
is_set (Some text) = bytes_eq text (codes "true")

-- nothing, if this option is given
abbrev pub unless_given : {X : Type 0} → Option Text → Option X → Option X
unless_given None found = found
unless_given (Some text) found = None

-- the values of options, where all are given
abbrev pub values_given : List Text → List Row → Option (List Text)
values_given [] rows = Some []
values_given (name ∷ names) rows =
    option_and_then (λ value. option_map (λ values. value ∷ values) (values_given names rows)) (first_of name rows)

-- the parts of a text between its commas
abbrev pub parts_of : Text → List Text
parts_of text = slice_split (λ byte. nat_eq byte 0x2C) text

-- the prefixes that a text lists with commas between them, where each part is one
abbrev pub prefixes_of : Text → Option (List Text)
prefixes_of text = if list_all is_prefix (parts_of text) then Some (parts_of text) else None

-- what was found fits, and where nothing was found nothing fits
abbrev pub FindsOption : {X : Type 0} → (X → Type 0) → Option X → Type 0
FindsOption fits (Some x) = fits x
FindsOption {X} fits None = (x : X) → fits x → ⊥
