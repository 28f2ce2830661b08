-- The service characters of a text, and the service string advice UNA (ISO 9735).
use Rattle.std.specs.Prelude.{ℕ, Bool, true, ◌==◌, ◌&&◌, ◌||◌, not, nat_le, List, [], ◌∷◌, Option, Some, None}
use Rattle.std.specs.Prelude.{if◌then◌else◌}
use Rattle.edi_segments.specs.declared.segment.Service.{Service}
use Rattle.edi_segments.specs.Characters.{is_capital, is_small, is_digit}

-- the usual service characters: `:` `+` `?` `'`
abbrev pub usual_component : ℕ
usual_component = 58

abbrev pub usual_element : ℕ
usual_element = 43

abbrev pub usual_release : ℕ
usual_release = 63

abbrev pub usual_terminator : ℕ
usual_terminator = 39

-- these, with a decimal mark
abbrev pub with_decimal : ℕ → Service
with_decimal decimal = record {
  component = usual_component;
  element = usual_element;
  decimal = decimal;
  release = Some usual_release;
  terminator = usual_terminator;
}

-- the characters of a text without a service string: these, with `.`
abbrev pub usual : Service
usual = with_decimal 46

-- the tag that announces six service characters
abbrev pub una_tag : List ℕ
una_tag = 85 ∷ 78 ∷ 65 ∷ []

-- what may be a separator, the release character or the terminator: 0x21 to 0x7E, no letter and no digit
abbrev pub is_mark : ℕ → Bool
is_mark b = (nat_le 33 b && nat_le b 126) && not (is_capital b || is_small b || is_digit b)

abbrev pub is_decimal : ℕ → Bool
is_decimal b = b == 46 || b == 44

abbrev pub differs : ℕ → List ℕ → Bool
differs b [] = true
differs b (c ∷ cs) = not (b == c) && differs b cs

-- whether six characters are valid, in their order: component separator, element separator, decimal mark,
-- release character or a blank, reserved position, terminator
abbrev pub are_right : ℕ → ℕ → ℕ → ℕ → ℕ → ℕ → Bool
are_right component element decimal release reserved terminator =
    ((is_mark component && is_mark element) && (is_mark terminator && (release == 32 || is_mark release)))
    && ((is_decimal decimal && (nat_le 32 reserved && nat_le reserved 126))
    && ((differs component (element ∷ terminator ∷ release ∷ decimal ∷ [])
    && differs element (terminator ∷ release ∷ decimal ∷ []))
    && (differs terminator (release ∷ decimal ∷ []) && differs release (decimal ∷ []))))

-- what six characters say, if they are valid; a blank for the release character says that there is none
abbrev pub service_of : List ℕ → Option Service
service_of (component ∷ element ∷ decimal ∷ release ∷ reserved ∷ terminator ∷ []) =
    if are_right component element decimal release reserved terminator
    then Some (record {
      component = component;
      element = element;
      decimal = decimal;
      release = if release == 32 then None else Some release;
      terminator = terminator;
    })
    else None
service_of _ = None
